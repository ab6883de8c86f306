-- Where a text of records may be cut, as it grows.
use Rattle.std.proofs.Common.{◌≡◌, ℕ, ◌+◌, ◌<◌, true, List, [], ◌∷◌, ◌++◌, length, refl, sym, ap, ◌∙◌, subst, arith, append_assoc, length-append}
use Rattle.csv.specs.Machine.{step}
use Rattle.csv.specs.Reading.{default_config}
use Rattle.csv.specs.declared.parser.State.{State}
use Rattle.csv.specs.declared.parser.State.TheVariants as st
use Rattle.sk_read.specs.declared.records.scan.ScanState.{ScanState}
use Rattle.sk_read.specs.declared.records.scan.ScanState.TheVariants as scan
use Rattle.sk_read.specs.Scan.{IsEnd, state_of, settled, is_inside, state_after, StaysInside, IsCut}
use Rattle.sk_read.proofs.Steps.{settled_goes_on, settled_twice, inside_settled, between_is_end}

place_settled : (p : ScanState) → settled (state_of p) ≡ state_of p
place_settled scan.Between = refl
place_settled scan.FieldStart = refl
place_settled scan.InField = refl
place_settled scan.InQuotes = refl
place_settled scan.AfterQuote = refl

-- what is settled continues alike
after_settled : (s : State) (xs : List ℕ) → state_after (settled s) xs ≡ state_after s xs
unfolding state_after
after_settled s [] = settled_twice s
after_settled s (c ∷ rest) = rw (settled_goes_on s c) refl

stays_settled : (s : State) (xs : List ℕ) → StaysInside (settled s) xs → StaysInside s xs
unfolding StaysInside
stays_settled s [] stays = tt
stays_settled s (c ∷ rest) stays = rw (settled_goes_on s c) at stays

pub after_append : (s : State) (xs ys : List ℕ) → state_after s (xs ++ ys) ≡ state_after (state_after s xs) ys
unfolding state_after
after_append s [] ys = sym (after_settled s ys)
after_append s (c ∷ rest) ys = after_append (step default_config s c).0 rest ys

stays_append : (s : State) (xs ys : List ℕ) → StaysInside s xs → StaysInside (state_after s xs) ys → StaysInside s (xs ++ ys)
unfolding state_after StaysInside
stays_append s [] ys stays more = stays_settled s ys more
stays_append s (c ∷ rest) ys stays more = (stays.0, stays_append (step default_config s c).0 rest ys stays.1 more)

pub after_byte : (s : State) (c : ℕ) → state_after s (c ∷ []) ≡ settled (step default_config s c).0
unfolding state_after
after_byte s c = refl

pub after_none : (s : State) → state_after s [] ≡ settled s
unfolding state_after
after_none s = refl

-- a text that ends between two records ends in LF or CR
pub last_is_end : (s : State) (xs : List ℕ) (c : ℕ) → state_after s (xs ++ c ∷ []) ≡ st.StartRecord → IsEnd c
last_is_end s xs c between =
    between_is_end (state_after s xs) c (sym (after_byte (state_after s xs) c) ∙ sym (after_append s xs (c ∷ [])) ∙ between)

-- nothing is read yet
pub cut_none : (p : ScanState) → IsCut (state_of p) [] (state_of p) 0
unfolding StaysInside
cut_none p = record {
  front = [];
  back = [];
  joined = refl;
  size = refl;
  between = λ some. absurd (omega (arith, some));
  inside = tt;
  ends = sym (after_none (state_of p) ∙ place_settled p);
}

-- one byte more, after which it stands inside a record
pub cut_before : (s : State) (xs : List ℕ) (state next : State) (cut c : ℕ) → IsCut s xs state cut → next ≡ settled (step default_config state c).0 → is_inside next ≡ true →
    IsCut s (xs ++ c ∷ []) next cut
unfolding StaysInside
cut_before s xs state next cut c is goes inside =
    let reached : state ≡ state_after (state_after s is.front) is.back = is.ends ∙ ap (state_after s) is.joined ∙ after_append s is.front is.back in
    let within : is_inside (step default_config (state_after (state_after s is.front) is.back) c).0 ≡ true =
    subst (λ (t : State). is_inside (step default_config t c).0 ≡ true) reached (sym (inside_settled (step default_config state c).0) ∙ ap is_inside (sym goes) ∙ inside) in
    record {
      front = is.front;
      back = is.back ++ c ∷ [];
      joined = ap (λ (l : List ℕ). l ++ c ∷ []) is.joined ∙ append_assoc is.front is.back (c ∷ []);
      size = is.size;
      between = is.between;
      inside = stays_append (state_after s is.front) is.back (c ∷ []) is.inside (within, tt);
      ends = goes ∙ sym (after_byte state c) ∙ ap (λ (t : State). state_after t (c ∷ [])) is.ends ∙ sym (after_append s xs (c ∷ []));
    }

-- one piece more, with a place between two records
pub cut_later : (s : State) (xs ys : List ℕ) (state next : State) (cut more : ℕ) → IsCut s xs state cut → IsCut state ys next more → 0 < more →
    IsCut s (xs ++ ys) next (length xs + more)
cut_later s xs ys state next cut more is then some =
    let front : state_after s (xs ++ then.front) ≡ st.StartRecord =
    after_append s xs then.front ∙ ap (λ (t : State). state_after t then.front) (sym is.ends) ∙ then.between some in
    record {
      front = xs ++ then.front;
      back = then.back;
      joined = ap (λ (l : List ℕ). xs ++ l) then.joined ∙ sym (append_assoc xs then.front then.back);
      size = length-append xs then.front ∙ ap (λ (n : ℕ). length xs + n) then.size;
      between = λ _. front;
      inside = subst (λ (t : State). StaysInside t then.back) (then.between some ∙ sym front) then.inside;
      ends = then.ends ∙ ap (λ (t : State). state_after t ys) is.ends ∙ sym (after_append s xs ys);
    }

no_front : (xs : List ℕ) → length xs ≡ 0 → xs ≡ []
no_front [] none = refl
no_front (x ∷ xs) none = absurd (omega arith)

-- one piece more, with no such place
pub cut_stays : (s : State) (xs ys : List ℕ) (state next : State) (cut : ℕ) → IsCut s xs state cut → IsCut state ys next 0 → IsCut s (xs ++ ys) next cut
cut_stays s xs ys state next cut is then =
    let none : then.front ≡ [] = no_front then.front then.size in
    let reached : state ≡ state_after (state_after s is.front) is.back = is.ends ∙ ap (state_after s) is.joined ∙ after_append s is.front is.back in
    let back : ys ≡ then.back = then.joined ∙ ap (λ (l : List ℕ). l ++ then.back) none in
    let start : state_after state then.front ≡ settled (state_after (state_after s is.front) is.back) =
    ap (state_after state) none ∙ after_none state ∙ ap settled reached in
    record {
      front = is.front;
      back = is.back ++ ys;
      joined = ap (λ (l : List ℕ). l ++ ys) is.joined ∙ append_assoc is.front is.back ys;
      size = is.size;
      between = is.between;
      inside = stays_append (state_after s is.front) is.back ys is.inside
          (stays_settled _ ys (subst (λ (l : List ℕ). StaysInside (settled (state_after (state_after s is.front) is.back)) l) (sym back) (subst (λ (t : State). StaysInside t then.back) start then.inside)));
      ends = then.ends ∙ ap (λ (t : State). state_after t ys) is.ends ∙ sym (after_append s xs ys);
    }
