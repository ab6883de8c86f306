-- Stretches that are given to takers through rings.
use Rattle.std.proofs.Common.{◌≡◌, ℕ, ◌+◌, ◌<◌, ◌≤◌, false, true, List, [], ◌∷◌, ◌++◌, length, get_or, sym, ap, refl, ◌∙◌, subst, arith, append-nil, append_assoc, length-append}
use Rattle.std.proofs.lemmas.Grind.{flat_map-append}
use mathlib.Core.List.{IsPrefix}
use Rattle.rtrb.specs.Ring.{received, known_items, SameConsumer}
use Rattle.rtrb.specs.declared.consumer.Consumer.{Consumer}
use Rattle.sk_model.specs.Limits.{most_kept}
use Rattle.sk_fill.specs.Windows.{all_lines}
use Rattle.sk_fill.specs.Stretches.{StretchState}
use Rattle.sk_feed.specs.Takings.{TakesOn}
use Rattle.sk_feed.specs.Deliveries.{windows_of, EndAt, IsNext, IsUpTo, HasFed}

-- ---- lists of stretches

pub windows_append : (xs ys : List StretchState) → windows_of (xs ++ ys) ≡ windows_of xs ++ windows_of ys
windows_append xs ys = flat_map-append (λ s. s.windows) xs ys

pub windows_one : (s : StretchState) → windows_of (s ∷ []) ≡ s.windows
windows_one s = append-nil s.windows

pub lines_both : (xs ys : List StretchState) → length (all_lines (windows_of (xs ++ ys))) ≡ length (all_lines (windows_of xs)) + length (all_lines (windows_of ys))
lines_both xs ys =
    ap (λ l. length (all_lines l)) (windows_append xs ys)
    ∙ ap length (flat_map-append (λ lines. lines) (windows_of xs) (windows_of ys))
    ∙ length-append (all_lines (windows_of xs)) (all_lines (windows_of ys))

pub lines_one : (s : StretchState) → length (all_lines (windows_of (s ∷ []))) ≡ length (all_lines s.windows)
lines_one s = ap (λ l. length (all_lines l)) (windows_one s)

-- they end later with those that follow
pub end_later : (xs ys : List StretchState) (n m : ℕ) → EndAt xs n → m ≡ n + length (all_lines (windows_of ys)) → EndAt (xs ++ ys) m
end_later xs ys n m end more = (end.0, end.1 ++ ys, ap (λ l. l ++ ys) end.2, omega (arith, end.3, more, lines_both xs ys))

-- they end at one place
pub ends_once : (xs : List StretchState) (n m : ℕ) → EndAt xs n → EndAt xs m → n ≡ m
ends_once xs n m a b =
    let same : a.0 ∷ a.1 ≡ b.0 ∷ b.1 = sym a.2 ∙ b.2 in
    let first : a.0 ≡ b.0 = ap (λ l. get_or l 0 a.0) same in
    omega (arith, a.3, b.3, ap (λ s. s.first) first)

-- ---- one taker

module _ {T : Type 0} (took : T → T → List (List (List ℕ)) → Type 0) where
  pub took_none : (t : T) → TakesOn took t [] t
  took_none t = λ start before so. subst (took start t) (sym (append-nil before)) so

  pub took_both : (t u v : T) (xs ys : List (List (List ℕ))) → TakesOn took t xs u → TakesOn took u ys v → TakesOn took t (xs ++ ys) v
  took_both t u v xs ys a b = λ start before so. subst (took start v) (append_assoc before xs ys) (b start (before ++ xs) (a start before so))

-- ---- one ring

nothing_waits : {A : Type 0} (xs : List A) → (0 < length xs → false ≡ true) → xs ≡ []
nothing_waits [] waits = refl
nothing_waits (x ∷ xs) waits = let some : 0 < length (x ∷ xs) = omega arith in let no = waits some in cc

module _ {T A P : Type 0} (at_most : T → ℕ → Type 0) where
  -- the stretch that comes next ends at most there, where its lines are few enough
  pub next_room : (c c' : Consumer StretchState A P) (t : T) (s : StretchState) → IsUpTo at_most c t → IsPrefix (known_items c) (s ∷ known_items c') → IsNext (received c) s → (count : ℕ) × at_most t count × (count + length (all_lines s.windows) ≤ most_kept)
  next_room c c' t s up front next = (up.first.first + length (all_lines (windows_of (received c))), up.kept, room (received c) refl)
    where
      room : (xs : List StretchState) → xs ≡ received c → (up.first.first + length (all_lines (windows_of (received c)))) + length (all_lines s.windows) ≤ most_kept
      room [] none =
          let known : known_items c ≡ up.first ∷ up.rest = ap (λ l. l ++ known_items c) none ∙ up.known in
          let all : (up.first ∷ up.rest) ++ front.0 ≡ s ∷ known_items c' = ap (λ l. l ++ front.0) (sym known) ∙ front.1 in
          let first : up.first ≡ s = ap (λ l. get_or l 0 s) all in
          omega (arith, next.few, ap (λ z. z.first) first, ap (λ l. length (all_lines (windows_of l))) (sym none))
      room (x ∷ xs) some =
          let whole : x ∷ (xs ++ known_items c) ≡ up.first ∷ up.rest = ap (λ l. l ++ known_items c) some ∙ up.known in
          let first : x ≡ up.first = ap (λ l. get_or l 0 x) whole in
          let begins = next.begins (x.first + length (all_lines (windows_of (received c)))) (x, xs, sym some, refl) in
          omega (arith, next.few, begins, ap (λ z. z.first) first)

  -- it came, and was taken
  pub up_to_next : (c c' : Consumer StretchState A P) (t u : T) (s : StretchState) → IsUpTo at_most c t → IsPrefix (known_items c) (s ∷ known_items c') → received c' ≡ received c ++ s ∷ [] → ((count : ℕ) → at_most t count → at_most u (count + length (all_lines s.windows))) → IsUpTo at_most c' u
  up_to_next c c' t u s up front came kept =
      let lines = ap (λ l. length (all_lines (windows_of l))) came ∙ lines_both (received c) (s ∷ []) in
      let count : (up.first.first + length (all_lines (windows_of (received c)))) + length (all_lines s.windows) ≡ up.first.first + length (all_lines (windows_of (received c')))
      = omega (arith, lines, lines_one s) in
      record {
        first = up.first;
        rest = up.rest ++ front.0;
        known = ap (λ l. l ++ known_items c') came ∙ append_assoc (received c) (s ∷ []) (known_items c') ∙ ap (λ l. received c ++ l) (sym front.1) ∙ sym (append_assoc (received c) (known_items c) front.0) ∙ ap (λ l. l ++ front.0) up.known;
        kept = subst (at_most u) count (kept (up.first.first + length (all_lines (windows_of (received c)))) up.kept);
      }

  module _ (took : T → T → List (List (List ℕ)) → Type 0) where
    pub fed_none : (c : Consumer StretchState A P) (t : T) → IsUpTo at_most c t → HasFed took at_most c t c t
    fed_none c t up = record { more = []; came = sym (append-nil (received c)); taken = took_none took t; up_to = up }

    -- one stretch more
    pub fed_next : (a c c' : Consumer StretchState A P) (t u v : T) (s : StretchState) → HasFed took at_most a t c u → IsPrefix (known_items c) (s ∷ known_items c') → received c' ≡ received c ++ s ∷ []
        → TakesOn took u s.windows v → ((count : ℕ) → at_most u count → at_most v (count + length (all_lines s.windows))) → HasFed took at_most a t c' v
    fed_next a c c' t u v s fed front came taken kept = record {
      more = fed.more ++ s ∷ [];
      came = came ∙ ap (λ l. l ++ s ∷ []) fed.came ∙ append_assoc (received a) fed.more (s ∷ []);
      taken = subst (λ l. TakesOn took t l v) (sym (windows_append fed.more (s ∷ []) ∙ ap (λ l. windows_of fed.more ++ l) (windows_one s)))
          (took_both took t u v (windows_of fed.more) s.windows fed.taken taken);
      up_to = up_to_next c c' u v s fed.up_to front came kept;
    }

    -- nothing came, but what waits may be known
    pub fed_looked : (a c c' : Consumer StretchState A P) (t u : T) → HasFed took at_most a t c u → IsPrefix (known_items c) (known_items c') → received c' ≡ received c → HasFed took at_most a t c' u
    fed_looked a c c' t u fed front same = record {
      more = fed.more;
      came = same ∙ fed.came;
      taken = fed.taken;
      up_to = record {
        first = fed.up_to.first;
        rest = fed.up_to.rest ++ front.0;
        known = ap (λ l. l ++ known_items c') same ∙ ap (λ l. received c ++ l) (sym front.1) ∙ sym (append_assoc (received c) (known_items c) front.0) ∙ ap (λ l. l ++ front.0) fed.up_to.known;
        kept = subst (λ l. at_most u (fed.up_to.first.first + length (all_lines (windows_of l)))) (sym same) fed.up_to.kept;
      };
    }

    -- nothing came, since nothing was known to wait
    pub fed_waited : (a c c' : Consumer StretchState A P) (t u : T) → HasFed took at_most a t c u → received c' ≡ received c → known_items c' ≡ [] → (0 < length (known_items c) → false ≡ true) → HasFed took at_most a t c' u
    fed_waited a c c' t u fed same none waits = fed_looked a c c' t u fed ([], append-nil (known_items c) ∙ nothing_waits (known_items c) waits ∙ sym none) same

pub same_ring : {A P : Type 0} (a b c : Consumer StretchState A P) → SameConsumer a b → SameConsumer b c → SameConsumer a c
same_ring a b c first then = ((then.0.0 ∙ first.0.0, then.0.1 ∙ first.0.1, then.0.2 ∙ first.0.2, then.0.3 ∙ first.0.3), then.1 ∙ first.1)
