-- What is between quotes in a block of 64 bytes, by masks of it.
use Rattle.std.proofs.Common.{◌≡◌, ◌≢◌, ◌↔◌, ◌⊎◌, ℕ, zero, suc, ◌+◌, ◌-◌, ◌*◌, ◌/◌, ◌%◌, ◌^◌, ◌<◌, ◌≤◌, ◌==◌, true, List, [], ◌∷◌, ◌++◌, length, take, drop, slice_index, eq-eqb, refl, sym, ap, ◌∙◌, subst, inl, inr, arith, w64, length-drop}
use Rattle.std.specs.Int.{bit_at, bit_not}
use Rattle.std.specs.Prelude.{bit_and}
use lib.Count.{count_leading_zeros, leading_of_zero}
use Rattle.std.proofs.lemmas.Nat.{leading_top}
use Rattle.std.proofs.lemmas.Bool.{cases_Bool, cases_lt, eqb-true}
use Rattle.std.proofs.lemmas.List.{take_more, length-take-le}
use Rattle.std.proofs.lemmas.Nat.Bits.{bit_at-lt, bit_at-suc, bit_at-zero, bit_at_lowest, bit_at_and, bit_at_not, bit_at_above, bit_at_cat_low, bit_at_cat_high}
use Rattle.std.proofs.Math.Seq.{get_or-drop}
use Rattle.csv.specs.Machine.{step}
use Rattle.csv.specs.Reading.{default_config}
use Rattle.csv.specs.declared.parser.State.{State}
use Rattle.csv.specs.declared.parser.State.TheVariants as st
use Rattle.sk_read.specs.Delimiters.{IsDelimiter}
use Rattle.sk_read.specs.Quotes.{inside_bit, PlaceAfter}
use Rattle.sk_read.specs.declared.records.scan.ScanState.{ScanState}
use Rattle.sk_read.specs.declared.records.scan.ScanState.TheVariants as scan
use Rattle.sk_read.specs.Scan.{IsEnd, state_of, settled, is_inside, StaysInside, IsCut}
use Rattle.sk_read.proofs.Cuts.{after_byte, cut_before, cut_later}
use Rattle.sk_read.proofs.DelimiterLaws.{IsMaskOf}
use Rattle.sk_read.proofs.Plain.{is_unquoted, step_plain, field_plain, unquoted_settled, quoted_goes, inside_plain, end_between}

-- ---- the parity of marks

-- how many of the last n bits up to one are set
unfoldable pub set_in : ℕ → ℕ → ℕ → ℕ
set_in marks zero k = 0
set_in marks (suc n) zero = bit_at marks 0
set_in marks (suc n) (suc k) = bit_at marks (suc k) + set_in marks n k

-- before the first bit there is none
set_less : (marks n w k : ℕ) → w ≤ n → k < w → set_in marks n k ≡ set_in marks w k
unfolding set_in
set_less marks n zero k within less = absurd (omega (arith, less))
set_less marks zero (suc w) k within less = absurd (omega (arith, within))
set_less marks (suc n) (suc w) zero within less = refl
set_less marks (suc n) (suc w) (suc k) within less = ap (λ (m : ℕ). bit_at marks (suc k) + m) (set_less marks n w k (omega (arith, within)) (omega (arith, less)))

-- those of two runs of bits, one below the other
set_more : (marks n w v k : ℕ) → n ≡ w + v → w ≤ k → set_in marks n k ≡ set_in marks w k + set_in marks v (k - w)
unfolding set_in
set_more marks n zero v k is within =
    let size : n ≡ v = omega (arith, is) in
    let place : k ≡ k - 0 = omega arith in
    omega (arith, ap (λ (m : ℕ). set_in marks m k) size, ap (set_in marks v) place)
set_more marks zero (suc w) v k is within = absurd (omega (arith, is))
set_more marks (suc n) (suc w) v zero is within = absurd (omega (arith, within))
set_more marks (suc n) (suc w) v (suc k) is within =
    let again = set_more marks n w v k (omega (arith, is)) (omega (arith, within)) in
    let place : k - w ≡ suc k - suc w = omega arith in
    omega (arith, again, ap (set_in marks v) place)

-- each bit is the parity of the last w marks up to it
abbrev pub HasParity : ℕ → ℕ → ℕ → Type 0
HasParity marks w bits = (k : ℕ) → k < 64 → bit_at bits k ≡ set_in marks w k % 2

pub parity_of_1 : (marks : ℕ) → HasParity marks 1 marks
unfolding set_in
parity_of_1 marks zero below = omega (arith, bit_at-lt marks 0)
parity_of_1 marks (suc k) below = omega (arith, bit_at-lt marks (suc k))

pub parity_twice : (marks w n bits more : ℕ) → n ≡ w + w → HasParity marks w bits → ((k : ℕ) → k < w → bit_at more k ≡ bit_at bits k) →
    ((k : ℕ) → w ≤ k → k < 64 → bit_at more k ≡ (bit_at bits k + bit_at bits (k - w)) % 2) → HasParity marks n more
parity_twice marks w n bits more twice is low high k below = elim (cases_lt k w) [
  | inl less ↦ low k less ∙ is k below ∙ ap (λ (m : ℕ). m % 2) (sym (set_less marks n w k (omega (arith, twice)) less))
  | inr most ↦ omega (arith, high k most below, is k below, is (k - w) (omega (arith, below)), set_more marks n w w k twice most)
]

pub parity_first : (marks bits : ℕ) → HasParity marks 64 bits → bit_at bits 0 ≡ bit_at marks 0
unfolding set_in
parity_first marks bits is = omega (arith, is 0 (omega arith), bit_at-lt marks 0)

pub parity_next : (marks bits k : ℕ) → HasParity marks 64 bits → k < 63 → bit_at bits (k + 1) ≡ (bit_at bits k + bit_at marks (k + 1)) % 2
unfolding set_in
parity_next marks bits k is below =
    let place : suc k ≡ k + 1 = omega arith in
    let next : bit_at bits (suc k) ≡ (bit_at marks (suc k) + set_in marks 63 k) % 2 = is (suc k) (omega (arith, below)) in
    omega (arith, next, is k (omega (arith, below)), set_less marks 64 63 k (omega arith) below, ap (bit_at bits) place, ap (bit_at marks) place)

-- the bits below 64 of a number
low_bit : (n k : ℕ) → k < 64 → bit_at (n % 2 ^ 64) k ≡ bit_at n k
low_bit n k below =
    let whole : n ≡ n / 2 ^ 64 * 2 ^ 64 + n % 2 ^ 64 = omega arith in
    sym (ap (λ (m : ℕ). bit_at m k) whole ∙ bit_at_cat_low (n / 2 ^ 64) 64 (n % 2 ^ 64) k below)

-- `<<`
pub shifted_low : (n by k : ℕ) → k < by → k < 64 → bit_at (n * 2 ^ by % 2 ^ 64) k ≡ 0
shifted_low n by k less below =
    let none : n * 2 ^ by ≡ n * 2 ^ by + 0 = omega arith in
    low_bit (n * 2 ^ by) k below ∙ ap (λ (m : ℕ). bit_at m k) none ∙ bit_at_cat_low n by 0 k less ∙ bit_at-zero k

pub shifted_high : (n by k : ℕ) → by ≤ k → k < 64 → 0 < 2 ^ by → bit_at (n * 2 ^ by % 2 ^ 64) k ≡ bit_at n (k - by)
shifted_high n by k most below some =
    let none : n * 2 ^ by ≡ n * 2 ^ by + 0 = omega arith in
    low_bit (n * 2 ^ by) k below ∙ ap (λ (m : ℕ). bit_at m k) none ∙ bit_at_cat_high n by 0 k some most

-- a number from 2 ^ j up to twice that has bit j
pub top_bit : (j n : ℕ) → 2 ^ j ≤ n → n < 2 ^ suc j → bit_at n j ≡ 1
top_bit zero n least below = bit_at_lowest n ∙ omega (arith, least, below)
top_bit (suc j) n least below = bit_at-suc n j ∙ top_bit j (n / 2) (omega (arith, least)) (omega (arith, below))

-- ---- byte by byte

-- a state before a byte, if a bit says whether it is between quotes
pub record IsReady (inside byte : ℕ) (state : State) : Type 0 where
  pub quoted : inside ≡ 1 → state ≡ st.InQuoted
  pub unquoted : inside ≡ 0 → is_unquoted state ≡ true
  pub begins : inside ≡ 0 → byte ≡ 34 → settled (step default_config state 34).0 ≡ st.InQuoted

-- the byte turns the bit over if it is a quote
goes_on : (inside next quote byte : ℕ) (state : State) → IsReady inside byte state → inside < 2 → (quote ≡ 1) ↔ (byte ≡ 34) → quote < 2 → next ≡ (inside + quote) % 2 →
    PlaceAfter next byte (settled (step default_config state byte).0)
goes_on inside next quote byte state ready small marked few turns = elim (cases_Bool (byte == 34)) [
  | inl is ↦
      let here : byte ≡ 34 = eqb-true byte 34 is in
      let set : quote ≡ 1 = marked.1 here in
      record {
        quoted = λ now.
            ap (λ (b : ℕ). settled (step default_config state b).0) here ∙ ready.begins (omega (arith, now, turns, set, small)) here;
        closed = λ now other.
            ap (λ (b : ℕ). settled (step default_config state b).0) here ∙ ap (λ (s : State). settled (step default_config s 34).0) (ready.quoted (omega (arith, now, turns, set, small)));
        plain = λ now other. absurd (other here);
      }
  | inr is ↦
      let other : byte ≢ 34 = λ (here : byte ≡ 34). cc (is, eq-eqb byte 34 here) in
      let unset : quote ≡ 0 = elim (cases_lt quote 1) [
        | inl none ↦ omega (arith, none)
        | inr some ↦ absurd (other (marked.0 (omega (arith, some, few))))
      ] in
      record {
        quoted = λ now.
            let was = ready.quoted (omega (arith, now, turns, unset, small)) in
            ap (λ (s : State). settled (step default_config s byte).0) was ∙ ap settled (quoted_goes byte other);
        closed = λ now here. absurd (other here);
        plain = λ now _. (step_plain state byte (ready.unquoted (omega (arith, now, turns, unset, small))) is).0;
      }
]

delimiter_begins : (c : ℕ) → IsDelimiter c → settled (step default_config (settled (step default_config st.InField c).0) 34).0 ≡ st.InQuoted
delimiter_begins c (inl (inl lf)) = subst (λ (b : ℕ). settled (step default_config (settled (step default_config st.InField b).0) 34).0 ≡ st.InQuoted) (sym lf) refl
delimiter_begins c (inl (inr cr)) = subst (λ (b : ℕ). settled (step default_config (settled (step default_config st.InField b).0) 34).0 ≡ st.InQuoted) (sym cr) refl
delimiter_begins c (inr comma) = subst (λ (b : ℕ). settled (step default_config (settled (step default_config st.InField b).0) 34).0 ≡ st.InQuoted) (sym comma) refl

delimits_none : (c : ℕ) → IsDelimiter c → c ≢ 34
delimits_none c (inl (inl lf)) here = omega (arith, lf, here)
delimits_none c (inl (inr cr)) here = omega (arith, cr, here)
delimits_none c (inr comma) here = omega (arith, comma, here)

-- after a byte it is ready for the next, if quotes begin only after a delimiter or a quote
ready_for : (inside last byte : ℕ) (state : State) → PlaceAfter inside last state → (inside ≡ 0 → byte ≡ 34 → IsDelimiter last ⊎ (last ≡ 34)) → IsReady inside byte state
ready_for inside last byte state after begin = record {
  quoted = after.quoted;
  unquoted = λ out. elim (cases_Bool (last == 34)) [
    | inl is ↦ ap is_unquoted (after.closed out (eqb-true last 34 is))
    | inr is ↦ ap is_unquoted (after.plain out (λ (here : last ≡ 34). cc (is, eq-eqb last 34 here))) ∙ unquoted_settled (step default_config st.InField last).0 ∙ field_plain last
  ];
  begins = λ out here. elim (begin out here) [
    | inl delimiter ↦ ap (λ (s : State). settled (step default_config s 34).0) (after.plain out (delimits_none last delimiter)) ∙ delimiter_begins last delimiter
    | inr quote ↦ ap (λ (s : State). settled (step default_config s 34).0) (after.closed out quote)
  ];
}

-- a byte that ends a record
cut_end : (s : State) (c : ℕ) → settled (step default_config s c).0 ≡ st.StartRecord → IsCut s (c ∷ []) st.StartRecord 1
unfolding StaysInside
cut_end s c is = record {
  front = c ∷ [];
  back = [];
  joined = refl;
  size = refl;
  between = λ _. after_byte s c ∙ is;
  inside = tt;
  ends = sym (after_byte s c ∙ is);
}

-- a byte after which no record has ended
stays_within : (inside c : ℕ) (state : State) → PlaceAfter inside c state → inside < 2 → ¬ ((inside ≡ 0) × IsEnd c) → is_inside state ≡ true
stays_within inside c state after small none = elim (cases_lt inside 1) [
  | inl less ↦
      let out : inside ≡ 0 = omega (arith, less) in
      elim (cases_Bool (c == 34)) [
        | inl is ↦ ap is_inside (after.closed out (eqb-true c 34 is))
        | inr is ↦ ap is_inside (after.plain out (λ (here : c ≡ 34). cc (is, eq-eqb c 34 here))) ∙ inside_plain c (λ (end : IsEnd c). none (out, end))
      ]
  | inr most ↦ ap is_inside (after.quoted (omega (arith, most, small)))
]

-- there is one such state
place_unique : (inside c : ℕ) (one other : State) → inside < 2 → PlaceAfter inside c one → PlaceAfter inside c other → one ≡ other
place_unique inside c one other small a b = elim (cases_lt inside 1) [
  | inl less ↦
      let out : inside ≡ 0 = omega (arith, less) in
      elim (cases_Bool (c == 34)) [
        | inl is ↦ a.closed out (eqb-true c 34 is) ∙ sym (b.closed out (eqb-true c 34 is))
        | inr is ↦
            let no_quote : c ≢ 34 = λ (here : c ≡ 34). cc (is, eq-eqb c 34 here) in
            a.plain out no_quote ∙ sym (b.plain out no_quote)
      ]
  | inr most ↦ a.quoted (omega (arith, most, small)) ∙ sym (b.quoted (omega (arith, most, small)))
]

-- ---- the block

-- what is known of the quotes of a block that begins in a state
pub record HasQuotes (text : List ℕ) (at : ℕ) (start : State) (inside quotes within : ℕ) : Type 0 where
  pub fits : at + 64 ≤ length text
  pub marked : IsMaskOf (λ (c : ℕ). c ≡ 34) text at quotes
  pub small : inside < 2
  pub first : bit_at within 0 ≡ (inside + bit_at quotes 0) % 2
  pub next : (k : ℕ) → k < 63 → bit_at within (k + 1) ≡ (bit_at within k + bit_at quotes (k + 1)) % 2
  pub ready : IsReady inside (slice_index text (at + 0)) start
  pub begin : (k : ℕ) → k < 63 → bit_at quotes (k + 1) ≡ 1 → bit_at within (k + 1) ≡ 1 → IsDelimiter (slice_index text (at + k)) ⊎ (slice_index text (at + k) ≡ 34)

-- a record ends with the byte at a place
abbrev pub EndsAt : List ℕ → ℕ → ℕ → ℕ → Type 0
EndsAt text at within k = (bit_at within k ≡ 0) × IsEnd (slice_index text (at + k))

-- what the first bytes of the block come to, one at least
record Reaches (text : List ℕ) (at : ℕ) (start : State) (within k : ℕ) : Type 0 where
  state : State
  cut : ℕ
  is : IsCut start (take (k + 1) (drop at text)) state cut
  after : PlaceAfter (bit_at within k) (slice_index text (at + k)) state
  bound : cut ≤ k + 1
  end : 0 < cut → EndsAt text at within (cut - 1)
  none : (j : ℕ) → cut ≤ j → j ≤ k → ¬ EndsAt text at within j

end_decided : (c : ℕ) → IsEnd c ⊎ ¬ IsEnd c
end_decided c = elim (cases_Bool (c == 10)) [
  | inl lf ↦ inl (inl (eqb-true c 10 lf))
  | inr no_lf ↦ elim (cases_Bool (c == 13)) [
    | inl cr ↦ inl (inr (eqb-true c 13 cr))
    | inr no_cr ↦ inr (λ (end : IsEnd c). elim end [
      | inl lf ↦ cc (no_lf, eq-eqb c 10 lf)
      | inr cr ↦ cc (no_cr, eq-eqb c 13 cr)
    ])
  ]
]

ends_decided : (text : List ℕ) (at within k : ℕ) → EndsAt text at within k ⊎ ¬ EndsAt text at within k
ends_decided text at within k = elim (cases_lt (bit_at within k) 1) [
  | inl less ↦ elim (end_decided (slice_index text (at + k))) [
    | inl end ↦ inl (omega (arith, less), end)
    | inr other ↦ inr (λ (end : EndsAt text at within k). other end.1)
  ]
  | inr most ↦ inr (λ (end : EndsAt text at within k). omega (arith, end.0, most))
]

module _ (text : List ℕ) (at : ℕ) (start : State) (inside quotes within : ℕ) (has : HasQuotes text at start inside quotes within) where
  abbrev pub byte : ℕ → ℕ
  byte k = slice_index text (at + k)

  -- one byte more
  reached : (k : ℕ) (xs : List ℕ) (state : State) (cut : ℕ) → IsCut start xs state cut → length xs ≡ k → xs ++ byte k ∷ [] ≡ take (k + 1) (drop at text) →
      PlaceAfter (bit_at within k) (byte k) (settled (step default_config state (byte k)).0) → cut ≤ k → (0 < cut → EndsAt text at within (cut - 1)) → ((j : ℕ) → cut ≤ j → j < k → ¬ EndsAt text at within j) →
      Reaches text at start within k
  reached k xs state cut is size more after bound end none =
      let c = byte k in
      let next = settled (step default_config state c).0 in
      elim (ends_decided text at within k) [
        | inl ends ↦
            let other : c ≢ 34 = delimits_none c (inl ends.1) in
            let between : next ≡ st.StartRecord = after.plain ends.0 other ∙ end_between c ends.1 in
            let cuts : IsCut start (xs ++ c ∷ []) st.StartRecord (length xs + 1) = cut_later start xs (c ∷ []) state st.StartRecord cut 1 is (cut_end state c between) (omega arith) in
            let place : length xs + 1 ≡ k + 1 = omega (arith, size) in
            let last : k ≡ k + 1 - 1 = omega arith in
            record {
              state = st.StartRecord;
              cut = k + 1;
              is = subst (λ (l : List ℕ). IsCut start l st.StartRecord (k + 1)) more (subst (IsCut start (xs ++ c ∷ []) st.StartRecord) place cuts);
              after = subst (PlaceAfter (bit_at within k) c) between after;
              bound = omega arith;
              end = λ _. subst (EndsAt text at within) last ends;
              none = λ j from to. absurd (omega (arith, from, to));
            }
        | inr stays ↦
            let inner : is_inside next ≡ true = stays_within (bit_at within k) c next after (bit_at-lt within k) stays in
            record {
              state = next;
              cut = cut;
              is = subst (λ (l : List ℕ). IsCut start l next cut) more (cut_before start xs state next cut c is refl inner);
              after = after;
              bound = omega (arith, bound);
              end = end;
              none = λ j from to. elim (cases_lt j k) [
                | inl before ↦ none j from before
                | inr here ↦
                    let same : k ≡ j = omega (arith, here, to) in
                    λ (ends : EndsAt text at within j). stays (subst (EndsAt text at within) (sym same) ends)
              ];
            }
      ]

  marked_at : (k : ℕ) → k < 64 → (bit_at quotes k ≡ 1) ↔ (byte k ≡ 34)
  marked_at k below = (λ set. ((has.marked k).0 set).1, λ here. (has.marked k).1 (below, here))

  longer : (k : ℕ) → k < 64 → take k (drop at text) ++ byte k ∷ [] ≡ take (k + 1) (drop at text)
  longer k below =
      let inside : k < length (drop at text) = omega (arith, below, has.fits, length-drop at text) in
      ap (λ (c : ℕ). take k (drop at text) ++ c ∷ []) (sym (get_or-drop at text k 0)) ∙ sym (take_more (drop at text) k 0 inside)

  first_byte : (none : IsCut start [] start 0) → Reaches text at start within 0
  first_byte none =
      let after = goes_on inside (bit_at within 0) (bit_at quotes 0) (byte 0) start has.ready has.small (marked_at 0 (omega arith)) (bit_at-lt quotes 0) has.first in
      reached 0 [] start 0 none refl (longer 0 (omega arith)) after (omega arith) (λ some. absurd (omega (arith, some))) (λ j from to. absurd (omega (arith, to)))

  next_byte : (k : ℕ) → k < 63 → Reaches text at start within k → Reaches text at start within (k + 1)
  next_byte k below r =
      let begin : bit_at within k ≡ 0 → byte (k + 1) ≡ 34 → IsDelimiter (byte k) ⊎ (byte k ≡ 34) =
      λ out here.
      let set = (marked_at (k + 1) (omega (arith, below))).1 here in
      has.begin k below set (omega (arith, has.next k below, out, set)) in
      let ready = ready_for (bit_at within k) (byte k) (byte (k + 1)) r.state r.after begin in
      let after = goes_on (bit_at within k) (bit_at within (k + 1)) (bit_at quotes (k + 1)) (byte (k + 1)) r.state ready (bit_at-lt within k) (marked_at (k + 1) (omega (arith, below))) (bit_at-lt quotes (k + 1)) (has.next k below) in
      let size : length (take (k + 1) (drop at text)) ≡ k + 1 = length-take-le (k + 1) (drop at text) (omega (arith, below, has.fits, length-drop at text)) in
      reached (k + 1) (take (k + 1) (drop at text)) r.state r.cut r.is size (longer (k + 1) (omega (arith, below))) after r.bound r.end (λ j from to. r.none j from (omega (arith, to)))

  all_bytes : (k : ℕ) → k < 64 → IsCut start [] start 0 → Reaches text at start within k
  all_bytes zero below none = first_byte none
  all_bytes (suc k) below none =
      let place : k + 1 ≡ suc k = omega arith in
      subst (Reaches text at start within) place (next_byte k (omega (arith, below)) (all_bytes k (omega (arith, below)) none))

  -- the last place between two records lies after the last byte that ends one
  pub block_cut : (state : State) (cut : ℕ) → IsCut start [] start 0 → PlaceAfter (bit_at within 63) (byte 63) state → cut ≤ 64 → (0 < cut → EndsAt text at within (cut - 1)) → ((j : ℕ) → cut ≤ j → j < 64 → ¬ EndsAt text at within j) →
      IsCut start (take 64 (drop at text)) state cut
  block_cut state cut nothing after bound end none =
      let r = all_bytes 63 (omega arith) nothing in
      let same : r.cut ≡ cut = elim (cases_lt r.cut cut) [
        | inl less ↦ absurd (r.none (cut - 1) (omega (arith, less)) (omega (arith, bound)) (end (omega (arith, less))))
        | inr most ↦ elim (cases_lt cut r.cut) [
          | inl more ↦ absurd (none (r.cut - 1) (omega (arith, more)) (omega (arith, r.bound, more)) (r.end (omega (arith, more))))
          | inr least ↦ omega (arith, most, least)
        ]
      ] in
      subst (λ (s : State). IsCut start (take 64 (drop at text)) s cut) (place_unique (bit_at within 63) (byte 63) r.state state (bit_at-lt within 63) r.after after)
      (subst (IsCut start (take 64 (drop at text)) r.state) same r.is)

-- ---- what the functions state

pub inside_small : (p : ScanState) → inside_bit p < 2
inside_small scan.Between = omega arith
inside_small scan.FieldStart = omega arith
inside_small scan.InField = omega arith
inside_small scan.InQuotes = omega arith
inside_small scan.AfterQuote = omega arith

pub not_inside : (p : ScanState) → p ≢ scan.InQuotes → inside_bit p ≡ 0
not_inside scan.Between other = refl
not_inside scan.FieldStart other = refl
not_inside scan.InField other = refl
not_inside scan.InQuotes other = absurd (other refl)
not_inside scan.AfterQuote other = refl

-- at the start of a block it is ready, if no quote comes within a field
pub ready_at_start : (p : ScanState) (byte : ℕ) → (inside_bit p ≡ 0 → byte ≡ 34 → p ≢ scan.InField) → IsReady (inside_bit p) byte (state_of p)
ready_at_start scan.Between byte begin = record { quoted = λ is. absurd (omega (arith, is)); unquoted = λ _. refl; begins = λ _ _. refl }
ready_at_start scan.FieldStart byte begin = record { quoted = λ is. absurd (omega (arith, is)); unquoted = λ _. refl; begins = λ _ _. refl }
ready_at_start scan.InField byte begin = record { quoted = λ is. absurd (omega (arith, is)); unquoted = λ _. refl; begins = λ out here. absurd (begin out here refl) }
ready_at_start scan.InQuotes byte begin = record { quoted = λ _. refl; unquoted = λ is. absurd (omega (arith, is)); begins = λ is _. absurd (omega (arith, is)) }
ready_at_start scan.AfterQuote byte begin = record { quoted = λ is. absurd (omega (arith, is)); unquoted = λ _. refl; begins = λ _ _. refl }

pub common_mark : (one other all k : ℕ) → all < 2 ^ 64 → k < 64 → bit_and (bit_and one other) (bit_not w64 all) ≡ 0 → bit_at one k ≡ 1 → bit_at other k ≡ 1 → bit_at all k ≡ 1
common_mark one other all k small below none set also =
    omega (arith, set, also, bit_at_and one other k, bit_at_and (bit_and one other) (bit_not w64 all) k, bit_at_not w64 all k small below, ap (λ (m : ℕ). bit_at m k) none, bit_at-zero k, bit_at-lt all k)

-- the place after the highest mark
pub end_is : (marks end : ℕ) → marks < 2 ^ 64 → end ≡ 64 - count_leading_zeros 64 marks → (0 < end → bit_at marks (end - 1) ≡ 1) × ((k : ℕ) → end ≤ k → bit_at marks k ≡ 0)
end_is marks end small is = elim (cases_lt 0 marks) [
  | inl some ↦
      let top = leading_top 64 marks some small in
      let place : end ≡ suc top.0 = omega (arith, is, top.1) in
      let last : top.0 ≡ end - 1 = omega (arith, place) in (
        λ _. subst (λ (j : ℕ). bit_at marks j ≡ 1) last (top_bit top.0 marks top.2 top.3),
        λ k past. bit_at_above marks (suc top.0) k top.3 (omega (arith, place, past)),
      )
  | inr least ↦
      let none : marks ≡ 0 = omega (arith, least) in
      let first : end ≡ 0 = omega (arith, is, ap (count_leading_zeros 64) none, leading_of_zero 64) in (
        λ some. absurd (omega (arith, some, first)),
        λ k past. ap (λ (m : ℕ). bit_at m k) none ∙ bit_at-zero k,
      )
]
