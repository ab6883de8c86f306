-- Marked LFs, CRs and commas.
use Rattle.std.proofs.Common.{◌≡◌, ◌≢◌, ◌↔◌, ◌⊎◌, ℕ, ◌+◌, ◌-◌, ◌<◌, ◌≤◌, Bool, true, false, cond, eqb, List, length, map, drop, get_or, slice_index, refl, sym, ap, ◌∙◌, subst, inl, inr, arith, eqb-true, eq-eqb, ◌^◌, ◌%◌, replicate, w8, max, ◌==◌, length-drop}
use Rattle.std.specs.Int.{bit_at}
use Rattle.std.specs.Int.Bits.{bit_or}
use Rattle.std.specs.Simd.Lanes.{zip2, mask_l, top, chunk}
use Rattle.std.proofs.lemmas.Simd.{bit_mask_l, bitmask_splat, length-chunk, get_or-chunk}
use Rattle.std.proofs.Math.ListN.{get_or-map}
use Rattle.std.proofs.lemmas.List.{get_or_past}
use Rattle.std.proofs.Math.Seq.{get_or-drop}
use Rattle.memchr.specs.Find.{is_byte3, Passes, Nowhere, NoneBefore}
use Rattle.std.proofs.lemmas.Bool.{cases_lt, cases_Bool, ne_eqb}
use Rattle.std.proofs.lemmas.Nat.Bits.{bit_at-zero, bit_at-lt, bit_at_or}
use Rattle.sk_read.specs.declared.records.delimiters.Ahead.{Ahead}
use Rattle.sk_read.specs.Delimiters.{IsDelimiter, IsFirst, IsNextDelimiter, Knows}

-- bit k of a mask says so of the byte at a place, of this many
abbrev pub IsMask : ℕ → (ℕ → Type 0) → List ℕ → ℕ → ℕ → Type 0
IsMask n P bytes at marks = (k : ℕ) → (bit_at marks k ≡ 1) ↔ ((k < n) × P (slice_index bytes (at + k)))

-- the same of a block
abbrev pub IsMaskOf : (ℕ → Type 0) → List ℕ → ℕ → ℕ → Type 0
IsMaskOf P bytes at marks = IsMask 64 P bytes at marks

told : (x byte : ℕ) (b : Bool) → eqb x byte ≡ b → (cond {A = ℕ} b 1 0 ≡ 1) ↔ (x ≡ byte)
told x byte true e = (λ h. eqb-true x byte e, λ h. refl)
told x byte false e = (λ h. absurd (omega arith), λ h. absurd (cc (e, eq-eqb x byte h)))

-- a bit of the mask of the bytes of one kind
byte_bit : (n : ℕ) (bytes : List ℕ) (at byte : ℕ) → at + n ≤ length bytes → 0 < byte → IsMask n (λ (x : ℕ). x ≡ byte) bytes at (mask_l (map (λ x. eqb x byte) (chunk at n bytes)))
byte_bit n bytes at byte within some k =
    let block : List ℕ = chunk at n bytes in
    let long : length block ≡ n = length-chunk at n bytes within in
    let bits : List Bool = map (λ x. eqb x byte) block in
    let none : eqb 0 byte ≡ false = ne_eqb 0 byte (λ is. omega (arith, is, some)) in
    let here : get_or bits k false ≡ eqb (get_or block k 0) byte = ap (get_or bits k) (sym none) ∙ get_or-map (λ x. eqb x byte) block k 0 in
    let bit : bit_at (mask_l bits) k ≡ cond (eqb (get_or block k 0) byte) 1 0 = bit_mask_l bits k ∙ ap (λ b. cond b 1 0) here in
    let t = told (get_or block k 0) byte _ refl in (
      λ set.
          let is : get_or block k 0 ≡ byte = t.0 (sym bit ∙ set) in
          elim (cases_lt k n) [
            | inl inside ↦ (inside, sym (get_or-chunk at n bytes k 0 inside) ∙ is)
            | inr past ↦ absurd (omega (arith, is, some, get_or_past block k 0 (omega (arith, long, past))))
          ],
      λ at_place. bit ∙ t.1 (get_or-chunk at n bytes k 0 at_place.0 ∙ at_place.1),
    )

pub bytes_of_lanes : (n : ℕ) (bytes : List ℕ) (at byte : ℕ) → n ≤ 64 → at + n ≤ length bytes → 0 < byte → byte < 256 →
    IsMask n (λ (x : ℕ). x ≡ byte) bytes at (mask_l (map (top 7) (zip2 (λ a b. cond (eqb a b) 255 0) (chunk at n bytes) (replicate n byte))) % 2 ^ 64)
bytes_of_lanes n bytes at byte few within some small =
    subst (IsMask n (λ (x : ℕ). x ≡ byte) bytes at)
    (sym (bitmask_splat w8 eqb (chunk at n bytes) n byte (length-chunk at n bytes within) few))
    (byte_bit n bytes at byte within some)

pub bytes_of_block : (bytes : List ℕ) (at byte : ℕ) → at + 64 ≤ length bytes → 0 < byte → byte < 256 →
    IsMaskOf (λ (x : ℕ). x ≡ byte) bytes at (mask_l (map (top 7) (zip2 (λ a b. cond (eqb a b) 255 0) (chunk at 64 bytes) (replicate 64 byte))) % 2 ^ 64)
bytes_of_block bytes at byte within some small = bytes_of_lanes 64 bytes at byte (omega arith) within some small

pub max_is : (a b : ℕ) → max a b ≡ 1 → (a ≡ 1) ⊎ (b ≡ 1)
max_is a b is = elim (cases_lt a b) [
  | inl less ↦ inr (omega (arith, is, less))
  | inr most ↦ inl (omega (arith, is, most))
]

-- two masks in one
pub both_lanes : (n : ℕ) (P Q : ℕ → Type 0) (bytes : List ℕ) (at a b : ℕ) → IsMask n P bytes at a → IsMask n Q bytes at b → IsMask n (λ (x : ℕ). P x ⊎ Q x) bytes at (bit_or a b)
both_lanes n P Q bytes at a b p q k = (
  λ set. elim (max_is (bit_at a k) (bit_at b k) (sym (bit_at_or a b k) ∙ set)) [
    | inl one ↦ let here = (p k).0 one in (here.0, inl here.1)
    | inr one ↦ let here = (q k).0 one in (here.0, inr here.1)
  ],
  λ here. elim here.1 [
    | inl is ↦ omega (arith, bit_at_or a b k, (p k).1 (here.0, is), bit_at-lt b k)
    | inr is ↦ omega (arith, bit_at_or a b k, (q k).1 (here.0, is), bit_at-lt a k)
  ],
)

pub both_masks : (P Q : ℕ → Type 0) (bytes : List ℕ) (at a b : ℕ) → IsMaskOf P bytes at a → IsMaskOf Q bytes at b → IsMaskOf (λ (x : ℕ). P x ⊎ Q x) bytes at (bit_or a b)
both_masks P Q bytes at a b p q = both_lanes 64 P Q bytes at a b p q

-- from one place up to another there is no byte of a kind
pub record IsNowhere (P : ℕ → Type 0) (text : List ℕ) (from at : ℕ) : Type 0 where
  pub order : from ≤ at
  pub within : at ≤ length text
  pub none : (i : ℕ) → from ≤ i → i < at → ¬ P (slice_index text i)

pub nowhere_yet : (P : ℕ → Type 0) (text : List ℕ) (from : ℕ) → from ≤ length text → IsNowhere P text from from
nowhere_yet P text from within = record { order = omega arith; within = within; none = λ i after before. absurd (omega (arith, after, before)) }

pub nowhere_next : (P : ℕ → Type 0) (text : List ℕ) (from at : ℕ) → IsNowhere P text from at → at < length text → ¬ P (slice_index text at) → IsNowhere P text from (at + 1)
nowhere_next P text from at nowhere inside other = record {
  order = omega (arith, nowhere.order);
  within = omega (arith, inside);
  none = λ i after before is. elim (cases_lt i at) [
    | inl early ↦ nowhere.none i after early is
    | inr late ↦ let here : i ≡ at = omega (arith, late, before) in other (subst (λ (j : ℕ). P (slice_index text j)) here is)
  ];
}

pub first_found : (P : ℕ → Type 0) (text : List ℕ) (from at : ℕ) → IsNowhere P text from at → (at < length text → P (slice_index text at)) → IsFirst P text from at
first_found P text from at nowhere here = record { from = nowhere.order; within = nowhere.within; none = nowhere.none; here = here }

-- the lowest mark is the first
pub first_of_mask : (n : ℕ) (P : ℕ → Type 0) (text : List ℕ) (from at marks k : ℕ) → at + n ≤ length text → IsNowhere P text from at → IsMask n P text at marks → bit_at marks k ≡ 1 →
    ((j : ℕ) → j < k → bit_at marks j ≡ 0) → IsFirst P text from (at + k)
first_of_mask n P text from at marks k fits nowhere mask set below =
    let here = (mask k).0 set in
    record {
      from = omega (arith, nowhere.order);
      within = omega (arith, here.0, fits);
      none = λ i after before is. elim (cases_lt i at) [
        | inl early ↦ nowhere.none i after early is
        | inr late ↦
            let place : i ≡ at + (i - at) = omega (arith, late) in
            let marked = (mask (i - at)).1 (omega (arith, before, here.0, late), subst (λ (j : ℕ). P (slice_index text j)) place is) in
            omega (arith, marked, below (i - at) (omega (arith, before, late)))
      ];
      here = λ _. here.1;
    }

-- if nothing is marked, there is none in so many bytes more
pub nowhere_more : (n : ℕ) (P : ℕ → Type 0) (text : List ℕ) (from at marks : ℕ) → at + n ≤ length text → IsNowhere P text from at → IsMask n P text at marks → marks ≡ 0 → IsNowhere P text from (at + n)
nowhere_more n P text from at marks fits nowhere mask zero = record {
  order = omega (arith, nowhere.order);
  within = fits;
  none = λ i after before is. elim (cases_lt i at) [
    | inl early ↦ nowhere.none i after early is
    | inr late ↦
        let place : i ≡ at + (i - at) = omega (arith, late) in
        let marked = (mask (i - at)).1 (omega (arith, before, late), subst (λ (j : ℕ). P (slice_index text j)) place is) in
        omega (arith, marked, ap (λ (m : ℕ). bit_at m (i - at)) zero, bit_at-zero (i - at))
  ];
}

-- the first one after those places is the first
pub first_behind : (P : ℕ → Type 0) (text : List ℕ) (from at place : ℕ) → IsNowhere P text from at → IsFirst P text at place → IsFirst P text from place
first_behind P text from at place nowhere first = record {
  from = omega (arith, nowhere.order, first.from);
  within = first.within;
  none = λ i after before is. elim (cases_lt i at) [
    | inl early ↦ nowhere.none i after early is
    | inr late ↦ first.none i late before is
  ];
  here = first.here;
}

pub first_delimiter : (text : List ℕ) (from place : ℕ) → IsNextDelimiter text from place → IsFirst IsDelimiter text from place
first_delimiter text from place next = record { from = next.from; within = next.within; none = next.none; here = next.here }

none_marked : (k : ℕ) → bit_at 0 k ≡ 1 → ⊥
none_marked k set = omega (arith, bit_at-zero k)

-- nothing is scanned from a place on
pub knows_none : (text : List ℕ) (at : ℕ) → at ≤ length text → Knows text at (record { scanned = at; marks = 0 })
knows_none text at within = record {
  ordered = omega arith;
  within = within;
  marked = λ k set. absurd (none_marked k set);
  seen = λ i from before is. absurd (omega (arith, from, before));
}

-- one block more
pub knows_more : (text : List ℕ) (at scanned marks : ℕ) → scanned + 64 ≤ length text → Knows text at (record { scanned = scanned; marks = 0 }) → IsMaskOf IsDelimiter text scanned marks →
    Knows text at (record { scanned = scanned + 64; marks = marks })
knows_more text at scanned marks fits known block = record {
  ordered = omega (arith, known.ordered);
  within = fits;
  marked = λ k set.
      let here = (block k).0 set in
      let place : scanned + 64 + k - 64 ≡ scanned + k = omega arith in
      (here.0, omega (arith, known.ordered), subst (λ (n : ℕ). IsDelimiter (slice_index text n)) (sym place) here.1);
  seen = λ i from before is. elim (cases_lt i scanned) [
    | inl early ↦ absurd (none_marked _ (known.seen i from early is).1)
    | inr late ↦
        let place : i ≡ scanned + (i - scanned) = omega (arith, late) in
        let bit : i + 64 - (scanned + 64) ≡ i - scanned = omega (arith, late) in
        let set = (block (i - scanned)).1 (omega (arith, before, late), subst (λ (n : ℕ). IsDelimiter (slice_index text n)) place is) in
        (omega (arith, late), ap (bit_at marks) bit ∙ set)
  ];
}

-- the lowest mark is the first delimiter
pub first_marked : (text : List ℕ) (at : ℕ) (ahead : Ahead) (k : ℕ) → Knows text at ahead → bit_at ahead.marks k ≡ 1 → ((j : ℕ) → j < k → bit_at ahead.marks j ≡ 0) →
    IsNextDelimiter text at (ahead.scanned + k - 64)
first_marked text at ahead k known set below =
    let here = known.marked k set in
    let high : at + 64 ≤ ahead.scanned + k = here.1 in
    let small : k < 64 = here.0 in
    record {
      from = omega arith;
      within = omega (arith, small, known.within);
      none = λ i from before is.
          let mark = known.seen i from (omega arith) is in
          let low : ahead.scanned ≤ i + 64 = mark.0 in
          omega (arith, mark.1, below (i + 64 - ahead.scanned) (omega arith));
      here = λ _. here.2;
    }

-- without the lowest mark, the delimiters after it are known
pub knows_behind : (text : List ℕ) (at : ℕ) (ahead : Ahead) (rest k : ℕ) → Knows text at ahead → bit_at ahead.marks k ≡ 1 → ((j : ℕ) → j < k → bit_at ahead.marks j ≡ 0) →
    ((j : ℕ) → j < 64 → j ≢ k → bit_at rest j ≡ bit_at ahead.marks j) → bit_at rest k ≡ 0 → ((j : ℕ) → bit_at rest j ≡ 1 → bit_at ahead.marks j ≡ 1) →
    Knows text (ahead.scanned + k - 64 + 1) (record { scanned = ahead.scanned; marks = rest })
knows_behind text at ahead rest k known set below kept cleared no_more =
    let here = known.marked k set in
    let high : at + 64 ≤ ahead.scanned + k = here.1 in
    let small : k < 64 = here.0 in
    record {
      ordered = omega arith;
      within = known.within;
      marked = λ j later.
          let old = known.marked j (no_more j later) in
          let above : k < j = elim (cases_lt k j) [
            | inl more ↦ more
            | inr least ↦ elim (cases_lt j k) [
              | inl less ↦ absurd (omega (arith, below j less, no_more j later))
              | inr most ↦ let is : j ≡ k = omega arith in absurd (omega (arith, cleared, subst (λ (n : ℕ). bit_at rest n ≡ 1) is later))
            ]
          ] in
          (old.0, omega (arith, above), old.2);
      seen = λ i from before is.
          let mark = known.seen i (omega arith) before is in
          let low : ahead.scanned ≤ i + 64 = mark.0 in
          let bit = kept (i + 64 - ahead.scanned) (omega arith) (λ same. omega arith) in
          (low, bit ∙ mark.1);
    }

-- if no mark is left, the search continues after what was scanned
pub next_behind : (text : List ℕ) (at scanned place : ℕ) → Knows text at (record { scanned = scanned; marks = 0 }) → IsNextDelimiter text scanned place → IsNextDelimiter text at place
next_behind text at scanned place known next = record {
  from = omega (arith, known.ordered, next.from);
  within = next.within;
  none = λ i from before is. elim (cases_lt i scanned) [
    | inl early ↦ none_marked _ (known.seen i from early is).1
    | inr late ↦ next.none i late before is
  ];
  here = next.here;
}

-- ---- what a search finds

by_test : (x : ℕ) → is_byte3 10 13 44 x ≡ true → IsDelimiter x
by_test x passes = elim (cases_Bool (x == 10)) [
  | inl lf ↦ inl (inl (eqb-true x 10 lf))
  | inr no_lf ↦ elim (cases_Bool (x == 13)) [
    | inl cr ↦ inl (inr (eqb-true x 13 cr))
    | inr no_cr ↦ inr (eqb-true x 44 (rw (no_lf, no_cr) at passes))
  ]
]

to_test : (x : ℕ) → IsDelimiter x → is_byte3 10 13 44 x ≡ true
to_test x (inl (inl lf)) = rw lf refl
to_test x (inl (inr cr)) = rw cr refl
to_test x (inr comma) = rw comma refl

module _ (text : List ℕ) (at : ℕ) (within : at ≤ length text) (hay : List ℕ) (rest : hay ≡ drop at text) where
  size : length hay ≡ length text - at
  size = ap length rest ∙ length-drop at text

  byte_at : (i : ℕ) → get_or hay i 0 ≡ get_or text (at + i) 0
  byte_at i = ap (λ (l : List ℕ). get_or l i 0) rest ∙ get_or-drop at text i 0

  test_at : (i : ℕ) → at ≤ i → IsDelimiter (slice_index text i) → Passes (is_byte3 10 13 44) hay (i - at)
  test_at i from is =
      let place : at + (i - at) ≡ i = omega (arith, from) in
      to_test (get_or hay (i - at) 0) (subst IsDelimiter (sym (byte_at (i - at) ∙ ap (λ (n : ℕ). get_or text n 0) place)) is)

  pub found : (place : ℕ) → NoneBefore (Passes (is_byte3 10 13 44) hay) 0 (length hay) place → Passes (is_byte3 10 13 44) hay place → IsNextDelimiter text at (at + place)
  found place first passes = record {
    from = omega arith;
    within = omega (arith, first.high, size);
    none = λ i from before is. first.before (i - at) (omega arith) (omega (arith, from, before)) (test_at i from is);
    here = λ _. subst IsDelimiter (byte_at place) (by_test (get_or hay place 0) passes);
  }

  pub not_found : Nowhere (Passes (is_byte3 10 13 44) hay) 0 (length hay) → IsNextDelimiter text at (length text)
  not_found nowhere = record {
    from = within;
    within = omega arith;
    none = λ i from before is. nowhere (i - at) (omega arith) (omega (arith, from, before, size)) (test_at i from is);
    here = λ inside. absurd (omega (arith, inside));
  }
