-- Lemmas on marked places.
use Rattle.std.proofs.Common.{◌≡◌, ◌≢◌, ◌↔◌, ℕ, ◌+◌, ◌-◌, ◌<◌, ◌≤◌, Bool, true, false, cond, eqb, List, ◌++◌, zero, length-append, take_at, length, map, take, get_or, slice_index, refl, sym, ap, ◌∙◌, subst, arith, eqb-true, eq-eqb, ⊎_elim, ◌^◌, ◌%◌, replicate, w8}
use Rattle.std.specs.Int.{bit_at}
use Rattle.std.specs.Simd.Lanes.{zip2, mask_l, top, chunk}
use Rattle.std.proofs.lemmas.Simd.{bit_mask_l, bitmask_splat, length-chunk, get_or-chunk}
use Rattle.std.proofs.Math.ListN.{get_or-map}
use Rattle.std.proofs.lemmas.List.{get_or_past, get_or-replicate, length-replicate, get_or-append_right, get_or_append_left}
use Rattle.std.proofs.lemmas.Bool.{cases_lt, ne_eqb}
use Rattle.std.proofs.lemmas.Nat.Bits.{bit_at-zero}
use Rattle.sk_lines.specs.Marks.{KnowsLfs, IsFirstLf, TakesLf}

told : (byte x : ℕ) (b : Bool) → eqb x byte ≡ b → (cond {A = ℕ} b 1 0 ≡ 1) ↔ (x ≡ byte)
told byte x true e = (λ h. eqb-true x byte e, λ h. refl)
told byte x false e = (λ h. absurd (omega arith), λ h. absurd (cc (e, eq-eqb x byte h)))

-- a bit of the mask of the lanes of a block that are a byte
byte_bit : (n byte : ℕ) (bytes : List ℕ) (at k : ℕ) → 0 < byte → at + n ≤ length bytes
    → (bit_at (mask_l (map (λ x. eqb x byte) (chunk at n bytes))) k ≡ 1) ↔ ((k < n) × (slice_index bytes (at + k) ≡ byte))
byte_bit n byte bytes at k some within =
    let block : List ℕ = chunk at n bytes in
    let long : length block ≡ n = length-chunk at n bytes within in
    let bit : bit_at (mask_l (map (λ x. eqb x byte) block)) k ≡ cond (eqb (get_or block k 0) byte) 1 0 =
    bit_mask_l (map (λ x. eqb x byte) block) k ∙ ap (λ (b : Bool). cond {A = ℕ} b 1 0) (ap (get_or (map (λ x. eqb x byte) block) k) (sym (ne_eqb 0 byte (λ e. omega (arith, some, e)))) ∙ get_or-map (λ x. eqb x byte) block k 0) in
    let t = told byte (get_or block k 0) _ refl in (
      λ set.
          let is : get_or block k 0 ≡ byte = t.0 (sym bit ∙ set) in
          ⊎_elim
          (λ (inside : k < n). (inside, sym (get_or-chunk at n bytes k 0 inside) ∙ is))
          (λ (past : n ≤ k). absurd (omega (arith, some, is, get_or_past block k 0 (omega (arith, long, past)))))
          (cases_lt k n),
      λ at_place. bit ∙ t.1 (get_or-chunk at n bytes k 0 at_place.0 ∙ at_place.1),
    )

-- a bit of the mask of a block of at most 64 bytes in which one byte is sought
pub marks_of_block : (n byte : ℕ) (bytes : List ℕ) (at k : ℕ) → n ≤ 64 → 0 < byte → at + n ≤ length bytes
    → (bit_at (mask_l (map (top 7) (zip2 (λ a b. cond (eqb a b) 255 0) (chunk at n bytes) (replicate n byte))) % 2 ^ 64) k ≡ 1) ↔ ((k < n) × (slice_index bytes (at + k) ≡ byte))
marks_of_block n byte bytes at k few some within =
    subst (λ (m : ℕ). (bit_at m k ≡ 1) ↔ ((k < n) × (slice_index bytes (at + k) ≡ byte)))
    (sym (bitmask_splat w8 eqb (chunk at n bytes) n byte (length-chunk at n bytes within) few))
    (byte_bit n byte bytes at k some within)

none_marked : (k : ℕ) → bit_at 0 k ≡ 1 → ⊥
none_marked k set = omega (arith, bit_at-zero k)

-- one block more
pub known_more : (bytes : List ℕ) (at scanned marks : ℕ) → KnowsLfs bytes at scanned 0
    → ((k : ℕ) → (bit_at marks k ≡ 1) ↔ ((k < 64) × (slice_index bytes (scanned + k) ≡ 10))) → KnowsLfs bytes at (scanned + 64) marks
known_more bytes at scanned marks known block = record {
  ordered = omega (arith, known.ordered);
  marked = λ k set.
      let here = (block k).0 set in
      let place : scanned + 64 + k - 64 ≡ scanned + k = omega arith in
      (here.0, omega (arith, known.ordered), ap (slice_index bytes) place ∙ here.1);
  seen = λ i from before lf.
      ⊎_elim
      (λ (early : i < scanned). absurd (none_marked _ (known.seen i from early lf).1))
      (λ (late : scanned ≤ i).
      let place : scanned + (i - scanned) ≡ i = omega arith in
      let bit : i + 64 - (scanned + 64) ≡ i - scanned = omega arith in
      let set = (block (i - scanned)).1 (omega arith, ap (slice_index bytes) place ∙ lf) in
      (omega arith, ap (bit_at marks) bit ∙ set))
      (cases_lt i scanned);
}

-- the lowest mark is the first LF
pub first_marked : (bytes : List ℕ) (at scanned marks k : ℕ) → KnowsLfs bytes at scanned marks → bit_at marks k ≡ 1 → ((j : ℕ) → j < k → bit_at marks j ≡ 0) → IsFirstLf bytes at (scanned + k - 64)
first_marked bytes at scanned marks k known set below =
    let here = known.marked k set in
    let high : at + 64 ≤ scanned + k = here.1 in
    let small : k < 64 = here.0 in
    record {
      from = omega arith;
      lf = here.2;
      before = λ i from before lf.
          let mark = known.seen i from (omega arith) lf in
          let low : scanned ≤ i + 64 = mark.0 in
          omega (arith, mark.1, below (i + 64 - scanned) (omega arith));
    }

-- without the lowest mark, the LFs after it are known
pub known_behind : (bytes : List ℕ) (at scanned marks rest k : ℕ) → KnowsLfs bytes at scanned marks → bit_at marks k ≡ 1 → ((j : ℕ) → j < k → bit_at marks j ≡ 0)
    → ((j : ℕ) → j < 64 → j ≢ k → bit_at rest j ≡ bit_at marks j) → bit_at rest k ≡ 0 → ((j : ℕ) → bit_at rest j ≡ 1 → bit_at marks j ≡ 1)
    → KnowsLfs bytes (scanned + k - 64 + 1) scanned rest
known_behind bytes at scanned marks rest k known set below kept cleared no_more =
    let here = known.marked k set in
    let high : at + 64 ≤ scanned + k = here.1 in
    let small : k < 64 = here.0 in
    record {
      ordered = omega arith;
      marked = λ j later.
          let old = known.marked j (no_more j later) in
          let above : k < j = ⊎_elim
          (λ (less : j < k). absurd (omega (arith, below j less, no_more j later)))
          (λ (most : k ≤ j). ⊎_elim (λ (more : k < j). more) (λ (same : j ≤ k). let is : j ≡ k = omega arith in absurd (omega (arith, cleared, subst (λ (n : ℕ). bit_at rest n ≡ 1) is later))) (cases_lt k j))
          (cases_lt j k) in
          (old.0, omega (arith, above), old.2);
      seen = λ i from before lf.
          let mark = known.seen i (omega arith) before lf in
          let low : scanned ≤ i + 64 = mark.0 in
          let bit = kept (i + 64 - scanned) (omega arith) (λ is. omega arith) in
          (low, bit ∙ mark.1);
    }

-- where no mark is left and all was scanned, there is no LF
pub no_lf_known : (bytes : List ℕ) (at scanned i : ℕ) → KnowsLfs bytes at scanned 0 → at ≤ i → i < scanned → slice_index bytes i ≢ 10
no_lf_known bytes at scanned i known from before lf = none_marked _ (known.seen i from before lf).1

-- a text without LF is known
pub known_none : (bytes : List ℕ) (at scanned : ℕ) → at ≤ scanned → ((i : ℕ) → at ≤ i → i < scanned → slice_index bytes i ≢ 10) → KnowsLfs bytes at scanned 0
known_none bytes at scanned ordered none = record {
  ordered = ordered;
  marked = λ k set. absurd (none_marked k set);
  seen = λ i from before lf. absurd (none i from before lf);
}

-- what a search in a slice shows of the buffer
pub sought : (slice bytes : List ℕ) (at s m t n : ℕ) → slice ≡ bytes → KnowsLfs bytes at s m → ((at : ℕ) → KnowsLfs slice at s m → KnowsLfs slice at t n) → KnowsLfs bytes at t n
sought slice bytes at s m t n same known search =
    subst (λ (l : List ℕ). KnowsLfs l at t n) same (search at (subst (λ (l : List ℕ). KnowsLfs l at s m) (sym same) known))

pub takes_lf : (bytes : List ℕ) (at scanned marks rest k end : ℕ) → end ≡ scanned + k - 64 → KnowsLfs bytes at scanned marks → bit_at marks k ≡ 1 → ((j : ℕ) → j < k → bit_at marks j ≡ 0)
    → ((j : ℕ) → j < 64 → j ≢ k → bit_at rest j ≡ bit_at marks j) → bit_at rest k ≡ 0 → ((j : ℕ) → bit_at rest j ≡ 1 → bit_at marks j ≡ 1)
    → TakesLf bytes at scanned end rest
takes_lf bytes at scanned marks rest k end is known set below kept cleared no_more = subst (λ (n : ℕ). TakesLf bytes at scanned n rest) (sym is) (record {
  first = first_marked bytes at scanned marks k known set below;
  known = known_behind bytes at scanned marks rest k known set below kept cleared no_more;
})

zero_byte : (n i : ℕ) → slice_index (replicate n 0) i ≡ 0
zero_byte n i = ⊎_elim (λ (below : i < n). get_or-replicate n i 0 0 below) (λ (past : n ≤ i). get_or_past (replicate n 0) i 0 (omega (arith, length-replicate {A = ℕ} n 0))) (cases_lt i n)

-- a byte of the block after a text is no LF
pub padding_byte : (bytes : List ℕ) (n i : ℕ) → bytes ≡ replicate n 0 → slice_index bytes i ≡ 0
padding_byte bytes n i is = ap (λ (l : List ℕ). slice_index l i) is ∙ zero_byte n i

pub padding_behind : (bytes text : List ℕ) (i : ℕ) → bytes ≡ text ++ replicate 64 0 → length bytes ≤ i + 64 → slice_index bytes i ≡ 0
padding_behind bytes text i is past =
    let size : length bytes ≡ length text + 64 = ap length is ∙ length-append text (replicate 64 0) ∙ ap (λ (n : ℕ). length text + n) (length-replicate 64 zero) in
    ap (λ (l : List ℕ). slice_index l i) is ∙ get_or-append_right text (replicate 64 0) (length text) i 0 refl (omega arith) ∙ zero_byte 64 (i - length text)

-- what lay in the prefix is where it was
pub kept_in_front : (bytes front more : List ℕ) (i : ℕ) → bytes ≡ (front ++ more) ++ replicate 64 0 → i < length front → slice_index bytes i ≡ slice_index front i
kept_in_front bytes front more i is below =
    ap (λ (l : List ℕ). slice_index l i) is ∙ get_or_append_left (front ++ more) (replicate 64 0) 0 i (omega (arith, length-append front more)) ∙ get_or_append_left front more 0 i below

pub text_of_padded : (bytes text : List ℕ) (n : ℕ) → bytes ≡ text ++ replicate 64 0 → n ≡ length bytes → take (n - 64) bytes ≡ text
text_of_padded bytes text n is whole =
    let size : length bytes ≡ length text + 64 = ap length is ∙ length-append text (replicate 64 0) ∙ ap (λ (m : ℕ). length text + m) (length-replicate 64 zero) in
    ap (λ (l : List ℕ). take (n - 64) l) is ∙ take_at text (replicate 64 0) (n - 64) (omega arith)

pub length_padded : (bytes front more : List ℕ) → bytes ≡ (front ++ more) ++ replicate 64 0 → length bytes ≡ length front + length more + 64
length_padded bytes front more is =
    ap length is ∙ length-append (front ++ more) (replicate 64 0) ∙ ap (λ (n : ℕ). n + length (replicate 64 zero)) (length-append front more)
    ∙ ap (λ (n : ℕ). length front + length more + n) (length-replicate 64 zero)
