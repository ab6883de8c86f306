-- The spaces of a line, by marks of 16 bytes.
use Rattle.std.proofs.Common.{◌≡◌, ◌≢◌, ◌↔◌, ℕ, ◌+◌, ◌-◌, ◌<◌, ◌≤◌, Bool, true, false, cond, eqb, List, length, length-take, length-drop, map, drop, get_or, slice_index, slice_range, refl, sym, ap, ◌∙◌, subst, arith, eqb-true, eq-eqb, ⊎_elim, ◌^◌, ◌%◌, replicate, w8, w64}
use Rattle.std.specs.Int.{bit_at, trailing_zeros}
use Rattle.std.specs.List.{position_or_len}
use Rattle.std.specs.Simd.Lanes.{zip2, mask_l, top, chunk}
use Rattle.std.proofs.lemmas.Simd.{bit_mask_l, bitmask_splat, length-chunk, get_or-chunk}
use Rattle.std.proofs.Math.ListN.{get_or-map}
use Rattle.std.proofs.lemmas.List.{get_or_past, get_or-take, get_or-drop}
use Rattle.std.proofs.lemmas.List.Sums.{position_or_len_is, passes_at_first}
use Rattle.std.proofs.lemmas.Bool.{cases_lt, ne_eqb}
use Rattle.std.proofs.lemmas.Nat.Bits.{bit_at-trailing_zeros, bit_at-zero}
use Rattle.sk_label.specs.Labels.{is_space}

told : (x : ℕ) (b : Bool) → eqb x 32 ≡ b → (cond {A = ℕ} b 1 0 ≡ 1) ↔ (x ≡ 32)
told x true e = (λ h. eqb-true x 32 e, λ h. refl)
told x false e = (λ h. absurd (omega arith), λ h. absurd (cc (e, eq-eqb x 32 h)))

-- a bit of the mask of a block's spaces
space_bit : (bytes : List ℕ) (at k : ℕ) → at + 16 ≤ length bytes
    → (bit_at (mask_l (map (λ x. eqb x 32) (chunk at 16 bytes))) k ≡ 1) ↔ ((k < 16) × (slice_index bytes (at + k) ≡ 32))
space_bit bytes at k within =
    let block : List ℕ = chunk at 16 bytes in
    let long : length block ≡ 16 = length-chunk at 16 bytes within in
    let bit : bit_at (mask_l (map (λ x. eqb x 32) block)) k ≡ cond (eqb (get_or block k 0) 32) 1 0 =
    bit_mask_l (map (λ x. eqb x 32) block) k ∙ ap (λ b. cond b 1 0) (get_or-map (λ x. eqb x 32) block k 0) in
    let t = told (get_or block k 0) _ refl in (
      λ set.
          let space : get_or block k 0 ≡ 32 = t.0 (sym bit ∙ set) in
          ⊎_elim
          (λ (inside : k < 16). (inside, sym (get_or-chunk at 16 bytes k 0 inside) ∙ space))
          (λ (past : 16 ≤ k). absurd (omega (arith, space, get_or_past block k 0 (omega arith))))
          (cases_lt k 16),
      λ at_place. bit ∙ t.1 (get_or-chunk at 16 bytes k 0 at_place.0 ∙ at_place.1),
    )

pub spaces_of_block : (bytes : List ℕ) (at k : ℕ) → at + 16 ≤ length bytes
    → (bit_at (mask_l (map (top 7) (zip2 (λ a b. cond (eqb a b) 255 0) (chunk at 16 bytes) (replicate 16 32))) % 2 ^ 64) k ≡ 1) ↔ ((k < 16) × (slice_index bytes (at + k) ≡ 32))
spaces_of_block bytes at k within =
    subst (λ (m : ℕ). (bit_at m k ≡ 1) ↔ ((k < 16) × (slice_index bytes (at + k) ≡ 32)))
    (sym (bitmask_splat w8 eqb (chunk at 16 bytes) 16 32 (length-chunk at 16 bytes within) (omega arith)))
    (space_bit bytes at k within)

module _ (bytes : List ℕ) (at marks : ℕ) (block : (k : ℕ) → (bit_at marks k ≡ 1) ↔ ((k < 16) × (slice_index bytes (at + k) ≡ 32))) (before : (k : ℕ) → k < at → is_space (get_or bytes k 0) ≡ false) (within : at + 16 ≤ length bytes) where
  -- a byte of the block without a mark is no space
  unmarked : (k : ℕ) → at ≤ k → k < at + 16 → bit_at marks (k - at) ≡ 0 → is_space (get_or bytes k 0) ≡ false
  unmarked k low high none =
      let same : at + (k - at) ≡ k = omega arith in
      ne_eqb (get_or bytes k 0) 32 (λ is.
      let set : bit_at marks (k - at) ≡ 1 = (block (k - at)).1 (omega arith, ap (λ (n : ℕ). get_or bytes n 0) same ∙ is) in
      omega (arith, set, none))

  -- with no mark there is none up to the end of the block
  pub none_in_block : marks ≡ 0 → (k : ℕ) → k < at + 16 → is_space (get_or bytes k 0) ≡ false
  none_in_block none k less = ⊎_elim
      (λ (earlier : k < at). before k earlier)
      (λ (here : at ≤ k). unmarked k here less (ap (λ (m : ℕ). bit_at m (k - at)) none ∙ bit_at-zero (k - at)))
      (cases_lt k at)

  -- the lowest mark is of the first
  pub first_of_block : marks < 2 ^ 64 → marks ≢ 0 → (at + trailing_zeros w64 marks ≡ position_or_len is_space bytes) × (at + trailing_zeros w64 marks ≤ length bytes)
  first_of_block fits some =
      let low : ℕ = trailing_zeros w64 marks in
      let h = bit_at-trailing_zeros w64 marks (omega (arith, some)) fits in
      let here : (low < 16) × (slice_index bytes (at + low) ≡ 32) = (block low).0 h.1 in
      let below : (k : ℕ) → k < at + low → is_space (get_or bytes k 0) ≡ false = λ k less. ⊎_elim
      (λ (earlier : k < at). before k earlier)
      (λ (later : at ≤ k). unmarked k later (omega (arith, less, here.0)) (h.2 (k - at) (omega arith)))
      (cases_lt k at) in (
        sym (position_or_len_is is_space bytes (at + low) 0 (omega (arith, within, here.0)) below (λ _. eq-eqb (get_or bytes (at + low) 0) 32 here.1)),
        omega (arith, within, here.0),
      )

-- the lowest mark of a block at the start of a line that lies in a text is of the line's first space, if it is inside
module _ (text : List ℕ) (from to marks : ℕ) (block : (k : ℕ) → (bit_at marks k ≡ 1) ↔ ((k < 16) × (slice_index text (from + k) ≡ 32))) where
  byte_of_line : (k : ℕ) → k < to - from → get_or (slice_range text from to) k 0 ≡ get_or text (from + k) 0
  byte_of_line k inside = get_or-take (to - from) (drop from text) k 0 inside ∙ get_or-drop from text k 0

  pub first_in_text : from ≤ to → to ≤ length text → marks < 2 ^ 64 → marks ≢ 0 → trailing_zeros w64 marks < to - from → trailing_zeros w64 marks ≡ position_or_len is_space (slice_range text from to)
  first_in_text order within fits some inside =
      let low : ℕ = trailing_zeros w64 marks in
      let line : List ℕ = slice_range text from to in
      let h = bit_at-trailing_zeros w64 marks (omega (arith, some)) fits in
      let here : (low < 16) × (slice_index text (from + low) ≡ 32) = (block low).0 h.1 in
      let size : length line ≡ to - from = length-take (to - from) (drop from text) ∙ omega (arith, order, within, length-drop from text) in
      let below : (k : ℕ) → k < low → is_space (get_or line k 0) ≡ false = λ k less.
      ne_eqb (get_or line k 0) 32 (λ is.
      let set : bit_at marks k ≡ 1 = (block k).1 (omega (arith, less, here.0), sym (byte_of_line k (omega (arith, less, inside))) ∙ is) in
      omega (arith, set, h.2 k less)) in
      sym (position_or_len_is is_space line low 0 (omega (arith, size, inside)) below (λ _. eq-eqb (get_or line low 0) 32 (byte_of_line low inside ∙ here.1)))

  -- without a mark at a place of the line its first space is not among the first 16 bytes
  pub none_in_text : from ≤ to → to ≤ length text → ((k : ℕ) → k < to - from → k < 16 → bit_at marks k ≡ 0)
      → position_or_len is_space (slice_range text from to) < to - from → 16 ≤ position_or_len is_space (slice_range text from to)
  none_in_text order within clear inside =
      let line : List ℕ = slice_range text from to in
      let first : ℕ = position_or_len is_space line in
      let size : length line ≡ to - from = length-take (to - from) (drop from text) ∙ omega (arith, order, within, length-drop from text) in
      let is : get_or line first 0 ≡ 32 = eqb-true (get_or line first 0) 32 (passes_at_first is_space line 0 (omega (arith, size, inside))) in
      ⊎_elim
      (λ (near : first < 16). absurd (omega (arith, clear first inside near, (block first).1 (near, sym (byte_of_line first inside) ∙ is))))
      (λ (far : 16 ≤ first). far)
      (cases_lt first 16)
