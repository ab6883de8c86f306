-- Lines of one length.
use Rattle.std.proofs.Common.{◌≡◌, ◌≢◌, ℕ, ◌+◌, ◌-◌, ◌<◌, ◌≤◌, ◌%◌, ◌^◌, ◌==◌, Bool, true, false, cond, List, ◌++◌, length, map, take, get_or, set, slice_index, slice_range, replicate, refl, sym, ap, ◌∙◌, subst, arith, eqb-true, nat_lt, lt-ltb, ltb-true, ltb-false, ⊎_elim, w8}
use Rattle.std.specs.Int.{bit_at}
use Rattle.std.specs.Str.Lines.{strip_carriage_return}
use Rattle.std.specs.Simd.Lanes.{zip2, mask_l, sel_l, top, chunk}
use Rattle.std.proofs.lemmas.Simd.{tops_compared, bit_mask_l, mask_l-mod, length-zip2, get_or-zip2, length-chunk, get_or-chunk, length-sel_l, get_or-sel_l}
use Rattle.std.proofs.lemmas.List.{get_or_past, get_or-replicate, length-replicate, get_or_append_left, take_more_set}
use Rattle.std.proofs.lemmas.Bool.{cases_lt}
use Rattle.std.proofs.lemmas.Nat.Bits.{bit_at-zero}
use Rattle.sk_lines.specs.Even.{IsPlain, ArePlainBetween, AreFloors, IsLowered}
use Rattle.sk_lines.specs.Spans.{AreLines, IsLine}
use Rattle.sk_lines.specs.declared.spans.Span.{Span}
use Rattle.sk_lines.proofs.Ends.{lines_more}

-- ---- the bytes of a block, and their floors

abbrev floors_at : List ℕ
floors_at = replicate 16 14 ++ replicate 16 0

pub floors : (len n : ℕ) → n ≡ 16 - len → AreFloors len (chunk 0 16 (chunk n (32 - n) floors_at))
floors len n is =
    let rest : List ℕ = chunk n (32 - n) floors_at in
    let long : length rest ≡ 32 - n = length-chunk n (32 - n) floors_at (omega arith) in
    record {
      wide = length-chunk 0 16 rest (omega (arith, long));
      line = λ k below inside.
          let same : 0 + k ≡ k = omega arith in
          get_or-chunk 0 16 rest k 0 inside ∙ ap (λ (i : ℕ). get_or rest i 0) same ∙ get_or-chunk n (32 - n) floors_at k 0 (omega arith)
          ∙ get_or_append_left (replicate 16 14) (replicate 16 0) 0 (n + k) (omega (arith, length-replicate {A = ℕ} 16 14)) ∙ get_or-replicate 16 (n + k) 14 0 (omega arith);
    }

-- where no lane is marked as below another, none is
pub none_below : (xs ys : List ℕ) → length xs ≡ 16 → length ys ≡ 16 → mask_l (map (top 7) (zip2 (λ a b. cond (nat_lt a b) 255 0) xs ys)) % 2 ^ 64 ≡ 0 → (k : ℕ) → k < 16 → slice_index ys k ≤ slice_index xs k
none_below xs ys sx sy none k inside =
    let marked : List Bool = zip2 nat_lt xs ys in
    let long : length marked ≡ 16 = length-zip2 nat_lt xs ys (sx ∙ sym sy) ∙ sx in
    let same : map (top 7) (zip2 (λ a b. cond (nat_lt a b) 255 0) xs ys) ≡ marked = tops_compared w8 nat_lt xs ys in
    let mask : mask_l marked ≡ 0 = sym (mask_l-mod marked 64 (omega (arith, long))) ∙ ap (λ (l : List Bool). mask_l l % 2 ^ 64) (sym same) ∙ none in
    let bit : bit_at 0 k ≡ cond {A = ℕ} (get_or marked k false) 1 0 = ap (λ (m : ℕ). bit_at m k) (sym mask) ∙ bit_mask_l marked k in
    let lane : get_or marked k false ≡ nat_lt (get_or xs k 0) (get_or ys k 0) = get_or-zip2 nat_lt xs ys k 0 0 false (omega (arith, sx)) (omega (arith, sy)) in
    ⊎_elim
    (λ (less : get_or xs k 0 < get_or ys k 0).
    let one : cond {A = ℕ} (get_or marked k false) 1 0 ≡ 1 = ap (λ (b : Bool). cond {A = ℕ} b 1 0) (lane ∙ lt-ltb (get_or xs k 0) (get_or ys k 0) less) in
    absurd (omega (arith, one, bit, bit_at-zero k)))
    (λ (most : get_or ys k 0 ≤ get_or xs k 0). most)
    (cases_lt (get_or xs k 0) (get_or ys k 0))

pub plain_line_of : (bytes floors : List ℕ) (at len : ℕ) → at + 16 ≤ length bytes → AreFloors len floors → slice_index bytes (at + len) ≡ 10
    → mask_l (map (top 7) (zip2 (λ a b. cond (nat_lt a b) 255 0) (chunk at 16 bytes) floors)) % 2 ^ 64 ≡ 0 → ((i : ℕ) → at + 16 ≤ i → i < at + len → 14 ≤ slice_index bytes i) → IsPlain bytes at len
plain_line_of bytes floors at len within are lf none rest = record {
  lf = lf;
  plain = λ k below. ⊎_elim
      (λ (inside : k < 16).
      omega (arith, none_below (chunk at 16 bytes) floors (length-chunk at 16 bytes within) are.wide none k inside, are.line k below inside, get_or-chunk at 16 bytes k 0 inside))
      (λ (past : 16 ≤ k). rest (at + k) (omega arith) (omega arith))
      (cases_lt k 16);
}

pub plain_block : (bytes : List ℕ) (at : ℕ) → at + 16 ≤ length bytes
    → mask_l (map (top 7) (zip2 (λ a b. cond (nat_lt a b) 255 0) (chunk at 16 bytes) (replicate 16 14))) % 2 ^ 64 ≡ 0 → (i : ℕ) → at ≤ i → i < at + 16 → 14 ≤ slice_index bytes i
plain_block bytes at within none i from below =
    let k : ℕ = i - at in
    let inside : k < 16 = omega arith in
    let place : at + k ≡ i = omega arith in
    let byte : slice_index bytes (at + k) ≡ slice_index bytes i = ap (slice_index bytes) place in
    omega (arith, byte, none_below (chunk at 16 bytes) (replicate 16 14) (length-chunk at 16 bytes within) (length-replicate {A = ℕ} 16 14) none k inside, get_or-replicate {A = ℕ} 16 k 14 0 inside, get_or-chunk at 16 bytes k 0 inside)

-- ---- four lines together

least_of : (b : Bool) (x y : ℕ) → nat_lt x y ≡ b → (cond b x y ≤ x) × (cond b x y ≤ y)
least_of true x y less = (omega arith, omega (arith, ltb-true x y less))
least_of false x y most = (omega (arith, ltb-false x y most), omega arith)

-- the lesser of each two lanes
pub lesser : (xs bytes : List ℕ) (at : ℕ) → length xs ≡ 16 → at + 16 ≤ length bytes
    → IsLowered (sel_l (map (top 7) (zip2 (λ a b. cond (nat_lt a b) 255 0) xs (chunk at 16 bytes))) xs (chunk at 16 bytes)) xs bytes at
lesser xs bytes at wide within =
    let ys : List ℕ = chunk at 16 bytes in
    let long : length ys ≡ 16 = length-chunk at 16 bytes within in
    let marked : List Bool = zip2 nat_lt xs ys in
    let size : length marked ≡ 16 = length-zip2 nat_lt xs ys (wide ∙ sym long) ∙ wide in
    let tops : map (top 7) (zip2 (λ a b. cond (nat_lt a b) 255 0) xs ys) ≡ marked = tops_compared w8 nat_lt xs ys in
    let lane : (k : ℕ) → k < 16 → get_or (sel_l marked xs ys) k 0 ≡ cond (nat_lt (get_or xs k 0) (get_or ys k 0)) (get_or xs k 0) (get_or ys k 0) =
    λ k inside. get_or-sel_l marked xs ys k 0 (omega (arith, size)) (omega (arith, wide)) (omega (arith, long))
    ∙ ap (λ (b : Bool). cond b (get_or xs k 0) (get_or ys k 0)) (get_or-zip2 nat_lt xs ys k 0 0 false (omega (arith, wide)) (omega (arith, long))) in
    subst (λ (marks : List Bool). IsLowered (sel_l marks xs ys) xs bytes at) (sym tops)
    (record {
      wide = length-sel_l marked xs ys (size ∙ sym wide) (size ∙ sym long) ∙ size;
      lane = λ k inside. omega (arith, lane k inside, (least_of _ (get_or xs k 0) (get_or ys k 0) refl).0);
      byte = λ k inside. omega (arith, lane k inside, (least_of _ (get_or xs k 0) (get_or ys k 0) refl).1, get_or-chunk at 16 bytes k 0 inside);
    })

-- a line by the least of some blocks, of which its first one is one, and by its other bytes
pub least_plain : (bytes floors least : List ℕ) (at len : ℕ) → AreFloors len floors → slice_index bytes (at + len) ≡ 10
    → ((k : ℕ) → k < 16 → slice_index floors k ≤ slice_index least k) → ((k : ℕ) → k < 16 → slice_index least k ≤ slice_index bytes (at + k))
    → ((k : ℕ) → 16 ≤ k → k < len → 14 ≤ slice_index bytes (at + k)) → IsPlain bytes at len
least_plain bytes floors least at len are lf above below rest = record {
  lf = lf;
  plain = λ k inside. ⊎_elim
      (λ (early : k < 16). omega (arith, are.line k inside early, above k early, below k early))
      (λ (late : 16 ≤ k). rest k late inside)
      (cases_lt k 16);
}

-- the bytes of a block that is not below the least of some
pub block_above : (bytes least : List ℕ) (at place : ℕ) → length least ≡ 16 → mask_l (map (top 7) (zip2 (λ a b. cond (nat_lt a b) 255 0) least (replicate 16 14))) % 2 ^ 64 ≡ 0
    → ((k : ℕ) → k < 16 → slice_index least k ≤ slice_index bytes (at + place + k)) → (k : ℕ) → place ≤ k → k < place + 16 → 14 ≤ slice_index bytes (at + k)
block_above bytes least at place wide none below k from before =
    let j : ℕ = k - place in
    let inside : j < 16 = omega arith in
    let same : at + place + j ≡ at + k = omega arith in
    omega (arith, none_below least (replicate 16 14) wide (length-replicate {A = ℕ} 16 14) none j inside, get_or-replicate {A = ℕ} 16 j 14 0 inside, below j inside, ap (slice_index bytes) same)

pub none_between : (bytes : List ℕ) (at len n : ℕ) → ArePlainBetween bytes at len n n
none_between bytes at len n = record {
  first = λ k from before. absurd (omega (arith, from, before));
  second = λ k from before. absurd (omega (arith, from, before));
  third = λ k from before. absurd (omega (arith, from, before));
  fourth = λ k from before. absurd (omega (arith, from, before));
}

-- a byte of one part or of another that begins no later than where the first ends
either_part : (P : ℕ → Type 0) (from middle start to k : ℕ) → start ≤ middle → ((j : ℕ) → from ≤ j → j < middle → P j) → ((j : ℕ) → start ≤ j → j < to → P j) → from ≤ k → k < to → P k
either_part P from middle start to k meets early late above before = ⊎_elim
    (λ (first : k < middle). early k above first)
    (λ (other : middle ≤ k). late k (omega (arith, other, meets)) before)
    (cases_lt k middle)

pub more_between : (bytes : List ℕ) (at len from middle start to : ℕ) → start ≤ middle → ArePlainBetween bytes at len from middle → ArePlainBetween bytes at len start to → ArePlainBetween bytes at len from to
more_between bytes at len from middle start to meets early late = record {
  first = λ k. either_part (λ (i : ℕ). 14 ≤ slice_index bytes (at + i)) from middle start to k meets early.first late.first;
  second = λ k. either_part (λ (i : ℕ). 14 ≤ slice_index bytes (at + (len + 1) + i)) from middle start to k meets early.second late.second;
  third = λ k. either_part (λ (i : ℕ). 14 ≤ slice_index bytes (at + (len + 1) + (len + 1) + i)) from middle start to k meets early.third late.third;
  fourth = λ k. either_part (λ (i : ℕ). 14 ≤ slice_index bytes (at + (len + 1) + (len + 1) + (len + 1) + i)) from middle start to k meets early.fourth late.fourth;
}

pub fewer_between : (bytes : List ℕ) (at len from to less : ℕ) → less ≤ to → ArePlainBetween bytes at len from to → ArePlainBetween bytes at len from less
fewer_between bytes at len from to less few all = record {
  first = λ k above before. all.first k above (omega (arith, few, before));
  second = λ k above before. all.second k above (omega (arith, few, before));
  third = λ k above before. all.third k above (omega (arith, few, before));
  fourth = λ k above before. all.fourth k above (omega (arith, few, before));
}

-- ---- a line

without_cr : (piece : List ℕ) (b : Bool) → (slice_index piece (length piece - 1) == 13) ≡ b → slice_index piece (length piece - 1) ≢ 13 → cond b (take (length piece - 1) piece) piece ≡ piece
without_cr piece false is other = refl
without_cr piece true is other = absurd (other (eqb-true _ 13 is))

pub plain_line : (bytes : List ℕ) (limit at len : ℕ) → at + len < length bytes → len ≤ limit → IsPlain bytes at len → IsLine bytes limit at (at + len) (record { from = at; to = at + len })
plain_line bytes limit at len within short plain =
    let piece : List ℕ = slice_range bytes at (at + len) in
    let size : length piece ≡ at + len - at = length-chunk at (at + len - at) bytes (omega arith) in
    let last : ℕ = length piece - 1 in
    let other : slice_index piece last ≢ 13 = λ cr. ⊎_elim
    (λ (some : last < length piece).
    let below : last < len = omega (arith, size) in
    let here : last < at + len - at = omega arith in
    absurd (omega (arith, cr, get_or-chunk at (at + len - at) bytes last 0 here, plain.plain last below)))
    (λ (past : length piece ≤ last). absurd (omega (arith, cr, get_or_past piece last 0 past)))
    (cases_lt last (length piece)) in
    let whole : strip_carriage_return piece ≡ piece = without_cr piece (slice_index piece last == 13) refl other in
    record {
      lf = record {
        from = omega arith;
        lf = plain.lf;
        before = λ i from before lf.
            let place : at + (i - at) ≡ i = omega arith in
            let byte : slice_index bytes (at + (i - at)) ≡ slice_index bytes i = ap (slice_index bytes) place in
            absurd (omega (arith, plain.plain (i - at) (omega arith), lf, byte));
      };
      start = refl;
      size = let n : at + len ≡ at + length piece = omega (arith, size) in n ∙ ap (λ (l : List ℕ). at + length l) (sym whole);
      short = omega arith;
    }

-- one line more
pub even_more : (bytes : List ℕ) (limit from at len count : ℕ) (spans : List Span) → AreLines bytes limit from (take count spans) at → count < length spans → at + len < length bytes → len ≤ limit → IsPlain bytes at len
    → AreLines bytes limit from (take (count + 1) (set spans count (record { from = at; to = at + len }))) (at + (len + 1))
even_more bytes limit from at len count spans lines inside within short plain =
    let span : Span = record { from = at; to = at + len } in
    let behind : at + len + 1 ≡ at + (len + 1) = omega arith in
    subst (λ (n : ℕ). AreLines bytes limit from (take (count + 1) (set spans count span)) n) behind
    (subst (λ (ss : List Span). AreLines bytes limit from ss (at + len + 1)) (sym (take_more_set spans count span inside))
    (lines_more bytes limit from at (at + len) (take count spans) span lines (plain_line bytes limit at len within short plain)))

-- the same by the place and the spans that come of it
pub even_then : (bytes : List ℕ) (limit from at len count next after : ℕ) (spans new : List Span) → AreLines bytes limit from (take count spans) at → count < length spans → at + len < length bytes → len ≤ limit → IsPlain bytes at len
    → new ≡ set spans count (record { from = at; to = at + len }) → after ≡ at + (len + 1) → next ≡ count + 1 → AreLines bytes limit from (take next new) after
even_then bytes limit from at len count next after spans new lines inside within short plain is place more =
    let span : Span = record { from = at; to = at + len } in
    subst (λ (n : ℕ). AreLines bytes limit from (take n new) after) (sym more)
    (subst (λ (ss : List Span). AreLines bytes limit from (take (count + 1) ss) after) (sym is)
    (subst (λ (n : ℕ). AreLines bytes limit from (take (count + 1) (set spans count span)) n) (sym place) (even_more bytes limit from at len count spans lines inside within short plain)))

pub plain_at : (bytes : List ℕ) (at len place : ℕ) → at ≡ place → IsPlain bytes at len → IsPlain bytes place len
plain_at bytes at len place same plain = subst (λ (n : ℕ). IsPlain bytes n len) same plain
