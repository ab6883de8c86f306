-- Lines of estimates.
use Rattle.std.proofs.Common.{◌≡◌, ◌≢◌, ℕ, ◌+◌, ◌-◌, ◌*◌, ◌/◌, ◌%◌, ◌^◌, ◌<◌, ◌≤◌, ◌&&◌, Bool, true, false, cond, eqb, nat_le, subst, append-nil, List, [], ◌∷◌, ◌++◌, length, take, drop, get_or, Some, fold, codes, decimal, refl, sym, ap, ◌∙◌, arith, ne_eqb, eq-eqb, append_assoc, length-append, take_at, drop_at}
use Rattle.std.specs.List.{list_all, position_or_len, All}
use Rattle.std.specs.Char.{is_ascii_digit}
use Rattle.std.proofs.lemmas.Fmt.{decimal_by_steps_wide, length-decimal-le_wide}
use Rattle.std.proofs.lemmas.Bool.{leb-true}
use Rattle.std.proofs.lemmas.List.{get_or_append_left, get_or-append_right}
use Rattle.std.proofs.lemmas.List.Elements.{All-head, All-tail, All-append, All-cons}
use Rattle.std.proofs.lemmas.List.Sums.{fold-append, fold_push, position_or_len_is, AllPass-from_list_all}
use Rattle.std.proofs.lemmas.List.Folds.{list_all-append}
use Rattle.sk_model.specs.Numbers.{value_of}
use Rattle.sk_lines.specs.Cutter.{HasNoLf}
use Rattle.sk_lines.specs.Fractions.{fraction_text, estimate_line}
use Rattle.sk_decimal.specs.Decimal.{decimal_of}
use Rattle.sk_decimal.specs.Rounded.{longest_line, short_number, fraction_of, last_word, with_last, rounded_line, rounded}
use Rattle.sk_decimal.proofs.Lines.{line_is}
use Rattle.sk_decimal.proofs.Numbers.{number_is, fraction_read}
use Rattle.sk_decimal.proofs.Passages.{short_line}

-- these digits spell the number
record Spells (n : ℕ) (digits : List ℕ) : Type 0 where
  value : value_of digits ≡ n
  only : list_all is_ascii_digit digits ≡ true
  some : 0 < length digits

digit_passes : (d : ℕ) → d < 10 → is_ascii_digit (48 + d) ≡ true
digit_passes d small = grind arith

spells_one : (n : ℕ) → n < 10 → Spells n ((48 + n) ∷ [])
unfolding value_of
spells_one n small = record { value = omega arith; only = ap (λ (b : Bool). b && true) (digit_passes n small); some = omega arith }

spells_more : (n : ℕ) (digits : List ℕ) → 10 ≤ n → Spells (n / 10) digits → Spells n (digits ++ ((48 + n % 10) ∷ []))
unfolding value_of
spells_more n digits most front =
    let step = λ (value : ℕ) (digit : ℕ). 10 * value + (digit - 48) in
    let before : fold step 0 digits ≡ n / 10 = front.value in
    record {
      value = fold-append step 0 digits ((48 + n % 10) ∷ []) ∙ ap (λ (v : ℕ). 10 * v + (48 + n % 10 - 48)) before ∙ (omega arith);
      only = list_all-append is_ascii_digit digits ((48 + n % 10) ∷ []) ∙ ap (λ (b : Bool). b && (is_ascii_digit (48 + n % 10) && true)) front.only
          ∙ ap (λ (b : Bool). b && true) (digit_passes (n % 10) (omega arith));
      some = omega (arith, front.some, length-append digits ((48 + n % 10) ∷ []));
    }

spells : (n : ℕ) → n < 10 ^ 30 → Spells n (decimal n)
spells n small = decimal_by_steps_wide Spells spells_one spells_more n (omega arith)

is_high : (b : ℕ) → is_ascii_digit b ≡ true → 48 ≤ b
is_high b is = grind arith

digit_at : (n : ℕ) → n < 10 ^ 30 → (k d : ℕ) → k < length (decimal n) → 48 ≤ get_or (decimal n) k d
digit_at n small k d within = is_high (get_or (decimal n) k d) (AllPass-from_list_all is_ascii_digit (decimal n) (spells n small).only k d within)

-- a byte that no digit is
other_byte : (byte : ℕ) → byte < 48 → (n : ℕ) → n < 10 ^ 30 → (k d : ℕ) → k < length (decimal n) → get_or (decimal n) k d ≢ byte
other_byte byte low n small k d within = λ same. absurd (omega (arith, digit_at n small k d within))

read_back : (most n : ℕ) → 0 < most → most ≤ 30 → n < 10 ^ most → n < 10 ^ 30 → Some n ≡ short_number most (decimal n)
read_back most n some few small wide =
    let is = spells n wide in
    ap (λ (m : ℕ). Some m) (sym is.value) ∙ number_is most (decimal n) is.only is.some (length-decimal-le_wide most n some small (omega arith))

clean_by : (bytes : List ℕ) → list_all (λ (b : ℕ). nat_le 11 b) bytes ≡ true → HasNoLf bytes
clean_by bytes high k d within same =
    absurd (omega (arith, leb-true 11 (get_or bytes k d) (AllPass-from_list_all (λ (b : ℕ). nat_le 11 b) bytes high k d within), same))

word_clean : HasNoLf (codes "estimate ")
word_clean = clean_by (codes "estimate ") refl

regroup : (a b c d : List ℕ) → ((a ++ b) ++ c) ++ d ≡ a ++ ((b ++ c) ++ d)
regroup a b c d = ap (λ (l : List ℕ). l ++ d) (append_assoc a b c) ∙ append_assoc a (b ++ c) d

module _ (n d : ℕ) (upper : n < 10 ^ 30) (some : 0 < d) (lower : d < 10 ^ 20) where
  fraction_is : fraction_text n d ≡ decimal n ++ (47 ∷ decimal d)
  unfolding fraction_text
  fraction_is = append_assoc (decimal n) (47 ∷ []) (decimal d)

  fraction_size : length (fraction_text n d) ≤ 51
  fraction_size =
      omega (
        arith,
        ap length fraction_is,
        length-append (decimal n) (47 ∷ decimal d),
        length-decimal-le_wide 30 n (omega arith) upper (omega arith),
        length-decimal-le_wide 20 d (omega arith) lower (omega arith),
      )

  -- no byte of a fraction is a space or LF
  no_byte : (byte : ℕ) → byte < 47 → (k e : ℕ) → k < length (fraction_text n d) → get_or (fraction_text n d) k e ≢ byte
  no_byte byte low =
      subst (λ (l : List ℕ). (k e : ℕ) → k < length l → get_or l k e ≢ byte) (sym fraction_is)
      (All-append (λ (b : ℕ). b ≢ byte) (decimal n) (47 ∷ decimal d) (other_byte byte (omega arith) n upper)
      (All-cons (λ (b : ℕ). b ≢ byte) 47 (decimal d) (λ same. absurd (omega arith)) (other_byte byte (omega arith) d (omega arith))))

  slash_place : length (decimal n) ≡ position_or_len (λ byte. eqb byte 47) (fraction_text n d)
  slash_place =
      sym (ap (position_or_len (λ byte. eqb byte 47)) fraction_is
      ∙ position_or_len_is (λ (byte : ℕ). eqb byte 47) (decimal n ++ (47 ∷ decimal d)) (length (decimal n)) 0 (omega (arith, length-append (decimal n) (47 ∷ decimal d)))
      (λ k below. ap (λ (b : ℕ). eqb b 47) (get_or_append_left (decimal n) (47 ∷ decimal d) 0 k below) ∙ ne_eqb (get_or (decimal n) k 0) 47 (other_byte 47 (omega arith) n upper k 0 below))
      (λ _. eq-eqb (get_or (decimal n ++ (47 ∷ decimal d)) (length (decimal n)) 0) 47 (at_slash)))
    where
      none : length (decimal n) - length (decimal n) ≡ 0
      none = omega arith

      at_slash : get_or (decimal n ++ (47 ∷ decimal d)) (length (decimal n)) 0 ≡ 47
      at_slash = get_or-append_right (decimal n) (47 ∷ decimal d) (length (decimal n)) (length (decimal n)) 0 refl (omega arith) ∙ ap (λ (k : ℕ). get_or (47 ∷ decimal d) k 0) none

  numerator_part : take (length (decimal n)) (fraction_text n d) ≡ decimal n
  numerator_part = ap (take (length (decimal n))) fraction_is ∙ take_at (decimal n) (47 ∷ decimal d) (length (decimal n)) refl

  denominator_part : drop (length (decimal n) + 1) (fraction_text n d) ≡ decimal d
  unfolding fraction_text
  denominator_part = drop_at (decimal n ++ 47 ∷ []) (decimal d) (length (decimal n) + 1) (length-append (decimal n) (47 ∷ []))

  pub fraction_back : Some (n, d) ≡ fraction_of (fraction_text n d)
  fraction_back =
      fraction_read (fraction_text n d) (length (decimal n)) slash_place n d (λ none. absurd (omega (arith, none, some)))
      (read_back 30 n (omega arith) (omega arith) upper upper ∙ ap (short_number 30) (sym numerator_part))
      (read_back 20 d (omega arith) (omega arith) lower (omega arith) ∙ ap (short_number 20) (sym denominator_part))

  -- ---- the last word of a line

  space_step : (before bytes : List ℕ) → All (λ b. b ≢ 32) bytes → fold (λ (w : List ℕ) (byte : ℕ). cond (eqb byte 32) [] (w ++ byte ∷ [])) before bytes ≡ before ++ bytes
  space_step before [] plain = sym (append-nil before)
  space_step before (x ∷ bytes) plain =
      ap (λ (b : Bool). fold (λ (w : List ℕ) (byte : ℕ). cond (eqb byte 32) [] (w ++ byte ∷ [])) (cond b [] (before ++ x ∷ [])) bytes) (ne_eqb x 32 (All-head (λ (b : ℕ). b ≢ 32) x bytes plain))
      ∙ space_step (before ++ x ∷ []) bytes (All-tail (λ (b : ℕ). b ≢ 32) x bytes plain) ∙ append_assoc before (x ∷ []) bytes

  last_is : (front : List ℕ) → last_word ((front ++ 32 ∷ []) ++ fraction_text n d) ≡ fraction_text n d
  unfolding last_word
  last_is front =
      let step = λ (w : List ℕ) (byte : ℕ). cond (eqb byte 32) [] (w ++ byte ∷ []) in
      fold-append step [] (front ++ 32 ∷ []) (fraction_text n d) ∙ ap (λ (w : List ℕ). fold step w (fraction_text n d)) (fold_push step [] front 32)
      ∙ space_step [] (fraction_text n d) (no_byte 32 (omega arith))

  pub line_rounded : (digits : ℕ) (front : List ℕ) → length front + 60 ≤ longest_line
      → rounded_line digits ((front ++ 32 ∷ []) ++ fraction_text n d) ≡ (front ++ 32 ∷ []) ++ decimal_of digits n d
  line_rounded digits front short =
      let head = front ++ 32 ∷ [] in
      let line = head ++ fraction_text n d in
      let size = length-append head (fraction_text n d) in
      let head_size = length-append front (32 ∷ []) in
      let place : length line - length (last_word line) ≡ length head = omega (arith, size, ap length (last_is front)) in
      short_line digits line (omega (arith, size, head_size, fraction_size)) ∙ ap (with_last digits line) (ap fraction_of (last_is front) ∙ sym fraction_back)
      ∙ ap (λ (k : ℕ). take k line ++ decimal_of digits n d) place ∙ ap (λ (l : List ℕ). l ++ decimal_of digits n d) (take_at head (fraction_text n d) (length head) refl)

  -- the line of an estimate after other words
  pub estimate_rounded : (digits : ℕ) (front : List ℕ) → HasNoLf front → length front + 100 ≤ longest_line
      → rounded digits (front ++ estimate_line (n, d)) ≡ front ++ (codes "estimate " ++ decimal_of digits n d ++ codes "\n")
  estimate_rounded digits front plain short =
      let word : List ℕ = codes "estimate" in
      let head : List ℕ = front ++ word in
      let line : List ℕ = (head ++ 32 ∷ []) ++ fraction_text n d in
      let same : head ++ 32 ∷ [] ≡ front ++ codes "estimate " = append_assoc front word (32 ∷ []) in
      let regrouped = λ (end : List ℕ). ap (λ (l : List ℕ). (l ++ end) ++ 10 ∷ []) same ∙ regroup front (codes "estimate ") end (10 ∷ []) in
      let clean : HasNoLf line =
      All-append (λ (b : ℕ). b ≢ 10) (head ++ 32 ∷ []) (fraction_text n d)
      (subst (λ (l : List ℕ). All (λ (b : ℕ). b ≢ 10) l) (sym same) (All-append (λ (b : ℕ). b ≢ 10) front (codes "estimate ") plain word_clean)) (no_byte 10 (omega arith)) in
      sym (ap (rounded digits) (regrouped (fraction_text n d))) ∙ line_is digits line clean
      ∙ ap (λ (l : List ℕ). l ++ 10 ∷ []) (line_rounded digits head (omega (arith, length-append front word, short)))
      ∙ regrouped (decimal_of digits n d)
