-- The lines of the text that is made.
use Rattle.std.proofs.Common.{◌≡◌, ℕ, zero, suc, ◌+◌, ◌*◌, ◌^◌, ◌<◌, ◌≤◌, Bool, cond, nat_lt, All, IsSome, get_or, filter, unwrap_or, option_map, lt-ltb, List, [], ◌∷◌, ◌++◌, length, map, decimal, Option, Some, refl, sym, ap, ◌∙◌, subst, arith, append_assoc, length-append}
use Rattle.std.proofs.lemmas.List.{length-map}
use Rattle.std.specs.List.{range_with_len}
use Rattle.std.proofs.lemmas.Fmt.{decimal_nonempty}
use Rattle.std.proofs.lemmas.List.Elements.{All-map}
use Rattle.std.proofs.lemmas.List.FromFn.{length-map-range_with_len}
use Rattle.rand_chacha.specs.Block.{block_word}
use Rattle.sk_model.specs.Lines.{lines_of, filled, items_of}
use Rattle.sk_model.specs.Numbers.{number_of}
use Rattle.sk_model.specs.Width.{number_end}
use Rattle.sk_model.proofs.Lines.{first_line, lines_of_nothing}
use Rattle.sk_make.specs.Made.{word_of, made_number, made_end, line_of, numbers_from, text_of}
use Rattle.sk_make.proofs.Spelling.{digits_have_no_lf, digits_stay, digits_are_few, digits_are_read}

word_is_small : (key place : ℕ) → word_of key place < 2 ^ 32
unfolding word_of block_word
word_is_small key place = omega arith

pub number_is_small : (key j : ℕ) → made_number key j < made_end
unfolding made_number
number_is_small key j = omega (arith, word_is_small key (2 * j), word_is_small key (2 * j + 1))

-- ---- one number after another

none_made : (key j : ℕ) → numbers_from key j 0 ≡ []
unfolding numbers_from
none_made key j = refl

one_made : (key j n : ℕ) → numbers_from key j (suc n) ≡ made_number key j ∷ numbers_from key (j + 1) n
unfolding numbers_from
one_made key j n = refl

pub no_text : text_of [] ≡ []
unfolding text_of
no_text = refl

one_line : (number : ℕ) (numbers : List ℕ) → text_of (number ∷ numbers) ≡ line_of number ++ text_of numbers
unfolding text_of
one_line number numbers = refl

-- nothing is due, so no text
pub text_is_over : (key j n : ℕ) → n ≡ 0 → text_of (numbers_from key j n) ≡ []
text_is_over key j n none = ap (λ (m : ℕ). text_of (numbers_from key j m)) none ∙ ap text_of (none_made key j) ∙ no_text

-- what is due begins with a line
pub text_begins : (key j n m : ℕ) → n ≡ m + 1 → text_of (numbers_from key j n) ≡ line_of (made_number key j) ++ text_of (numbers_from key (j + 1) m)
text_begins key j n m is =
    let more : n ≡ suc m = omega (arith, is) in
    ap (λ (k : ℕ). text_of (numbers_from key j k)) more ∙ ap text_of (one_made key j m) ∙ one_line (made_number key j) (numbers_from key (j + 1) m)

-- ---- its lines

lines_begin : (number : ℕ) (rest : List ℕ) → number < made_end → lines_of (line_of number ++ rest) ≡ decimal number ∷ lines_of rest
lines_begin number rest small =
    let fits : number < 2 ^ 64 = omega arith in
    ap lines_of (append_assoc (decimal number) (10 ∷ []) rest) ∙ first_line (decimal number) rest (digits_have_no_lf number fits)
    ∙ ap (λ (line : List ℕ). line ∷ lines_of rest) (digits_stay number fits)

lines_from : (n key j : ℕ) → lines_of (text_of (numbers_from key j n)) ≡ map decimal (numbers_from key j n)
lines_from zero key j = ap lines_of (text_is_over key j 0 refl) ∙ lines_of_nothing ∙ sym (ap (map decimal) (none_made key j))
lines_from (suc n) key j =
    ap lines_of (text_begins key j (suc n) n (omega arith)) ∙ lines_begin (made_number key j) (text_of (numbers_from key (j + 1) n)) (number_is_small key j)
    ∙ ap (λ (lines : List (List ℕ)). decimal (made_number key j) ∷ lines) (lines_from n key (j + 1))
    ∙ sym (ap (map decimal) (one_made key j n))

pub lines_are : (n key : ℕ) → lines_of (text_of (numbers_from key 0 n)) ≡ map decimal (numbers_from key 0 n)
lines_are n key = lines_from n key 0

count_from : (key j n : ℕ) → length (numbers_from key j n) ≡ n
unfolding numbers_from
count_from key j n = length-map-range_with_len (made_number key) j n

pub count_is : (n key : ℕ) → length (lines_of (text_of (numbers_from key 0 n))) ≡ n
count_is n key = ap length (lines_are n key) ∙ length-map (numbers_from key 0 n) decimal ∙ count_from key 0 n

read_from : (n key j : ℕ) → map (number_of number_end) (map decimal (numbers_from key j n)) ≡ map (λ number. Some number) (numbers_from key j n)
read_from zero key j = ap (λ (numbers : List ℕ). map (number_of number_end) (map decimal numbers)) (none_made key j) ∙ sym (ap (map (λ (number : ℕ). Some number)) (none_made key j))
read_from (suc n) key j =
    ap (λ (numbers : List ℕ). map (number_of number_end) (map decimal numbers)) (one_made key j n)
    ∙ ap (λ (first : Option ℕ). first ∷ map (number_of number_end) (map decimal (numbers_from key (j + 1) n))) (digits_are_read (made_number key j) (number_is_small key j))
    ∙ ap (λ (rest : List (Option ℕ)). Some (made_number key j) ∷ rest) (read_from n key (j + 1))
    ∙ sym (ap (map (λ (number : ℕ). Some number)) (one_made key j n))

pub read_are : (n key : ℕ) → map (number_of number_end) (lines_of (text_of (numbers_from key 0 n))) ≡ map (λ number. Some number) (numbers_from key 0 n)
read_are n key = ap (map (number_of number_end)) (lines_are n key) ∙ read_from n key 0

size_from : (n key j : ℕ) → length (text_of (numbers_from key j n)) ≤ 16 * n
size_from zero key j = omega (arith, ap length (text_is_over key j 0 refl))
size_from (suc n) key j =
    omega (
      arith,
      ap length (text_begins key j (suc n) n (omega arith)),
      length-append (line_of (made_number key j)) (text_of (numbers_from key (j + 1) n)),
      length-append (decimal (made_number key j)) (10 ∷ []),
      digits_are_few (made_number key j) (number_is_small key j),
      size_from n key (j + 1),
    )

pub size_is : (n key : ℕ) → length (text_of (numbers_from key 0 n)) ≤ 16 * n
size_is n key = size_from n key 0

-- ---- what the lines are worth

small_numbers : (key j n : ℕ) → All (λ x. x < made_end) (numbers_from key j n)
unfolding numbers_from
small_numbers key j n = All-map (λ (x : ℕ). x < made_end) (made_number key) (range_with_len j n) (λ k d below. number_is_small key (get_or (range_with_len j n) k d))

short_digits : (numbers : List ℕ) → All (λ x. x < made_end) numbers → All (λ line. length line ≤ 15) (map decimal numbers)
short_digits numbers small = All-map (λ (line : List ℕ). length line ≤ 15) decimal numbers (λ k d below. digits_are_few (get_or numbers k d) (small k d below))

-- the item of a line, if it spells a number
abbrev item_read : List ℕ → Option ℕ
item_read line = option_map (λ number. number + 1) (number_of number_end line)

read_digits : (numbers : List ℕ) → All (λ x. x < made_end) numbers → All (λ line. IsSome (item_read line)) (map decimal numbers)
read_digits numbers small =
    All-map (λ (line : List ℕ). IsSome (item_read line)) decimal numbers (λ k d below. some_of (number_of number_end (decimal (get_or numbers k d))) (get_or numbers k d) (digits_are_read (get_or numbers k d) (small k d below)))
  where
    some_of : (o : Option ℕ) (x : ℕ) → o ≡ Some x → IsSome (option_map (λ number. number + 1) o)
    some_of o x is = subst (λ (p : Option ℕ). IsSome (option_map (λ number. number + 1) p)) (sym is) refl

-- no line is long
pub lines_are_short : (n key : ℕ) → All (λ line. length line ≤ 15) (lines_of (text_of (numbers_from key 0 n)))
lines_are_short n key = subst (λ (lines : List (List ℕ)). All (λ (line : List ℕ). length line ≤ 15) lines) (sym (lines_are n key)) (short_digits (numbers_from key 0 n) (small_numbers key 0 n))

-- each line has an item
pub lines_are_read : (n key : ℕ) → All (λ line. IsSome (option_map (λ number. number + 1) (number_of number_end line))) (lines_of (text_of (numbers_from key 0 n)))
lines_are_read n key = subst (λ (lines : List (List ℕ)). All (λ (line : List ℕ). IsSome (item_read line)) lines) (sym (lines_are n key)) (read_digits (numbers_from key 0 n) (small_numbers key 0 n))

item_first : (item : List ℕ → ℕ) (line : List ℕ) (lines : List (List ℕ)) → 0 < length line → items_of item (line ∷ lines) ≡ item line ∷ items_of item lines
unfolding items_of filled
item_first item line lines some =
    let rest : List (List ℕ) = filter (λ (l : List ℕ). nat_lt 0 (length l)) lines in
    ap (λ (b : Bool). map item (cond b (line ∷ rest) rest)) (lt-ltb 0 (length line) some)

no_items : (item : List ℕ → ℕ) → items_of item [] ≡ []
unfolding items_of filled
no_items item = refl

abbrev item_or : List ℕ → ℕ
item_or line = unwrap_or (item_read line) 0

items_from : (n key j : ℕ) → items_of item_or (map decimal (numbers_from key j n)) ≡ map (λ number. number + 1) (numbers_from key j n)
items_from zero key j =
    ap (λ (numbers : List ℕ). items_of item_or (map decimal numbers)) (none_made key j) ∙ no_items item_or
    ∙ sym (ap (map (λ (number : ℕ). number + 1)) (none_made key j))
items_from (suc n) key j =
    let number : ℕ = made_number key j in
    let small = number_is_small key j in
    ap (λ (numbers : List ℕ). items_of item_or (map decimal numbers)) (one_made key j n)
    ∙ item_first item_or (decimal number) (map decimal (numbers_from key (j + 1) n)) (decimal_nonempty number (omega (arith, small)))
    ∙ ap (λ (o : Option ℕ). unwrap_or (option_map (λ (m : ℕ). m + 1) o) 0 ∷ items_of item_or (map decimal (numbers_from key (j + 1) n))) (digits_are_read number small)
    ∙ ap (λ (items : List ℕ). (number + 1) ∷ items) (items_from n key (j + 1))
    ∙ sym (ap (map (λ (m : ℕ). m + 1)) (one_made key j n))

-- the items of the text are its numbers, each one more
pub items_are : (n key : ℕ) → items_of (λ line. unwrap_or (option_map (λ number. number + 1) (number_of number_end line)) 0) (lines_of (text_of (numbers_from key 0 n)))
    ≡ map (λ number. number + 1) (numbers_from key 0 n)
items_are n key = ap (items_of item_or) (lines_are n key) ∙ items_from n key 0
