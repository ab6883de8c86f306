-- The numbers that lines spell, and their items.
use Rattle.std.proofs.Common.{◌≡◌, ℕ, ◌+◌, ◌<◌, true, nat_lt, List, [], ◌∷◌, length, map, All, Option, Some, None, IsSome, option_map, unwrap_or, refl, ap, ◌∙◌, arith, lt-ltb}
use Rattle.std.proofs.lemmas.Bool.{false≢true}
use Rattle.std.proofs.lemmas.List.Elements.{All-head, All-tail}
use Rattle.sk_model.specs.Lines.{items_of, filled}
use Rattle.sk_model.specs.Numbers.{number_of}
use Rattle.sk_model.specs.Width.{number_end}
use Rattle.sk_quant.specs.Ranks.{rank_of}
use Rattle.sk_quant.proofs.Orders.{ranks_rise_by_one}
use Rattle.sk_read.specs.Items.{items_by, IsGood}
use Rattle.sk_read.specs.declared.kind.Kind.TheVariants.{Raw}
use Rattle.sk_cli.specs.commands.Quantile.{numbers_in}

one_more : (number : Option ℕ) (items numbers : List ℕ) → IsSome (option_map (λ n. n + 1) number) → items ≡ map (λ n. n + 1) numbers
    → unwrap_or (option_map (λ n. n + 1) number) 0 ∷ items ≡ map (λ n. n + 1) (unwrap_or number 0 ∷ numbers)
one_more None items numbers some same = absurd (false≢true some)
one_more (Some n) items numbers some same = ap (λ (l : List ℕ). (n + 1) ∷ l) same

-- the items of good lines are their numbers, each one more
items_of_numbers : (lines : List (List ℕ)) → All (IsGood Raw) lines → items_by Raw lines ≡ map (λ n. n + 1) (numbers_in lines)
unfolding items_by items_of filled
items_of_numbers [] good = refl
items_of_numbers ([] ∷ lines) good = items_of_numbers lines (All-tail (IsGood Raw) [] lines good)
items_of_numbers ((byte ∷ line) ∷ lines) good =
    let some : 0 < length (byte ∷ line) = omega arith in
    let yes : nat_lt 0 (length (byte ∷ line)) ≡ true = lt-ltb 0 (length (byte ∷ line)) some in
    rw yes (one_more (number_of number_end (byte ∷ line)) (items_by Raw lines) (numbers_in lines) (All-head (IsGood Raw) (byte ∷ line) lines good some) (items_of_numbers lines (All-tail (IsGood Raw) (byte ∷ line) lines good)))

pub ranks_of_numbers : (lines : List (List ℕ)) (x : ℕ) → All (IsGood Raw) lines → rank_of (x + 1) (items_by Raw lines) ≡ rank_of x (numbers_in lines)
ranks_of_numbers lines x good = ap (rank_of (x + 1)) (items_of_numbers lines good) ∙ ranks_rise_by_one x (numbers_in lines)
