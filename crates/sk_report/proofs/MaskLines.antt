-- Lines of the places of a mask, one after another.
use Rattle.std.proofs.Common.{◌≡◌, ℕ, ◌+◌, ◌-◌, ◌/◌, ◌^◌, ◌<◌, if◌then◌else◌, eq-eqb, List, [], ◌++◌, flat_map, refl, sym, ap, ◌∙◌, arith, append-nil, append_assoc}
use Rattle.std.specs.List.{range_with_len}
use Rattle.std.specs.Int.{bit_at}
use Rattle.std.specs.Prelude.{bit_and}
use Rattle.std.proofs.lemmas.Nat.Bits.{shr_and_one}
use Rattle.std.proofs.lemmas.Grind.{flat_map-append}
use Rattle.sk_model.proofs.Lists.{range_split}
use Rattle.sk_watch.specs.Masks.{most_places}
use Rattle.sk_report.specs.Texts.{alarm_line, alarm_at, alarm_lines}

-- the lines of the first so many places
abbrev pub lines_before : ℕ → ℕ → List ℕ
lines_before mask place = flat_map (alarm_at mask) (range_with_len 0 place)

pub before_more : (mask place : ℕ) → lines_before mask (place + 1) ≡ lines_before mask place ++ alarm_at mask place
before_more mask place =
    let here : 0 + place ≡ place = omega arith in
    ap (λ l. flat_map (alarm_at mask) l) (range_split 0 place 1) ∙ flat_map-append (alarm_at mask) (range_with_len 0 place) (range_with_len (0 + place) 1)
    ∙ ap (λ l. lines_before mask place ++ l) (ap (λ k. alarm_at mask k ++ []) here ∙ append-nil (alarm_at mask place))

-- the lines behind a place
abbrev pub lines_behind : ℕ → ℕ → List ℕ
lines_behind mask place = flat_map (alarm_at mask) (range_with_len (0 + (place + 1)) (most_places - (place + 1)))

pub all_split : (mask place : ℕ) → place < most_places → alarm_lines mask ≡ lines_before mask place ++ (alarm_at mask place ++ lines_behind mask place)
unfolding alarm_lines
all_split mask place inside =
    let count : most_places ≡ (place + 1) + (most_places - (place + 1)) = omega arith in
    ap (λ k. flat_map (alarm_at mask) (range_with_len 0 k)) count
    ∙ ap (λ l. flat_map (alarm_at mask) l) (range_split 0 (place + 1) (most_places - (place + 1)))
    ∙ flat_map-append (alarm_at mask) (range_with_len 0 (place + 1)) (range_with_len (0 + (place + 1)) (most_places - (place + 1)))
    ∙ ap (λ l. l ++ lines_behind mask place) (before_more mask place) ∙ append_assoc (lines_before mask place) (alarm_at mask place) (lines_behind mask place)

pub all_lines : (mask : ℕ) → alarm_lines mask ≡ lines_before mask most_places
unfolding alarm_lines
all_lines mask = refl

-- the line of a place that a mask has
pub lit_line : (mask place number : ℕ) → bit_and (mask / 2 ^ place) 1 ≡ 1 → number ≡ place + 1 → alarm_line number ≡ alarm_at mask place
lit_line mask place number lit is = ap (λ n. alarm_line n) is ∙ sym (ap (λ b. if b then alarm_line (place + 1) else []) (eq-eqb (bit_at mask place) 1 (sym (shr_and_one mask place) ∙ lit)))
