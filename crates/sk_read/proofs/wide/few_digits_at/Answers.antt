use Rattle.std.proofs.Common.{◌≡◌, ℕ, true, Some, sym, ap, ◌∙◌}
use Rattle.std.specs.List.{slice_range, list_all}
use Rattle.std.specs.Char.{is_ascii_digit}
use Rattle.sk_read.proofs.Spelling as digits
use Rattle.sk_read.proofs.Lanes as lanes
use Rattle.sk_read.proofs.wide.few_digits_at.Goals as goal

pub returns-then-not-are_digits : goal.returns-then-not-are_digits
returns-then-not-are_digits c =
    let lane = c.lanes_before-lanes in
    digits.spelled_by_other (slice_range c.args.text.now c.args.from c.args.to)
    (sym (lanes.are_digits c.args.text.now lane.result c.args.from c.args.to c.requires.some c.requires.few c.requires.within (λ i. (c.type_inv.text i).fits) lane.ensures) ∙ sym c.are_digits.ensures ∙ c.if-not-are_digits.true)

pub returns : goal.returns
returns c =
    let line = slice_range c.args.text.now c.args.from c.args.to in
    let lane = c.lanes_before-lanes in
    let all : list_all is_ascii_digit line ≡ true =
    sym (lanes.are_digits c.args.text.now lane.result c.args.from c.args.to c.requires.some c.requires.few c.requires.within (λ i. (c.type_inv.text i).fits) lane.ensures) ∙ sym c.are_digits.ensures ∙ c.if-not-are_digits.false in
    ap (λ (n : ℕ). Some n) (c.value_of_lanes.ensures ∙ lanes.value_by_lanes c.args.text.now lane.result c.args.from c.args.to c.requires.some c.requires.few c.requires.within (λ i. (c.type_inv.text i).fits) lane.ensures all)
    ∙ digits.spelled_by_digits line all
