use Rattle.std.proofs.Common.{◌≡◌, ◌*◌, ◌+◌, ℕ, Some, sym, ap, ◌∙◌, arith}
use Rattle.sk_read.specs.Wide.{joined}
use Rattle.sk_read.proofs.Lanes as lanes
use Rattle.sk_read.proofs.wide.many_digits_at.Goals as goal

pub returns-then-not-are_digits : goal.returns-then-not-are_digits
returns-then-not-are_digits c =
    lanes.both_refused c.args.text.now c.lanes_before-high.result c.lanes_before-low.result c.args.from c.args.to c.requires.many c.requires.few c.requires.within (λ i. (c.type_inv.text i).fits) c.lanes_before-high.ensures c.lanes_before-low.ensures
    (sym (lanes.both_small 16 c.lanes_before-high.result c.lanes_before-low.result c.lanes_before-high.ensures.wide c.lanes_before-low.ensures.wide) ∙ sym c.are_digits.ensures ∙ c.if-not-are_digits.true)

pub value_of_last_lanes-requires-clause-digits : goal.value_of_last_lanes-requires-clause-digits
value_of_last_lanes-requires-clause-digits c =
    (lanes.each_of_both c.lanes_before-high.result c.lanes_before-low.result c.lanes_before-high.ensures.wide c.lanes_before-low.ensures.wide (sym c.are_digits.ensures ∙ c.if-not-are_digits.false)).0

pub value_of_lanes-requires : goal.value_of_lanes-requires
value_of_lanes-requires c =
    (lanes.each_of_both c.lanes_before-high.result c.lanes_before-low.result c.lanes_before-high.ensures.wide c.lanes_before-low.ensures.wide (sym c.are_digits.ensures ∙ c.if-not-are_digits.false)).1

pub overflow_mul-result : goal.overflow_mul-result
overflow_mul-result c =
    let high = lanes.high_below c.args.text.now c.lanes_before-high.result c.lanes_before-low.result c.args.from c.args.to c.requires.many c.requires.few c.requires.within (λ i. (c.type_inv.text i).fits) c.lanes_before-high.ensures c.lanes_before-low.ensures
    (sym (lanes.both_small 16 c.lanes_before-high.result c.lanes_before-low.result c.lanes_before-high.ensures.wide c.lanes_before-low.ensures.wide) ∙ sym c.are_digits.ensures ∙ c.if-not-are_digits.false) in
    omega (arith, c.value_of_last_lanes.ensures, high)

pub overflow_add-result : goal.overflow_add-result
overflow_add-result c =
    let high = lanes.high_below c.args.text.now c.lanes_before-high.result c.lanes_before-low.result c.args.from c.args.to c.requires.many c.requires.few c.requires.within (λ i. (c.type_inv.text i).fits) c.lanes_before-high.ensures c.lanes_before-low.ensures
    (sym (lanes.both_small 16 c.lanes_before-high.result c.lanes_before-low.result c.lanes_before-high.ensures.wide c.lanes_before-low.ensures.wide) ∙ sym c.are_digits.ensures ∙ c.if-not-are_digits.false) in
    let low = lanes.low_below c.args.text.now c.lanes_before-high.result c.lanes_before-low.result c.args.from c.args.to c.requires.many c.requires.few c.requires.within (λ i. (c.type_inv.text i).fits) c.lanes_before-high.ensures c.lanes_before-low.ensures
    (sym (lanes.both_small 16 c.lanes_before-high.result c.lanes_before-low.result c.lanes_before-high.ensures.wide c.lanes_before-low.ensures.wide) ∙ sym c.are_digits.ensures ∙ c.if-not-are_digits.false) in
    omega (arith, c.value_of_last_lanes.ensures, c.value_of_lanes.ensures, high, low)

pub returns : goal.returns
returns c =
    let is : c.value_of_last_lanes.result * 10000000000000000 + c.value_of_lanes.result ≡ joined 10 c.lanes_before-high.result * 10000000000000000 + joined 10 c.lanes_before-low.result =
    omega (arith, c.value_of_last_lanes.ensures, c.value_of_lanes.ensures) in
    ap (λ (n : ℕ). Some n) is
    ∙ lanes.both_spelled c.args.text.now c.lanes_before-high.result c.lanes_before-low.result c.args.from c.args.to c.requires.many c.requires.few c.requires.within (λ i. (c.type_inv.text i).fits) c.lanes_before-high.ensures c.lanes_before-low.ensures
    (sym (lanes.both_small 16 c.lanes_before-high.result c.lanes_before-low.result c.lanes_before-high.ensures.wide c.lanes_before-low.ensures.wide) ∙ sym c.are_digits.ensures ∙ c.if-not-are_digits.false)
