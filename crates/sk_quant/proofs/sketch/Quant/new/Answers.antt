use Rattle.std.proofs.Common.{◌≡◌, [], arith, sym, subst}
use Rattle.sk_quant.specs.Quantiles.{Quantiles, IsSketchOf, IsWholeQuantiles}
use Rattle.sk_quant.specs.Stored.{shown_by}
use Rattle.sk_quant.proofs.Sketches.{empty, whole_empty, empty_is_of, shown_empty}
use Rattle.sk_quant.proofs.sketch.Quant.new.Goals as goal

begins : (c : goal.After-new) → shown_by c.args.k 0 c.in_ok-with_capacity.field-0 c.in_ok-empty_levels.field-0 c.new.result ≡ empty c.args.k c.args.key
begins c = shown_empty c.args.k c.args.key c.in_ok-with_capacity.field-0 c.in_ok-empty_levels.field-0 c.new.result c.in_ok-with_capacity.ensures.items c.in_ok-empty_levels.ensures.levels c.new.ensures

pub invariant_of-result : goal.invariant_of-result
invariant_of-result c = record {
  whole = subst (λ (s : Quantiles). IsWholeQuantiles s) (sym (begins c)) (whole_empty c.args.k c.args.key c.requires.least c.requires.most c.requires.key);
  base_room = omega (arith, c.in_ok-with_capacity.ensures.capacity);
  level_rooms = c.in_ok-empty_levels.ensures.rooms;
}

pub returns-clause-empty : goal.returns-clause-empty
returns-clause-empty c = subst (λ (s : Quantiles). IsSketchOf s []) (sym (begins c)) (empty_is_of c.args.k c.args.key)
