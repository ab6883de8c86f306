use Rattle.std.proofs.Common.{◌≡◌, ◌+◌, ◌*◌, ◌/◌, ◌<◌, length, arith, get_or, ◌∙◌}
use Rattle.std.proofs.lemmas.List.{get_or_read}
use Rattle.sk_quant.proofs.Halves.{halving_goes_on, halving_ends}
use Rattle.sk_quant.proofs.compaction.halve.Goals as goal

pub halve-preserved : goal.halve-preserved
halve-preserved c =
    let within : 2 * c.halve.i + c.args.coin < length c.halve.items.items = omega (arith, c.halve.invariant.halving.len) in
    let z : c.index.result.now ≡ get_or c.halve.items.items (2 * c.halve.i + c.args.coin) 0 = get_or_read c.halve.items.items _ _ within c.index.ensures 0 in
    record {
      halving = halving_goes_on c.args.coin c.args.items.now.items c.halve.items.items c.halve.i c.index.result.now c.requires (omega arith) z c.halve.invariant.halving;
      room = c.halve.invariant.room;
    }

pub returns-clause-items : goal.returns-clause-items
returns-clause-items c =
    c.truncate.ensures.items
    ∙ halving_ends c.args.coin c.args.items.now.items c.halve.items.items c.halve.i (c.len-half.result / 2) (omega arith) (omega arith) c.halve.invariant.halving
