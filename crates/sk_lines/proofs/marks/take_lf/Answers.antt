use Rattle.std.proofs.Common.{arith}
use Rattle.sk_lines.proofs.Places as places
use Rattle.sk_lines.proofs.marks.take_lf.Goals as goal

pub returns : goal.returns
returns c = λ bytes at known.
    let mark = c.lowest_mark-mark.ensures in
    let rest = c.without_mark.ensures in
    places.takes_lf bytes at c.args.scanned c.args.marks _ c.lowest_mark-mark.result _ (omega (arith, c.requires.block)) known (mark.set c.requires.some) mark.below rest.kept rest.cleared rest.no_more
