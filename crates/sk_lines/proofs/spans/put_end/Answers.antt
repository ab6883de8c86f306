use Rattle.std.proofs.Common.{arith}
use Rattle.sk_lines.proofs.Ends.{put_holds}
use Rattle.sk_lines.proofs.spans.put_end.Goals as goal

pub returns-clause-holds : goal.returns-clause-holds
returns-clause-holds c = λ bytes from holds.
    let mark = c.lowest_mark-mark.ensures in
    let rest = c.without_mark.ensures in
    put_holds bytes from c.args.count c.args.scanned c.args.marks c.lowest_mark-mark.result c.without_mark.result c.one_if_any.result c.args.spans.now _
    (omega (arith, c.told-spans, c.requires.room)) c.requires.block (omega arith) c.one_if_any.ensures.none c.one_if_any.ensures.any mark.set mark.below rest.kept rest.cleared rest.no_more rest.none holds
