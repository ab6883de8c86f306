use Rattle.std.proofs.Common.{◌++◌, codes}
use Rattle.sk_model.specs.Causes.{AppendsPart}
use Rattle.sk_report.proofs.Fronts.{part_longer, part_behind, on_err, on_err_then}
use Rattle.sk_tell.specs.Texts.{labelled}
use Rattle.sk_tally.specs.Texts.{count_line}
use Rattle.sk_tally.proofs.line.write_line.Goals as goal

pub returns-in_err-write_labelled-clause-part : goal.returns-in_err-write_labelled-clause-part
returns-in_err-write_labelled-clause-part g c =
    on_err _ _ (part_longer _ _ (labelled (codes "n ") c.args.tally.n) (labelled (codes " item ") c.args.tally.least ++ codes "\n") c.in_err-write_labelled.ensures.part)

pub returns-in_err-write_labelled-2-clause-part : goal.returns-in_err-write_labelled-2-clause-part
returns-in_err-write_labelled-2-clause-part g c =
    on_err _ _ (part_behind _ _ _ (labelled (codes "n ") c.args.tally.n) (labelled (codes " item ") c.args.tally.least ++ codes "\n") c.in_ok-write_labelled.ensures.ok
    (part_longer _ _ (labelled (codes " item ") c.args.tally.least) (codes "\n") c.in_err-write_labelled-2.ensures.part))

pub returns-clause-part : goal.returns-clause-part
returns-clause-part g c =
    on_err_then c.write_all.result
    (AppendsPart (g.O.Sink.written c.write_labelled-2.new.out) (g.O.Sink.written c.write_all.new.out) (codes "\n"))
    (AppendsPart (g.O.Sink.written c.args.out.now) (g.O.Sink.written c.write_all.new.out) (count_line c.args.tally.n c.args.tally.least))
    (λ part. part_behind _ _ _ (labelled (codes "n ") c.args.tally.n) (labelled (codes " item ") c.args.tally.least ++ codes "\n") c.in_ok-write_labelled.ensures.ok
    (part_behind _ _ _ (labelled (codes " item ") c.args.tally.least) (codes "\n") c.in_ok-write_labelled-2.ensures.ok part))
    c.write_all.ensures.err
