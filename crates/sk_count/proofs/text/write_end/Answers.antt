use Rattle.sk_model.specs.Causes.{AppendsPart}
use Rattle.sk_lines.specs.Fractions.{estimate_line}
use Rattle.sk_count.specs.Texts.{made_line}
use Rattle.sk_report.proofs.Fronts.{part_longer, part_behind, on_err, on_err_then}
use Rattle.sk_count.proofs.text.write_end.Goals as goal

pub returns-in_err-write_made-clause-part : goal.returns-in_err-write_made-clause-part
returns-in_err-write_made-clause-part g c = on_err _ _ (part_longer _ _ (made_line c.args.made) (estimate_line c.args.estimate) c.in_err-write_made.ensures.part)

pub returns-clause-part : goal.returns-clause-part
returns-clause-part g c = on_err_then c.write_estimate.result
    (AppendsPart (g.O.Sink.written c.write_made.new.out) (g.O.Sink.written c.write_estimate.new.out) (estimate_line c.args.estimate)) _
    (λ part. part_behind _ _ _ (made_line c.args.made) (estimate_line c.args.estimate) c.in_ok-write_made.ensures.ok part)
    c.write_estimate.ensures.part
