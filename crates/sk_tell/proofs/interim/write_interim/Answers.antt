use Rattle.sk_model.specs.Causes.{AppendsPart}
use Rattle.sk_report.specs.Texts.{at_units}
use Rattle.sk_report.proofs.Fronts.{part_longer, part_behind, on_err, on_err_then}
use Rattle.sk_tell.proofs.interim.write_interim.Goals as goal

pub returns-in_err-write_at-clause-part : goal.returns-in_err-write_at-clause-part
returns-in_err-write_at-clause-part g c = λ numbers items gives. on_err _ _ (part_longer _ _ (at_units c.args.units) (g.Q.Line.line c.args.query numbers items) c.in_err-write_at.ensures.part)

pub returns-clause-part : goal.returns-clause-part
returns-clause-part g c = λ numbers items gives. on_err_then c.write.result
    (AppendsPart (g.O.Sink.written c.write_at.new.out) (g.O.Sink.written c.write.new.out) (g.Q.Line.line c.args.query numbers items)) _
    (λ part. part_behind _ _ _ (at_units c.args.units) (g.Q.Line.line c.args.query numbers items) c.in_ok-write_at.ensures.ok part)
    (c.write.ensures.part numbers items gives)
