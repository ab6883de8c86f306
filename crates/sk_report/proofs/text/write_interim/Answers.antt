use Rattle.sk_model.specs.Causes.{AppendsPart}
use Rattle.sk_report.specs.Texts.{interim_line, alarm_lines}
use Rattle.sk_report.proofs.Fronts.{part_longer, part_behind, on_err, on_err_then}
use Rattle.sk_report.proofs.text.write_interim.Goals as goal

pub returns-in_err-write_interim_line-clause-part : goal.returns-in_err-write_interim_line-clause-part
returns-in_err-write_interim_line-clause-part g c = on_err _ _ (part_longer _ _ (interim_line c.args.units c.args.estimate) (alarm_lines c.args.gone) c.in_err-write_interim_line.ensures.part)

pub returns-clause-part : goal.returns-clause-part
returns-clause-part g c = on_err_then c.write_alarms.result
    (AppendsPart (g.O.Sink.written c.write_interim_line.new.out) (g.O.Sink.written c.write_alarms.new.out) (alarm_lines c.args.gone)) _
    (λ part. part_behind _ _ _ (interim_line c.args.units c.args.estimate) (alarm_lines c.args.gone) c.in_ok-write_interim_line.ensures.ok part)
    c.write_alarms.ensures.part
