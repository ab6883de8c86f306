use Rattle.std.proofs.Common.{◌++◌}
use Rattle.sk_model.specs.Causes.{AppendsPart}
use Rattle.sk_lines.specs.Fractions.{estimate_line}
use Rattle.sk_report.specs.Texts.{alarm_lines}
use Rattle.sk_report.proofs.Fronts.{part_longer, part_behind, on_err, on_err_then}
use Rattle.sk_serve.specs.Texts.{session_lines}
use Rattle.sk_serve.proofs.text.write_served.Goals as goal

pub returns-in_err-write_sessions-clause-part : goal.returns-in_err-write_sessions-clause-part
returns-in_err-write_sessions-clause-part g c =
    on_err _ _ (part_longer _ _ (session_lines 0 c.args.ends.now) (alarm_lines c.args.gone ++ estimate_line c.args.estimate) c.in_err-write_sessions.ensures.part)

pub returns-in_err-write_alarms-clause-part : goal.returns-in_err-write_alarms-clause-part
returns-in_err-write_alarms-clause-part g c =
    on_err _ _ (part_behind _ _ _ (session_lines 0 c.args.ends.now) (alarm_lines c.args.gone ++ estimate_line c.args.estimate) c.in_ok-write_sessions.ensures.ok
    (part_longer _ _ (alarm_lines c.args.gone) (estimate_line c.args.estimate) c.in_err-write_alarms.ensures.part))

pub returns-clause-part : goal.returns-clause-part
returns-clause-part g c =
    on_err_then c.write_estimate.result
    (AppendsPart (g.O.Sink.written c.write_alarms.new.out) (g.O.Sink.written c.write_estimate.new.out) (estimate_line c.args.estimate)) _
    (λ part. part_behind _ _ _ (session_lines 0 c.args.ends.now) (alarm_lines c.args.gone ++ estimate_line c.args.estimate) c.in_ok-write_sessions.ensures.ok
    (part_behind _ _ _ (alarm_lines c.args.gone) (estimate_line c.args.estimate) c.in_ok-write_alarms.ensures.ok part))
    c.write_estimate.ensures.part
