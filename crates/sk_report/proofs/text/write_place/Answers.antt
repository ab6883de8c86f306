use Rattle.std.proofs.Common.{List, ℕ, OnErr, subst}
use Rattle.sk_model.specs.Causes.{AppendsPart}
use Rattle.sk_report.proofs.MaskLines.{lit_line}
use Rattle.sk_report.proofs.text.write_place.Goals as goal

pub returns-then-gone-place-eq1-clause-part : goal.returns-then-gone-place-eq1-clause-part
returns-then-gone-place-eq1-clause-part g c =
    subst (λ (l : List ℕ). OnErr c.write_alarm.result (AppendsPart (g.O.Sink.written c.args.out.now) (g.O.Sink.written c.write_alarm.new.out) l))
    (lit_line c.args.gone c.args.place c.from.result c.if-gone-place-eq1.true c.from.ensures) c.write_alarm.ensures.part
