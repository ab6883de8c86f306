use Rattle.std.proofs.Common.{decimal}
use Rattle.sk_model.specs.Causes.{AppendsPart}
use Rattle.sk_report.proofs.Fronts.{part_behind, on_err_then}
use Rattle.sk_tell.specs.Texts.{labelled}
use Rattle.sk_tell.proofs.text.write_labelled.Goals as goal

pub returns-clause-part : goal.returns-clause-part
returns-clause-part g c =
    on_err_then c.write_number.result
    (AppendsPart (g.O.Sink.written c.write_all.new.out) (g.O.Sink.written c.write_number.new.out) (decimal c.args.number))
    (AppendsPart (g.O.Sink.written c.args.out.now) (g.O.Sink.written c.write_number.new.out) (labelled c.args.label.now c.args.number))
    (λ part. part_behind _ _ _ c.args.label.now (decimal c.args.number) c.in_ok-write_all.ensures.ok part)
    c.write_number.ensures.part
