use Rattle.std.proofs.Common.{codes, decimal}
use Rattle.sk_model.specs.Causes.{AppendsPart}
use Rattle.sk_report.proofs.Fronts.{part_longer, part_behind, on_err, on_err_then}
use Rattle.sk_serve.proofs.text.write_long.Goals as goal

pub returns-in_err-write_all-clause-part : goal.returns-in_err-write_all-clause-part
returns-in_err-write_all-clause-part g c = on_err _ _ (part_longer _ _ (codes "long ") (decimal c.args.line) c.in_err-write_all.ensures.err)

pub returns-clause-part : goal.returns-clause-part
returns-clause-part g c = on_err_then c.write_number.result
    (AppendsPart (g.O.Sink.written c.write_all.new.out) (g.O.Sink.written c.write_number.new.out) (decimal c.args.line)) _
    (λ part. part_behind _ _ _ (codes "long ") (decimal c.args.line) c.in_ok-write_all.ensures.ok part)
    c.write_number.ensures.part
