use Rattle.std.proofs.Common.{◌++◌, codes, decimal, Some}
use Rattle.sk_model.specs.Causes.{AppendsPart}
use Rattle.sk_count.specs.Texts.{made_line}
use Rattle.sk_report.proofs.Fronts.{part_longer, part_behind, on_err, on_err_then}
use Rattle.sk_count.proofs.text.write_lines_made.Goals as goal

pub returns-in_err-write_all-clause-part : goal.returns-in_err-write_all-clause-part
returns-in_err-write_all-clause-part g c =
    on_err _ _ (part_longer _ _ (codes "made ") (decimal c.args.lines ++ codes "\n") c.in_err-write_all.ensures.err)

pub returns-in_err-write_number-clause-part : goal.returns-in_err-write_number-clause-part
returns-in_err-write_number-clause-part g c =
    on_err _ _ (part_behind _ _ _ (codes "made ") (decimal c.args.lines ++ codes "\n") c.in_ok-write_all.ensures.ok
    (part_longer _ _ (decimal c.args.lines) (codes "\n") c.in_err-write_number.ensures.part))

pub returns-clause-part : goal.returns-clause-part
returns-clause-part g c =
    on_err_then c.write_all-2.result
    (AppendsPart (g.O.Sink.written c.write_number.new.out) (g.O.Sink.written c.write_all-2.new.out) (codes "\n"))
    (AppendsPart (g.O.Sink.written c.args.out.now) (g.O.Sink.written c.write_all-2.new.out) (made_line (Some c.args.lines)))
    (λ part. part_behind _ _ _ (codes "made ") (decimal c.args.lines ++ codes "\n") c.in_ok-write_all.ensures.ok
    (part_behind _ _ _ (decimal c.args.lines) (codes "\n") c.in_ok-write_number.ensures.ok part))
    c.write_all-2.ensures.err
