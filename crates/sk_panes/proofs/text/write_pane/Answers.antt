use Rattle.std.proofs.Common.{◌++◌, codes, decimal}
use Rattle.sk_model.specs.Causes.{AppendsPart}
use Rattle.sk_lines.specs.Fractions.{estimate_line}
use Rattle.sk_report.proofs.Fronts.{part_longer, part_behind, on_err, on_err_then}
use Rattle.sk_panes.proofs.text.write_pane.Goals as goal

pub returns-in_err-write_all-clause-part : goal.returns-in_err-write_all-clause-part
returns-in_err-write_all-clause-part g c =
    on_err _ _ (part_longer _ _ (codes "pane ") (decimal c.args.c ++ (codes " " ++ estimate_line c.args.estimate)) c.in_err-write_all.ensures.err)

pub returns-in_err-write_number-clause-part : goal.returns-in_err-write_number-clause-part
returns-in_err-write_number-clause-part g c =
    let rest = codes " " ++ estimate_line c.args.estimate in
    on_err _ _ (part_behind _ _ _ (codes "pane ") (decimal c.args.c ++ rest) c.in_ok-write_all.ensures.ok
    (part_longer _ _ (decimal c.args.c) rest c.in_err-write_number.ensures.part))

pub returns-in_err-write_all-2-clause-part : goal.returns-in_err-write_all-2-clause-part
returns-in_err-write_all-2-clause-part g c =
    let rest = codes " " ++ estimate_line c.args.estimate in
    on_err _ _ (part_behind _ _ _ (codes "pane ") (decimal c.args.c ++ rest) c.in_ok-write_all.ensures.ok
    (part_behind _ _ _ (decimal c.args.c) rest c.in_ok-write_number.ensures.ok
    (part_longer _ _ (codes " ") (estimate_line c.args.estimate) c.in_err-write_all-2.ensures.err)))

pub returns-clause-part : goal.returns-clause-part
returns-clause-part g c =
    let last = estimate_line c.args.estimate in
    let rest = codes " " ++ last in
    on_err_then c.write_estimate.result (AppendsPart (g.O.Sink.written c.write_all-2.new.out) (g.O.Sink.written c.write_estimate.new.out) last) _
    (λ part. part_behind _ _ _ (codes "pane ") (decimal c.args.c ++ rest) c.in_ok-write_all.ensures.ok
    (part_behind _ _ _ (decimal c.args.c) rest c.in_ok-write_number.ensures.ok
    (part_behind _ _ _ (codes " ") last c.in_ok-write_all-2.ensures.ok part)))
    c.write_estimate.ensures.part
