use Rattle.std.proofs.Common.{List, ℕ, codes, ◌++◌}
use Rattle.sk_model.specs.Causes.{AppendsPart}
use Rattle.sk_cli.specs.Fault.{unit_message}
use Rattle.sk_report.proofs.Fronts.{part_longer, part_behind, on_err, on_err_then}
use Rattle.sk_cli.proofs.fault.tell_bad_image.Goals as goal

pub returns-in_err-tell_unit-clause-part : goal.returns-in_err-tell_unit-clause-part
returns-in_err-tell_unit-clause-part g c =
    let one : List ℕ = (unit_message (codes "file ") c.args.file (codes " ")) in
    let two : List ℕ = (unit_message (codes "line ") c.args.line (codes ": bad image\n")) in
    on_err _ _ (part_longer _ _ one two c.in_err-tell_unit.ensures.part)

pub returns-clause-part : goal.returns-clause-part
returns-clause-part g c =
    let one : List ℕ = (unit_message (codes "file ") c.args.file (codes " ")) in
    let two : List ℕ = (unit_message (codes "line ") c.args.line (codes ": bad image\n")) in
    let old = g.E.Sink.written c.args.err.now in
    let mid = g.E.Sink.written c.tell_unit.new.err in
    let new = g.E.Sink.written c.tell_unit-2.new.err in
    on_err_then c.tell_unit-2.result (AppendsPart mid new two) (AppendsPart old new (one ++ two)) (λ part. part_behind old mid new one two c.in_ok-tell_unit.ensures.ok part) c.tell_unit-2.ensures.part
