use Rattle.std.proofs.Common.{List, ℕ, codes, ◌++◌}
use Rattle.sk_model.specs.Causes.{AppendsPart}
use Rattle.sk_cli.specs.Fault.{stamp_message}
use Rattle.sk_report.proofs.Fronts.{part_longer, part_behind, on_err, on_err_then}
use Rattle.sk_cli.proofs.fault.tell_mixed.Goals as goal

pub returns-in_err-write_all-clause-part : goal.returns-in_err-write_all-clause-part
returns-in_err-write_all-clause-part g c =
    let one : List ℕ = stamp_message c.args.left (codes " and ") in
    let two : List ℕ = stamp_message c.args.right (codes "\n") in
    on_err _ _ (part_longer _ _ (codes "mixed: ") (one ++ two) c.in_err-write_all.ensures.err)

pub returns-in_err-tell_stamp-clause-part : goal.returns-in_err-tell_stamp-clause-part
returns-in_err-tell_stamp-clause-part g c =
    let one : List ℕ = stamp_message c.args.left (codes " and ") in
    let two : List ℕ = stamp_message c.args.right (codes "\n") in
    let old = g.E.Sink.written c.args.err.now in
    let begun = g.E.Sink.written c.write_all.new.out in
    let new = g.E.Sink.written c.tell_stamp.new.err in
    on_err _ _ (part_behind old begun new (codes "mixed: ") (one ++ two) c.in_ok-write_all.ensures.ok (part_longer begun new one two c.in_err-tell_stamp.ensures.part))

pub returns-clause-part : goal.returns-clause-part
returns-clause-part g c =
    let one : List ℕ = stamp_message c.args.left (codes " and ") in
    let two : List ℕ = stamp_message c.args.right (codes "\n") in
    let old = g.E.Sink.written c.args.err.now in
    let begun = g.E.Sink.written c.write_all.new.out in
    let mid = g.E.Sink.written c.tell_stamp.new.err in
    let new = g.E.Sink.written c.tell_stamp-2.new.err in
    on_err_then c.tell_stamp-2.result (AppendsPart mid new two) (AppendsPart old new (codes "mixed: " ++ (one ++ two)))
    (λ part. part_behind old begun new (codes "mixed: ") (one ++ two) c.in_ok-write_all.ensures.ok (part_behind begun mid new one two c.in_ok-tell_stamp.ensures.ok part)) c.tell_stamp-2.ensures.part
