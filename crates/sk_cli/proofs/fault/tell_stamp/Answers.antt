use Rattle.std.proofs.Common.{List, ℕ, ◌++◌, subst}
use Rattle.std.specs.Io.KnownBytes.{Appends}
use Rattle.sk_model.specs.Causes.{AppendsPart}
use Rattle.sk_image.specs.Images.{first_line}
use Rattle.sk_report.proofs.Fronts.{part_longer, part_behind, on_err, on_err_then}
use Rattle.sk_cli.proofs.fault.tell_stamp.Goals as goal

pub returns-in_err-write_all-clause-part : goal.returns-in_err-write_all-clause-part
returns-in_err-write_all-clause-part g c =
    let stamp = c.args.stamp in
    let line : List ℕ = first_line stamp.version stamp.k stamp.seed in
    let old = g.E.Sink.written c.args.err.now in
    let mid = g.E.Sink.written c.write_all.new.out in
    on_err _ _ (part_longer old mid line c.args.what.now (subst (λ (l : List ℕ). AppendsPart old mid l) c.put_first_line-len.ensures.text c.in_err-write_all.ensures.err))

pub returns-clause-part : goal.returns-clause-part
returns-clause-part g c =
    let stamp = c.args.stamp in
    let line : List ℕ = first_line stamp.version stamp.k stamp.seed in
    let old = g.E.Sink.written c.args.err.now in
    let mid = g.E.Sink.written c.write_all.new.out in
    let new = g.E.Sink.written c.write_all-2.new.out in
    let first = subst (λ (l : List ℕ). Appends old mid l) c.put_first_line-len.ensures.text c.in_ok-write_all.ensures.ok in
    on_err_then c.write_all-2.result (AppendsPart mid new c.args.what.now) (AppendsPart old new (line ++ c.args.what.now)) (λ part. part_behind old mid new line c.args.what.now first part) c.write_all-2.ensures.err
