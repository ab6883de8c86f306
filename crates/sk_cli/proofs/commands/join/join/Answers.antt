use Rattle.std.proofs.Common.{inl, inr, subst, ◌∙◌}
use Rattle.sk_io.specs.Files.{told_file}
use Rattle.sk_cli.specs.commands.Join.{Files, IsFileOf, EndsFile, images_of}
use Rattle.sk_cli.proofs.Joining.{ends_right, joined_so}
use Rattle.sk_cli.proofs.Opening.{opens_more}
use Rattle.sk_cli.proofs.commands.join.join.Goals as goal

pub returns-in_err-right-clause-done : goal.returns-in_err-right-clause-done
returns-in_err-right-clause-done g c =
    let two = images_of c.args.plan.now in
    let files : Files = g.F.Shelf.files c.args.shelf.now in
    let rest = g.F.Shelf.rest c.read_image-2.new.shelf in
    ends_right two c.args.most files rest (g.O.Sink.written c.args.out.now) c.in_ok-left.left c.from_residual-in_err-right.result c.in_err-right.field-0.0 c.from_residual-in_err-right.ensures.1 c.in_ok-left.ensures.image
    (subst (λ (f : Files). EndsFile c.args.most 2 (told_file f two.right) rest c.in_err-right.field-0.0) c.read_image.ensures.files c.in_err-right.ensures.err)

pub returns-clause-done : goal.returns-clause-done
returns-clause-done g c =
    let two = images_of c.args.plan.now in
    let files : Files = g.F.Shelf.files c.args.shelf.now in
    let rest = g.F.Shelf.rest c.read_image-2.new.shelf in
    joined_so two c.args.most files rest (g.O.Sink.written c.args.out.now) (g.O.Sink.written c.write_both.new.out) c.in_ok-left.left c.in_ok-right.right c.write_both.result c.in_ok-left.ensures.image
    (subst (λ (f : Files). IsFileOf c.args.most c.in_ok-right.right (told_file f two.right)) c.read_image.ensures.files c.in_ok-right.ensures.image) c.in_ok-right.ensures.end c.write_both.ensures.done

pub returns-in_err-left-clause-files : goal.returns-in_err-left-clause-files
returns-in_err-left-clause-files g c = (c.read_image.ensures.files, inl c.read_image.ensures.opened)

pub returns-in_err-right-clause-files : goal.returns-in_err-right-clause-files
returns-in_err-right-clause-files g c =
    (c.read_image-2.ensures.files ∙ c.read_image.ensures.files, inr (c.in_ok-left.left, c.in_ok-left.ensures.image, opens_more _ _ _ _ _ c.read_image.ensures.opened c.read_image-2.ensures.opened))

pub returns-clause-files : goal.returns-clause-files
returns-clause-files g c =
    (c.read_image-2.ensures.files ∙ c.read_image.ensures.files, inr (c.in_ok-left.left, c.in_ok-left.ensures.image, opens_more _ _ _ _ _ c.read_image.ensures.opened c.read_image-2.ensures.opened))
