use Rattle.std.proofs.Common.{sym, subst}
use Rattle.sk_cli.specs.commands.Join.{EndsFile}
use Rattle.sk_cli.specs.declared.fault.Fault.{Fault}
use Rattle.sk_cli.proofs.Joining.{examined}
use Rattle.sk_cli.proofs.commands.join.examine.Goals as goal

pub returns-in-Err-clause-err : goal.returns-in-Err-clause-err
returns-in-Err-clause-err g c =
    let told = g.S.Source.left c.args.source.now in
    let left = g.S.Source.left c.read.new.source in
    let e = c.in-Err.ensures in
    subst (λ (f : Fault). EndsFile c.args.most c.args.number told left f) (sym c.of_image.ensures)
    (examined c.args.most c.args.number told left c.in-Err.stop e.bad_image e.bad_in_time e.read_fault e.too_much)
