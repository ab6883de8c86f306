use Rattle.std.proofs.Common.{◌≡◌, ℕ, List, sym, ap, subst, ◌∙◌}
use Rattle.sk_cli.specs.Command.{armed_at_start}
use Rattle.sk_cli.specs.declared.command.Command.{Command}
use Rattle.sk_report.specs.Texts.{armed_with}
use Rattle.sk_cli.proofs.execute.set_alarms.Goals as goal

pub returns-in-Count : goal.returns-in-Count
returns-in-Count g c =
    let old = g.B.Seen.places c.args.board.now in
    let plan = c.in-Count.plan in
    subst (λ (command : Command). g.B.Seen.places c.arm.new.board ≡ armed_at_start command old) (sym c.in-Count.is)
    (c.arm.ensures ∙ ap (λ (marks : List ℕ). armed_with plan.k marks old) c.as_slice.ensures.value)
