use Rattle.std.proofs.Common.{◌≡◌, ◌++◌, subst}
use Rattle.sk_theta.specs.declared.reply.Reply.{Reply}
use Rattle.sk_window.specs.Panes.{Closes}
use Rattle.sk_window.proofs.panes.Panes.finish.Goals as goal

pub returns-in-Ok-clause-done : goal.returns-in-Ok-clause-done
returns-in-Ok-clause-done g c = λ reply is before lists has apart each.
    let same : c.in-Ok.reply ≡ reply = cc (is) in
    subst (λ (r : Reply). Closes c.args.self.now (before ++ c.args.updaters.items) lists r c.close.new.self) same
    (c.in-Ok.ensures.closes before lists has apart each)
