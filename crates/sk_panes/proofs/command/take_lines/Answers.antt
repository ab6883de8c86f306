use Rattle.std.proofs.Common.{◌≡◌, ap, subst}
use Rattle.sk_label.specs.Goes.{setting, ReadsTaken}
use Rattle.sk_panes.specs.Panes.{pane_rules}
use Rattle.sk_panes.specs.Running.{StandsAfter}
use Rattle.sk_panes.specs.declared.plan.Plan.{Plan}
use Rattle.sk_read.specs.Standing.{Standing}
use Rattle.sk_panes.proofs.Ending.{plan_same}
use Rattle.sk_panes.proofs.command.take_lines.Goals as goal

pub returns-clause-read : goal.returns-clause-read
returns-clause-read g c =
    let a = c.args.taker.now in
    let b = c.read_labelled.new.taker in
    let t = b.running.now in
    let same : t.plan ≡ a.running.now.plan = plan_same t.plan a.running.now.plan (ap (λ (s : Standing). s.numbers) c.read_labelled.ensures.taker) in
    subst (λ (p : Plan). ReadsTaken (pane_rules a.running.now.plan) (g.S.Source.last c.read_labelled.new.source) c.args.most (λ lines. StandsAfter p lines t.panes t.updaters.items t.candidates t.label)
    (setting (g.S.Source.left c.args.source.now) (g.O.Sink.written a.out.now)) (setting (g.S.Source.left c.read_labelled.new.source) (g.O.Sink.written b.out.now)) c.read_labelled.result)
    same c.read_labelled.ensures.read
