use Rattle.std.proofs.Common.{◌≡◌, ℕ, List, sym, subst, ◌∙◌}
use Rattle.sk_label.specs.Goes.{ReadsLines, WroteSoFar}
use Rattle.sk_panes.specs.Panes.{pane_rules}
use Rattle.sk_panes.specs.Running.{StandsAfter, IsLast}
use Rattle.sk_panes.specs.declared.plan.Plan.{Plan}
use Rattle.sk_panes.proofs.Ending.{ends_at_start, goes_at_end}
use Rattle.sk_panes.proofs.command.window.Goals as goal

pub returns-in_err-running-clause-goes : goal.returns-in_err-running-clause-goes
returns-in_err-running-clause-goes g c =
    ends_at_start _ (pane_rules c.args.plan.now) c.args.most (g.S.Source.left c.args.source.now) (g.O.Sink.written c.args.out.now) c.from_residual.result c.from_residual.ensures.1

pub returns-clause-goes : goal.returns-clause-goes
returns-clause-goes g c =
    let plan = c.args.plan.now in
    let started = c.in_ok-running.running in
    let t = c.read_lines.new.running in
    let left = g.S.Source.left c.args.source.now in
    let left' = g.S.Source.left c.read_lines.new.source in
    let w = g.O.Sink.written c.args.out.now in
    let w' = g.O.Sink.written c.read_lines.new.out in
    let w'' = g.O.Sink.written c.write_last.new.out in
    let first : started.plan ≡ plan = c.in_ok-running.ensures.plan in
    let second : t.plan ≡ plan = c.in_ok-read_lines.ensures.plan ∙ first in
    let read : ReadsLines c.args.most (λ lines. WroteSoFar (pane_rules plan) w w' lines × StandsAfter plan lines t.panes t.updaters.items t.candidates t.label) left left' =
    subst (λ (p : Plan). ReadsLines c.args.most (λ lines. WroteSoFar (pane_rules p) w w' lines × StandsAfter p lines t.panes t.updaters.items t.candidates t.label) left left') first c.in_ok-read_lines.ensures.read in
    let last : (lines : List (List ℕ)) → StandsAfter plan lines t.panes t.updaters.items t.candidates t.label → IsLast plan lines c.in_ok-pane.pane =
    λ lines after. subst (λ (p : Plan). IsLast p lines c.in_ok-pane.pane) second
    (c.in_ok-pane.ensures.last lines (subst (λ (p : Plan). StandsAfter p lines t.panes t.updaters.items t.candidates t.label) (sym second) after)) in
    goes_at_end plan c.args.most left left' w w' w'' (λ lines. StandsAfter plan lines t.panes t.updaters.items t.candidates t.label) c.in_ok-pane.pane last read _ c.write_last.result
    c.write_last.ensures.ok c.write_last.ensures.part c.write_last.ensures.fault
