use Rattle.std.proofs.Common.{◌≡◌, ◌++◌, ℕ, List, [], sym, ap, subst, ◌∙◌}
use Rattle.sk_theta.specs.Kept.{Sketch}
use Rattle.sk_snap.specs.Versions.{items_in}
use Rattle.sk_window.specs.Intervals.{StandForEach, IsReplyOf, all_items}
use Rattle.sk_window.specs.Panes.{PanesState}
use Rattle.sk_window.proofs.panes.Panes.reply.Goals as goal

pub returns-clause-reply : goal.returns-clause-reply
returns-clause-reply g c = λ lists each.
    let now = c.args.self.now in
    let closed : c.self.inside.closed.items ≡ now.closed = ap (λ (p : PanesState). p.closed) (c.self.view_is ∙ c.in_ok-pane.ensures.stays) in
    let empty = c.in_ok-pane.ensures.pane in
    let its : StandForEach c.in_ok-pane.field-0.pane.k c.self.inside.closed.items lists =
    subst (λ (n : ℕ). StandForEach n c.self.inside.closed.items lists) (sym empty.0) (subst (λ (ss : List Sketch). StandForEach now.shape.k ss lists) (sym closed) each) in
    let gives = c.read-pane.ensures.gives in
    let same : c.read-pane.result.0.k ≡ now.shape.k = gives.k_is ∙ c.join_each.ensures.k ∙ empty.0 in
    let items = all_items lists ++ items_in c.read-pane.new.self.known in
    subst (λ (n : ℕ). IsReplyOf n items c.reply_of-reply.result) same
    (c.reply_of-reply.ensures.reply items (gives.stands (all_items lists) (c.join_each.ensures.stands lists [] its empty.1)))
