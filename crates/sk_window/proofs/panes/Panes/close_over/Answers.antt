use Rattle.std.proofs.Common.{◌≡◌, ◌++◌, ℕ, List, [], length, drop, sym, ap, subst, ◌∙◌}
use Rattle.sk_hub.specs.Updaters.{UpdaterState}
use Rattle.sk_learn.specs.Closing.{AreApart}
use Rattle.sk_snap.specs.Versions.{items_in}
use Rattle.sk_theta.specs.Kept.{Sketch, StandsFor}
use Rattle.sk_window.specs.Intervals.{StandForEach, IsReplyOf, all_items, with_closed}
use Rattle.sk_window.specs.Panes.{PanesState, HasTaken, Closes}
use Rattle.sk_window.specs.declared.room.Room.{Room}
use Rattle.sk_window.proofs.Standing.{stand_rest, stand_push}
use Rattle.sk_window.proofs.Closed.{exactly_these, pushed_count, pushed_panes}
use Rattle.sk_window.proofs.panes.Panes.close_over.Goals as goal

pub invariant_of-self : goal.invariant_of-self
invariant_of-self g c =
    let i = c.self.inside in
    let k = i.shape.k in
    let p : PanesState = record { frame = i.frame; shape = i.shape; running = i.running; heart = i.heart; learnt = i.reader; taken = i.taken; closed = i.closed.items } in
    let inv = c.self.invariant.0 in
    let same : c.args.self.now.shape.k ≡ k = ap (λ (z : PanesState). z.shape.k) (sym c.self.view_is) in
    let sketch = c.read_whole-sketch.result.0 in
    let its : sketch.k ≡ k = c.read_whole-sketch.ensures.gives.k_is ∙ c.requires.closed.0 ∙ same in
    let pane : c.join.new.self.k ≡ k = c.join.ensures.numbers ∙ c.join_each.ensures.k ∙ c.requires.pane.0 ∙ same in
    let oldest : c.replace_oldest-closed.result.k ≡ k = c.replace_oldest-closed.ensures.same_k k inv.same_k in
    let put = c.replace_oldest-closed.ensures.items in
    let many : length c.replace_oldest-closed.new.sketches.items ≡ length i.closed.items =
    ap (λ (ss : List Sketch). length ss) put ∙ pushed_count i.closed.items sketch i.frame.last inv.count inv.frame_is.least in (
      pushed_panes p c.read_whole-sketch.new.reader c.replace_oldest-closed.new.sketches.items sketch inv c.read_whole-sketch.ensures.goes its put,
      c.replace_oldest-closed.ensures.capacity ∙ c.self.invariant.1 ∙ sym many,
      c.self.invariant.2,
      λ room is.
          let made : Room = record { pane = c.join.new.self; closed = c.replace_oldest-closed.result } in
          let it : made ≡ room = cc (is) in
          subst (λ (z : Room). (z.pane.k ≡ k) × (z.closed.k ≡ k)) it (pane, oldest),
    )

pub returns-clause-closes : goal.returns-clause-closes
returns-clause-closes g c =
    let i = c.self.inside in
    let k = i.shape.k in
    let p : PanesState = record { frame = i.frame; shape = i.shape; running = i.running; heart = i.heart; learnt = i.reader; taken = i.taken; closed = i.closed.items } in
    let s = c.read_whole-sketch.new.reader in
    let q : PanesState = record { frame = i.frame; shape = i.shape; running = i.running; heart = i.heart; learnt = s; taken = i.taken; closed = c.replace_oldest-closed.new.sketches.items } in
    let items = items_in s.known in
    let sketch = c.read_whole-sketch.result.0 in
    let gives = c.read_whole-sketch.ensures.gives in
    let same : c.args.self.now.shape.k ≡ k = ap (λ (z : PanesState). z.shape.k) (sym c.self.view_is) in
    let pane_k : c.args.room.pane.k ≡ k = c.requires.pane.0 ∙ same in
    let its : sketch.k ≡ k = gives.k_is ∙ c.requires.closed.0 ∙ same in
    let of_running : StandsFor sketch items = gives.stands [] c.requires.closed.1 in
    subst (λ (z : PanesState). (us : List UpdaterState) (lists : List (List ℕ)) → HasTaken z us → AreApart us → StandForEach z.shape.k z.closed lists → Closes z us lists c.reply_of-reply.result q) c.self.view_is
    (λ us lists has apart each.
    let before : StandForEach c.args.room.pane.k i.closed.items lists = subst (λ (n : ℕ). StandForEach n i.closed.items lists) (sym pane_k) each in
    let pane : StandsFor c.join.new.self (all_items lists ++ items) = c.join.ensures.stands (all_items lists) items (c.join_each.ensures.stands lists [] before c.requires.pane.1) of_running in
    let pane_same : c.join.new.self.k ≡ k = c.join.ensures.numbers ∙ c.join_each.ensures.k ∙ pane_k in
    record {
      exactly = exactly_these p us has s apart c.read_whole-sketch.ensures.goes c.read_whole-sketch.ensures.total;
      reply_is = subst (λ (n : ℕ). IsReplyOf n (all_items lists ++ items) c.reply_of-reply.result) pane_same (c.reply_of-reply.ensures.reply (all_items lists ++ items) pane);
      stand = subst (λ (ss : List Sketch). StandForEach k ss (with_closed lists items)) (sym c.replace_oldest-closed.ensures.items)
          (stand_push k (drop 1 i.closed.items) (drop 1 lists) sketch items (stand_rest k i.closed.items lists each) its of_running);
    })
