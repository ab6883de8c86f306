use Rattle.std.proofs.Common.{◌≡◌, ◌-◌, ◌++◌, ℕ, sym, ap, subst, ◌∙◌}
use Rattle.sk_theta.specs.Sizes.{Sizes}
use Rattle.sk_snap.specs.History.{entries_in}
use Rattle.sk_snap.specs.Versions.{items_in}
use Rattle.sk_window.specs.Hubs.{IsFresh}
use Rattle.sk_window.specs.Intervals.{StandForEach, with_closed, with_skipped}
use Rattle.sk_window.specs.Panes.{PanesState, HasTaken, Closes}
use Rattle.sk_window.proofs.panes.Panes.close_and_move.Goals as goal

pub returns-in-Ok-clause-moves : goal.returns-in-Ok-clause-moves
returns-in-Ok-clause-moves g c = λ before lists has apart each.
    let now = c.args.self.now in
    let us = c.args.updaters.now.items in
    let same : c.take_next.new.self ≡ now = c.in_ok-next.ensures.stays in
    let q = c.close.new.self in
    let r = c.move_to.new.self in
    let closes : Closes now (before ++ us) lists c.in-Ok.reply q =
    subst (λ (z : PanesState). HasTaken z before → StandForEach z.shape.k z.closed lists → Closes z (before ++ us) lists c.in-Ok.reply q) same
    (λ h e. c.in-Ok.ensures.closes before lists h apart e) has each in
    let shape : q.shape ≡ now.shape = ap (λ (z : PanesState). z.shape) c.in-Ok.ensures.stays ∙ ap (λ (z : PanesState). z.shape) same in
    let running : q.running ≡ now.running = ap (λ (z : PanesState). z.running) c.in-Ok.ensures.stays ∙ ap (λ (z : PanesState). z.running) same in
    let closed = with_closed lists (items_in q.learnt.known) in
    record {
      list = entries_in q.learnt.known;
      exactly = closes.exactly;
      reply_is = closes.reply_is;
      running_is = c.move_to.ensures.running;
      stand = subst (λ (n : ℕ). StandForEach now.shape.k r.closed (with_skipped closed (c.args.interval - n - 1))) running
          (subst (λ (z : Sizes). StandForEach z.k r.closed (with_skipped closed (c.args.interval - q.running - 1))) shape
          (c.move_to.ensures.closed closed (subst (λ (z : Sizes). StandForEach z.k q.closed closed) (sym shape) closes.stand)));
      fresh = subst (λ (z : Sizes). IsFresh z r.heart c.move_to.result.items r.learnt) shape c.move_to.ensures.fresh;
      none_taken = c.move_to.ensures.taken;
    }
