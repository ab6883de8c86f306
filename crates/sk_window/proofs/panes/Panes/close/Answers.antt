use Rattle.std.proofs.Common.{◌≡◌, ◌++◌, sym, ap, subst, ◌∙◌}
use Rattle.sk_window.specs.Panes.{PanesState, HasTaken}
use Rattle.sk_window.proofs.Closed.{closes_before}
use Rattle.sk_window.proofs.panes.Panes.close.Goals as goal

pub returns-in-Ok-clause-closes : goal.returns-in-Ok-clause-closes
returns-in-Ok-clause-closes g c = λ before lists has apart each.
    let now = c.args.self.now in
    let us = c.args.updaters.now.items in
    let p = c.take_in.new.self in
    let same : c.take_room.new.self ≡ now = c.in_ok-room.ensures.stays in
    let taken : HasTaken p (before ++ us) = c.in-Ok.ensures.takes before (subst (λ (z : PanesState). HasTaken z before) (sym same) has) in
    let shape = ap (λ (z : PanesState). z.shape) c.in-Ok.ensures.stays ∙ ap (λ (z : PanesState). z.shape) same in
    let closed = ap (λ (z : PanesState). z.closed) c.in-Ok.ensures.stays ∙ ap (λ (z : PanesState). z.closed) same in
    closes_before now p (before ++ us) lists c.close_over.result c.close_over.new.self shape closed each (λ e. c.close_over.ensures.closes (before ++ us) lists taken apart e)
