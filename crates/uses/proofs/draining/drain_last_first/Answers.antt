use Rattle.std.proofs.Common.{◌≢◌, All, ap, subst, ◌∙◌, arith}
use Rattle.sk_hub.specs.Drains.{HasTakenIn}
use Rattle.sk_machine.specs.Coarse.{IsEntry}
use Rattle.uses.proofs.draining.drain_last_first.Goals as goal

pub returns-clause-word : goal.returns-clause-word
returns-clause-word g c = let k = g.C.Composable in
    let numbers = c.in_ok-take_in-2.ensures.drained.numbers ∙ c.in_ok-take_in.ensures.drained.numbers in
    c.ask.ensures.reply.value ∙ ap (λ n. k.packed_of n c.ask.new.self.view.seen) numbers

pub returns-clause-first : goal.returns-clause-first
returns-clause-first g c = let u = c.args.first in let h1 = c.take_in.new.heart in let h2 = c.take_in-2.new.heart in
    c.an_ask_has_what_was_taken_in.ensures h2 c.ask.new.self u c.ask.ensures.drained (c.drained_is_taken_in.ensures h1 h2 u c.in_ok-take_in-2.ensures.drained)

pub returns-clause-last : goal.returns-clause-last
returns-clause-last g c = let u = c.args.last in let h1 = c.take_in.new.heart in let h2 = c.take_in-2.new.heart in
    let before : HasTakenIn h1 u = c.drained_is_taken_in.ensures c.args.heart.now h1 u c.in_ok-take_in.ensures.drained in
    let other : c.args.first.number ≢ u.number = λ same. let none : ⊥ = omega (arith, c.requires.order, same) in absurd none in
    c.an_ask_has_what_was_taken_in.ensures h2 c.ask.new.self u c.ask.ensures.drained (c.taken_in_stays.ensures.drained h1 h2 u c.args.first c.in_ok-take_in-2.ensures.drained other before)

pub returns-clause-base : goal.returns-clause-base
returns-clause-base g c = let u = c.args.last in let h1 = c.take_in.new.heart in let h2 = c.take_in-2.new.heart in
    let before : HasTakenIn h1 u = c.drained_is_taken_in.ensures c.args.heart.now h1 u c.in_ok-take_in.ensures.drained in
    let other : c.args.first.number ≢ u.number = λ same. let none : ⊥ = omega (arith, c.requires.order, same) in absurd none in
    (c.taken_in_stays.ensures.asked g.C.Composable.packed_of h2 c.ask.new.self c.ask.result u c.ask.ensures.reply (c.taken_in_stays.ensures.drained h1 h2 u c.args.first c.in_ok-take_in-2.ensures.drained other before)).base

pub returns-clause-only : goal.returns-clause-only
returns-clause-only g c =
    let count = c.admitted-admitted.ensures.whole.sized ∙ ap (λ h. h.updaters) c.in_ok-take_in-2.ensures.drained.stays ∙ ap (λ h. h.updaters) c.in_ok-take_in.ensures.drained.stays ∙ c.requires.two in
    subst (λ n. All (IsEntry n) c.ask.new.self.view.seen) count c.ask.ensures.reply.entries
