use Rattle.std.proofs.Common.{◌∙◌, [], ap, subst, sym}
use Rattle.sk_machine.specs.Coarse.{IsBatch}
use Rattle.sk_gate.specs.Slots.{contents}
use Rattle.sk_gate.specs.Views.{size_of}
use Rattle.sk_hub_calls.proofs.tests.gate.admit_and_hand.Goals as goal

pub pick-requires-clause-empty : goal.pick-requires-clause-empty
pick-requires-clause-empty g c = let e = c.admit.ensures in let size = ap (λ s. size_of c.admit.new.self.view s.number) e.seat ∙ e.told.size in c.requires.empty ∙ ap (λ z. contents [] z) (sym size)

pub swap-spare-requires-clause-batch : goal.swap-spare-requires-clause-batch
swap-spare-requires-clause-batch g c = let e = c.admit.ensures in let size = ap (λ s. size_of s.view s.number) c.pick.ensures.seat ∙ ap (λ s. size_of c.admit.new.self.view s.number) e.seat ∙ e.told.size in
    subst (λ z. IsBatch z c.args.full.buffer.items) (sym size) c.requires.batch

pub swap-spare-requires-clause-capacity : goal.swap-spare-requires-clause-capacity
swap-spare-requires-clause-capacity g c = let e = c.admit.ensures in let size = ap (λ s. size_of s.view s.number) c.pick.ensures.seat ∙ ap (λ s. size_of c.admit.new.self.view s.number) e.seat ∙ e.told.size in c.requires.capacity ∙ sym size
