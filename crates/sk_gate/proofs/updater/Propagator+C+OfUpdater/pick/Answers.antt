use Rattle.std.proofs.Common.{◌∙◌, ap, sym, inl}
use Rattle.std.specs.Prelude.{is_some}
use Rattle.sk_compose.specs.Buffers.{Contents}
use Rattle.sk_gate.proofs.Own.{some_is_not}
use Rattle.sk_gate.proofs.updater.Propagator+C+OfUpdater.pick.Goals as goal

pub exchange_own-requires-clause-fits : goal.exchange_own-requires-clause-fits
exchange_own-requires-clause-fits g c =
    inl (ap (λ (b : Contents). b.items) c.requires.empty, (λ x is. absurd (some_is_not (sym c.requires.told ∙ is))), inl (ap (λ (b : Contents). b.capacity) c.requires.empty))

pub returns-clause-seat : goal.returns-clause-seat
returns-clause-seat g c = let now = c.args.self.now in
    c.exchange_own.ensures.seat ∙ λ a. record now { own = record { items = (c.requires.empty a).items; capacity = (c.requires.empty a).capacity; told = is_some (c.requires.told a) } }
