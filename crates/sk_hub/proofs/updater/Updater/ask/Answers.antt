use Rattle.std.proofs.Common.{◌≤◌, length, subst}
use Rattle.sk_gate.specs.Slots.{telling}
use Rattle.sk_hub.specs.Updaters.{UpdaterState}
use Rattle.sk_hub.proofs.Handles.{updater_asks}
use Rattle.sk_hub.proofs.Kept.{own_reply}
use Rattle.sk_hub.proofs.updater.Updater.ask.Goals as goal

pub invariant_of-self : goal.invariant_of-self
invariant_of-self g c = let k = g.C.Composable in let f = c.self.inside in
    updater_asks k.hint_of k.packed_of (telling k.tells k.told_name k.told_of) f.seat c.ask.new.self c.ask.result f.number f.updaters f.size f.fill f.told f.hint f.taken f.last c.ask.ensures.seat c.ask.ensures.told c.self.invariant

pub returns : goal.returns
returns g c =
    let f = c.self.inside in let i = c.self.invariant in let now = c.args.self.now in
    own_reply g.C.Composable.packed_of f.seat c.ask.new.self f.number f.size f.fill f.told f.hint f.last f.eager now c.ask.result i.view.post i.size_is c.self.view_is (subst (λ (u : UpdaterState). length u.fill ≤ u.size) c.self.view_is i.buffer.within) c.ask.ensures.told c.ask.ensures.seat
