use Rattle.std.proofs.Common.{◌≡◌, length, ap, sym, subst, ◌∙◌}
use Rattle.sk_model.specs.Missing.{Begins}
use Rattle.sk_gate.specs.Slots.{telling}
use Rattle.sk_hub.proofs.Meeting.{same_count, sees_own, sees_noted, met_sized, updater_met, met_reply}
use Rattle.sk_hub.proofs.updater.Updater.meet.Goals as goal

pub join-requires : goal.join-requires
join-requires g c = let f = c.self.inside in let i = c.self.invariant in let n = c.note.inside.seat in
    let table : n.table ≡ f.seat.table = ap (λ r. r.table) c.note.view_is ∙ c.requires.table ∙ sym (ap (λ u. u.table) c.self.view_is) in record {
      table = table;
      sized = same_count (length n.view.sizes) (length f.seat.view.sizes) f.updaters n.table.slots f.seat.table.slots c.note.invariant.slots i.slots i.sized (ap (λ t. t.slots) table);
    }

pub invariant_of-self : goal.invariant_of-self
invariant_of-self g c = let k = g.C.Composable in let f = c.self.inside in
    updater_met k.hint_of k.packed_of (telling k.tells k.told_name k.told_of) f.seat c.join.new.self c.ask.new.self c.note.inside.seat c.ask.result f.number f.updaters f.size f.fill f.told f.hint f.taken f.last
    c.self.invariant c.note.invariant (ap (λ r. r.table) c.note.view_is ∙ c.requires.table ∙ sym (ap (λ u. u.table) c.self.view_is)) c.join.ensures.seat c.ask.ensures.told c.ask.ensures.seat

pub returns-clause-reply : goal.returns-clause-reply
returns-clause-reply g c = let k = g.C.Composable in let f = c.self.inside in (
  c.ask.result,
  met_reply k.hint_of k.packed_of (telling k.tells k.told_name k.told_of) f.seat c.join.new.self c.ask.new.self c.note.inside.seat c.ask.result f.number f.updaters f.size f.fill f.told f.hint f.taken f.last
      c.self.invariant c.note.invariant (ap (λ r. r.table) c.note.view_is ∙ c.requires.table ∙ sym (ap (λ u. u.table) c.self.view_is)) c.join.ensures.seat c.ask.ensures.told c.ask.ensures.seat f.eager c.args.self.now c.args.note c.self.view_is c.note.view_is,
)

pub returns-clause-seen : goal.returns-clause-seen
returns-clause-seen g c = let k = g.C.Composable in let f = c.self.inside in
    subst (λ u. Begins u.view.seen c.ask.new.self.view.seen) c.self.view_is (sees_own k.hint_of k.packed_of (telling k.tells k.told_name k.told_of) f.seat c.join.new.self c.ask.new.self c.note.inside.seat c.ask.result f.number f.updaters f.size f.fill f.told f.hint f.taken f.last
    c.self.invariant c.note.invariant (ap (λ r. r.table) c.note.view_is ∙ c.requires.table ∙ sym (ap (λ u. u.table) c.self.view_is)) c.join.ensures.seat c.ask.ensures.told c.ask.ensures.seat)

pub returns-clause-heard : goal.returns-clause-heard
returns-clause-heard g c = let k = g.C.Composable in let f = c.self.inside in
    subst (λ r. Begins r.view.seen c.ask.new.self.view.seen) c.note.view_is (sees_noted k.hint_of k.packed_of (telling k.tells k.told_name k.told_of) f.seat c.join.new.self c.ask.new.self c.note.inside.seat c.ask.result f.number f.updaters f.size f.fill f.told f.hint f.taken f.last
    c.self.invariant c.note.invariant (ap (λ r. r.table) c.note.view_is ∙ c.requires.table ∙ sym (ap (λ u. u.table) c.self.view_is)) c.join.ensures.seat c.ask.ensures.told c.ask.ensures.seat)

pub returns-clause-sized : goal.returns-clause-sized
returns-clause-sized g c = let k = g.C.Composable in let f = c.self.inside in
    met_sized k.hint_of k.packed_of (telling k.tells k.told_name k.told_of) f.seat c.join.new.self c.ask.new.self c.note.inside.seat c.ask.result f.number f.updaters f.size f.fill f.told f.hint f.taken f.last
    c.self.invariant c.note.invariant (ap (λ r. r.table) c.note.view_is ∙ c.requires.table ∙ sym (ap (λ u. u.table) c.self.view_is)) c.join.ensures.seat c.ask.ensures.told c.ask.ensures.seat ∙ ap (λ u. length u.view.sizes) c.self.view_is
