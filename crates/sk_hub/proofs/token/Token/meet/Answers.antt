use Rattle.std.proofs.Common.{◌≡◌, length, Contains, ◌∙◌, ap, subst, sym}
use Rattle.sk_model.specs.Missing.{Begins, longer}
use Rattle.sk_gate.specs.Views.{known_of, size_of}
use Rattle.sk_hub.specs.Replies.{known_size}
use Rattle.sk_hub.proofs.Knowledge.{known_with_note, hears_own, hears_other, met_reads, met_sized, met_sizes}
use Rattle.sk_hub.proofs.token.Token.meet.Goals as goal

pub returns-clause-known : goal.returns-clause-known
returns-clause-known g c i =
    ap (λ v. known_of v i) c.ask.ensures.told.view
    ∙ ap (λ s. known_of s.view i) c.join.ensures.seat
    ∙ known_with_note c.self.inside.seat.view.known c.note.inside.seat.view.known c.note.inside.seat.view.post i c.note.invariant.post
    ∙ (λ a. longer (known_of (c.self.view_is a).view i) (known_of (c.note.view_is a).view i))

pub returns-clause-seen : goal.returns-clause-seen
returns-clause-seen g c = let v = c.self.inside.seat.view in let w = c.note.inside.seat.view in
    subst (λ t. Begins t.view.seen c.ask.new.self.view.seen) c.self.view_is
    (c.ask.ensures.told.heard v.seen (subst (λ s. Contains s.view.heard v.seen) (sym c.join.ensures.seat) (hears_own v.heard w.heard v.seen w.seen)))

pub returns-clause-heard : goal.returns-clause-heard
returns-clause-heard g c = let v = c.self.inside.seat.view in let w = c.note.inside.seat.view in
    subst (λ t. Begins t.view.seen c.ask.new.self.view.seen) c.note.view_is
    (c.ask.ensures.told.heard w.seen (subst (λ s. Contains s.view.heard w.seen) (sym c.join.ensures.seat) (hears_other v.heard w.heard v.seen w.seen)))

pub invariant_of-self : goal.invariant_of-self
invariant_of-self g c = met_reads g.C.Composable.packed_of c.self.inside.seat c.note.inside.seat c.join.new.self c.ask.new.self c.ask.result c.self.invariant c.note.invariant (ap (λ r. r.table) c.note.view_is ∙ c.requires.table ∙ sym (ap (λ r. r.table) c.self.view_is)) c.join.ensures.seat c.ask.ensures.told c.ask.ensures.table

pub returns-clause-sized : goal.returns-clause-sized
returns-clause-sized g c = subst (λ t. length c.ask.new.self.view.sizes ≡ length t.view.sizes) c.self.view_is
    (met_sized g.C.Composable.packed_of c.self.inside.seat c.note.inside.seat c.join.new.self c.ask.new.self c.ask.result c.self.invariant c.note.invariant (ap (λ r. r.table) c.note.view_is ∙ c.requires.table ∙ sym (ap (λ r. r.table) c.self.view_is)) c.join.ensures.seat c.ask.ensures.told c.ask.ensures.table)

pub returns-clause-sizes : goal.returns-clause-sizes
returns-clause-sizes g c i =
    met_sizes g.C.Composable.packed_of c.self.inside.seat c.note.inside.seat c.join.new.self c.ask.new.self c.ask.result c.self.invariant c.note.invariant (ap (λ r. r.table) c.note.view_is ∙ c.requires.table ∙ sym (ap (λ r. r.table) c.self.view_is)) c.join.ensures.seat c.ask.ensures.told c.ask.ensures.table i
    ∙ (λ a. known_size (size_of (c.self.view_is a).view i) (size_of (c.note.view_is a).view i))
