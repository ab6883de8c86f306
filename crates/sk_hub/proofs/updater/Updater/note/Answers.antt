use Rattle.std.proofs.Common.{◌≡◌, ◌≢◌, ◌+◌, ◌<◌, length, ap, sym, subst, ◌∙◌}
use Rattle.sk_gate.specs.Views.{known_of, size_of, copy_of}
use Rattle.sk_hub.specs.Updaters.{handed_of}
use Rattle.sk_hub.specs.Replies.{IsReading}
use Rattle.sk_hub.proofs.Knowledge.{note_known, note_others, note_size, note_sizes, note_reads}
use Rattle.sk_hub.proofs.updater.Updater.note.Goals as goal

pub invariant_of-result : goal.invariant_of-result
invariant_of-result g c = let f = c.self.inside in let i = c.self.invariant in
    let slots : f.seat.table.slots ≡ length f.seat.view.sizes + 1 = i.slots ∙ ap (λ n. n + 1) (sym i.sized) in
    subst IsReading (sym c.split.ensures.note) (note_reads f.seat.view f.number i.view.post f.seat.table slots)

pub returns-clause-known : goal.returns-clause-known
returns-clause-known g c = let f = c.self.inside in let i = c.self.invariant in
    ap (λ r. known_of r.view c.args.self.now.number) c.split.ensures.note ∙ ap (λ u. known_of (copy_of f.seat.view) u.number) (sym c.self.view_is)
    ∙ note_known f.seat.view f.number i.view.post (subst (λ n. f.number < n) (sym i.sized) i.within) ∙ ap (λ u. handed_of u) c.self.view_is

pub returns-clause-others : goal.returns-clause-others
returns-clause-others g c j ne = let f = c.self.inside in let i = c.self.invariant in
    ap (λ r. known_of r.view j) c.split.ensures.note ∙ note_others f.seat.view f.number i.view.post j (subst (λ u. j ≢ u.number) (sym c.self.view_is) ne)

pub returns-clause-size : goal.returns-clause-size
returns-clause-size g c = let f = c.self.inside in let i = c.self.invariant in
    ap (λ r. size_of r.view c.args.self.now.number) c.split.ensures.note ∙ ap (λ u. size_of (copy_of f.seat.view) u.number) (sym c.self.view_is)
    ∙ note_size f.seat.view f.number i.view.post ∙ i.size_is ∙ ap (λ u. u.size) c.self.view_is

pub returns-clause-sizes : goal.returns-clause-sizes
returns-clause-sizes g c j ne = let f = c.self.inside in let i = c.self.invariant in
    ap (λ r. size_of r.view j) c.split.ensures.note ∙ note_sizes f.seat.view f.number i.view.post j (subst (λ u. j ≢ u.number) (sym c.self.view_is) ne)
