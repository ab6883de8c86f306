use Rattle.std.proofs.Common.{◌≡◌, ◌++◌, drop, ap, sym, ◌∙◌, ⊎_elim}
use Rattle.left_right.specs.Sides.{view}
use Rattle.logbook.specs.Pages.{Book}
use Rattle.sk_snap.specs.History.{Beginning, name_of}
use Rattle.sk_snap.specs.Versions.{Learnt}
use Rattle.sk_snap.proofs.Versions.{begins_joined, same_book}
use Rattle.sk_snap.proofs.reader.VersionReader.learn.Goals as goal

pub invariant_of-self : goal.invariant_of-self
invariant_of-self g c =
    let inv = c.self.invariant in
    let book : c.learn.new.self.book ≡ c.self.inside.known.book = ⊎_elim
    (λ (mine : c.learn.new.self ≡ c.self.inside.known). ap (λ (b : Beginning). b.book) mine)
    (λ (theirs : c.learn.new.self ≡ c.args.told). ap (λ (b : Beginning). b.book) theirs ∙ same_book c.args.told.book c.args.self.now.known.book c.requires.sketch ∙ ap (λ (l : Learnt). l.known.book) (sym c.self.view_is))
    c.learn.ensures.one in
    (inv.0, inv.1, inv.2 ∙ ap (λ (b : Book). name_of b ++ drop 3 (view inv.0.place)) (sym book))

pub returns-clause-mine : goal.returns-clause-mine
returns-clause-mine g c = rw (← c.self.view_is) (begins_joined c.self.inside.known.batches c.learn.new.self.batches c.learn.ensures.mine)

pub returns-clause-theirs : goal.returns-clause-theirs
returns-clause-theirs g c = begins_joined c.args.told.batches c.learn.new.self.batches c.learn.ensures.theirs
