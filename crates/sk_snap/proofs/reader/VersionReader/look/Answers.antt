use Rattle.std.proofs.Common.{◌≡◌, ◌++◌, ℕ, List, drop, refl, ap, sym, subst, ◌∙◌}
use Rattle.left_right.specs.Sides.{view}
use Rattle.logbook.specs.Pages.{Book}
use Rattle.sk_model.specs.Missing.{Begins}
use Rattle.sk_snap.specs.History.{Beginning, name_of}
use Rattle.sk_snap.specs.Versions.{Learnt}
use Rattle.sk_snap.proofs.reader.VersionReader.look.Goals as goal

pub invariant_of-self : goal.invariant_of-self
invariant_of-self g c =
    let inv = c.self.invariant in
    let at : c.unwrap-reader.result ≡ inv.0 = cc (c.unwrap-reader.ensures, c.take.ensures.value, inv.1) in
    let numbers = drop 3 (view c.unwrap-reader.result.place) in
    let about : view c.unwrap-reader.result.place ≡ name_of c.self.inside.known.book ++ numbers = rw at inv.2 in
    let put : view c.unwrap-reader.result.place ≡ name_of c.again-known.result.book ++ numbers =
    about ∙ ap (λ (b : Beginning). name_of b.book ++ numbers) (sym c.again-known.ensures) in
    let entry = c.entered-reader.ensures.entry numbers put in (
      c.entered-reader.result.0,
      refl,
      entry.stays ∙ put ∙ ap (λ (b : Book). name_of b ++ numbers) (sym entry.book)
          ∙ ap (λ (l : List ℕ). name_of c.entered-reader.result.1.0.book ++ drop 3 l) (sym entry.stays),
    )

pub returns-clause-begins : goal.returns-clause-begins
returns-clause-begins g c =
    let inv = c.self.invariant in
    let at : c.unwrap-reader.result ≡ inv.0 = cc (c.unwrap-reader.ensures, c.take.ensures.value, inv.1) in
    let numbers = drop 3 (view c.unwrap-reader.result.place) in
    let about : view c.unwrap-reader.result.place ≡ name_of c.self.inside.known.book ++ numbers = rw at inv.2 in
    let entry = c.entered-reader.ensures.entry numbers (about ∙ ap (λ (b : Beginning). name_of b.book ++ numbers) (sym c.again-known.ensures)) in
    subst (λ (b : Beginning). Begins b.batches c.entered-reader.result.1.0.batches) (c.again-known.ensures ∙ ap (λ (l : Learnt). l.known) c.self.view_is) entry.begins

pub returns-clause-numbers : goal.returns-clause-numbers
returns-clause-numbers g c =
    let inv = c.self.invariant in
    let at : c.unwrap-reader.result ≡ inv.0 = cc (c.unwrap-reader.ensures, c.take.ensures.value, inv.1) in
    let numbers = drop 3 (view c.unwrap-reader.result.place) in
    let about : view c.unwrap-reader.result.place ≡ name_of c.self.inside.known.book ++ numbers = rw at inv.2 in
    let entry = c.entered-reader.ensures.entry numbers (about ∙ ap (λ (b : Beginning). name_of b.book ++ numbers) (sym c.again-known.ensures)) in
    let same : drop 3 (view inv.0.place) ≡ c.args.self.now.numbers = rw (← c.self.view_is, inv.1) refl in
    let here : numbers ≡ drop 3 (view inv.0.place) = rw at refl in
    ap (λ (l : List ℕ). drop 3 l) entry.stays ∙ here ∙ same

pub returns-clause-name : goal.returns-clause-name
returns-clause-name g c =
    let inv = c.self.invariant in
    let at : c.unwrap-reader.result ≡ inv.0 = cc (c.unwrap-reader.ensures, c.take.ensures.value, inv.1) in
    let numbers = drop 3 (view c.unwrap-reader.result.place) in
    let about : view c.unwrap-reader.result.place ≡ name_of c.self.inside.known.book ++ numbers = rw at inv.2 in
    let entry = c.entered-reader.ensures.entry numbers (about ∙ ap (λ (b : Beginning). name_of b.book ++ numbers) (sym c.again-known.ensures)) in
    entry.book ∙ ap (λ (b : Beginning). b.book) c.again-known.ensures ∙ ap (λ (l : Learnt). l.known.book) c.self.view_is
