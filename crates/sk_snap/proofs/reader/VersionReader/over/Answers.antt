use Rattle.std.proofs.Common.{refl, sym, ap, ◌∙◌, ◌++◌, List, ℕ, drop}
use Rattle.sk_snap.specs.History.{name_of}
use Rattle.sk_snap.proofs.reader.VersionReader.over.Goals as goal

pub invariant_of-result : goal.invariant_of-result
invariant_of-result g c =
    let about = c.requires.about in
    (c.args.reader, refl, about.1 ∙ ap (λ (l : List ℕ). name_of c.args.known.book ++ drop 3 l) (sym about.1))
