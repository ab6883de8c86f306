use Rattle.std.proofs.Common.{length, ap, sym, ◌∙◌}
use Rattle.sk_snap.specs.History.{Beginning, entries_in}
use Rattle.sk_snap.proofs.Versions.{as_many}
use Rattle.sk_snap.proofs.versioned.Versioned.len.Goals as goal

pub returns-clause-value : goal.returns-clause-value
returns-clause-value g c =
    c.count.ensures ∙ ap (λ (b : Beginning). length (entries_in b)) c.version.ensures.known ∙ sym (as_many (entries_in c.args.self.now.known))
