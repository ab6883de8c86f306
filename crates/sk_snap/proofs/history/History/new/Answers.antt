use Rattle.std.proofs.Common.{sym, ap, ◌∙◌, length, List}
use Rattle.sk_model.specs.Entries.{Entry}
use Rattle.sk_snap.specs.History.{joined}
use Rattle.sk_snap.proofs.Versions.{count_none}
use Rattle.sk_snap.proofs.history.History.new.Goals as goal

pub invariant_of-result : goal.invariant_of-result
invariant_of-result c =
    let none = c.open-seen.ensures.1 in (
      sym (ap (λ (l : List (List Entry)). length l) none),
      sym (ap (λ (l : List (List Entry)). length (joined l)) none ∙ count_none),
    )
