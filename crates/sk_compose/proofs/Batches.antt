-- A list with a batch after it.
use Rattle.std.proofs.Common.{◌≡◌, ℕ, List, ◌++◌, ap, ◌∙◌}
use Rattle.sk_model.specs.Entries.{Entry, items_of_entries, tagged}
use Rattle.sk_model.proofs.Entries.{items_append, items_tagged}

-- the items of both
pub items_more : (i : ℕ) (list : List Entry) (batch : List ℕ) → items_of_entries (list ++ tagged i batch) ≡ items_of_entries list ++ batch
items_more i list batch = items_append list (tagged i batch) ∙ ap (λ (l : List ℕ). items_of_entries list ++ l) (items_tagged i batch)
