-- What it means that of some items, in order, those were kept that a hint keeps.
use Rattle.std.specs.Prelude.{◌≡◌, ◌⊎◌, ℕ, List, [], ◌∷◌, Bool, false}
use Rattle.sk_model.specs.Entries.{Entry}
use Rattle.sk_model.specs.Missing.{Begins}

-- the hint of a list that this one begins with does not keep the item
abbrev pub IsFiltered : (ℕ → ℕ → Bool) → (List Entry → ℕ) → List Entry → ℕ → Type 0
IsFiltered keeps hint base item = (front : List Entry) × Begins front base × (keeps (hint front) item ≡ false)

-- of items, in order, exactly these were kept, and each other one is filtered
unfoldable pub AreKept : (ℕ → ℕ → Bool) → (List Entry → ℕ) → List Entry → List ℕ → List ℕ → Type 0
AreKept keeps hint base [] kept = kept ≡ []
AreKept keeps hint base (item ∷ items) kept = (IsFiltered keeps hint base item × AreKept keeps hint base items kept)
    ⊎ ((more : List ℕ) × (kept ≡ item ∷ more) × AreKept keeps hint base items more)
