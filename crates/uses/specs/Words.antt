-- Words that a token was answered, one after another.
use Rattle.std.specs.Prelude.{◌≡◌, ℕ, List, [], ◌∷◌, All}
use Rattle.sk_model.specs.Entries.{Entry}
use Rattle.sk_model.specs.Missing.{Begins}
use Rattle.sk_machine.specs.Coarse.{IsEntry}

-- each word is that of a list of updates by updaters below n, which begins with the list of the word before
unfoldable pub AreWords : (List Entry → ℕ) → ℕ → List Entry → List ℕ → List Entry → Type 0
AreWords packed n from [] to = to ≡ from
AreWords packed n from (word ∷ words) to = (list : List Entry) × Begins from list × All (IsEntry n) list × (word ≡ packed list) × AreWords packed n list words to
