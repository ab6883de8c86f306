-- What an item that a hint does not keep owes, over entries.
use Rattle.std.proofs.Common.{◌≡◌, ℕ, Bool, false, List, ◌∷◌, ◌++◌, refl, ap, sym, ◌∙◌}
use Rattle.sk_model.specs.Entries.{Entry, items_of_entries}
use Rattle.sk_model.specs.Width.{IsItem}
use Rattle.sk_model.proofs.Entries.{items_append}

items_cons : (i item : ℕ) (rest : List Entry) → items_of_entries ((i, item) ∷ rest) ≡ item ∷ items_of_entries rest
unfolding items_of_entries
items_cons i item rest = refl

items_with : (list more rest : List Entry) (i item : ℕ) → items_of_entries ((list ++ more) ++ (i, item) ∷ rest) ≡ (items_of_entries list ++ items_of_entries more) ++ item ∷ items_of_entries rest
items_with list more rest i item = rw (items_append (list ++ more) ((i, item) ∷ rest), items_append list more, items_cons i item rest) refl

items_without : (list more rest : List Entry) → items_of_entries ((list ++ more) ++ rest) ≡ (items_of_entries list ++ items_of_entries more) ++ items_of_entries rest
items_without list more rest = rw (items_append (list ++ more) rest, items_append list more) refl

module _ (hint_of packed_of : List ℕ → List ℕ → ℕ) (keeps_of : ℕ → ℕ → Bool)
    (idle : (numbers list more rest : List ℕ) (item : ℕ) → IsItem item → keeps_of (hint_of numbers list) item ≡ false
    → (hint_of numbers ((list ++ more) ++ item ∷ rest) ≡ hint_of numbers ((list ++ more) ++ rest))
    × (packed_of numbers ((list ++ more) ++ item ∷ rest) ≡ packed_of numbers ((list ++ more) ++ rest))) where
  pub replies : (numbers : List ℕ) (list more rest : List Entry) (i item : ℕ) → IsItem item → keeps_of (hint_of numbers (items_of_entries list)) item ≡ false
      → (hint_of numbers (items_of_entries ((list ++ more) ++ (i, item) ∷ rest)) ≡ hint_of numbers (items_of_entries ((list ++ more) ++ rest)))
      × (packed_of numbers (items_of_entries ((list ++ more) ++ (i, item) ∷ rest)) ≡ packed_of numbers (items_of_entries ((list ++ more) ++ rest)))
  replies numbers list more rest i item small gone =
      let both = idle numbers (items_of_entries list) (items_of_entries more) (items_of_entries rest) item small gone in (
        ap (λ (l : List ℕ). hint_of numbers l) (items_with list more rest i item) ∙ both.0 ∙ ap (λ (l : List ℕ). hint_of numbers l) (sym (items_without list more rest)),
        ap (λ (l : List ℕ). packed_of numbers l) (items_with list more rest i item) ∙ both.1 ∙ ap (λ (l : List ℕ). packed_of numbers l) (sym (items_without list more rest)),
      )
