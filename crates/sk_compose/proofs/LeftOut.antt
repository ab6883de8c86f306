-- Items that were not kept, by any sketch.
use Rattle.std.proofs.Common.{◌≡◌, inl, inr, ℕ, Bool, false, List, [], ◌∷◌, ◌++◌, sym, ap, ◌∙◌, subst, append_assoc}
use Rattle.std.proofs.lemmas.List.Elements.{All-head, All-tail}
use Rattle.sk_model.specs.Entries.{Entry, tagged}
use Rattle.sk_model.specs.Missing.{Begins}
use Rattle.sk_model.proofs.Missing.{begins_trans, begins_more}
use Rattle.sk_compose.specs.Kept.{IsFiltered, AreKept}
use Rattle.sk_model.specs.Width.{IsItem, AreItems}

-- a reply that no idle item changes
module _ (keeps : ℕ → ℕ → Bool) (hint reply : List Entry → ℕ) (same : (list more rest : List Entry) (i item : ℕ) → IsItem item → keeps (hint list) item ≡ false → reply ((list ++ more) ++ (i, item) ∷ rest) ≡ reply ((list ++ more) ++ rest)) where
  one_left_out : (base list rest : List Entry) (i item : ℕ) → Begins base list → IsItem item → IsFiltered keeps hint base item → reply (list ++ (i, item) ∷ rest) ≡ reply (list ++ rest)
  one_left_out base list rest i item b small idle =
      let all = begins_trans idle.0 base list idle.1 b in
      subst (λ (l : List Entry). reply (l ++ (i, item) ∷ rest) ≡ reply (l ++ rest)) (sym all.1) (same idle.0 all.0 rest i item small idle.2)

  behind : (base list rest : List Entry) (i : ℕ) (items kept : List ℕ) → Begins base list → AreItems items → AreKept keeps hint base items kept → reply (list ++ (tagged i items ++ rest)) ≡ reply (list ++ (tagged i kept ++ rest))
  unfolding AreKept
  behind base list rest i [] kept b small k = ap (λ (l : List ℕ). reply (list ++ (tagged i l ++ rest))) (sym k)
  behind base list rest i (x ∷ xs) kept b small (inl d) =
      one_left_out base list (tagged i xs ++ rest) i x b (All-head IsItem x xs small) d.0
      ∙ behind base list rest i xs kept b (All-tail IsItem x xs small) d.1
  behind base list rest i (x ∷ xs) kept b small (inr d) =
      ap reply (sym (append_assoc list ((i, x) ∷ []) (tagged i xs ++ rest)))
      ∙ behind base (list ++ (i, x) ∷ []) rest i xs d.0 (begins_more base list ((i, x) ∷ []) b) (All-tail IsItem x xs small) d.2
      ∙ ap reply (append_assoc list ((i, x) ∷ []) (tagged i d.0 ++ rest))
      ∙ ap (λ (l : List ℕ). reply (list ++ (tagged i l ++ rest))) (sym d.1)

  -- is not changed by items that were not kept
  pub all_left_out : (base list rest : List Entry) (i : ℕ) (items kept : List ℕ) → Begins base list → AreItems items → AreKept keeps hint base items kept → reply (list ++ tagged i items ++ rest) ≡ reply (list ++ tagged i kept ++ rest)
  all_left_out base list rest i items kept b small k =
      ap reply (append_assoc list (tagged i items) rest) ∙ behind base list rest i items kept b small k ∙ ap reply (sym (append_assoc list (tagged i kept) rest))
