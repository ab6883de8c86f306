-- The one updater of a hub that looks for the greatest item.
use Rattle.std.proofs.Common.{◌≡◌, ℕ, zero, suc, ◌<◌, List, [], ◌∷◌, length, get_or, set, slice_index, All, refl, ap, subst, ◌∙◌, arith}
use Rattle.std.proofs.lemmas.List.{length-set}
use Rattle.sk_model.specs.Entries.{Entry, entries_by}
use Rattle.sk_model.specs.Missing.{Begins}
use Rattle.sk_compose.specs.Kept.{AreKept}
use Rattle.sk_hub.specs.Drains.{IsNew}
use Rattle.sk_hub.specs.Hearts.{HeartState}
use Rattle.sk_hub.specs.Starts.{AreNew}
use Rattle.sk_hub.specs.Updaters.{UpdaterState, base_of, kept_of}
use Rattle.sk_feed.specs.Shares.{HasAllOf}
use Rattle.sk_hub.specs.Calls.{Takes}
use Rattle.uses.specs.Greatest.{greatest_of, greatest_in}
use Rattle.uses.proofs.Maximum.{above, hint_in, greatest_of_all}
use Rattle.uses.proofs.Parts.{new_at, kept_at}

abbrev pub hint_of_all : List ℕ → List Entry → ℕ
hint_of_all numbers list = hint_in list

pub one_at : (us : List UpdaterState) (u' d : UpdaterState) (i : ℕ) → length us ≡ 1 → i < length (set us 0 u') → (get_or (set us 0 u') i d ≡ u') × (i ≡ 0)
one_at [] u' d i one within = absurd (omega arith)
one_at (u ∷ []) u' d zero one within = (refl, refl)
one_at (u ∷ []) u' d (suc i) one within = absurd (omega arith)
one_at (u ∷ v ∷ us) u' d i one within = absurd (omega arith)

module _ (sizes : List ℕ) (h : HeartState) (us : List UpdaterState) (d u' : UpdaterState) (items : List ℕ) (new : AreNew hint_of_all sizes h us) (one : length us ≡ 1) where
  pub first_new : IsNew hint_of_all 0 (slice_index sizes 0) h (get_or us 0 d)
  first_new = new_at hint_of_all sizes h us new 0 d (omega arith)

  pub greatest_found : (list : List Entry) → ((base longer : List Entry) (items kept : List ℕ) → Begins base longer → AreKept above hint_in base items kept → AreKept above hint_in longer items kept)
      → Takes above hint_of_all (get_or us 0 d) items u' → HasAllOf list (set us 0 u') → greatest_in list ≡ greatest_of items
  greatest_found list stays t has =
      let count : length (set us 0 u') ≡ 1 = length-set us 0 u' ∙ one in
      let within : 0 < length (set us 0 u') = omega arith in
      let at = (one_at us u' u' 0 one within).0 in
      let own : entries_by 0 list ≡ kept_of u' = has.kept 0 u' within ∙ ap kept_of at in
      let base : Begins (base_of u') list = subst (λ (u : UpdaterState). Begins (base_of u) list) at (has.bases 0 u' within) in
      let only : All (λ entry. entry.0 < 1) list = subst (λ (n : ℕ). All (λ (entry : Entry). entry.0 < n) list) count has.only in
      greatest_of_all list items (entries_by 0 list) only refl
      (kept_at above hint_of_all (get_or us 0 d).view.numbers list 0 items (get_or us 0 d) u' stays refl first_new.kept t base own)
