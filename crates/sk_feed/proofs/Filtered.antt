-- An updater that is fed what its hint kept.
use Rattle.std.proofs.Common.{◌≡◌, inl, inr, ℕ, Bool, true, false, cond, List, [], ◌∷◌, sym, ap, refl, ◌∙◌}
use Rattle.std.specs.List.{filter}
use Rattle.sk_model.specs.Entries.{Entry}
use Rattle.sk_model.specs.Missing.{Begins}
use Rattle.sk_model.proofs.Missing.{begins_trans}
use Rattle.sk_compose.specs.Kept.{AreKept}
use Rattle.sk_hub.specs.Updaters.{UpdaterState, base_of}
use Rattle.sk_hub.specs.Calls.{Takes}

one_of_all : (keeps : ℕ → ℕ → Bool) (hint : List Entry → ℕ) (front base : List Entry) (n x : ℕ) (items kept : List ℕ) (b : Bool) → n ≡ hint front → Begins front base
    → ((kept : List ℕ) → AreKept keeps hint base (filter (keeps n) items) kept → AreKept keeps hint base items kept) → keeps n x ≡ b
    → AreKept keeps hint base (cond b (x ∷ filter (keeps n) items) (filter (keeps n) items)) kept → AreKept keeps hint base (x ∷ items) kept
unfolding AreKept
one_of_all keeps hint front base n x items kept true is begins rest passes (inl d) = inl (d.0, rest kept d.1)
one_of_all keeps hint front base n x items kept true is begins rest passes (inr d) = inr (d.0, d.1, rest d.0 d.2)
one_of_all keeps hint front base n x items kept false is begins rest fails k = inl ((front, begins, ap (λ m. keeps m x) (sym is) ∙ fails), rest kept k)

-- what was kept of the items that a hint of the base's beginning keeps was kept of all
all_of_kept : (keeps : ℕ → ℕ → Bool) (hint : List Entry → ℕ) (front base : List Entry) (n : ℕ) (items kept : List ℕ) → n ≡ hint front → Begins front base → AreKept keeps hint base (filter (keeps n) items) kept → AreKept keeps hint base items kept
all_of_kept keeps hint front base n [] kept is begins k = k
all_of_kept keeps hint front base n (x ∷ items) kept is begins k = one_of_all keeps hint front base n x items kept (keeps n x) is begins (λ more. all_of_kept keeps hint front base n items more is begins) refl k

pub takes_all : (keeps : ℕ → ℕ → Bool) (hint_of : List ℕ → List Entry → ℕ) (u u' : UpdaterState) (n : ℕ) (items : List ℕ) → n ≡ hint_of u.view.numbers (base_of u) → Takes keeps hint_of u (filter (keeps n) items) u' → Takes keeps hint_of u items u'
takes_all keeps hint_of u u' n items is taken = record {
  goes = taken.goes;
  more = taken.more;
  kept = taken.kept;
  of_items = all_of_kept keeps (hint_of u.view.numbers) (base_of u) (base_of u') n items taken.more is taken.goes.base taken.of_items;
}

-- the same of a hint that it had then or earlier
pub takes_by_earlier : (keeps : ℕ → ℕ → Bool) (hint_of : List ℕ → List Entry → ℕ) (u u' : UpdaterState) (base : List Entry) (items : List ℕ) → Begins base (base_of u) → Takes keeps hint_of u (filter (keeps (hint_of u.view.numbers base)) items) u' → Takes keeps hint_of u items u'
takes_by_earlier keeps hint_of u u' base items earlier taken = record {
  goes = taken.goes;
  more = taken.more;
  kept = taken.kept;
  of_items = all_of_kept keeps (hint_of u.view.numbers) base (base_of u') (hint_of u.view.numbers base) items taken.more refl (begins_trans base (base_of u) (base_of u') earlier taken.goes.base) taken.of_items;
}
