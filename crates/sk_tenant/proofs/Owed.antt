-- What calls for one tenant take of its updater.
use Rattle.std.proofs.Common.{◌≡◌, ◌↔◌, ⊎_elim, ℕ, ◌<◌, ◌≤◌, Bool, true, false, List, [], ◌∷◌, length, refl, sym, ap, subst, arith}
use Rattle.std.proofs.lemmas.List.Elements.{All-nil, All-cons, All-append}
use Rattle.sk_model.specs.Width.{IsItem, AreItems}
use Rattle.sk_hub.specs.Updaters.{UpdaterState, kept_of, base_of}
use Rattle.sk_hub.specs.Calls.{KeepsNone}
use Rattle.sk_hub.specs.declared.answers.Update.TheVariants as update
use Rattle.sk_feed.proofs.Calls.{filtered_now}
use Rattle.sk_hub.proofs.Calls.{none_refl, offered, takes_none, takes_trans, takes_few}
use Rattle.sk_tenant.specs.declared.answers.Add.{Add}
use Rattle.sk_tenant.specs.declared.answers.Add.TheVariants.{Kept, Filtered, Busy, Over}
use Rattle.sk_tenant.specs.Calls.{Call, Adds, Insists, Asks, Helps, by_theta, theta_keeps, theta_early, theta_hint, TakesItems, OwesAdd, OwesInsist, Owes, Lone, taken_of, items_taken}

-- ---- one call

no_items : (u u' : UpdaterState) → KeepsNone u u' → TakesItems u [] u'
no_items u u' none = takes_none theta_keeps theta_hint u u' none

nothing_done : (u u' : UpdaterState) → u' ≡ u → KeepsNone u u'
nothing_done u u' same = subst (KeepsNone u) (sym same) (none_refl u)

pub owed_takes : (quota : ℕ) (u u' : UpdaterState) (call : Call) → Owes quota u call u' → TakesItems u (taken_of call) u'
owed_takes quota u u' (Adds item Kept) owed = owed.1.takes
owed_takes quota u u' (Adds item Filtered) owed = owed.1.takes
owed_takes quota u u' (Adds item Busy) owed = no_items u u' owed.1.none
owed_takes quota u u' (Adds item Over) owed = no_items u u' (nothing_done u u' owed.stays)
owed_takes quota u u' (Insists item true) owed = owed.1.takes
owed_takes quota u u' (Insists item false) owed = no_items u u' (nothing_done u u' owed.stays)
owed_takes quota u u' (Asks word) owed = no_items u u' owed.none
owed_takes quota u u' (Helps answer) owed = no_items u u' owed.none

an_item : (item : ℕ) → IsItem item → AreItems (item ∷ [])
an_item item is = All-cons IsItem item [] is (All-nil IsItem)

pub owed_items : (quota : ℕ) (u u' : UpdaterState) (call : Call) → Owes quota u call u' → AreItems (taken_of call)
owed_items quota u u' (Adds item Kept) owed = an_item item owed.0.is_item
owed_items quota u u' (Adds item Filtered) owed = an_item item owed.0.is_item
owed_items quota u u' (Adds item Busy) owed = All-nil IsItem
owed_items quota u u' (Adds item Over) owed = All-nil IsItem
owed_items quota u u' (Insists item true) owed = an_item item owed.0.is_item
owed_items quota u u' (Insists item false) owed = All-nil IsItem
owed_items quota u u' (Asks word) owed = All-nil IsItem
owed_items quota u u' (Helps answer) owed = All-nil IsItem

-- one item more at most, and none at the quota
at_most_one : (quota : ℕ) (u u' : UpdaterState) (item : ℕ) → TakesItems u (item ∷ []) u' → length (kept_of u) < quota → length (kept_of u') ≤ quota
at_most_one quota u u' item takes below = omega (arith, takes_few theta_keeps theta_hint u u' (item ∷ []) takes, below)

no_more : (quota : ℕ) (u u' : UpdaterState) → KeepsNone u u' → length (kept_of u) ≤ quota → length (kept_of u') ≤ quota
no_more quota u u' none few = omega (arith, ap length none.kept, few)

pub owed_few : (quota : ℕ) (u u' : UpdaterState) (call : Call) → Owes quota u call u' → length (kept_of u) ≤ quota → length (kept_of u') ≤ quota
owed_few quota u u' (Adds item Kept) owed few = at_most_one quota u u' item owed.1.takes owed.0.below
owed_few quota u u' (Adds item Filtered) owed few = at_most_one quota u u' item owed.1.takes owed.0.below
owed_few quota u u' (Adds item Busy) owed few = no_more quota u u' owed.1.none few
owed_few quota u u' (Adds item Over) owed few = no_more quota u u' (nothing_done u u' owed.stays) few
owed_few quota u u' (Insists item true) owed few = at_most_one quota u u' item owed.1.takes owed.0.below
owed_few quota u u' (Insists item false) owed few = no_more quota u u' (nothing_done u u' owed.stays) few
owed_few quota u u' (Asks word) owed few = no_more quota u u' owed.none few
owed_few quota u u' (Helps answer) owed few = no_more quota u u' owed.none few

-- ---- calls, one after another

pub lone_takes : (quota : ℕ) (u u' : UpdaterState) (calls : List Call) → Lone quota u calls u' → TakesItems u (items_taken calls) u'
unfolding Lone
lone_takes quota u u' [] same = no_items u u' (nothing_done u u' same)
lone_takes quota u u' (call ∷ calls) (v, owed, rest) =
    takes_trans theta_keeps theta_hint u v u' (taken_of call) (items_taken calls) (owed_takes quota u v call owed) (lone_takes quota v u' calls rest)

pub lone_items : (quota : ℕ) (u u' : UpdaterState) (calls : List Call) → Lone quota u calls u' → AreItems (items_taken calls)
unfolding Lone
lone_items quota u u' [] same = All-nil IsItem
lone_items quota u u' (call ∷ calls) (v, owed, rest) =
    All-append IsItem (taken_of call) (items_taken calls) (owed_items quota u v call owed) (lone_items quota v u' calls rest)

pub lone_few : (quota : ℕ) (u u' : UpdaterState) (calls : List Call) → Lone quota u calls u' → length (kept_of u) ≤ quota → length (kept_of u') ≤ quota
unfolding Lone
lone_few quota u u' [] same few = no_more quota u u' (nothing_done u u' same) few
lone_few quota u u' (call ∷ calls) (v, owed, rest) few = lone_few quota v u' calls rest (owed_few quota u v call owed few)

pub lone_none : (quota : ℕ) (u u' : UpdaterState) → u' ≡ u → Lone quota u [] u'
unfolding Lone
lone_none quota u u' same = same

pub lone_first : (quota : ℕ) (u v u' : UpdaterState) (call : Call) (calls : List Call) → Owes quota u call v → Lone quota v calls u' → Lone quota u (call ∷ calls) u'
unfolding Lone
lone_first quota u v u' call calls owed rest = (v, owed, rest)

-- ---- the quota

-- an add is answered Over exactly at it
pub over_exactly : (quota : ℕ) (u u' : UpdaterState) (item : ℕ) (answer : Add) → OwesAdd quota u item answer u' → (answer ≡ Over) ↔ (length (kept_of u) ≡ quota)
over_exactly quota u u' item Kept owed = (λ over. cc, λ full. absurd (omega (arith, full, owed.0.below)))
over_exactly quota u u' item Filtered owed = (λ over. cc, λ full. absurd (omega (arith, full, owed.0.below)))
over_exactly quota u u' item Busy owed = (λ over. cc, λ full. absurd (omega (arith, full, owed.0.below)))
over_exactly quota u u' item Over owed = (λ over. owed.full, λ full. refl)

pub insist_exactly : (quota : ℕ) (u u' : UpdaterState) (item : ℕ) (taken : Bool) → OwesInsist quota u item taken u' → (taken ≡ false) ↔ (length (kept_of u) ≡ quota)
insist_exactly quota u u' item true owed = (λ over. cc, λ full. absurd (omega (arith, full, owed.0.below)))
insist_exactly quota u u' item false owed = (λ over. owed.full, λ full. refl)

-- ---- an item that is dropped

-- an item below the quota that the hint does not keep is taken, and nothing changes
pub owes_nothing : (quota : ℕ) (u : UpdaterState) (item : ℕ) → IsItem item → length (kept_of u) < quota → u.hint ≡ theta_hint u.view.numbers (base_of u) → theta_keeps u.hint item ≡ false → OwesInsist quota u item true u
owes_nothing quota u item is_item below hint dropped = (
  record { below = below; is_item = is_item },
  record {
    times = 0;
    insists = filtered_now by_theta u u item (record { dropped = dropped; stays = refl });
    takes = offered theta_keeps theta_early theta_hint u u item update.Filtered hint (λ is. dropped) (λ is. refl) (λ is. cc) (λ is. cc) (λ is. ⊎_elim (λ kept. cc) (λ handed. cc) is) (λ is. cc);
  },
)
