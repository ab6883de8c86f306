-- What is asked of the updater of one tenant, and what it owes for it, as if its hub were the only one.
use Rattle.std.specs.Prelude.{◌≡◌, ℕ, ◌<◌, nat_lt, ◌==◌, List, [], ◌∷◌, ◌++◌, length, flat_map, Bool, true, false}
use Rattle.sk_model.specs.Entries.{Entry, items_of_entries}
use Rattle.sk_model.specs.Sketch.{theta_of, packed_of}
use Rattle.sk_model.specs.Width.{item_end, IsItem}
use Rattle.sk_compose.specs.Numbers.{k_of}
use Rattle.sk_gate.specs.Views.{is_open}
use Rattle.sk_hub.specs.declared.answers.Help.{Help}
use Rattle.sk_hub.specs.declared.answers.Help.TheVariants.{Served, Elsewhere, OutOfMemory}
use Rattle.sk_hub.specs.Updaters.{UpdaterState, kept_of}
use Rattle.sk_hub.specs.Calls.{KeepsNone, Takes, IsBusyWith}
use Rattle.sk_hub.specs.Replies.{IsOwnReply}
use Rattle.sk_hub.specs.Rounds.{Sweeps, IsElsewhere}
use Rattle.sk_feed.specs.Calls.{Filter, filter_of, Accepts, Filters, InsistsAfter}
use Rattle.sk_tenant.specs.declared.answers.Add.{Add}
use Rattle.sk_tenant.specs.declared.answers.Add.TheVariants.{Kept, Filtered, Busy, Over}

-- ---- how the hubs filter: by theta of the k smallest

abbrev pub theta_keeps : ℕ → ℕ → Bool
theta_keeps theta item = nat_lt item theta

abbrev pub theta_hint : List ℕ → List Entry → ℕ
theta_hint numbers list = theta_of (k_of numbers) (items_of_entries list)

abbrev pub theta_word : List ℕ → List Entry → ℕ
theta_word numbers list = packed_of (k_of numbers) (items_of_entries list)

-- few items are published
abbrev pub theta_early : ℕ → Bool
theta_early theta = theta == item_end

abbrev pub by_theta : Filter
by_theta = filter_of theta_keeps theta_early theta_hint

-- of these items, in order, the updater has kept each that is not filtered
abbrev pub TakesItems : UpdaterState → List ℕ → UpdaterState → Type 0
TakesItems u items u' = Takes theta_keeps theta_hint u items u'

-- ---- a call, with its answer: an add with what became of its item; an item that was insisted on, and whether it was
-- taken; an ask with its word; a help with what came of it

pub data Call : Type 0 where
  Adds : ℕ → Add → Call
  Insists : ℕ → Bool → Call
  Asks : ℕ → Call
  Helps : Help → Call

-- the item of a call that took one: it was kept, or filtered
abbrev pub taken_of : Call → List ℕ
taken_of (Adds item Kept) = item ∷ []
taken_of (Adds item Filtered) = item ∷ []
taken_of (Insists item true) = item ∷ []
taken_of _ = []

-- the items that calls took, in order
abbrev pub items_taken : List Call → List ℕ
items_taken calls = flat_map taken_of calls

-- ---- what is owed for it

-- as many items were kept as the quota allows, and no step is taken
pub record IsOver (quota : ℕ) (u u' : UpdaterState) : Type 0 where
  pub full : length (kept_of u) ≡ quota
  pub stays : u' ≡ u

-- an item is offered below the quota
pub record IsOffered (quota : ℕ) (u : UpdaterState) (item : ℕ) : Type 0 where
  pub below : length (kept_of u) < quota
  pub is_item : IsItem item

-- below the quota it is filtered by the hint
pub record IsFiltered (quota : ℕ) (u : UpdaterState) (item : ℕ) : Type 0 where
  pub below : length (kept_of u) < quota
  pub filtered : theta_keeps u.hint item ≡ false

-- it is kept
pub record KeepsItem (u : UpdaterState) (item : ℕ) (u' : UpdaterState) : Type 0 where
  pub accepts : Accepts by_theta u item u'
  pub kept : kept_of u' ≡ kept_of u ++ item ∷ []
  pub takes : TakesItems u (item ∷ []) u'

-- it changes no later word
pub record DropsItem (u : UpdaterState) (item : ℕ) (u' : UpdaterState) : Type 0 where
  pub filters : Filters by_theta u item u'
  pub takes : TakesItems u (item ∷ []) u'

-- the fill buffer is full, and the last one is not published: it is not kept
pub record RefusesItem (u : UpdaterState) (item : ℕ) (u' : UpdaterState) : Type 0 where
  pub busy : IsBusyWith theta_keeps u item u'
  pub none : KeepsNone u u'

-- it was offered, with help at each refusal, until it was taken
pub record InsistsOnItem (u : UpdaterState) (item : ℕ) (u' : UpdaterState) : Type 0 where
  pub times : ℕ
  pub insists : InsistsAfter by_theta times u item u'
  pub takes : TakesItems u (item ∷ []) u'

-- what is owed for an add, by its answer
abbrev pub OwesAdd : ℕ → UpdaterState → ℕ → Add → UpdaterState → Type 0
OwesAdd quota u item Kept u' = IsOffered quota u item × KeepsItem u item u'
OwesAdd quota u item Filtered u' = IsOffered quota u item × DropsItem u item u'
OwesAdd quota u item Busy u' = IsOffered quota u item × RefusesItem u item u'
OwesAdd quota u item Over u' = IsOver quota u u'

-- and for an item that is insisted on
abbrev pub OwesInsist : ℕ → UpdaterState → ℕ → Bool → UpdaterState → Type 0
OwesInsist quota u item true u' = IsOffered quota u item × InsistsOnItem u item u'
OwesInsist quota u item false u' = IsOver quota u u'

-- how it propagated: each updater of its hub was served once, or the turn was found with another seat
abbrev pub HelpsSo : UpdaterState → Help → UpdaterState → Type 0
HelpsSo u (Served count) u' = Sweeps u.view (length u.view.sizes) count u'.view × (is_open u.number u'.view.steps ≡ true)
HelpsSo u (Elsewhere other) u' = IsElsewhere u.view other u'.view
HelpsSo u OutOfMemory u' = ⊥

pub record OwesHelp (u : UpdaterState) (answer : Help) (u' : UpdaterState) : Type 0 where
  pub helps : HelpsSo u answer u'
  pub stays : u' ≡ record u { view = u'.view }
  pub none : KeepsNone u u'

pub record OwesAsk (u : UpdaterState) (word : ℕ) (u' : UpdaterState) : Type 0 where
  pub reply : IsOwnReply theta_word u word u'
  pub none : KeepsNone u u'

-- what an updater with this quota owes for a call
abbrev pub Owes : ℕ → UpdaterState → Call → UpdaterState → Type 0
Owes quota u (Adds item answer) u' = OwesAdd quota u item answer u'
Owes quota u (Insists item taken) u' = OwesInsist quota u item taken u'
Owes quota u (Asks word) u' = OwesAsk u word u'
Owes quota u (Helps answer) u' = OwesHelp u answer u'

-- these calls, in order, are those of one updater of a hub of its own
unfoldable pub Lone : ℕ → UpdaterState → List Call → UpdaterState → Type 0
Lone quota u [] u' = u' ≡ u
Lone quota u (call ∷ calls) u' = (v : UpdaterState) × Owes quota u call v × Lone quota v calls u'
