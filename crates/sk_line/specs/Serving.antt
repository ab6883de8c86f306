-- What an updater does for a client's requests.
use Rattle.std.specs.Prelude.{◌≡◌, ◌≢◌, ◌⊎◌, ℕ, ◌+◌, ◌≤◌, nat_lt, Bool, List, [], ◌∷◌, ◌++◌, length, map, flat_map, fold, sum_by}
use Rattle.sk_model.specs.Entries.{Entry, items_of_entries, entries_by}
use Rattle.sk_model.specs.Missing.{Begins}
use Rattle.sk_model.specs.Sketch as k_min
use Rattle.sk_theta.specs.Sizes.{Sizes}
use Rattle.sk_compose.specs.Numbers.{k_of}
use Rattle.sk_hub.specs.Replies.{IsOwnReply}
use Rattle.sk_hub.specs.Updaters.{UpdaterState, base_of, kept_of, LooksInVain}
use Rattle.sk_hub.specs.Calls.{GoesOn, KeepsNone, Takes as TakesItems}
use Rattle.sk_line.specs.Pumps.{IsPumped}
use Rattle.sk_line.specs.Replies.{reply_line}
use Rattle.sk_line.specs.Requests.{client_request, added_item}
use Rattle.sk_line.specs.declared.answers.Answer.{Answer}
use Rattle.sk_line.specs.declared.answers.Answer.TheVariants.{Kept, Filtered, Busy, Estimate, Synced, Bad}
use Rattle.sk_line.specs.declared.requests.Request.{Request}
use Rattle.sk_line.specs.declared.requests.Request.TheVariants as request

-- ---- add

-- the item is kept behind those that were
pub record KeepsItem (item : ℕ) (u u' : UpdaterState) : Type 0 where
  pub goes : GoesOn u u'
  pub kept : kept_of u' ≡ kept_of u ++ item ∷ []

-- the item can change no estimate of the list that the updater filters by, which it has seen, nor of one that goes on
-- from there
pub record DropsItem (k item : ℕ) (u u' : UpdaterState) : Type 0 where
  pub stays : u' ≡ u
  pub idle : k_min.IsIdle k item (items_of_entries (base_of u))
  pub based : Begins (base_of u) u.view.seen

-- the fill buffer is full, and the one look loaded 0
pub record IsFull (u u' : UpdaterState) : Type 0 where
  pub full : length u.fill ≡ u.size
  pub look : LooksInVain u u'

-- what comes of an item, where the sketch keeps k hashes
abbrev pub AnswersAdd : ℕ → ℕ → Answer → UpdaterState → UpdaterState → Type 0
AnswersAdd k item Kept u u' = KeepsItem item u u'
AnswersAdd k item Filtered u u' = DropsItem k item u u'
AnswersAdd k item Busy u u' = IsFull u u'
AnswersAdd k item _ u u' = ⊥

-- ---- ask

-- one ask loaded the word of a list, and the estimate is that list's: it goes on from what was seen, and lacks of what
-- the updater has kept at most its last two buffers
pub record Estimates (k n d : ℕ) (u u' : UpdaterState) : Type 0 where
  pub word : ℕ
  pub reply : IsOwnReply (λ numbers list. k_min.packed_of (k_of numbers) (items_of_entries list)) u word u'
  pub estimate : (n, d) ≡ k_min.estimate_of k (items_of_entries u'.view.seen)

abbrev pub AnswersAsk : ℕ → Answer → UpdaterState → UpdaterState → Type 0
AnswersAsk k (Estimate n d) u u' = Estimates k n d u u'
AnswersAsk k _ u u' = ⊥

-- ---- sync

-- all that was kept is handed over, and is in the published list that the updater sees and filters by
pub record IsSynced (u u' : UpdaterState) : Type 0 where
  pub goes : KeepsNone u u'
  pub fill : u'.fill ≡ []
  pub sees : entries_by u.number u'.view.seen ≡ kept_of u
  pub based : entries_by u.number (base_of u') ≡ kept_of u

-- a look loaded 0: the one before the fill buffer was to be handed over, or one behind that
pub record IsUnpublished (u u' : UpdaterState) : Type 0 where
  pub before : UpdaterState
  pub goes : KeepsNone u before
  pub look : LooksInVain before u'

abbrev pub AnswersSync : Answer → UpdaterState → UpdaterState → Type 0
AnswersSync Synced u u' = IsSynced u u'
AnswersSync Busy u u' = IsUnpublished u u'
AnswersSync _ u u' = ⊥

-- ---- any request

abbrev pub AnswersBad : Answer → UpdaterState → UpdaterState → Type 0
AnswersBad Bad u u' = u' ≡ u
AnswersBad _ u u' = ⊥

-- what is done for a request and answered; nothing for the one that ends the session
abbrev pub AnswersRequest : Sizes → Request → List ℕ → Answer → UpdaterState → UpdaterState → Type 0
AnswersRequest shape request.Add line answer u u' = AnswersAdd shape.k (added_item shape.seed line) answer u u'
AnswersRequest shape request.Ask line answer u u' = AnswersAsk shape.k answer u u'
AnswersRequest shape request.Sync line answer u u' = AnswersSync answer u u'
AnswersRequest shape request.Quit line answer u u' = ⊥
AnswersRequest shape request.Bad line answer u u' = AnswersBad answer u u'

-- what is in the fill buffer could not be handed over, since a look loaded 0
pub record HandsInVain (u u' : UpdaterState) : Type 0 where
  pub some : u.fill ≢ []
  pub look : LooksInVain u u'

-- a sync that handed over what there was called the pump once more, before its look: n times in all
abbrev pub IsHelped : Request → UpdaterState → UpdaterState → ℕ → Type 0
IsHelped request.Sync u u' n = HandsInVain u u' ⊎ (2 ≤ n)
IsHelped _ u u' n = Unit {0}

-- a line that was read, its answer, and how often the pump was called for it
pub record Answered : Type 0 where
  pub line : List ℕ
  pub answer : Answer
  pub pumps : ℕ

-- one pumping, and what is done for the line
pub record AnswersLine (shape : Sizes) (u : UpdaterState) (t : Answered) (u' : UpdaterState) : Type 0 where
  pub pumped : UpdaterState
  pub pump : IsPumped u pumped
  pub once : 1 ≤ t.pumps
  pub does : AnswersRequest shape (client_request t.line) t.line t.answer pumped u'
  pub helped : IsHelped (client_request t.line) pumped u' t.pumps

-- so it was for each of these lines, one after another
unfoldable pub AnswersEach : Sizes → UpdaterState → List Answered → UpdaterState → Type 0
AnswersEach shape u [] u' = u' ≡ u
AnswersEach shape u (t ∷ answered) u' = (v : UpdaterState) × AnswersLine shape u t v × AnswersEach shape v answered u'

-- the lines, and all their replies
abbrev pub lines_in : List Answered → List (List ℕ)
lines_in answered = map (λ t. t.line) answered

abbrev pub replies_to : List Answered → List ℕ
replies_to answered = flat_map (λ t. reply_line t.answer) answered

-- how often the pump was called for all of them
abbrev pub pumps_for : List Answered → ℕ
pumps_for answered = sum_by (λ t. t.pumps) answered

-- ---- what was kept

-- the item of an add that was answered so
abbrev pub item_kept : ℕ → List ℕ → Answer → List ℕ
item_kept seed line Kept = added_item seed line ∷ []
item_kept seed line _ = []

-- the items of all of them, in order
abbrev pub items_kept : ℕ → List Answered → List ℕ
items_kept seed answered = flat_map (λ t. item_kept seed t.line t.answer) answered

-- how many items were kept since the last `synced`, where there were so many before these lines
abbrev pub counted_on : ℕ → Answer → ℕ
counted_on n Kept = n + 1
counted_on n Synced = 0
counted_on n _ = n

abbrev pub kept_since : ℕ → List Answered → ℕ
kept_since n answered = fold (λ m t. counted_on m t.answer) n answered

-- a line that was answered `busy`
abbrev pub answered_busy : List ℕ → ℕ → Answered
answered_busy line pumps = record { line = line; answer = Busy; pumps = pumps }

-- ---- what was offered

-- the item of an add that was answered `kept` or `filtered`
abbrev pub item_offered : ℕ → List ℕ → Answer → List ℕ
item_offered seed line Kept = added_item seed line ∷ []
item_offered seed line Filtered = added_item seed line ∷ []
item_offered seed line _ = []

-- the items of all of them, in order
abbrev pub items_offered : ℕ → List Answered → List ℕ
items_offered seed answered = flat_map (λ t. item_offered seed t.line t.answer) answered

-- how a sketch of the k smallest filters
abbrev pub theta_keeps : ℕ → ℕ → Bool
theta_keeps hint item = nat_lt item hint

abbrev pub theta_hint : List ℕ → List Entry → ℕ
theta_hint numbers list = k_min.theta_of (k_of numbers) (items_of_entries list)

-- of items, in order, the updater has kept each that its base does not filter
abbrev pub TakesOffered : UpdaterState → List ℕ → UpdaterState → Type 0
TakesOffered u items u' = TakesItems theta_keeps theta_hint u items u'
