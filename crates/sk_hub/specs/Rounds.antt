-- What a call that propagates does, by the steps that it appends.
use Rattle.std.specs.Prelude.{◌≡◌, ◌≢◌, ◌⊎◌, ℕ, zero, suc, ◌+◌, ◌<◌, List, [], ◌∷◌, ◌++◌, length}
use Rattle.sk_model.specs.Missing.{Begins}
use Rattle.sk_machine.specs.declared.views.Move.{Move}
use Rattle.sk_machine.specs.declared.views.Move.TheVariants.{Find, Publish, GiveBack, Turn, Yield}
use Rattle.sk_machine.specs.declared.views.View.{View}
use Rattle.sk_gate.specs.Views.{size_of}
use Rattle.sk_gate.specs.Moves.{IsSeen}

-- ---- steps

-- a batch of updater i, with this many items, was published, and its parcel given back with a hint that is not 0
abbrev pub PublishesBatch : ℕ → ℕ → List Move → Type 0
PublishesBatch i count steps = (word : ℕ) × (hint : ℕ) × (hint ≢ 0) × (steps ≡ Publish word count ∷ GiveBack i hint ∷ [])

-- a batch that was held was published, if there was one
abbrev pub FinishesHeld : ℕ → List Move → Type 0
FinishesHeld count steps = ((count ≡ 0) × (steps ≡ [])) ⊎ ((i : ℕ) × PublishesBatch i count steps)

-- the word of updater i was found at a number other than 0
abbrev pub FindsNothing : ℕ → List Move → Type 0
FindsNothing i steps = (word : ℕ) × (word ≢ 0) × (steps ≡ Find i word ∷ [])

-- it was found at 0, and the batch was published
abbrev pub FindsBatch : ℕ → ℕ → List Move → Type 0
FindsBatch i count steps = (word : ℕ) × (hint : ℕ) × (0 < count) × (hint ≢ 0) × (steps ≡ Find i 0 ∷ Publish word count ∷ GiveBack i hint ∷ [])

abbrev pub ServesOne : ℕ → ℕ → List Move → Type 0
ServesOne i count steps = ((count ≡ 0) × FindsNothing i steps) ⊎ FindsBatch i count steps

-- n updaters from this one on were served once each, in number order, with this many items in all
unfoldable pub ServesEach : ℕ → ℕ → ℕ → List Move → Type 0
ServesEach from zero count steps = (count ≡ 0) × (steps ≡ [])
ServesEach from (suc n) count steps = (before : ℕ) × (now : ℕ) × (earlier : List Move) × (later : List Move) × (count ≡ before + now) × (steps ≡ earlier ++ later) × ServesEach from n before earlier × ServesOne (from + n) now later

-- the batch of this updater was found, and refused; the second load leaves its slot
abbrev pub FindsInVain : ℕ → List Move
FindsInVain i = Find i 0 ∷ Find i 0 ∷ []

-- ---- views

-- a seat propagated by these steps; what it knows of updaters stays
pub record Advances (v : View) (steps : List Move) (w : View) : Type 0 where
  pub view : w ≡ record v { seen = w.seen; steps = v.steps ++ steps; duty = w.duty; given = w.given; sizes = w.sizes }
  pub grows : Begins v.seen w.seen
  pub sees : IsSeen v v.seen → IsSeen w w.seen
  pub sized : length w.sizes ≡ length v.sizes
  pub sizes_stay : (i : ℕ) → size_of v i ≢ 0 → size_of w i ≡ size_of v i

-- the turn was taken and yielded, with these steps in between
pub record TakesTurn (v : View) (steps : List Move) (w : View) : Type 0 where
  pub advances : Advances v (Turn 0 ∷ steps ++ Yield ∷ []) w
  pub duty : w.duty ≡ v.duty

-- a seat that may have propagated knows no more of updaters, and has seen as much or more
pub record KnowsAsMuch (v w : View) : Type 0 where
  pub view : w ≡ record v { seen = w.seen; steps = w.steps; given = w.given; sizes = w.sizes }
  pub grows : Begins v.seen w.seen
  pub later : Begins v.steps w.steps
  pub sees : IsSeen v v.seen → IsSeen w w.seen
  pub sized : length w.sizes ≡ length v.sizes
  pub sizes_stay : (i : ℕ) → size_of v i ≢ 0 → size_of w i ≡ size_of v i

-- the turn was found with another seat
abbrev pub IsElsewhere : View → ℕ → View → Type 0
IsElsewhere v other w = w ≡ record v { steps = v.steps ++ Turn (other + 1) ∷ [] }

-- a turn was taken and yielded, or found with another seat
abbrev pub TriesTheTurn : View → View → Type 0
TriesTheTurn v w = ((steps : List Move) × TakesTurn v steps w) ⊎ ((other : ℕ) × IsElsewhere v other w)

-- ---- calls

-- n updaters from this one on were served, after a batch that was held: of that one `held` items were published, and
-- `found` of those that were found
pub record Serves (v : View) (from n held found : ℕ) (w : View) : Type 0 where
  pub finishing : List Move
  pub finding : List Move
  pub finishes : FinishesHeld held finishing
  pub finds : ServesEach from n found finding
  pub turn : TakesTurn v (finishing ++ finding) w

-- each of n updaters was served once, and this many items were published
abbrev pub Sweeps : View → ℕ → ℕ → View → Type 0
Sweeps v n count w = (held : ℕ) × (found : ℕ) × (count ≡ held + found) × Serves v 0 n held found w

-- no memory was found for a batch that one of these n updaters had handed over; those before it were served
pub record RefusesFound (v : View) (from n : ℕ) (w : View) : Type 0 where
  pub held : ℕ
  pub found : ℕ
  pub served : ℕ
  pub finishing : List Move
  pub finding : List Move
  pub within : served < n
  pub finishes : FinishesHeld held finishing
  pub finds : ServesEach from served found finding
  pub turn : TakesTurn v (finishing ++ finding ++ FindsInVain (from + served)) w

-- no memory was found: for the batch that was held, and none was served, or for one that was found. It is held now
abbrev pub Refuses : View → ℕ → ℕ → View → Type 0
Refuses v from n w = TakesTurn v [] w ⊎ RefusesFound v from n w

-- ---- calls that try again

-- updater i was served, or the turn was found with another seat
abbrev pub TriesToServe : ℕ → View → View → Type 0
TriesToServe i v w = ((held : ℕ) × (found : ℕ) × Serves v i 1 held found w) ⊎ ((other : ℕ) × IsElsewhere v other w)

-- so it was tried, this many times
unfoldable pub TriesTimes : ℕ → ℕ → View → View → Type 0
TriesTimes i zero v w = w ≡ v
TriesTimes i (suc times) v w = (x : View) × TriesTimes i times v x × TriesToServe i x w
