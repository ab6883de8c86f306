-- Whole runs: each event was enabled, and each answer says what it should.
use Rattle.std.specs.Prelude.{◌≡◌, ◌↔◌, ℕ, ◌*◌, ◌<◌, List, [], ◌∷◌}
use Rattle.sk_model.specs.Entries.{entries_by, items_of_entries}
use Rattle.sk_model.specs.Missing.{Begins, LacksAtMost}
use Rattle.sk_model.specs.Sketch.{IsIdle}
use Rattle.sk_machine.specs.Fine.{Fine}
use Rattle.sk_machine.specs.Invariant.{Invariant}
use Rattle.sk_core.specs.Stored.{hint_by, word_by}
use Rattle.sk_core.specs.Events.{IsEnabled, after, answer_of, estimate_at}
use Rattle.sk_core.specs.declared.event.Event.{Event}
use Rattle.sk_core.specs.declared.event.Event.TheVariants.{Offer, Ask}
use Rattle.sk_core.specs.declared.event.Answer.{Answer}
use Rattle.sk_core.specs.declared.event.Answer.TheVariants as answers

-- all eight parts of the invariant, for the sketch of the k smallest
abbrev pub MeetsAll : ℕ → Fine → Type 0
MeetsAll k f = Invariant (hint_by k) (word_by k) f

-- a relaxed reply to token t (Rinberg and others): the estimate of the published list, which begins with all that
-- the token has seen, and lacks, of what it knows of an updater, at most one of its buffers; of what that
-- updater kept, at most two
pub record IsRelaxedReply (k t : ℕ) (f : Fine) (answer : Answer) : Type 0 where
  pub estimate : answer ≡ answers.Estimate (estimate_at k f).0 (estimate_at k f).1
  pub seen : Begins (f.tokens t).seen f.published
  pub known : (i : ℕ) → i < f.n → LacksAtMost ((f.tokens t).known i) (entries_by i f.published) (f.updaters i).size
  pub kept : (i : ℕ) → i < f.n → LacksAtMost (f.updaters i).kept (entries_by i f.published) (2 * (f.updaters i).size)

-- an offer is filtered exactly where it can change no sketch of the list that the updater's hint is of, or of a
-- longer one
abbrev pub IsFilteredByHint : ℕ → ℕ → ℕ → Fine → Answer → Type 0
IsFilteredByHint k i item f answer = (answer ≡ answers.Filtered) ↔ IsIdle k item (items_of_entries (f.updaters i).base)

-- one step of a run
pub record IsStep (k : ℕ) (f : Fine) (e : Event) (answer : Answer) : Type 0 where
  pub invariant : MeetsAll k f
  pub enabled : IsEnabled e f
  pub answer_is : answer ≡ answer_of k e f
  pub asks : (t : ℕ) → e ≡ Ask t → IsRelaxedReply k t f answer
  pub offers : (i item : ℕ) → e ≡ Offer i item → IsFilteredByHint k i item f answer

-- a run from one machine to another, with an answer to each event
unfoldable pub IsRun : ℕ → List Event → List Answer → Fine → Fine → Type 0
IsRun k [] [] from to = to ≡ from
IsRun k [] (a ∷ more) from to = ⊥
IsRun k (e ∷ es) [] from to = ⊥
IsRun k (e ∷ es) (a ∷ more) from to = IsStep k from e a × IsRun k es more (after k e from) to
