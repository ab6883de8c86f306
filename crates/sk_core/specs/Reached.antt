-- All machines that schedules lead to.
use Rattle.std.specs.Prelude.{◌≡◌, ℕ, List, [], ◌∷◌}
use Rattle.sk_machine.specs.Fine.{Fine, fine_start}
use Rattle.sk_core.specs.Stored.{hint_by, word_by}
use Rattle.sk_core.specs.Events.{IsEnabled, after, answer_of}
use Rattle.sk_core.specs.declared.event.Event.{Event}
use Rattle.sk_core.specs.declared.event.Answer.{Answer}

-- each event is enabled in its turn
unfoldable pub AreEnabled : ℕ → List Event → Fine → Type 0
AreEnabled k [] f = Unit {0}
AreEnabled k (e ∷ es) f = IsEnabled e f × AreEnabled k es (after k e f)

-- the machine after all of them
unfoldable pub after_all : ℕ → List Event → Fine → Fine
after_all k [] f = f
after_all k (e ∷ es) f = after_all k es (after k e f)

-- their answers
unfoldable pub answers_of : ℕ → List Event → Fine → List Answer
answers_of k [] f = []
answers_of k (e ∷ es) f = answer_of k e f ∷ answers_of k es (after k e f)

-- events, each enabled in its turn, lead to a machine from the start of n updaters with buffers of these sizes,
-- 0 for one that is not admitted
pub record IsReached (k : ℕ) (f : Fine) : Type 0 where
  pub n : ℕ
  pub sizes : ℕ → ℕ
  pub events : List Event
  pub enabled : AreEnabled k events (fine_start (hint_by k) (word_by k) n sizes)
  pub machine : f ≡ after_all k events (fine_start (hint_by k) (word_by k) n sizes)
