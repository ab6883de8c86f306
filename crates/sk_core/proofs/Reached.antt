-- What holds of all machines that enabled events lead to.
use Rattle.std.proofs.Common.{ℕ, ◌≤◌, List, [], ◌∷◌, refl, sym, subst}
use Rattle.sk_machine.specs.Fine.{Fine, fine_start}
use Rattle.sk_machine.specs.Invariant.{IsSound}
use Rattle.sk_machine.proofs.Parts.{starts_sound}
use Rattle.sk_core.specs.Stored.{hint_by, word_by}
use Rattle.sk_core.specs.Events.{after, answer_of}
use Rattle.sk_core.specs.Reached.{AreEnabled, after_all, answers_of, IsReached}
use Rattle.sk_core.specs.Runs.{IsRun}
use Rattle.sk_core.specs.declared.event.Event.{Event}
use Rattle.sk_core.proofs.Machine.{hint_positive}
use Rattle.sk_core.proofs.Runs.{event_keeps, steps}

module _ (k : ℕ) (two : 2 ≤ k) where
  all_keep : (events : List Event) (f : Fine) → IsSound (hint_by k) (word_by k) f → AreEnabled k events f → IsSound (hint_by k) (word_by k) (after_all k events f)
  unfolding AreEnabled after_all
  all_keep [] f ok enabled = ok
  all_keep (e ∷ es) f ok enabled = all_keep es (after k e f) (event_keeps k two f ok e enabled.0) enabled.1

  pub reached_sound : (f : Fine) → IsReached k f → IsSound (hint_by k) (word_by k) f
  reached_sound f r = subst (IsSound (hint_by k) (word_by k)) (sym r.machine)
      (all_keep r.events (fine_start (hint_by k) (word_by k) r.n r.sizes) (starts_sound (hint_by k) (word_by k) r.n r.sizes (hint_positive k [] two)) r.enabled)

  pub all_run : (events : List Event) (f : Fine) → IsSound (hint_by k) (word_by k) f → AreEnabled k events f → IsRun k events (answers_of k events f) f (after_all k events f)
  unfolding AreEnabled after_all answers_of IsRun
  all_run [] f ok enabled = refl
  all_run (e ∷ es) f ok enabled = (steps k two f ok e (answer_of k e f) refl enabled.0, all_run es (after k e f) (event_keeps k two f ok e enabled.0) enabled.1)
