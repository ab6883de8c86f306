-- Runs that grow by an event.
use Rattle.std.proofs.Common.{◌≡◌, ℕ, ◌+◌, ◌<◌, List, [], ◌∷◌, ◌++◌, length, take, get_or, refl, sym, ap, subst, ◌∙◌}
use Rattle.std.proofs.lemmas.List.{take_more}
use Rattle.sk_machine.specs.Fine.{Fine}
use Rattle.sk_core.specs.Events.{after}
use Rattle.sk_core.specs.Runs.{IsStep, IsRun}
use Rattle.sk_core.specs.declared.event.Event.{Event}
use Rattle.sk_core.specs.declared.event.Answer.{Answer}

pub run_none : (k : ℕ) (f : Fine) → IsRun k [] [] f f
unfolding IsRun
run_none k f = refl

pub run_more : (k : ℕ) (events : List Event) (answers : List Answer) (from to next : Fine) (e : Event) (a : Answer)
    → IsRun k events answers from to → IsStep k to e a → next ≡ after k e to → IsRun k (events ++ e ∷ []) (answers ++ a ∷ []) from next
unfolding IsRun
run_more k [] [] from to next e a run step is = (subst (λ (f : Fine). IsStep k f e a) run step, is ∙ ap (λ (f : Fine). after k e f) run)
run_more k [] (b ∷ answers) from to next e a run step is = absurd run
run_more k (f ∷ events) [] from to next e a run step is = absurd run
run_more k (f ∷ events) (b ∷ answers) from to next e a run step is = (run.0, run_more k events answers (after k f from) to next e a run.1 step is)

-- the event at a place was played behind those before it
pub played : (k now : ℕ) (events : List Event) (i : ℕ) (d : Event) (answers longer : List Answer) (from to next : Fine) (a : Answer)
    → now ≡ k → i < length events → IsRun k (take i events) answers from to → IsStep now to (get_or events i d) a → next ≡ after now (get_or events i d) to → longer ≡ answers ++ a ∷ []
    → IsRun k (take (i + 1) events) longer from next
played k now events i d answers longer from to next a same within run step is more =
    let e = get_or events i d in
    subst (λ (l : List Event). IsRun k l longer from next) (sym (take_more events i d within))
    (subst (λ (l : List Answer). IsRun k (take i events ++ e ∷ []) l from next) (sym more)
    (run_more k (take i events) answers from to next e a run (subst (λ (n : ℕ). IsStep n to e a) same step) (is ∙ ap (λ (n : ℕ). after n e to) same)))
