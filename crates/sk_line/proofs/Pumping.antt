-- What pumps do.
use Rattle.std.proofs.Common.{◌≡◌, inl, inr, ℕ, zero, suc, ◌+◌, List, [], ◌∷◌, ◌++◌, All, false, refl, sym, ap, ◌∙◌, subst, append-nil}
use Rattle.std.proofs.lemmas.List.Elements.{All-nil, All-cons, All-append}
use Rattle.sk_machine.specs.declared.views.Move.{Move}
use Rattle.sk_machine.specs.declared.views.Move.TheVariants.{Find, Publish, GiveBack, Turn, Yield}
use Rattle.sk_machine.specs.declared.views.View.{View}
use Rattle.sk_hub.specs.Hearts.{HeartState}
use Rattle.sk_hub.specs.Rounds.{FinishesHeld, ServesOne, ServesEach, FindsInVain, KnowsAsMuch, TakesTurn, IsElsewhere, Sweeps, Refuses}
use Rattle.sk_hub.specs.Updaters.{UpdaterState}
use Rattle.sk_hub.specs.declared.answers.Help.{Help}
use Rattle.sk_hub.specs.declared.answers.Help.TheVariants as help
use Rattle.sk_hub.specs.declared.answers.Sweep.{Sweep}
use Rattle.sk_hub.specs.declared.answers.Sweep.TheVariants as sweep
use Rattle.sk_line.specs.Pumps.{is_look, IsPumped, TriesToSweep, lasting}

-- ---- no look

abbrev IsNoLook : Move → Type 0
IsNoLook step = is_look step ≡ false

abbrev AreNoLooks : List Move → Type 0
AreNoLooks steps = All IsNoLook steps

none : AreNoLooks []
none = All-nil IsNoLook

before : (step : Move) (steps : List Move) → is_look step ≡ false → AreNoLooks steps → AreNoLooks (step ∷ steps)
before step steps is all = All-cons IsNoLook step steps is all

both : (xs ys : List Move) → AreNoLooks xs → AreNoLooks ys → AreNoLooks (xs ++ ys)
both xs ys a b = All-append IsNoLook xs ys a b

published : (word count i hint : ℕ) → AreNoLooks (Publish word count ∷ GiveBack i hint ∷ [])
published word count i hint = before (Publish word count) (GiveBack i hint ∷ []) refl (before (GiveBack i hint) [] refl none)

finished : (count : ℕ) (steps : List Move) → FinishesHeld count steps → AreNoLooks steps
finished count steps (inl f) = subst AreNoLooks (sym f.1) none
finished count steps (inr f) = subst AreNoLooks (sym f.1.3) (published f.1.0 count f.0 f.1.1)

served : (i count : ℕ) (steps : List Move) → ServesOne i count steps → AreNoLooks steps
served i count steps (inl s) = subst AreNoLooks (sym s.1.2) (before (Find i s.1.0) [] refl none)
served i count steps (inr s) = subst AreNoLooks (sym s.4) (before (Find i 0) (Publish s.0 count ∷ GiveBack i s.1 ∷ []) refl (published s.0 count i s.1))

served_each : (from n count : ℕ) (steps : List Move) → ServesEach from n count steps → AreNoLooks steps
unfolding ServesEach
served_each from zero count steps s = subst AreNoLooks (sym s.1) none
served_each from (suc n) count steps s = subst AreNoLooks (sym s.5) (both s.2 s.3 (served_each from n s.0 s.2 s.6) (served (from + n) s.1 s.3 s.7))

in_vain : (i : ℕ) → AreNoLooks (FindsInVain i)
in_vain i = before (Find i 0) (Find i 0 ∷ []) refl (before (Find i 0) [] refl none)

-- ---- steps that a view tells

abbrev TellsNoLook : View → View → Type 0
TellsNoLook v w = (steps : List Move) × (w.steps ≡ v.steps ++ steps) × AreNoLooks steps

turned : (v w : View) (steps : List Move) → TakesTurn v steps w → AreNoLooks steps → TellsNoLook v w
turned v w steps t all = (
  Turn 0 ∷ steps ++ Yield ∷ [],
  ap (λ z. z.steps) t.advances.view,
  before (Turn 0) (steps ++ Yield ∷ []) refl (both steps (Yield ∷ []) all (before Yield [] refl none)),
)

swept : (v w : View) (n count : ℕ) → Sweeps v n count w → TellsNoLook v w
swept v w n count s =
    let serves = s.3 in
    turned v w (serves.finishing ++ serves.finding) serves.turn (both serves.finishing serves.finding (finished s.0 serves.finishing serves.finishes) (served_each 0 n s.1 serves.finding serves.finds))

refused : (v w : View) (n : ℕ) → Refuses v 0 n w → TellsNoLook v w
refused v w n (inl t) = turned v w [] t none
refused v w n (inr r) = turned v w (r.finishing ++ r.finding ++ FindsInVain (0 + r.served)) r.turn
    (both (r.finishing ++ r.finding) (FindsInVain (0 + r.served)) (both r.finishing r.finding (finished r.held r.finishing r.finishes) (served_each 0 r.served r.found r.finding r.finds)) (in_vain (0 + r.served)))

elsewhere : (v w : View) (other : ℕ) → IsElsewhere v other w → TellsNoLook v w
elsewhere v w other e = (Turn (other + 1) ∷ [], ap (λ z. z.steps) e, before (Turn (other + 1)) [] refl none)

-- ---- pumps

pub pumped_same : (u u' : UpdaterState) → u' ≡ u → IsPumped u u'
pumped_same u u' same = subst (IsPumped u) (sym same) (record {
  stays = refl;
  knows = record { view = refl; grows = ([], sym (append-nil u.view.seen)); later = ([], sym (append-nil u.view.steps)); sees = λ seen. seen; sized = refl; sizes_stay = λ i known. refl };
  steps = [];
  taken = sym (append-nil u.view.steps);
  no_look = none;
})

told : (u u' : UpdaterState) → u' ≡ record u { view = u'.view } → KnowsAsMuch u.view u'.view → TellsNoLook u.view u'.view → IsPumped u u'
told u u' stays knows steps = record { stays = stays; knows = knows; steps = steps.0; taken = steps.1; no_look = steps.2 }

pub pumped_helped : (u u' : UpdaterState) (n : ℕ) (r : Help) → u' ≡ record u { view = u'.view } → KnowsAsMuch u.view u'.view → ((count : ℕ) → r ≡ help.Served count → Sweeps u.view n count u'.view) → ((other : ℕ) → r ≡ help.Elsewhere other → IsElsewhere u.view other u'.view) →
    (r ≡ help.OutOfMemory → Refuses u.view 0 n u'.view) → IsPumped u u'
pumped_helped u u' n (help.Served count) stays knows serves other refuses = told u u' stays knows (swept u.view u'.view n count (serves count refl))
pumped_helped u u' n (help.Elsewhere i) stays knows serves other refuses = told u u' stays knows (elsewhere u.view u'.view i (other i refl))
pumped_helped u u' n help.OutOfMemory stays knows serves other refuses = told u u' stays knows (refused u.view u'.view n (refuses refl))

-- what stays of a heart that may have propagated
pub lasts : (h h' : HeartState) → h' ≡ record h { view = h'.view } → KnowsAsMuch h.view h'.view → lasting h' ≡ lasting h
lasts h h' stays knows = ap lasting stays ∙ ap (λ (v : View). record h { view = record v { seen = []; steps = []; given = []; sizes = [] } }) knows.view

pub helps : (v w : View) (n : ℕ) (r : Help) → ((count : ℕ) → r ≡ help.Served count → Sweeps v n count w) → ((other : ℕ) → r ≡ help.Elsewhere other → IsElsewhere v other w) → (r ≡ help.OutOfMemory → Refuses v 0 n w) → TriesToSweep n v w
helps v w n (help.Served count) serves other refuses = inl (count, serves count refl)
helps v w n (help.Elsewhere i) serves other refuses = inr (inl (i, other i refl))
helps v w n help.OutOfMemory serves other refuses = inr (inr (refuses refl))

pub sweeps : (v w : View) (n : ℕ) (r : Sweep) → ((count : ℕ) → r ≡ sweep.Swept count → Sweeps v n count w) → ((other : ℕ) → r ≡ sweep.Elsewhere other → IsElsewhere v other w) → (r ≡ sweep.OutOfMemory → Refuses v 0 n w) → TriesToSweep n v w
sweeps v w n (sweep.Swept count) serves other refuses = inl (count, serves count refl)
sweeps v w n (sweep.Elsewhere i) serves other refuses = inr (inl (i, other i refl))
sweeps v w n sweep.OutOfMemory serves other refuses = inr (inr (refuses refl))
