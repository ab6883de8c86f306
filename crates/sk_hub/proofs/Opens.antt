-- Whose word is known not to be 0 after updaters were served.
use Rattle.std.proofs.Common.{◌≡◌, ◌≢◌, inl, inr, ℕ, zero, suc, ◌+◌, ◌<◌, ◌≤◌, ◌==◌, if◌then◌else◌, Bool, true, false, not, List, [], ◌∷◌, ◌++◌, fold, refl, ap, ◌∙◌, subst, arith}
use Rattle.std.proofs.lemmas.Bool.{eq-eqb, ne_eqb}
use Rattle.std.proofs.lemmas.List.Sums.{fold-append}
use mathlib.Core.Logic.{dite}
use native.Mathlib.Decide.{ℕ_discrete}
use Rattle.sk_machine.specs.declared.views.Move.{Move}
use Rattle.sk_machine.specs.declared.views.Move.TheVariants.{Find, Turn, Yield}
use Rattle.sk_machine.specs.declared.views.View.{View}
use Rattle.sk_gate.specs.Views.{told_open, is_open}
use Rattle.sk_hub.specs.Rounds.{ServesOne, ServesEach, Serves}

-- what these steps show of the word of updater i, after what was known before
abbrev told_by : ℕ → Bool → List Move → Bool
told_by i before steps = fold (told_open i) before steps

-- a number other than 0 at updater i
opens_here : (i word : ℕ) (before : Bool) → word ≢ 0 → (if i == i then not (word == 0) else before) ≡ true
opens_here i word before lower = ap (λ c. if c then not (word == 0) else before) (eq-eqb i i refl) ∙ ap not (ne_eqb word 0 lower)

-- and one at another updater
opens_there : (i k word : ℕ) (before : Bool) → k ≢ i → (if k == i then not (word == 0) else before) ≡ before
opens_there i k word before ne = ap (λ c. if c then not (word == 0) else before) (ne_eqb k i ne)

-- an updater that is served has a word that is not 0
opens_one : (i count : ℕ) (steps : List Move) (before : Bool) → ServesOne i count steps → told_by i before steps ≡ true
opens_one i count steps before (inl (none, (word, lower, is))) = ap (told_by i before) is ∙ opens_here i word before lower
opens_one i count steps before (inr (word, hint, some, lower, is)) = ap (told_by i before) is ∙ opens_here i hint (told_open i before (Find i 0)) lower

-- another that is served leaves it so
opens_stay : (i k count : ℕ) (steps : List Move) → k ≢ i → ServesOne k count steps → told_by i true steps ≡ true
opens_stay i k count steps ne (inl (none, (word, lower, is))) = ap (told_by i true) is ∙ opens_there i k word true ne
opens_stay i k count steps ne (inr (word, hint, some, lower, is)) = ap (told_by i true) is ∙ opens_there i k hint (told_open i true (Find k 0)) ne ∙ opens_there i k 0 true ne

-- each updater that was served has a word that is not 0
pub opens_each : (i from n count : ℕ) (steps : List Move) (before : Bool) → from ≤ i → i < from + n → ServesEach from n count steps → told_by i before steps ≡ true
unfolding ServesEach
opens_each i from zero count steps before least most (none, empty) = absurd (omega arith)
opens_each i from (suc n) count steps before least most (some, more, earlier, later, counted, is, each, one) =
    ap (told_by i before) is ∙ fold-append (told_open i) before earlier later ∙ dite (ℕ_discrete (from + n) i)
    (λ (here : from + n ≡ i). opens_one i more later (told_by i before earlier) (subst (λ z. ServesOne z more later) here one))
    (λ (ne : from + n ≢ i). ap (λ b. told_by i b later) (opens_each i from n some earlier before least (omega arith) each) ∙ opens_stay i (from + n) more later ne one)

-- so a turn that served the first n leaves the word of each of them
pub opens_served : (v w : View) (i n held found : ℕ) → i < n → Serves v 0 n held found w → is_open i w.steps ≡ true
opens_served v w i n held found within s =
    let start : Bool = told_by i (is_open i v.steps) (Turn 0 ∷ s.finishing) in
    let done : List Move = s.finishing ++ s.finding in
    ap (λ (x : View). is_open i x.steps) s.turn.advances.view
    ∙ fold-append (told_open i) false v.steps (Turn 0 ∷ done ++ Yield ∷ [])
    ∙ fold-append (told_open i) (is_open i v.steps) done (Yield ∷ [])
    ∙ fold-append (told_open i) (is_open i v.steps) s.finishing s.finding
    ∙ opens_each i 0 n found s.finding start (omega arith) (omega arith) s.finds
