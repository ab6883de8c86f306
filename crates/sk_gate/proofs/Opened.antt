-- What an updater's seat knows of its word by its own steps.
use Rattle.std.proofs.Common.{◌≡◌, ◌≢◌, ℕ, Bool, true, false, true≢false, not, if◌then◌else◌, ◌==◌, List, [], ◌∷◌, ◌++◌, refl, sym, ap, ◌∙◌, subst, eq-eqb, ne_eqb}
use Rattle.std.proofs.lemmas.List.Sums.{fold-append}
use mathlib.Core.Logic.{dite}
use native.Mathlib.Decide.{ℕ_discrete}
use Rattle.sk_machine.specs.Coarse.{Coarse}
use Rattle.sk_machine.specs.declared.views.Move.{Move}
use Rattle.sk_machine.specs.declared.views.Move.TheVariants.{Hand}
use Rattle.sk_machine.specs.declared.views.Post.{Post}
use Rattle.sk_machine.specs.declared.views.Post.TheVariants.{Guest, Root, Updater}
use Rattle.sk_gate.specs.Views.{told_open, is_open}
use Rattle.sk_gate.specs.Rule.{KnowsOpen}

open_after : (i : ℕ) (steps : List Move) (move : Move) → is_open i (steps ++ move ∷ []) ≡ told_open i (is_open i steps) move
open_after i steps move = fold-append (told_open i) false steps (move ∷ [])

-- a step that shows nothing of an updater's word
pub open_neutral : (m m' : Coarse) (steps : List Move) (move : Move) (p : Post) → ((i : ℕ) (b : Bool) → told_open i b move ≡ b) → ((i : ℕ) → (m.updaters i).word ≢ 0 → (m'.updaters i).word ≢ 0) → KnowsOpen m steps p → KnowsOpen m' (steps ++ move ∷ []) p
open_neutral m m' steps move Guest tells word t = tt
open_neutral m m' steps move (Root made) tells word t = tt
open_neutral m m' steps move (Updater i mine) tells word t = λ e. word i (t (sym (open_after i steps move ∙ tells i (is_open i steps)) ∙ e))

-- a step that shows whether the word of updater k is 0
pub open_told : (m m' : Coarse) (steps : List Move) (move : Move) (k x : ℕ) (p : Post) → ((i : ℕ) (b : Bool) → told_open i b move ≡ (if k == i then not (x == 0) else b)) → (x ≢ 0 → (m'.updaters k).word ≢ 0) → ((i : ℕ) → i ≢ k → (m.updaters i).word ≢ 0 → (m'.updaters i).word ≢ 0)
    → KnowsOpen m steps p → KnowsOpen m' (steps ++ move ∷ []) p
open_told m m' steps move k x Guest tells here others t = tt
open_told m m' steps move k x (Root made) tells here others t = tt
open_told m m' steps move k x (Updater i mine) tells here others t = λ e. let b : Bool = is_open i steps in let is : (if k == i then not (x == 0) else b) ≡ true = sym (open_after i steps move ∙ tells i b) ∙ e in dite (ℕ_discrete i k)
    (λ same. let told : not (x == 0) ≡ true = ap (λ c. if c then not (x == 0) else b) (sym (eq-eqb k i (sym same))) ∙ is in
    subst (λ j. (m'.updaters j).word ≢ 0) (sym same) (here (λ z. true≢false (sym told ∙ ap (λ c. not c) (eq-eqb x 0 z)))))
    (λ ne. others i ne (t (ap (λ c. if c then not (x == 0) else b) (sym (ne_eqb k i (λ q. ne (sym q)))) ∙ is)))

-- after a hand it knows nothing
pub open_shut : (i : ℕ) (steps : List Move) → is_open i (steps ++ Hand i ∷ []) ≡ false
open_shut i steps = open_after i steps (Hand i) ∙ ap (λ c. if c then false else is_open i steps) (eq-eqb i i refl)
