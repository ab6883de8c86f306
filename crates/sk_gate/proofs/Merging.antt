-- What a merge comes to, from what its calls show.
use Rattle.std.proofs.Common.{◌≡◌, ℕ, false, List, [], ◌∷◌, ◌++◌, length, ap, ◌∙◌, subst, append_assoc, set}
use Rattle.sk_model.specs.Entries.{Entry, tagged}
use Rattle.sk_machine.specs.declared.views.Stage.TheVariants.{Idle, Published}
use Rattle.sk_machine.specs.declared.views.Move.{Move}
use Rattle.sk_machine.specs.declared.views.Move.TheVariants.{Publish, GiveBack}
use Rattle.sk_machine.specs.declared.views.Duty.TheVariants.{Leads}
use Rattle.sk_machine.specs.declared.views.View.{View}
use Rattle.sk_gate.specs.Views.{batch_of}
use Rattle.sk_gate.specs.Moves.{PublishesAt, GivesBackAt}
use Rattle.sk_gate.specs.Merge.{MergesAt}

pub merges_by : (hint packed : List ℕ → List Entry → ℕ) (v u u' w : View) (i : ℕ) → PublishesAt v (packed v.numbers (v.seen ++ tagged i (batch_of v))) u i → u' ≡ u → GivesBackAt u' (hint u'.numbers u'.seen) w i → MergesAt hint packed v w i
merges_by hint packed v u u' w i told same gave =
    let list : List Entry = v.seen ++ tagged i (batch_of v) in
    let first : List Move = Publish (packed v.numbers list) (length (batch_of v)) ∷ [] in
    let last : List Move = GiveBack i (hint v.numbers list) ∷ [] in
    let now : View = record v { seen = list; steps = v.steps ++ first; duty = Leads (Published i) false } in
    subst (λ (y : View). GivesBackAt y (hint y.numbers y.seen) w i) (same ∙ told) gave
    ∙ ap (λ (steps' : List Move). record v { seen = list; steps = steps'; duty = Leads Idle false; given = set v.given i list }) (append_assoc v.steps first last)
