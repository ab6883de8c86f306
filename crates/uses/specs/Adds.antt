-- Lines of a tenant's place and an item, and the calls that add them.
use Rattle.std.specs.Prelude.{ℕ, ◌<◌, List, [], ◌∷◌, All}
use Rattle.sk_model.specs.Width.{IsItem}
use Rattle.sk_tenant.specs.Calls.{Call, Adds, items_taken}
use Rattle.sk_tenant.specs.Desks.{calls_for}
use Rattle.sk_tenant.specs.declared.answers.Add.{Add}

-- each is of one of this many tenants, with an item
abbrev pub AreLines : ℕ → List (ℕ × ℕ) → Type 0
AreLines tenants lines = All (λ line. (line.0 < tenants) × IsItem line.1) lines

-- an add for each line, with its answer
abbrev pub adds_of : List (ℕ × ℕ) → List Add → List (ℕ × Call)
adds_of [] answers = []
adds_of (line ∷ lines) [] = []
adds_of (line ∷ lines) (answer ∷ answers) = (line.0, Adds line.1 answer) ∷ adds_of lines answers

-- the items of those that were kept or filtered for the tenant at place t, in order
abbrev pub taken_for : ℕ → List (ℕ × ℕ) → List Add → List ℕ
taken_for t lines answers = items_taken (calls_for t (adds_of lines answers))
