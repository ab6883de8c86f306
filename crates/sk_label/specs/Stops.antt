-- What a taker of labelled lines did with a line: it took it, or it stopped there.
use Rattle.std.specs.Prelude.{◌≡◌, ℕ, List, ◌∷◌, ◌++◌, [], Option}
use Rattle.std.specs.Io.KnownBytes.{Appends}
use Rattle.sk_model.specs.Causes.{AppendsPart}
use Rattle.sk_label.specs.Rules.{Rules, IsBad, IsRefused, IsFine}
use Rattle.sk_label.specs.declared.fault.LineStop.{LineStop}
use Rattle.sk_label.specs.declared.fault.LineStop.TheVariants.{OutOfMemory, WriteFault, BadLine, Refused}

-- after these lines it took one that is fine, and wrote what is due at it
pub record Takes (rules : Rules) (Went : List (List ℕ) → Type 0) (old new : Option (List ℕ)) (before : List (List ℕ)) (line : List ℕ) : Type 0 where
  pub fine : IsFine rules before line
  pub went : Went (before ++ line ∷ [])
  pub written : Appends old new (rules.due_at before line)

-- after these lines it stopped at one: it is bad or refused, memory ran out, or of what is due at it a part was written
abbrev pub StopsBy : Rules → Option (List ℕ) → Option (List ℕ) → List (List ℕ) → List ℕ → LineStop → Type 0
StopsBy rules old new before line OutOfMemory = new ≡ old
StopsBy rules old new before line WriteFault = IsFine rules before line × AppendsPart old new (rules.due_at before line)
StopsBy rules old new before line BadLine = IsBad rules line × (new ≡ old)
StopsBy rules old new before line Refused = IsRefused rules before line × (new ≡ old)
