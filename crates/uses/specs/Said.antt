-- What an operator would say of labelled lines, by how their reading ended.
use Rattle.std.specs.Prelude.{◌≡◌, ◌<◌, ◌≤◌, ◌+◌, ⊤, ℕ, List, [], ◌∷◌, ◌++◌, length, Result, Ok, Err}
use Rattle.sk_model.specs.Limits.{line_limit}
use Rattle.sk_model.specs.Lines.{lines_of}
use Rattle.sk_model.specs.Missing.{Begins}
use Rattle.sk_label.specs.Rules.{Rules, IsBad, IsRefused, AreFine}
use Rattle.sk_label.specs.declared.fault.LabelFault.{LabelFault}
use Rattle.sk_label.specs.declared.fault.LabelFault.TheVariants.{LongLine, TooMuch, BadLine, Refused}

-- this is so of line n of a text, counted from 1, and all lines before it are fine
pub record IsFirst (rules : Rules) (text : List ℕ) (n : ℕ) (Is : List (List ℕ) → List ℕ → Type 0) : Type 0 where
  pub before : List (List ℕ)
  pub line : List ℕ
  pub begins : Begins (before ++ line ∷ []) (lines_of text)
  pub number : n ≡ length before + 1
  pub fine : AreFine rules before
  pub is : Is before line

-- what is so of a text at each fault; one of memory, or of a call, may come at any text
abbrev pub Blames : Rules → ℕ → List ℕ → LabelFault → Type 0
Blames rules most text (LongLine n) = IsFirst rules text n (λ before line. line_limit < length line)
Blames rules most text (BadLine n) = IsFirst rules text n (λ before line. IsBad rules line)
Blames rules most text (Refused n) = IsFirst rules text n (IsRefused rules)
Blames rules most text TooMuch = most ≤ length text
Blames rules most text other = ⊤

-- what is so of a text whose reading, of fewer than this many bytes, ended so
abbrev pub Says : Rules → ℕ → List ℕ → Result ℕ LabelFault → Type 0
Says rules most text (Ok n) = (n ≡ length (lines_of text)) × AreFine rules (lines_of text)
Says rules most text (Err fault) = Blames rules most text fault
