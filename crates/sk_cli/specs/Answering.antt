-- Commands that answer to lines, and how the lines of one read are answered.
use Rattle.std.specs.Prelude.{◌≡◌, ℕ, ◌+◌, ◌-◌, true, List, [], ◌∷◌, ◌++◌, length, take, Option, Result, Ok, Err, OnOk}
use Rattle.sk_model.specs.Limits.{line_limit}
use Rattle.sk_model.specs.Lines.{lines_of, open_lines_of, AreWithin}
use Rattle.sk_model.specs.Missing.{Begins}
use Rattle.sk_read.specs.Items.{complete_lines_of}
use Rattle.sk_read.specs.Reading.{Reading, HasRead, Goes}
use Rattle.sk_read.specs.declared.reader.LineFault.TheVariants as stop
use Rattle.sk_cli.specs.Behaviour.{Behaviour}
use Rattle.sk_cli.specs.Beside.{Beside}
use Rattle.sk_cli.specs.Lines.{IsLongLine}
use Rattle.sk_cli.specs.declared.fault.Fault.{Fault}
use Rattle.sk_cli.specs.declared.fault.Fault.TheVariants.{OutOfMemory, LongLine, BadEvent}

-- a command that examines line by line, with the text that is due for lines of which none is refused
pub record ByLines (how : Behaviour) (from to : Beside) (Due : List (List ℕ) → List ℕ → Type 0) : Type 0 where
  pub reads_it : how.reads ≡ true
  pub fine : (taken due : List ℕ) → AreWithin line_limit (open_lines_of taken) → Due (complete_lines_of taken) due → how.IsFineSoFar taken
  pub so_far : (taken due : List ℕ) → Due (complete_lines_of taken) due → how.IsDueSoFar from to taken due
  pub before : (n : ℕ) (text due : List ℕ) → AreWithin line_limit (take n (lines_of text)) → Due (take n (lines_of text)) due → how.IsDueBefore from to text due
  pub long : (n : ℕ) (text due : List ℕ) → IsLongLine n (lines_of text) → Due (take (n - 1) (lines_of text)) due → how.Refuses (LongLine n) text × how.IsDueAt from to (LongLine n) text due
  pub front : (lines rest : List (List ℕ)) (due : List ℕ) → Due (lines ++ rest) due → (part : List ℕ) × Due lines part × Begins part due

-- the text ends behind these lines, which were answered so, and nothing of it is refused
abbrev pub EndsFine : Behaviour → Beside → Beside → List (List ℕ) → List ℕ → Type 0
EndsFine how from to lines due = (text : List ℕ) → lines_of text ≡ lines → AreWithin line_limit lines → how.IsFine text × how.IsDue from to text due × how.Leaves from text due to

-- behind these lines, which were answered so, comes one that is refused
abbrev pub EndsBad : Behaviour → Beside → Beside → List (List ℕ) → List ℕ → List ℕ → Type 0
EndsBad how from to lines line due = (text : List ℕ) → Begins (lines ++ line ∷ []) (lines_of text) → AreWithin line_limit (lines ++ line ∷ [])
    → how.Refuses (BadEvent (length lines + 1)) text × how.IsDueAt from to (BadEvent (length lines + 1)) text due

-- a command that goes on from these lines by answers: what is due for lines, and which line is refused behind them
pub record GoesByAnswers (how : Behaviour) (from to : Beside) (Due : List (List ℕ) → List ℕ → Type 0) (Refused : List (List ℕ) → List ℕ → Type 0) (given : List (List ℕ)) : Type 0 where
  pub by_lines : ByLines how from to Due
  pub whole : (more : List (List ℕ)) (due : List ℕ) → Due (given ++ more) due → EndsFine how from to (given ++ more) due
  pub refused : (lines : List (List ℕ)) (line due : List ℕ) → Due lines due → Refused lines line → EndsBad how from to lines line due

-- a line was answered behind a text, which leads on from the lines before it
pub record Answers (Was Is : List (List ℕ) → List ℕ → Type 0) (line old new : List ℕ) : Type 0 where
  pub said : List ℕ
  pub text : new ≡ old ++ said
  pub on : (lines : List (List ℕ)) (due : List ℕ) → Was lines due → Is (lines ++ line ∷ []) (due ++ said)

-- how the answers to lines that were held ended behind these, of the bytes taken: at a line that is refused or too
-- long, at one whose answer found no memory, or at none
abbrev pub EndsHeld : (List (List ℕ) → List ℕ → Type 0) → Reading → Option (List ℕ) → List (List ℕ) → List ℕ → Result (Unit {0}) Fault → Type 0
EndsHeld Refused r left lines taken (Ok _) = HasRead r left lines taken
EndsHeld Refused r left lines taken (Err OutOfMemory) = (line : List ℕ) × HasRead r left (lines ++ line ∷ []) taken
EndsHeld Refused r left lines taken (Err (LongLine n)) = Goes r left lines taken (Err (stop.LongLine n))
EndsHeld Refused r left lines taken (Err (BadEvent n)) = (line : List ℕ) × HasRead r left (lines ++ line ∷ []) taken × (n ≡ length lines + 1) × Refused lines line
EndsHeld Refused r left lines taken (Err _) = ⊥

-- behind these lines, for which this was due, more were held and answered by this text
pub record AnswersHeld (Due Led : List (List ℕ) → List ℕ → Type 0) (Refused : List (List ℕ) → List ℕ → Type 0) (r : Reading) (left : Option (List ℕ)) (given : List (List ℕ)) (taken due text : List ℕ) (result : Result (Unit {0}) Fault) : Type 0 where
  pub more : List (List ℕ)
  pub is_due : Due (given ++ more) (due ++ text)
  pub led : OnOk result (Led (given ++ more) (due ++ text))
  pub ends : EndsHeld Refused r left (given ++ more) taken result
