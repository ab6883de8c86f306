-- What is written of moments.
use Rattle.std.specs.Prelude.{ℕ, List, [], ◌∷◌, ◌++◌, decimal}
use Rattle.sk_model.specs.Entries.{items_of_entries}
use Rattle.sk_report.specs.Texts.{at_units}
use Rattle.sk_tell.specs.Manners.{Manner}
use Rattle.sk_tell.specs.Moments.{Moment}

-- a word, and a number after it
abbrev pub labelled : List ℕ → ℕ → List ℕ
labelled label number = label ++ decimal number

-- a line after a number of units
abbrev pub interim_line : ℕ → List ℕ → List ℕ
interim_line units line = at_units units ++ line

-- the line of a moment
abbrev pub moment_text : Manner → Moment → List ℕ
moment_text manner m = interim_line m.lines (manner.line (items_of_entries m.list))

-- the text of moments, one after another
unfoldable pub interim_text : Manner → List Moment → List ℕ
interim_text manner [] = []
interim_text manner (m ∷ moments) = moment_text manner m ++ interim_text manner moments
