-- A command that writes a line of all items of its units once they have ended, and after each full window that is asked
-- for the line of what its updaters were told by then.
use Rattle.std.specs.Prelude.{◌≡◌, ℕ, List, [], ◌∷◌, ◌++◌, is_none}
use Rattle.sk_model.specs.Entries.{Entry, items_of_entries}
use Rattle.sk_tell.specs.Manners.{Manner, Holds}
use Rattle.sk_tell.specs.Feeding.{Course}
use Rattle.sk_tell.specs.Headline.{IsListOf, Goes}
use Rattle.sk_tell.specs.Texts.{interim_text}
use Rattle.sk_cli.specs.Behaviour.{Behaviour}
use Rattle.sk_cli.specs.Beside.{Beside, MadeHub}
use Rattle.sk_cli.specs.Told.{telling_on}

-- ---- what it writes, with a course of it: its units cut into windows, and a moment after each full one

-- the interim text of these units: a line for each moment
pub record IsInterimText (manner : Manner) (from to : Beside) (units : List (List ℕ)) (due : List ℕ) : Type 0 where
  pub course : Course manner units
  pub is : due ≡ interim_text manner course.moments

-- the whole text of these units: the interim text, and then the line of a list that has of each updater the items of its
-- blocks, and that the list of each moment begins
pub record IsWholeText (manner : Manner) (from to : Beside) (units : List (List ℕ)) (due : List ℕ) : Type 0 where
  pub course : Course manner units
  pub list : List Entry
  pub has_all : IsListOf manner (course.windows ++ course.rest ∷ []) list
  pub goes : Goes course.moments list
  pub holds : Holds manner (items_of_entries list)
  pub is : due ≡ interim_text manner course.moments ++ manner.line (items_of_entries list)

-- the hub that it makes, and what is left once all is written, are given
abbrev pub telling_by : Manner → MadeHub → (Beside → List (List ℕ) → List ℕ → Beside → Type 0) → Behaviour
telling_by manner makes Left = telling_on manner.kind manner.column (is_none manner.window) [] makes (IsInterimText manner) (IsWholeText manner) Left
