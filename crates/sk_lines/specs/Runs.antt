-- Whole lines of a text, in the bytes that they came in.
use Rattle.std.specs.Prelude.{◌≡◌, ◌⊎◌, ℕ, ◌+◌, ◌*◌, ◌<◌, List, ◌++◌, length, drop, slice_index, slice_range, slice_get, Some}
use Rattle.std.specs.Str.Lines.{strip_carriage_return}
use Rattle.sk_model.specs.Lines.{lines_of}
use Rattle.sk_lines.specs.Cutter.{Cutter, Follows, IsOfWholeLines, HasNoLf, counted}

-- this many lines, each with what ended it
pub record IsRun (n : ℕ) (run : List ℕ) : Type 0 where
  pub whole : IsOfWholeLines run
  pub count : length (lines_of run) ≡ n

-- the bytes that were given in between
abbrev pub run_between : Cutter → Cutter → List ℕ
run_between old new = drop (length old.front) new.front

-- the next lines were given, this many
pub record GivesRun (old new : Cutter) (n : ℕ) : Type 0 where
  pub is : IsRun n (run_between old new)
  pub front : new.front ≡ old.front ++ run_between old new
  pub rest : old.rest ≡ run_between old new ++ new.rest
  pub follows : (given : List (List ℕ)) (text : List ℕ) → Follows old given text → Follows new (given ++ lines_of (run_between old new)) text
  pub number : new.number ≡ counted (old.number + n)
  -- nothing else has changed
  pub stays : new ≡ record old { front = new.front; rest = new.rest; number = new.number }

-- why no lines were given together: none is complete, or more bytes are held than a line may have
abbrev pub GivesNone : Cutter → Type 0
GivesNone old = HasNoLf old.rest ⊎ (old.limit < length old.rest)

-- ---- lines of one length

-- LF comes after this many bytes, and again after as many
abbrev pub EndEach : ℕ → ℕ → List ℕ → Type 0
EndEach count len run = (i : ℕ) → i < count → slice_index run (i * (len + 1) + len) ≡ 10

-- each of the lines of a run has this many bytes before its LF, and a CR at their end is not the line's
pub record AreEven (count len : ℕ) (run : List ℕ) : Type 0 where
  pub bytes : length run ≡ count * (len + 1)
  pub ends : EndEach count len run
  pub lines : (i : ℕ) → i < count → slice_get (lines_of run) i ≡ Some (strip_carriage_return (slice_range run (i * (len + 1)) (i * (len + 1) + len)))
