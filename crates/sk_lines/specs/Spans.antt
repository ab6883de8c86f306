-- Many lines together, by the places where they lie.
use Rattle.std.specs.Prelude.{◌≡◌, ◌⊎◌, ℕ, ◌+◌, ◌<◌, ◌≤◌, List, [], ◌∷◌, ◌++◌, length, take, map, slice_range, All}
use Rattle.std.specs.List.{concat}
use Rattle.std.specs.Str.Lines.{strip_carriage_return}
use Rattle.sk_model.specs.Lines.{open_lines_of, IsFirstLong}
use Rattle.sk_lines.specs.Cutter.{Cutter, Follows, HasNoLf, counted}
use Rattle.sk_lines.specs.Marks.{KnowsLfs, IsFirstLf}
use Rattle.sk_lines.specs.declared.spans.Span.{Span}

-- the lines that lie in a text
abbrev pub lines_at : List Span → List ℕ → List (List ℕ)
lines_at spans text = map (λ span. slice_range text span.from span.to) spans

-- each lies in a text, after its first `start` bytes
abbrev pub AreBehind : ℕ → List Span → List ℕ → Type 0
AreBehind start spans text = All (λ span. (start ≤ span.from) × (span.from ≤ span.to) × (span.to ≤ length text)) spans

-- the next lines were given, and these lie there in the prefix
pub record GivesLines (old new : Cutter) (spans : List Span) : Type 0 where
  pub follows : (given : List (List ℕ)) (text : List ℕ) → Follows old given text → Follows new (given ++ lines_at spans new.front) text
  pub number : new.number ≡ counted (old.number + length spans)
  pub bytes : old.front ++ old.rest ≡ new.front ++ new.rest
  pub behind : AreBehind (length old.front) spans new.front
  -- each line was ended by one byte or two
  pub grows : length old.front + length (concat (lines_at spans new.front)) + length spans ≤ length new.front
  pub ends : length new.front ≤ length old.front + length (concat (lines_at spans new.front)) + (length spans + length spans)
  -- nothing else has changed
  pub stays : new ≡ record old { front = new.front; rest = new.rest; number = new.number }

-- why no line was given: none is complete, or the next is too long
abbrev pub HasNoShortLine : Cutter → Type 0
HasNoShortLine old = HasNoLf old.rest ⊎ IsFirstLong old.limit 0 (open_lines_of old.rest)

-- ---- how they are found

-- the ends of the first `count` of these spans
abbrev pub ends_of : ℕ → List Span → List ℕ
ends_of count spans = map (λ span. span.to) (take count spans)

-- LFs from a place on, one after another, and the place after the last
unfoldable pub FollowLfs : List ℕ → ℕ → List ℕ → ℕ → Type 0
FollowLfs bytes from [] at = from ≡ at
FollowLfs bytes from (end ∷ ends) at = IsFirstLf bytes from end × FollowLfs bytes (end + 1) ends at

-- the ends are the first LFs from a place on
abbrev pub AreEnds : List ℕ → ℕ → List ℕ → Type 0
AreEnds bytes from ends = (at : ℕ) × FollowLfs bytes from ends at

-- and those after them are known up to another
abbrev pub HoldsEnds : List ℕ → ℕ → List ℕ → ℕ → ℕ → Type 0
HoldsEnds bytes from ends scanned marks = (at : ℕ) × FollowLfs bytes from ends at × KnowsLfs bytes at scanned marks

-- the line up to an LF lies here, and is not too long
pub record IsLine (bytes : List ℕ) (limit from end : ℕ) (span : Span) : Type 0 where
  pub lf : IsFirstLf bytes from end
  pub start : span.from ≡ from
  pub size : span.to ≡ from + length (strip_carriage_return (slice_range bytes from end))
  pub short : span.to ≤ from + limit

-- lines from a place on, one after another, and the place after the last
unfoldable pub AreLines : List ℕ → ℕ → ℕ → List Span → ℕ → Type 0
AreLines bytes limit from [] at = from ≡ at
AreLines bytes limit from (span ∷ spans) at = (end : ℕ) × IsLine bytes limit from end span × AreLines bytes limit (end + 1) spans at

-- the line from a place on is too long
abbrev pub IsLongLine : List ℕ → ℕ → ℕ → Type 0
IsLongLine bytes limit from = (end : ℕ) × IsFirstLf bytes from end × (limit < length (strip_carriage_return (slice_range bytes from end)))
