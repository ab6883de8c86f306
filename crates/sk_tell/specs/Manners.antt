-- What a telling goes by, and within which limits.
use Rattle.std.specs.Prelude.{◌≡◌, ℕ, ◌≤◌, max, Bool, true, List, Option, None, Some, is_some, unwrap_or}
use Rattle.sk_model.specs.Limits.{most_size, most_updaters, IsFrom}
use Rattle.sk_read.specs.declared.items.Intake.{Intake}
use Rattle.sk_read.specs.declared.kind.Kind.{Kind}
use Rattle.sk_feed.specs.Shares.{share}
use Rattle.sk_fill.specs.Windows.{most_lines}
use Rattle.sk_report.specs.Limits.{usual_window}
use Rattle.sk_tell.specs.declared.telling.Telling.{Telling}

pub record Manner : Type 0 where
  -- what it reads, and after how many units it writes an interim line, if it is asked to
  pub kind : Kind
  pub column : ℕ
  pub window : Option ℕ
  -- how many updaters take the items, and how many items a buffer of each holds
  pub updaters : ℕ
  pub size : ℕ
  -- the fixed numbers of the sketch
  pub numbers : List ℕ
  -- the line that is written of items, and two numbers of them: of each line that is written, the first is at most the other
  pub line : List ℕ → List ℕ
  pub lower : List ℕ → ℕ
  pub upper : List ℕ → ℕ

-- what an answer says of the items of its line
abbrev pub Holds : Manner → List ℕ → Type 0
Holds manner items = manner.lower items ≤ manner.upper items

-- a buffer holds at least this many items if nothing is written before the end
abbrev pub unread_size : ℕ
unread_size = 1024

-- how many items a buffer holds, if this many are asked for, with a window or without
abbrev pub buffer_size_by : Option ℕ → ℕ → ℕ
buffer_size_by None size = max size unread_size
buffer_size_by (Some window) size = size

-- the manner of what is asked, by the line and the two numbers of each query, for a sketch with these numbers
abbrev pub manner_by : {A Q : Type 0} → List ℕ → (Q → List ℕ → List ℕ → List ℕ) → (Q → List ℕ → List ℕ → ℕ) → (Q → List ℕ → List ℕ → ℕ) → Telling A Q → Manner
manner_by numbers line lower upper telling = record {
  kind = telling.kind;
  column = telling.column;
  window = telling.window;
  updaters = telling.updaters;
  size = buffer_size_by telling.window telling.size;
  numbers = numbers;
  line = line telling.query numbers;
  lower = lower telling.query numbers;
  upper = upper telling.query numbers;
}

-- how many units a window takes at most
abbrev pub window_by : Option ℕ → ℕ
window_by window = unwrap_or window usual_window

abbrev pub lines_of_window : Manner → ℕ
lines_of_window manner = window_by manner.window

-- its numbers are within their limits, a sketch can be opened with its setup, and this sketch keeps every item
pub record CanTell {A Q : Type 0} (Fits : A → Type 0) (keeps : ℕ → ℕ → Bool) (telling : Telling A Q) : Type 0 where
  pub updaters : IsFrom 1 most_updaters telling.updaters
  pub size : IsFrom 1 most_size telling.size
  pub window : IsFrom 1 most_lines (window_by telling.window)
  pub setup : Fits telling.setup
  pub keeps_all : (hint item : ℕ) → keeps hint item ≡ true

-- what it reads of a source of fewer bytes than this, with reports if a window is asked for
abbrev pub intake_by : {A Q : Type 0} → Telling A Q → ℕ → Intake
intake_by telling most = record {
  kind = telling.kind;
  column = telling.column;
  window = window_by telling.window;
  interim = is_some telling.window;
  propagator = telling.propagator;
  most = most;
}

-- the items in updater i's blocks of these windows, in order
abbrev pub share_of : Manner → List (List (List ℕ)) → ℕ → List ℕ
share_of manner windows i = share manner.kind windows manner.updaters i
