-- The moments at which a telling asks, one after each full window, and what each line is worth: it is of one growing list
-- of updates, which lacks of what each updater was fed at most its last two buffers (the r-relaxation of Rinberg and
-- others, PPoPP 2020, for each updater).
use Rattle.std.specs.Prelude.{◌≡◌, ℕ, ◌+◌, ◌*◌, ◌<◌, if◌then◌else◌, List, length, take, AllPairs, slice_index_or, is_some}
use Rattle.sk_model.specs.Entries.{Entry, items_of_entries, entries_by}
use Rattle.sk_model.specs.Missing.{Begins, LacksAtMost}
use Rattle.sk_fill.specs.Windows.{all_lines}
use Rattle.sk_tell.specs.Manners.{Manner, Holds, share_of}

pub record Moment : Type 0 where
  -- how many lines were read by then
  pub lines : ℕ
  -- the list of updates that the reader knew
  pub list : List Entry

-- after these windows the list lacks of each updater's share of them at most its last two buffers, and what an answer says
-- of its items holds
pub record IsMoment (manner : Manner) (windows : List (List (List ℕ))) (m : Moment) : Type 0 where
  pub lines : m.lines ≡ length (all_lines windows)
  pub lacks : (i : ℕ) → i < manner.updaters → LacksAtMost (share_of manner windows i) (entries_by i m.list) (2 * manner.size)
  pub holds : Holds manner (items_of_entries m.list)

-- how many moments there are after these windows: one after each if a window is asked for, else none
abbrev pub moments_due : Manner → List (List (List ℕ)) → ℕ
moments_due manner windows = if is_some manner.window then length windows else 0

-- the list of a later moment continues this one's
abbrev pub Follows : Moment → Moment → Type 0
Follows m m' = Begins m.list m'.list

-- the moments after these windows, each later than those before it
pub record AreMoments (manner : Manner) (windows : List (List (List ℕ))) (moments : List Moment) : Type 0 where
  pub count : length moments ≡ moments_due manner windows
  pub grows : AllPairs Follows moments
  pub each : (j : ℕ) (d : Moment) → j < length moments → IsMoment manner (take (j + 1) windows) (slice_index_or moments j d)
