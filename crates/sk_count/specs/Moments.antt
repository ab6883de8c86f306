-- The moments at which a count asks, one after each full window, and what each estimate is worth: it is the
-- sequential sketch's over one growing list of updates, which has nothing but what the updaters had kept, and lacks of
-- that at most the last buffers (the r-relaxation of Rinberg and others, PPoPP 2020, for each updater).
use Rattle.std.specs.Prelude.{◌≡◌, ℕ, ◌+◌, ◌*◌, ◌<◌, nat_lt, if◌then◌else◌, List, [], length, take, All, AllPairs, slice_index_or, is_some}
use Rattle.sk_model.specs.Entries.{Entry, items_of_entries, entries_by}
use Rattle.sk_model.specs.Missing.{Begins, LacksAtMost}
use Rattle.sk_model.specs.Sketch.{theta_of}
use Rattle.sk_compose.specs.Kept.{AreKept}
use Rattle.sk_machine.specs.Coarse.{IsEntry}
use Rattle.sk_fill.specs.Windows.{all_lines}
use Rattle.sk_feed.specs.Shares.{share}
use Rattle.sk_count.specs.declared.plan.Plan.{Plan}
use Rattle.sk_report.specs.Sizes.{size_at}

pub record Moment : Type 0 where
  -- how many units were read by then
  pub lines : ℕ
  -- the list of updates that was seen
  pub seen : List Entry
  -- what each updater had kept, in number order
  pub kept : List (List ℕ)

-- what updater i had kept
abbrev pub kept_by : Moment → ℕ → List ℕ
kept_by m i = slice_index_or m.kept i []

-- of items, in order, these were kept; each other one is not below theta of a beginning of the list, so that it changes
-- no later sketch
abbrev pub AreKeptOver : ℕ → List Entry → List ℕ → List ℕ → Type 0
AreKeptOver k list items kept = AreKept (λ theta item. nat_lt item theta) (λ front. theta_of k (items_of_entries front)) list items kept

-- how many buffers of an updater an interim estimate may lack: with a propagator the one that it fills, else the one
-- that it handed over last, too
abbrev pub buffers_of : Plan → ℕ
buffers_of plan = if plan.propagator then 1 else 2

-- after these windows each updater had kept its share of them; the list has of it nothing else, and lacks of that at most
-- its last buffers
pub record IsMoment (plan : Plan) (windows : List (List (List ℕ))) (m : Moment) : Type 0 where
  pub lines : m.lines ≡ length (all_lines windows)
  pub entries : All (IsEntry plan.updaters) m.seen
  pub kept : (i : ℕ) → i < plan.updaters → AreKeptOver plan.k m.seen (share plan.kind windows plan.updaters i) (kept_by m i)
  pub own : (i : ℕ) → i < plan.updaters → Begins (entries_by i m.seen) (kept_by m i)
  pub lacks : (i : ℕ) → i < plan.updaters → LacksAtMost (kept_by m i) (entries_by i m.seen) (buffers_of plan * size_at plan.sizes i)

-- a later moment: the list has gone on, and so has what each of n updaters kept
pub record Follows (n : ℕ) (m m' : Moment) : Type 0 where
  pub seen : Begins m.seen m'.seen
  pub kept : (i : ℕ) → i < n → Begins (kept_by m i) (kept_by m' i)

-- how many moments there are after these windows: one after each if a window is asked for, else none
abbrev pub moments_due : Plan → List (List (List ℕ)) → ℕ
moments_due plan windows = if is_some plan.window then length windows else 0

-- the moments after these windows, each later than those before it
pub record AreMoments (plan : Plan) (windows : List (List (List ℕ))) (moments : List Moment) : Type 0 where
  pub count : length moments ≡ moments_due plan windows
  pub grows : AllPairs (Follows plan.updaters) moments
  pub each : (j : ℕ) (d : Moment) → j < length moments → IsMoment plan (take (j + 1) windows) (slice_index_or moments j d)
