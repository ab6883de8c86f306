-- What contracts see of panes, and how an interval is closed.
use Rattle.std.specs.Prelude.{◌≡◌, ◌⊎◌, ℕ, ◌+◌, ◌-◌, List, ◌∷◌, [], ◌++◌, length, All}
use Rattle.sk_model.specs.Entries.{Entry, items_of_entries, entries_by}
use Rattle.sk_model.specs.Missing.{Begins}
use Rattle.sk_theta.specs.Kept.{Sketch}
use Rattle.sk_theta.specs.Sizes.{Sizes}
use Rattle.sk_theta.specs.declared.reply.Reply.{Reply}
use Rattle.sk_hub.specs.Hearts.{HeartState}
use Rattle.sk_hub.specs.Updaters.{UpdaterState, kept_of}
use Rattle.sk_snap.specs.History.{entries_in, name_of}
use Rattle.sk_snap.specs.Versions.{Learnt, items_in}
use Rattle.sk_learn.specs.Closing.{HasExactly, StopsEarly, counted}
use Rattle.sk_window.specs.declared.frame.Frame.{Frame}
use Rattle.sk_window.specs.Frames.{IsFrame}
use Rattle.sk_window.specs.Hubs.{IsFresh}
use Rattle.sk_window.specs.Intervals.{StandForEach, IsReplyOf, all_items, with_closed, with_skipped}

pub record PanesState : Type 0 where
  pub frame : Frame
  pub shape : Sizes
  -- the interval that runs, and its hub's heart and reader
  pub running : ℕ
  pub heart : HeartState
  pub learnt : Learnt
  -- how many items the updaters kept that were taken in
  pub taken : ℕ
  -- the sketches of the closed intervals, oldest first
  pub closed : List Sketch

-- what is true of all panes
pub record IsPanes (p : PanesState) : Type 0 where
  pub frame_is : IsFrame p.frame
  pub name : p.heart.view.name ≡ name_of p.learnt.known.book
  pub numbers : p.learnt.numbers ≡ p.shape.k ∷ []
  pub count : length p.closed + 1 ≡ p.frame.last
  pub same_k : All (λ s. s.k ≡ p.shape.k) p.closed

-- the heart took in exactly these updaters of the running interval, and the reader has learnt all that they kept
pub record HasTaken (p : PanesState) (us : List UpdaterState) : Type 0 where
  pub learnt_all : All (λ u. Begins (kept_of u) (entries_by u.number (entries_in p.learnt.known))) us
  pub count : p.taken ≡ counted 0 us

-- the running interval was closed: its list has exactly what these updaters kept, and the reply is of it and of the
-- closed lists before it
pub record Closes (p : PanesState) (us : List UpdaterState) (lists : List (List ℕ)) (reply : Reply) (q : PanesState) : Type 0 where
  pub exactly : HasExactly (entries_in q.learnt.known) us
  pub reply_is : IsReplyOf p.shape.k (all_items lists ++ items_in q.learnt.known) reply
  pub stand : StandForEach p.shape.k q.closed (with_closed lists (items_in q.learnt.known))

-- the running interval was closed, which these updaters were of, and a later one runs, with new ones; those between are
-- closed with no items
pub record Moves (p : PanesState) (interval : ℕ) (us : List UpdaterState) (lists : List (List ℕ)) (reply : Reply) (us' : List UpdaterState) (q : PanesState) : Type 0 where
  pub list : List Entry
  pub exactly : HasExactly list us
  pub reply_is : IsReplyOf p.shape.k (all_items lists ++ items_of_entries list) reply
  pub running_is : q.running ≡ interval
  pub stand : StandForEach p.shape.k q.closed (with_skipped (with_closed lists (items_of_entries list)) (interval - p.running - 1))
  pub fresh : IsFresh p.shape q.heart us' q.learnt
  pub none_taken : HasTaken q []

-- the first of these updaters were taken in, as some were before; then memory ran out, and the others are left. The same
-- interval runs, and what is closed stays
pub record StopsAtDrain (p : PanesState) (before us : List UpdaterState) (us' : List UpdaterState) (q : PanesState) : Type 0 where
  pub stays : q ≡ record p { heart = q.heart; learnt = q.learnt; taken = q.taken }
  pub early : StopsEarly p.heart us p.learnt p.taken q.heart us' q.learnt q.taken
  pub so_far : HasTaken q (before ++ early.taken)

-- memory ran out at one of them, or before the first
abbrev pub StopsBefore : PanesState → List UpdaterState → List UpdaterState → List UpdaterState → PanesState → Type 0
StopsBefore p before us us' q = StopsAtDrain p before us us' q ⊎ ((us' ≡ us) × (q ≡ p))
