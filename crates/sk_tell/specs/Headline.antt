-- The headline: what a telling that ends well has written of its lines, in every interleaving of its threads, and what it
-- leaves to show it.
use Rattle.std.specs.Prelude.{◌≡◌, ℕ, ◌+◌, ◌<◌, List, [], ◌∷◌, ◌++◌, length, take, All, AllPairs, IsPermutation, slice_index_or}
use Rattle.std.specs.List.{range_with_len}
use Rattle.sk_model.specs.Entries.{Entry, entries_by}
use Rattle.sk_model.specs.Missing.{Begins}
use Rattle.sk_gate.specs.Views.{known_of}
use Rattle.sk_hub.specs.Hearts.{HeartState}
use Rattle.sk_read.specs.Items.{items_by, IsGood}
use Rattle.sk_fill.specs.Windows.{AreWindows}
use Rattle.sk_snap.specs.History.{entries_in, name_of}
use Rattle.sk_snap.specs.Versions.{Learnt, items_in}
use Rattle.sk_tell.specs.Manners.{Manner, Holds, lines_of_window, share_of}
use Rattle.sk_tell.specs.Moments.{Moment, moments_due, Follows, IsMoment}
use Rattle.sk_tell.specs.Texts.{interim_text}

-- ---- the list that each line is of

-- it has of each updater exactly the items in its blocks of these windows, in order, and nothing else
pub record IsListOf (manner : Manner) (windows : List (List (List ℕ))) (list : List Entry) : Type 0 where
  pub only : All (λ entry. entry.0 < manner.updaters) list
  pub each : (i : ℕ) → i < manner.updaters → entries_by i list ≡ share_of manner windows i

-- each moment's list begins it
abbrev pub Goes : List Moment → List Entry → Type 0
Goes moments list = All (λ m. Begins m.list list) moments

-- the heart drained all updaters, in number order, and knows of each what the reader's list has of it; the reader is of
-- the heart's sketch
pub record Shows (manner : Manner) (h : HeartState) (reader : Learnt) : Type 0 where
  pub drained : h.view.drained ≡ range_with_len 0 manner.updaters
  pub known : (i : ℕ) → i < manner.updaters → known_of h.view i ≡ entries_by i (entries_in reader.known)
  pub name : h.view.name ≡ name_of reader.known.book
  pub numbers : reader.numbers ≡ manner.numbers

-- ---- the headline

pub record TellsLines (manner : Manner) (lines : List (List ℕ)) (heart : HeartState) (reader : Learnt) (text : List ℕ) : Type 0 where
  -- no line is refused; they are full windows and a rest, with a moment after each window if one is asked for
  pub good : All (IsGood manner.kind) lines
  pub windows : List (List (List ℕ))
  pub rest : List (List ℕ)
  pub cut : AreWindows (lines_of_window manner) lines windows rest
  pub moments : List Moment
  pub asked : length moments ≡ moments_due manner windows
  -- 1. it wrote the line of the items in each moment's list, and last that of all items, of which holds what an answer says
  pub written : text ≡ interim_text manner moments ++ manner.line (items_in reader.known)
  pub all : IsPermutation (items_by manner.kind lines) (items_in reader.known)
  pub holds : Holds manner (items_in reader.known)
  -- 2. the lists are one list of updates that only grows, to the reader's
  pub grows : AllPairs Follows moments
  pub goes : Goes moments (entries_in reader.known)
  -- 3. after a window it lacks at most the last two buffers of each updater's share, and last it lacks nothing
  pub lacks : (j : ℕ) (d : Moment) → j < length moments → IsMoment manner (take (j + 1) windows) (slice_index_or moments j d)
  pub list : IsListOf manner (windows ++ rest ∷ []) (entries_in reader.known)
  -- 4. one hub did this, whose heart and reader are left to show it
  pub shown : Shows manner heart reader
