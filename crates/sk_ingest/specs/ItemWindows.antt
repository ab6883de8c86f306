-- Windows of units of which the items alone are held until they are fed.
use Rattle.std.specs.Prelude.{◌≡◌, ℕ, ◌+◌, ◌<◌, ◌≤◌, ◌==◌, ◌||◌, nat_lt, nat_le, Bool, false, List, ◌++◌, length, take, map, slice_range, slice_index_or, All, unwrap_or}
use Rattle.std.specs.List.{concat, filter}
use Rattle.sk_model.specs.Entries.{Entry}
use Rattle.sk_model.specs.Width.{item_end}
use Rattle.sk_read.specs.Items.{IsGood}
use Rattle.sk_read.specs.declared.items.Intake.{Intake}
use Rattle.sk_read.specs.declared.kind.Kind.{Kind}
use Rattle.sk_fill.specs.Blocks.{place_of}
use Rattle.sk_fill.specs.Windows.{full_bytes, item_in}
use Rattle.sk_hub.specs.Calls.{Takes}
use Rattle.sk_hub.specs.Updaters.{UpdaterState}
use Rattle.sk_feed.specs.Hubs.{Hub}
use Rattle.sk_ingest.specs.Ingests.{Terms}
use Rattle.sk_ingest.specs.Takers.{WindowsWent}

-- of each unit its item, or 0 of an empty one; how many bytes the units have, and how many units there may be
pub record ItemWindowState : Type 0 where
  pub items : List ℕ
  pub bytes : ℕ
  pub most : ℕ

-- ---- what is held

-- of a unit its item, or 0 if it has none
abbrev pub held_of : Kind → List ℕ → ℕ
held_of kind unit = unwrap_or (item_in kind unit) 0

-- each is an item or 0
abbrev pub AreHeld : List ℕ → Type 0
AreHeld held = All (λ item. item < item_end) held

-- the items among them
abbrev pub items_held : List ℕ → List ℕ
items_held held = filter (λ item. nat_lt 0 item) held

-- the window holds these units
pub record Holds (kind : Kind) (units : List (List ℕ)) (w : ItemWindowState) : Type 0 where
  pub items : w.items ≡ map (held_of kind) units
  pub bytes : w.bytes ≡ length (concat units)

-- there are as many units as it takes, or they have as many bytes as make it full, or more
abbrev pub has_filled : ItemWindowState → Bool
has_filled w = (length w.items == w.most) || nat_le full_bytes w.bytes

-- it holds these further lines, each empty or an item, and is not full
pub record HoldsMore (kind : Kind) (lines : List (List ℕ)) (w w' : ItemWindowState) : Type 0 where
  pub good : All (IsGood kind) lines
  pub items : w'.items ≡ w.items ++ map (held_of kind) lines
  pub bytes : w'.bytes ≡ w.bytes + length (concat lines)
  pub most : w'.most ≡ w.most
  pub few : length w'.items < w'.most
  pub small : w'.bytes < full_bytes

-- the first `count` of these lines are each empty or an item; what is held of them was written, and these are their bytes
pub record HasHeld (kind : Kind) (lines : List (List ℕ)) (written : List ℕ) (count bytes : ℕ) : Type 0 where
  pub within : count ≤ length lines
  pub good : All (IsGood kind) (take count lines)
  pub held : take count written ≡ map (held_of kind) (take count lines)
  pub size : bytes ≡ length (concat (take count lines))

-- ---- feeding

-- block i of n of what is held
abbrev pub held_block : List ℕ → ℕ → ℕ → List ℕ
held_block held i n = slice_range held (place_of (length held) i n) (place_of (length held) (i + 1) n)

-- each updater took the items of its block
pub record TakeHeld (keeps : ℕ → ℕ → Bool) (hint_of : List ℕ → List Entry → ℕ) (held : List ℕ) (us us' : List UpdaterState) : Type 0 where
  pub count : length us' ≡ length us
  pub each : (i : ℕ) (d : UpdaterState) → i < length us → Takes keeps hint_of (slice_index_or us i d) (items_held (held_block held i (length us))) (slice_index_or us' i d)

-- ---- a taker of units

-- it takes as many units as the plan says, and nobody asks before the end
pub record IsOfPlan (plan : Intake) (w : ItemWindowState) : Type 0 where
  pub least : 1 ≤ plan.window
  pub most : w.most ≡ plan.window
  pub unreported : plan.interim ≡ false

-- the windows that units fill were fed, and the window holds the rest
pub record ItemsWent (t : Terms (Unit {0})) (units : List (List ℕ)) (a : Hub) (w : ItemWindowState) (b : Hub) : Type 0 where
  pub rest : List (List ℕ)
  pub went : WindowsWent t units a tt rest b tt
  pub holds : Holds t.plan.kind rest w
