-- A hub as a telling opens it, and how it was fed.
use Rattle.std.specs.Prelude.{◌≡◌, ℕ, ◌<◌, List, [], ◌∷◌, ◌++◌, length, All, Option, false, slice_index_or}
use Rattle.std.specs.Io.KnownBytes.{Appends}
use Rattle.sk_model.specs.Missing.{Begins}
use Rattle.sk_hub.specs.Updaters.{UpdaterState, kept_of}
use Rattle.sk_read.specs.Items.{IsGood}
use Rattle.sk_feed.specs.Hubs.{Hub, IsHub}
use Rattle.sk_fill.specs.Windows.{AreWindows}
use Rattle.sk_snap.specs.History.{entries_in, name_of}
use Rattle.sk_snap.specs.Versions.{Learnt}
use Rattle.sk_tell.specs.Manners.{Manner, lines_of_window, share_of}
use Rattle.sk_tell.specs.Moments.{Moment, AreMoments}
use Rattle.sk_tell.specs.Texts.{interim_text}

-- it has kept nothing and has no told value, and has buffers of this size
pub record IsIdle (size : ℕ) (u : UpdaterState) : Type 0 where
  pub kept : kept_of u ≡ []
  pub size_is : u.size ≡ size
  pub news : u.news ≡ false

-- its updaters are idle, as many as this; nobody is drained
pub record IsOpened (updaters size : ℕ) (hub : Hub) : Type 0 where
  pub count : length hub.updaters ≡ updaters
  pub idle : (i : ℕ) (d : UpdaterState) → i < length hub.updaters → IsIdle size (slice_index_or hub.updaters i d)
  pub drained : hub.heart.view.drained ≡ []
  pub whole : IsHub hub

-- the reader of the sketch of this name and these numbers, which has learnt nothing
pub record IsNewReader (numbers name : List ℕ) (reader : Learnt) : Type 0 where
  pub numbers_are : reader.numbers ≡ numbers
  pub name_is : name ≡ name_of reader.known.book
  pub learnt : entries_in reader.known ≡ []

-- none of these lines is refused; they are cut into full windows and a rest, with a moment after each window
pub record Course (manner : Manner) (units : List (List ℕ)) : Type 0 where
  pub windows : List (List (List ℕ))
  pub rest : List (List ℕ)
  pub moments : List Moment
  pub good : All (IsGood manner.kind) units
  pub cut : AreWindows (lines_of_window manner) units windows rest
  pub asks : AreMoments manner windows moments

-- all lines were fed, and the full windows reported: each updater kept its share of them
pub record Fed (manner : Manner) (w w' : Option (List ℕ)) (hub : Hub) (reader : Learnt) (units : List (List ℕ)) : Type 0 where
  pub course : Course manner units
  pub written : Appends w w' (interim_text manner course.moments)
  pub seen : All (λ m. Begins m.list (entries_in reader.known)) course.moments
  pub count : length hub.updaters ≡ manner.updaters
  pub kept : (i : ℕ) (d : UpdaterState) → i < length hub.updaters → kept_of (slice_index_or hub.updaters i d) ≡ share_of manner (course.windows ++ course.rest ∷ []) i
  pub drained : hub.heart.view.drained ≡ []
  pub whole : IsHub hub
  pub name : hub.heart.view.name ≡ name_of reader.known.book
  pub numbers : reader.numbers ≡ manner.numbers
