-- A hub as it is opened for an interval.
use Rattle.std.specs.Prelude.{◌≡◌, List, [], ◌∷◌, length, All}
use Rattle.sk_theta.specs.Sizes.{Sizes}
use Rattle.sk_hub.specs.Hearts.{HeartState}
use Rattle.sk_hub.specs.Updaters.{UpdaterState, kept_of}
use Rattle.sk_snap.specs.History.{entries_in, name_of}
use Rattle.sk_snap.specs.Versions.{Learnt}
use Rattle.sk_learn.specs.Closing.{AreApart}

-- an updater of it, which has kept nothing: its buffers have the size of the shape, it is as eager, and it knows the
-- name of the sketch and its k
pub record IsFreshUpdater (shape : Sizes) (heart : HeartState) (reader : Learnt) (u : UpdaterState) : Type 0 where
  pub table : u.table ≡ heart.table
  pub kept : kept_of u ≡ []
  pub size : u.size ≡ shape.b
  pub eager : u.eager ≡ shape.eager
  pub sized : length u.view.sizes ≡ shape.n
  pub name : u.view.name ≡ name_of reader.known.book
  pub numbers : u.view.numbers ≡ shape.k ∷ []

-- it is as eager as the shape, and its updaters have kept nothing; its reader is of its sketch, which has the k of the shape, and has learnt nothing
pub record IsFresh (shape : Sizes) (heart : HeartState) (us : List UpdaterState) (reader : Learnt) : Type 0 where
  pub count : length us ≡ shape.n
  pub apart : AreApart us
  pub eager : heart.eager ≡ shape.eager
  pub each : All (IsFreshUpdater shape heart reader) us
  pub name : heart.view.name ≡ name_of reader.known.book
  pub numbers : reader.numbers ≡ shape.k ∷ []
  pub learnt : entries_in reader.known ≡ []
