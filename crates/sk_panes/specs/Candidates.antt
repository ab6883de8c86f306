-- What of an interval's items may be among its k smallest.
use Rattle.std.specs.Prelude.{◌≡◌, ℕ, ◌≤◌, Bool, List, length}
use Rattle.sk_model.specs.Entries.{Entry}
use Rattle.sk_model.specs.Sketch.{k_smallest, theta_of}
use Rattle.sk_model.specs.Width.{AreItems}
use Rattle.sk_hub.specs.Calls.{Takes}
use Rattle.sk_hub.specs.Updaters.{UpdaterState}

pub record CandidatesState : Type 0 where
  pub k : ℕ
  pub items : List ℕ
  -- no item that is not below it is taken
  pub bound : ℕ

-- they have the k smallest of these items, and no item that is not below the bound can become one of them
pub record HaveSmallest (items : List ℕ) (c : CandidatesState) : Type 0 where
  pub same : k_smallest c.k c.items ≡ k_smallest c.k items
  pub bound : theta_of c.k items ≤ c.bound

-- an updater took at most k items, with the k smallest of these
pub record TakesSmallest (keeps : ℕ → ℕ → Bool) (hint_of : List ℕ → List Entry → ℕ) (k : ℕ) (items : List ℕ) (u u' : UpdaterState) : Type 0 where
  pub taken : List ℕ
  pub few : length taken ≤ k
  pub small : AreItems taken
  pub same : k_smallest k taken ≡ k_smallest k items
  pub takes : Takes keeps hint_of u taken u'
