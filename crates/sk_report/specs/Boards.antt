-- A board on its way to its start, place after place.
use Rattle.std.specs.Prelude.{◌≡◌, ℕ, ◌<◌, ◌≤◌, List, length, slice_index, slice_index_or, None, option_map}
use Rattle.sk_watch.specs.Places.{Place}
use Rattle.sk_watch.specs.Watching.{armed}

-- the first n places are armed with these marks
pub record ArmsFirst (k : ℕ) (marks : List ℕ) (n : ℕ) (places places' : List Place) : Type 0 where
  pub count : length places' ≡ length places
  pub first : (i : ℕ) → i < n → slice_index_or places' i None ≡ option_map (armed k (slice_index marks i)) (slice_index_or places i None)
  pub others : (i : ℕ) → n ≤ i → slice_index_or places' i None ≡ slice_index_or places i None

-- from one place up to another the watchers are gone
pub record LetsGo (from to : ℕ) (places places' : List Place) : Type 0 where
  pub count : length places' ≡ length places
  pub before : (i : ℕ) → i < from → slice_index_or places' i None ≡ slice_index_or places i None
  pub gone : (i : ℕ) → from ≤ i → i < to → slice_index_or places' i None ≡ None
  pub behind : (i : ℕ) → to ≤ i → slice_index_or places' i None ≡ slice_index_or places i None

-- from this place on the watchers are gone
pub record LetsGoFrom (from : ℕ) (places places' : List Place) : Type 0 where
  pub count : length places' ≡ length places
  pub before : (i : ℕ) → i < from → slice_index_or places' i None ≡ slice_index_or places i None
  pub gone : (i : ℕ) → from ≤ i → slice_index_or places' i None ≡ None
