-- How the fields of a state store what contracts see of it.
use Rattle.std.specs.Prelude.{◌≤◌, vec_capacity}
use Rattle.sk_model.specs.Entries.{items_of_entries}
use Rattle.sk_theta.specs.Kept.{StandsFor}
use Rattle.sk_core.specs.declared.state.State.TheInside.{Inside}
use Rattle.sk_core.specs.Stored.{Stored, IsStored}
use Rattle.sk_machine.specs.Fine.{most_offers, most_tokens}
use Rattle.sk_model.specs.Limits.{most_size}

abbrev pub stored_of : Inside → Stored
stored_of s = record {
  k = s.sketch.k;
  offers = s.offers.items;
  published = s.published.items;
  word = s.word;
  updaters = s.updaters.items;
  progress = s.progress;
  in_hand = s.in_hand.items;
  turn = s.turn;
  tokens = s.tokens.items;
}

-- what the fields keep: the sketch is of the published list, and there is room for what may come
pub record IsKept (s : Inside) : Type 0 where
  pub stored : IsStored (stored_of s)
  pub sketch : StandsFor s.sketch (items_of_entries s.published.items)
  pub room_offers : most_offers ≤ vec_capacity s.offers
  pub room_published : most_offers ≤ vec_capacity s.published
  pub room_in_hand : most_size ≤ vec_capacity s.in_hand
  pub room_tokens : most_tokens ≤ vec_capacity s.tokens
