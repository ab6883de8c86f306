-- What a state of the machine stores: its lists, and for each of their beginnings that somebody knows a length.
use Rattle.std.specs.Prelude.{ℕ, ◌<◌, ◌≤◌, List, [], length, take, replicate, nat_lt, if◌then◌else◌, Bool, true, All, slice_index, slice_index_or}
use Rattle.sk_model.specs.Entries.{Entry, entries_by, items_of_entries}
use Rattle.sk_model.specs.Sketch.{theta_of, packed_of}
use Rattle.sk_machine.specs.Fine.{most_offers, most_tokens, FineUpdater, Fine}
use Rattle.sk_machine.specs.Fine as fine
use Rattle.sk_machine.specs.Invariant.{IsSound}
use Rattle.sk_machine.specs.declared.states.Mark.{Mark}
use Rattle.sk_machine.specs.declared.states.Mark.TheVariants.{Neither}
use Rattle.sk_machine.specs.declared.states.Progress.{Progress}
use Rattle.sk_core.specs.declared.token.Token.{Token}
use Rattle.sk_model.specs.Width.{item_end}
use Rattle.sk_model.specs.Limits.{least_k, most_k, most_updaters}

-- an updater: of what it kept this many items are handed over, and of the published list this many entries are
-- its `given` and its `base`
pub record StoredUpdater : Type 0 where
  pub size : ℕ
  pub hint : ℕ
  pub fill : List ℕ
  pub word : ℕ
  pub slot : List ℕ
  pub home : Bool
  pub mark : Mark
  pub handed : ℕ
  pub given : ℕ
  pub base : ℕ

pub record Stored : Type 0 where
  -- how many hashes the sketch keeps
  pub k : ℕ
  -- the offers that were kept
  pub offers : List Entry
  pub published : List Entry
  pub word : ℕ
  pub updaters : List StoredUpdater
  pub progress : Progress
  pub in_hand : List ℕ
  pub turn : ℕ
  pub tokens : List Token

-- the hint and the word of a list, as the sketch of the k smallest gives them
abbrev pub hint_by : ℕ → List Entry → ℕ
hint_by k entries = theta_of k (items_of_entries entries)

abbrev pub word_by : ℕ → List Entry → ℕ
word_by k entries = packed_of k (items_of_entries entries)

-- an updater that has done nothing
abbrev pub blank_updater : ℕ → StoredUpdater
blank_updater size = record { size = size; hint = item_end; fill = []; word = item_end; slot = []; home = true; mark = Neither; handed = 0; given = 0; base = 0 }

-- a token that has seen and knows nothing
abbrev pub blank_token : Token
blank_token = record { live = true; seen = 0; known = replicate most_updaters 0 }

-- the sizes of n updaters with buffers of b items; 0 where nobody is admitted
abbrev pub sizes_of : ℕ → ℕ → ℕ → ℕ
sizes_of n b i = if nat_lt i n then b else 0

-- ---- the machine that it is

abbrev pub updater_of : List Entry → List Entry → ℕ → StoredUpdater → FineUpdater
updater_of offers published i u = record {
  size = u.size;
  hint = u.hint;
  fill = u.fill;
  word = u.word;
  slot = u.slot;
  home = u.home;
  mark = u.mark;
  kept = entries_by i offers;
  handed = take u.handed (entries_by i offers);
  given = take u.given published;
  base = take u.base published;
}

abbrev pub token_of : List Entry → List Entry → Token → fine.Token
token_of offers published t = record {
  live = t.live;
  seen = take t.seen published;
  known = λ i. take (slice_index t.known i) (entries_by i offers);
}

abbrev pub updater_at : Stored → ℕ → StoredUpdater
updater_at s i = slice_index_or s.updaters i (blank_updater 0)

abbrev pub token_at : Stored → ℕ → Token
token_at s t = slice_index_or s.tokens t blank_token

abbrev pub machine_of : Stored → Fine
machine_of s = record {
  n = length s.updaters;
  published = s.published;
  word = s.word;
  updaters = λ i. updater_of s.offers s.published i (updater_at s i);
  progress = s.progress;
  in_hand = s.in_hand;
  turn = s.turn;
  offers = length s.offers;
  made = length s.tokens;
  tokens = λ t. token_of s.offers s.published (token_at s t);
}

-- ---- what holds of it

-- the lengths are within their lists
pub record IsWithin (offers published : List Entry) (i : ℕ) (u : StoredUpdater) : Type 0 where
  pub handed : u.handed ≤ length (entries_by i offers)
  pub given : u.given ≤ length published
  pub base : u.base ≤ length published

pub record KnowsWithin (offers published : List Entry) (t : Token) : Type 0 where
  pub seen : t.seen ≤ length published
  pub known : (i : ℕ) → slice_index t.known i ≤ length (entries_by i offers)

pub record IsStored (s : Stored) : Type 0 where
  pub least : least_k ≤ s.k
  pub most : s.k ≤ most_k
  pub few_updaters : length s.updaters ≤ most_updaters
  pub few_offers : length s.offers ≤ most_offers
  pub few_tokens : length s.tokens ≤ most_tokens
  pub of_updaters : All (λ e. e.0 < length s.updaters) s.offers
  pub updaters : (i : ℕ) → IsWithin s.offers s.published i (updater_at s i)
  pub tokens : (t : ℕ) → KnowsWithin s.offers s.published (token_at s t)
  pub sound : IsSound (hint_by s.k) (word_by s.k) (machine_of s)
