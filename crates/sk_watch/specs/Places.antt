-- The places of a board.
use Rattle.std.specs.Prelude.{ℕ, if◌then◌else◌, Bool, false, List, Option, Some, None, IsSome, option_map, slice_index_or, slice_set}
use Rattle.sk_theta.specs.declared.reply.Reply.{Reply}
use Rattle.sk_watch.specs.Watching.{Watching, armed, answers, having_seen}

-- none, or the watcher that stands there
abbrev pub Place : Type 0
Place = Option Watching

-- a watcher stands at place i
abbrev pub IsLive : ℕ → List Place → Type 0
IsLive i places = IsSome (slice_index_or places i None)

-- the places with the watcher at place i armed
abbrev pub armed_at : ℕ → ℕ → ℕ → List Place → List Place
armed_at i k mark places = slice_set places i (option_map (armed k mark) (slice_index_or places i None))

-- whether a watcher stands there that returns true
abbrev pub answers_at : Reply → Place → Bool
answers_at reply None = false
answers_at reply (Some w) = answers reply w

-- the place after it has seen a reply: a watcher that returns true is gone
abbrev pub told : Reply → Place → Place
told reply None = None
told reply (Some w) = if answers reply w then None else Some (having_seen reply w)
