-- What goes over a link, as far as that is known, and what a door shows of links.
use Rattle.std.specs.Prelude.{◌≡◌, ℕ, ◌<◌, List, [], ◌++◌, length, map, take, ⊤, Option, None, Some, Result, MatchResult}
use Rattle.std.specs.Option.{option_map}

-- the bytes that were read of a link, those that are left to read, and those that were written on it
pub record Traffic : Type 0 where
  pub taken : List ℕ
  pub left : List ℕ
  pub written : List ℕ

-- nothing was read or written
pub record IsUntouched (t : Traffic) : Type 0 where
  pub taken : t.taken ≡ []
  pub written : t.written ≡ []

-- these bytes, the next ones, were read, and those were written
pub record Moves (old new : Traffic) (read sent : List ℕ) : Type 0 where
  pub left : old.left ≡ read ++ new.left
  pub taken : new.taken ≡ old.taken ++ read
  pub written : new.written ≡ old.written ++ sent

-- the same if the traffic is known, and it stays known or unknown
abbrev pub Exchanges : Option Traffic → Option Traffic → List ℕ → List ℕ → Type 0
Exchanges None None read sent = ⊤
Exchanges None (Some new) read sent = ⊥
Exchanges (Some old) None read sent = ⊥
Exchanges (Some old) (Some new) read sent = Moves old new read sent

-- `read(buf)` gave the n bytes at the start of the buffer at `Ok(n)`, and nothing at `Err`
abbrev pub Receives : {E : Type 0} → Option Traffic → Option Traffic → Result ℕ E → List ℕ → Type 0
Receives old new result buf = MatchResult result (λ n. Exchanges old new (take n buf) []) (λ _. new ≡ old)

-- `write(bytes)` took the first n bytes at `Ok(n)`, and nothing at `Err`
abbrev pub Sends : {E : Type 0} → Option Traffic → Option Traffic → Result ℕ E → List ℕ → Type 0
Sends old new result bytes = MatchResult result (λ n. Exchanges old new [] (take n bytes)) (λ _. new ≡ old)

-- of these bytes a proper prefix was written, maybe none of them
abbrev pub SendsPart : Option Traffic → Option Traffic → List ℕ → Type 0
SendsPart old new bytes = (n : ℕ) × (n < length bytes) × Exchanges old new [] (take n bytes)

-- the bytes that are left, if they are known
abbrev pub left_of : Option Traffic → Option (List ℕ)
left_of told = option_map (λ (t : Traffic). t.left) told

-- all the bytes that come over a link, read or left, if they are known
abbrev pub text_of : Option Traffic → Option (List ℕ)
text_of told = option_map (λ (t : Traffic). t.taken ++ t.left) told

-- what no read changes: all the bytes that come over a link, and those that were written on it
abbrev pub sides_of : Option Traffic → Option (List ℕ × List ℕ)
sides_of told = option_map (λ (t : Traffic). (t.taken ++ t.left, t.written)) told

-- ---- a door

-- a link that was closed: its traffic, if that is known, its count of faults, and how many of the bytes that were
-- written on it still waited to be sent
pub record Ended : Type 0 where
  pub traffic : Option Traffic
  pub faults : ℕ
  pub waiting : ℕ

-- what a door shows: the port that it listens at, what the links that are to come will give, in order, if that is
-- known, and the links that were closed, in order
pub record Doorway : Type 0 where
  pub port : Option ℕ
  pub coming : Option (List (Option (List ℕ)))
  pub closed : List Ended

-- of the links to come these came, in order; if those are not known nothing is said, and it stays so
abbrev pub Come : Option (List (Option (List ℕ))) → Option (List (Option (List ℕ))) → List (Option (List ℕ)) → Type 0
Come None None texts = ⊤
Come None (Some after) texts = ⊥
Come (Some before) None texts = ⊥
Come (Some before) (Some after) texts = before ≡ texts ++ after

-- these links came, in order, and nothing else changed
pub record Arrive (before now : Doorway) (texts : List (Option (List ℕ))) : Type 0 where
  pub came : Come before.coming now.coming texts
  pub port : now.port ≡ before.port
  pub closed : now.closed ≡ before.closed

-- these links were closed, in the order in which they came, and no others came
pub record Pass (before now : Doorway) (links : List Ended) : Type 0 where
  pub came : Come before.coming now.coming (map (λ e. text_of e.traffic) links)
  pub closed : now.closed ≡ before.closed ++ links
