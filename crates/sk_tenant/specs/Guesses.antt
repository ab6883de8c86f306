-- Names by their ends, and where a name is sought first.
use Rattle.std.specs.Prelude.{◌≡◌, ℕ, ◌-◌, ◌*◌, ◌<◌, ◌≤◌, ◌^◌, List, [], length, take, drop, All, min, slice_index_or}
use Rattle.sk_tenant.specs.Names.{HasNoSpace}
use Rattle.sk_tenant.specs.declared.ends.Ends.{Ends}
use Rattle.sk_tenant.specs.declared.ends.Reach.{Reach}
use Rattle.sk_tenant.specs.declared.guesses.Guess.{Guess}

-- ends have a mark below this number
abbrev pub most_marks : ℕ
most_marks = 2048

-- the first and the last eight bytes of a name, or all bytes of a shorter one and more
pub record AreEndsOf (name : List ℕ) (ends : Ends) : Type 0 where
  pub len : ends.len ≡ length name
  pub first : 8 ≤ length name → ends.first ≡ take 8 name
  pub last : 8 ≤ length name → ends.last ≡ drop (length name - 8) name
  pub whole : length name < 8 → take (length name) ends.first ≡ name

-- where the ends of a name of this many bytes lie: its last eight after `tail`, and the mask has the bits of its first eight
pub record IsReachOf (size : ℕ) (reach : Reach) : Type 0 where
  pub len : reach.len ≡ size
  pub tail : reach.tail ≡ size - 8
  pub mask : reach.mask ≡ 2 ^ (8 * min 8 size) - 1

-- the place is that of a name with these ends, which has no space
pub record IsPlaceOf (names : List (List ℕ)) (guess : Guess) : Type 0 where
  pub within : guess.place < length names
  pub plain : HasNoSpace (slice_index_or names guess.place [])
  pub ends : AreEndsOf (slice_index_or names guess.place []) guess.ends

-- for each mark a guess: if its ends are of a name, of which it is the place
pub record AreGuesses (names : List (List ℕ)) (by_mark : List Guess) : Type 0 where
  pub count : length by_mark ≡ most_marks
  pub each : All (λ guess. guess.ends.len < 2 ^ 63 → IsPlaceOf names guess) by_mark
