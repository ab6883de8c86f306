-- Stretches that are given to takers through rings, and how far takers have come with them.
use Rattle.std.specs.Prelude.{◌≡◌, ℕ, ◌+◌, ◌≤◌, List, [], ◌∷◌, ◌++◌, length, flat_map}
use Rattle.rtrb.specs.Ring.{sent, received, known_items, IsPair}
use Rattle.rtrb.specs.declared.consumer.Consumer.{Consumer}
use Rattle.rtrb.specs.declared.producer.Producer.{Producer}
use Rattle.sk_model.specs.Limits.{most_kept}
use Rattle.sk_feed.specs.Takings.{TakesOn}
use Rattle.sk_fill.specs.Windows.{all_lines}
use Rattle.sk_fill.specs.Stretches.{StretchState}

-- the windows of stretches, in order
abbrev pub windows_of : List StretchState → List (List (List ℕ))
windows_of stretches = flat_map (λ s. s.windows) stretches

-- the first n lines of the source end with the first of these stretches or those that follow it
abbrev pub EndAt : List StretchState → ℕ → Type 0
EndAt stretches n = (first : StretchState) × (rest : List StretchState) × (stretches ≡ first ∷ rest) × (n ≡ first.first + length (all_lines (windows_of stretches)))

-- a stretch begins where those before it end, and its lines are few enough to be counted
pub record IsNext (before : List StretchState) (s : StretchState) : Type 0 where
  pub begins : (n : ℕ) → EndAt before n → s.first ≡ n
  pub few : s.first + length (all_lines s.windows) ≤ most_kept

-- a taker has kept, of each updater, no more than the stretches that came for it have lines, and the source before them
pub record IsUpTo {T A P : Type 0} (at_most : T → ℕ → Type 0) (inlet : Consumer StretchState A P) (t : T) : Type 0 where
  pub first : StretchState
  pub rest : List StretchState
  pub known : received inlet ++ known_items inlet ≡ first ∷ rest
  pub kept : at_most t (first.first + length (all_lines (windows_of (received inlet))))

-- through a ring stretches came to a taker, which took their windows, in order
pub record HasFed {T A P : Type 0} (took : T → T → List (List (List ℕ)) → Type 0) (at_most : T → ℕ → Type 0) (a : Consumer StretchState A P) (t : T) (b : Consumer StretchState A P) (t' : T) : Type 0 where
  pub more : List StretchState
  pub came : received b ≡ received a ++ more
  pub taken : TakesOn took t (windows_of more) t'
  pub up_to : IsUpTo at_most b t'

-- a ring to which one stretch was given, which has not come to the taker
pub record IsOpen {T A P : Type 0} (at_most : T → ℕ → Type 0) (first : StretchState) (outlet : Producer StretchState A P) (inlet : Consumer StretchState A P) (t : T) : Type 0 where
  pub pair : IsPair outlet inlet
  pub given : sent outlet ≡ first ∷ []
  pub none : received inlet ≡ []
  pub up_to : IsUpTo at_most inlet t
