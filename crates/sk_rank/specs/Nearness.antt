-- How near a rank is.
use Rattle.std.proofs.Common.{◌≡◌, ℕ, ◌≤◌, List, length, subst}
use Rattle.std.specs.Int.{abs_diff}
use Rattle.sk_quant.specs.Held.{ranked}
use Rattle.sk_quant.specs.Ranks.{rank_of, rank_error}
use Rattle.sk_snap.specs.Quants.{IsRank}

-- by how much the rank below x that the sketch with this k and key gives of a list is off
abbrev pub error_in : ℕ → ℕ → ℕ → List ℕ → ℕ
error_in x k key items = abs_diff (ranked x k key items) (rank_of x items)

-- at most by the error of that list
abbrev pub IsNear : ℕ → ℕ → ℕ → List ℕ → Type 0
IsNear x k key items = error_in x k key items ≤ rank_error (length items) k

-- a rank that a sketch gives is
pub near_so : (x k key : ℕ) (items : List ℕ) (n below within : ℕ) → IsRank x k key items n below within → IsNear x k key items
near_so x k key items n below within is =
    let told : (below, within) ≡ (ranked x k key items, rank_error (length items) k) = λ e. (is.value e, is.error e) in
    subst (λ (z : ℕ × ℕ). abs_diff z.0 (rank_of x items) ≤ z.1) told is.near
