-- Counts of failed reads, from one call to the one above it.
use Rattle.std.proofs.Common.{◌≡◌, ◌∙◌, ℕ, Result, Ok, Err, sym}
use Rattle.sk_model.specs.Causes.{HasCauseIn}

not_failed : {A E : Type 0} (v : A) (fault : E) → Ok v ≡ Err fault → ⊥
not_failed v fault is = cc

-- a call that did not fail leaves the count
pub steady_ok : {A E : Type 0} (fault : E) (before now : ℕ) (r : Result A E) (v : A) → HasCauseIn fault before now r → r ≡ Ok v → now ≡ before
steady_ok fault before now r v cause ok = cause.steady (λ failed. not_failed v fault (sym ok ∙ failed))
