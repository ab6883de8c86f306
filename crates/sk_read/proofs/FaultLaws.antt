-- Which fault a call has.
use Rattle.std.proofs.Common.{◌≡◌, ℕ, Result, Ok, Err, IsErrAnd, refl, sym, ◌∙◌, subst}
use Rattle.sk_read.specs.Faults.{IsOfTaker}
use Rattle.sk_read.specs.declared.fault.Fault.{Fault}
use Rattle.sk_read.specs.declared.fault.Fault.TheVariants.{ReadFault}

one_fault : {A : Type 0} (e f : Fault) (r : Result A Fault) → r ≡ Err e → r ≡ Err f → e ≡ f
one_fault e f r one other = cc

-- the fault that a result has is the one that it was given
pub given_fault : {A : Type 0} (r : Result A Fault) (f e : Fault) → IsErrAnd r (λ x. x ≡ f) → r ≡ Err e → f ≡ e
given_fault (Ok n) f e given is = absurd given
given_fault (Err x) f e given is = sym given ∙ one_fault x e (Err x) refl is

-- no taker stops for a read
pub no_read_fault : (n : ℕ) (f : Fault) → IsOfTaker n f → f ≡ ReadFault → ⊥
no_read_fault n f of is = subst (IsOfTaker n) is of
