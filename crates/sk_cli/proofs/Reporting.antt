-- What a run comes to: its status, what standard error gets, and what its words ask for.
use Rattle.std.proofs.Common.{◌≡◌, ◌⊎◌, inl, inr, ℕ, List, Option, Some, None, Result, Ok, Err, OnOk, OnErr, refl, ◌∙◌, subst}
use Rattle.std.specs.Io.KnownBytes.{Appends}
use Rattle.sk_model.specs.Causes.{Rose, HasCause, AppendsPart}
use Rattle.sk_io.specs.declared.stream.Failed.{Failed}
use Rattle.sk_cli.specs.Command.{Asked, IsInOrder}
use Rattle.sk_cli.specs.Outside.{Outside}
use Rattle.sk_cli.specs.Run.{Performs, RunsSo, exit_of}
use Rattle.sk_cli.specs.declared.fault.Fault.{Fault}
use Rattle.sk_cli.specs.declared.fault.Fault.TheVariants as fault

pub reported : (r : Result (Unit {0}) Failed) (old new : Option (List ℕ)) (before now : ℕ) (text : List ℕ) → OnOk r (Appends old new text) → OnErr r (AppendsPart old new text) → HasCause before now r →
    (Appends old new text × (now ≡ before)) ⊎ (AppendsPart old new text × Rose before now)
reported (Ok x) old new before now text ok part cause = inl (ok, cause.steady)
reported (Err e) old new before now text ok part cause = inr (part, cause.failed)

-- words that ask for nothing
pub runs_nothing : (asked : Option Asked) (most : ℕ) (all : Outside) (Told : Result (Unit {0}) Fault → Type 0) (status : ℕ) → None ≡ asked → status ≡ 2 → Told (Err fault.Usage) → RunsSo asked most all all Told status
runs_nothing asked most all Told status is two told = subst (λ (o : Option Asked). RunsSo o most all all Told status) is (two, told, refl)

-- words that ask for this
pub runs_so : (asked : Option Asked) (a : Asked) (most : ℕ) (old new : Outside) (Told : Result (Unit {0}) Fault → Type 0) (r : Result (Unit {0}) Fault) (status : ℕ) → Some a ≡ asked → IsInOrder a → status ≡ exit_of r → Told r → Performs a most old new r → RunsSo asked most old new Told status
runs_so asked a most old new Told r status is order end told performs =
    subst (λ (o : Option Asked). RunsSo o most old new Told status) is (record { order = order; result = r; status_is = end; told = told; performs = performs })

pub some_request : (asked : Option Asked) (a : Asked) → Some a ≡ asked → asked ≡ None → ⊥
some_request asked a is none = differ a (is ∙ none)
  where
    differ : (a : Asked) → Some a ≡ None → ⊥
    differ a is = cc

pub asked_is : (asked : Option Asked) (a b : Asked) → Some a ≡ asked → asked ≡ Some b → a ≡ b
asked_is asked a b is other = same (is ∙ other)
  where
    same : Some a ≡ Some b → a ≡ b
    same is = cc

pub nothing_asked : {P : Type 0} (asked : Option Asked) (b : Asked) → None ≡ asked → asked ≡ Some b → P
nothing_asked asked b is other = absurd (differ (is ∙ other))
  where
    differ : None ≡ Some b → ⊥
    differ is = cc
