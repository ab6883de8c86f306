-- Ends of a reading, said by what follows from what was known.
use Rattle.std.proofs.Common.{◌≡◌, inl, inr, ℕ, ◌+◌, ◌<◌, List, length, Option, Result, Ok, Err, IsErrAnd, sym, ◌∙◌}
use Rattle.sk_model.specs.Causes.{HasCauseIn}
use Rattle.sk_read.specs.Reads.{BreaksOff, StopsAt, ReadsSome, ReadsAll, Ends}
use Rattle.sk_read.specs.declared.units.Units.{Units}
use Rattle.sk_read.specs.declared.fault.Fault.{Fault}
use Rattle.sk_read.specs.declared.fault.Fault.TheVariants as fault

module _ (units : Units) (most : ℕ) (G G' : List (List ℕ) → Type 0) (S S' : Fault → List (List ℕ) → List ℕ → Type 0) (gave : (given : List (List ℕ)) → G given → G' given) (stopped : (f : Fault) (given : List (List ℕ)) (unit : List ℕ) → S f given unit → S' f given unit) where
  breaks_so : {last : ℕ} (K K' : List (List ℕ) → Type 0) (C : List (List ℕ) → List ℕ → Type 0) (old new : Option (List ℕ)) → ((given : List (List ℕ)) → K given → K' given) → BreaksOff last units most K C old new → BreaksOff last units most K' C old new
  breaks_so K K' C old new so b = record { given = b.given; taken = b.taken; consumed = b.consumed; size = b.size; in_time = b.in_time; known = so b.given b.known; comes = b.comes }

  stops_so : {last : ℕ} (T T' : List (List ℕ) → List ℕ → Type 0) (old new : Option (List ℕ)) → ((given : List (List ℕ)) (unit : List ℕ) → T given unit → T' given unit) → StopsAt last units most T old new → StopsAt last units most T' old new
  stops_so T T' old new so s = (s.0, breaks_so (λ given. T given s.0) (λ given. T' given s.0) _ old new (λ given t. so given s.0 t) s.1)

  some_so : (P : ℕ → Type 0) (old new : Option (List ℕ)) → ReadsSome units P G old new → ReadsSome units P G' old new
  some_so P old new r = record { taken = r.taken; consumed = r.consumed; size = r.size; sound = r.sound; gave = gave _ r.gave }

  pub all_so : (n : ℕ) (old new : Option (List ℕ)) → ReadsAll units most n G old new → ReadsAll units most n G' old new
  all_so n old new r = record { taken = r.taken; consumed = r.consumed; end = r.end; size = r.size; sound = r.sound; number = r.number; gave = gave _ r.gave }

  pub ends_so : (last : ℕ) (old new : Option (List ℕ)) (f : Fault) → Ends last units most G S old new f → Ends last units most G' S' old new f
  ends_so last old new fault.OutOfMemory (inl b) = inl (breaks_so G G' _ old new gave b)
  ends_so last old new fault.OutOfMemory (inr s) = inr (stops_so (S fault.OutOfMemory) (S' fault.OutOfMemory) old new (stopped fault.OutOfMemory) s)
  ends_so last old new fault.ReadFault r = some_so (λ size. size < most) old new r
  ends_so last old new fault.TooMuch r = some_so (λ size. size ≡ most) old new r
  ends_so last old new (fault.LongLine n) b = breaks_so G G' _ old new gave b
  ends_so last old new (fault.BadCsv n) b = breaks_so G G' _ old new gave b
  ends_so last old new (fault.BadItem n) s = stops_so (λ given unit. (n ≡ length given + 1) × S (fault.BadItem n) given unit) (λ given unit. (n ≡ length given + 1) × S' (fault.BadItem n) given unit) old new
      (λ given unit t. (t.0, stopped (fault.BadItem n) given unit t.1)) s
  ends_so last old new fault.WriteFault s = stops_so (S fault.WriteFault) (S' fault.WriteFault) old new (stopped fault.WriteFault) s

-- memory ran out after a call that ended well: no count rose
pub short_of_memory : {T U : Type 0} (f : Fault) (before now : ℕ) (count : U) (result : Result T Fault) → IsErrAnd result (λ e. e ≡ fault.OutOfMemory) → (fault.OutOfMemory ≡ f → ⊥)
    → HasCauseIn {T = U} {E = Fault} f before now (Ok count) → HasCauseIn f before now result
short_of_memory f before now count (Ok x) is other cause = absurd is
short_of_memory f before now count (Err e) is other cause = record { steady = λ _. cause.steady (λ same. cc); failed = λ failed. let this : e ≡ f = cc in absurd (other (sym is ∙ this)) }
