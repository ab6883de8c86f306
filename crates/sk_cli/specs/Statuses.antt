-- What the status of a run shows.
use Rattle.std.specs.Prelude.{◌≡◌, ◌≢◌, ◌⊎◌, ℕ}
use Rattle.sk_model.specs.Causes.{Rose}
use Rattle.sk_cli.specs.Command.{Asked}
use Rattle.sk_cli.specs.Fault.{status_of}
use Rattle.sk_cli.specs.Outside.{Outside}
use Rattle.sk_cli.specs.Run.{Succeeds, Fails, read_faults_of, IsFineFor, IsRefusedFor, MissesFirst}
use Rattle.sk_cli.specs.declared.fault.Fault.{Fault}

-- a count of faults rose by one at this status, and stands where it stood at every other
pub record RisesAt (at before now status : ℕ) : Type 0 where
  pub failed : status ≡ at → Rose before now
  pub steady : status ≢ at → now ≡ before

-- a status that no text decides: out of memory, or a failed read, write, open or accept
abbrev pub IsCallStatus : ℕ → Type 0
IsCallStatus status = (status ≡ 1) ⊎ (status ≡ 3) ⊎ (status ≡ 4) ⊎ (status ≡ 8) ⊎ (status ≡ 10)

-- a run that ended with this status: all was done at 0, and at every other a fault has its place
pub record ShowsAt (asked : Asked) (most : ℕ) (old new : Outside) (status : ℕ) : Type 0 where
  pub well : status ≡ 0 → Succeeds asked most old new
  pub fault : status ≢ 0 → (f : Fault) × (status ≡ status_of f) × Fails asked most old new f
  -- its count rose at the status of a call that failed, and no count at another
  pub reads : RisesAt 3 (read_faults_of asked old) (read_faults_of asked new) status
  pub writes : RisesAt 4 old.write_faults new.write_faults status
  pub opens : RisesAt 8 old.open_faults new.open_faults status
  pub net : RisesAt 10 old.net.faults new.net.faults status
  -- what is read decides it, if it is told, but for those of calls
  pub complete : IsFineFor asked most old → (status ≡ 0) ⊎ IsCallStatus status
  pub refused : (f : Fault) → IsRefusedFor asked most f old → (status ≡ status_of f) ⊎ IsCallStatus status
  pub missing : MissesFirst asked old → status ≡ 8
  pub remains : status ≢ 0 → new.remains ≡ old.remains
