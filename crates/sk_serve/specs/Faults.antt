-- Which fault of a door ends a server how.
use Rattle.std.specs.Prelude.{◌≢◌, ℕ, Result, IfErr}
use Rattle.sk_io.specs.declared.door.DoorFault.{DoorFault}
use Rattle.sk_io.specs.declared.door.DoorFault.TheVariants as door
use Rattle.sk_model.specs.Causes.{HasCauseIn}
use Rattle.sk_serve.specs.declared.fault.ServeFault.{ServeFault}
use Rattle.sk_serve.specs.declared.fault.ServeFault.TheVariants as fault

abbrev pub fault_by : DoorFault → ServeFault
fault_by door.Failed = fault.NetFault
fault_by door.OutOfMemory = fault.OutOfMemory

-- only a fault of the door moved its count of faults, and no write failed
pub record HasNetCause {T : Type 0} (before now : ℕ) (result : Result T ServeFault) : Type 0 where
  pub cause : HasCauseIn fault.NetFault before now result
  pub no_write : IfErr result (λ e. e ≢ fault.WriteFault)
