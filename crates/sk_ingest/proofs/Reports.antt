-- A report that stopped, and the fault that says so.
use Rattle.std.proofs.Common.{◌≡◌, ℕ, List, Option, Result, Ok, Err, IsErrAnd, ap}
use Rattle.std.specs.Prelude.{IsErrOf}
use Rattle.sk_model.specs.Causes.{HasCauseIn}
use Rattle.sk_read.specs.declared.fault.Fault.{Fault}
use Rattle.sk_read.specs.declared.fault.Fault.TheVariants as fault
use Rattle.sk_ingest.specs.declared.report.Stop.{Stop}
use Rattle.sk_ingest.specs.declared.report.Stop.TheVariants as stop
use Rattle.sk_ingest.specs.Stops.{fault_by}
use Rattle.sk_ingest.specs.Takers.{ReportGoesOn}

cause_by : {T A : Type 0} (before now : ℕ) (how : Stop) (told : Result A Stop) (result : Result T Fault) → HasCauseIn stop.Failed before now told → told ≡ Err how → IsErrAnd result (λ e. e ≡ fault_by how) → HasCauseIn fault.WriteFault before now result
cause_by before now how told (Ok x) cause was is = absurd is
cause_by {T} before now stop.Failed told (Err e) cause was is =
    let written : e ≡ fault.WriteFault = is in
    let so : IsErrOf {T = T} (Err e) fault.WriteFault = ap (λ x. Err x) written in
    record { steady = λ other. absurd (other so); failed = λ of. cause.failed was }
cause_by {T} before now stop.OutOfMemory told (Err e) cause was is =
    let memory : e ≡ fault.OutOfMemory = is in
    record { steady = λ other. cause.steady (λ of. cc); failed = λ of. absurd cc }

-- it goes on as the report did
pub stopped_so : {R T A : Type 0} (faults : R → ℕ) (stands_on : R → List ℕ) (sketch : R → Option (List ℕ)) (how : Stop) (r s : R) (told : Result A Stop) (result : Result T Fault) → ReportGoesOn faults stands_on sketch stop.Failed r s told → told ≡ Err how → IsErrAnd result (λ e. e ≡ fault_by how)
    → ReportGoesOn faults stands_on sketch fault.WriteFault r s result
stopped_so faults stands_on sketch how r s told result report was is = record { cause = cause_by (faults r) (faults s) how told result report.cause was is; stands = report.stands; named = report.named }
