-- A status shows how a run ended.
use Rattle.std.proofs.Common.{◌≡◌, ◌⊎◌, inl, inr, ℕ, Result, Ok, Err, refl, sym, ap, arith}
use Rattle.sk_model.specs.Causes.{HasCauseIn}
use Rattle.sk_cli.specs.Command.{Asked}
use Rattle.sk_cli.specs.Fault.{status_of}
use Rattle.sk_cli.specs.Outside.{Outside}
use Rattle.sk_cli.specs.Run.{Performs, IsOfCalls, exit_of}
use Rattle.sk_cli.specs.Statuses.{RisesAt, IsCallStatus, ShowsAt}
use Rattle.sk_cli.specs.declared.fault.Fault.{Fault}
use Rattle.sk_cli.specs.declared.fault.Fault.TheVariants as fault

-- ---- the faults of calls, by their statuses

read_at : (f : Fault) → status_of f ≡ 3 → f ≡ fault.ReadFault
read_at fault.ReadFault is = refl
read_at f is = absurd (omega (arith, is))

write_at : (f : Fault) → status_of f ≡ 4 → f ≡ fault.WriteFault
write_at fault.WriteFault is = refl
write_at f is = absurd (omega (arith, is))

open_at : (f : Fault) → status_of f ≡ 8 → f ≡ fault.OpenFault
open_at fault.OpenFault is = refl
open_at f is = absurd (omega (arith, is))

net_at : (f : Fault) → status_of f ≡ 10 → f ≡ fault.NetFault
net_at fault.NetFault is = refl
net_at f is = absurd (omega (arith, is))

-- a count that a fault moves is moved at its status
rises_at : (at : Fault) (before now : ℕ) (r : Result (Unit {0}) Fault) → ((f : Fault) → status_of f ≡ status_of at → f ≡ at) → (status_of at ≡ 0 → ⊥) → HasCauseIn at before now r → RisesAt (status_of at) before now (exit_of r)
rises_at at before now (Ok x) only some cause = record { failed = λ is. absurd (some (sym is)); steady = λ other. cause.steady (λ is. other (ap exit_of is)) }
rises_at at before now (Err f) only some cause = record { failed = λ is. cause.failed (ap (λ g. Err g) (only f is)); steady = λ other. cause.steady (λ is. other (ap exit_of is)) }

-- a fault of a call has the status of one
call_status : (asked : Asked) (old new : Outside) (f : Fault) → IsOfCalls asked old new f → IsCallStatus (status_of f)
call_status asked old new fault.OutOfMemory is = inl refl
call_status asked old new fault.ReadFault is = inr (inl refl)
call_status asked old new fault.WriteFault is = inr (inr (inl refl))
call_status asked old new fault.OpenFault is = inr (inr (inr (inl refl)))
call_status asked old new fault.NetFault is = inr (inr (inr (inr refl)))
call_status asked old new f is = absurd is

-- no fault has the status of a run that ends well
pub some_status : (f : Fault) → status_of f ≡ 0 → ⊥
some_status fault.OutOfMemory is = absurd (omega (arith, is))
some_status f is = absurd (omega (arith, is))

-- ---- a run

module _ (asked : Asked) (most : ℕ) (old new : Outside) where
  refused_status : (f g : Fault) → (status_of g ≡ status_of f) ⊎ IsOfCalls asked old new g → (status_of g ≡ status_of f) ⊎ IsCallStatus (status_of g)
  refused_status f g (inl same) = inl same
  refused_status f g (inr call) = inr (call_status asked old new g call)

  pub status_shows : (r : Result (Unit {0}) Fault) → Performs asked most old new r → ShowsAt asked most old new (exit_of r)
  status_shows (Ok x) went = record {
    well = λ _. went.done;
    fault = λ other. absurd (other refl);
    reads = rises_at fault.ReadFault _ _ (Ok x) read_at (λ is. some_status fault.ReadFault is) went.causes.reads;
    writes = rises_at fault.WriteFault _ _ (Ok x) write_at (λ is. some_status fault.WriteFault is) went.causes.writes;
    opens = rises_at fault.OpenFault _ _ (Ok x) open_at (λ is. some_status fault.OpenFault is) went.causes.opens;
    net = rises_at fault.NetFault _ _ (Ok x) net_at (λ is. some_status fault.NetFault is) went.causes.net;
    complete = λ _. inl refl;
    refused = λ f is. absurd (went.refused f is);
    missing = λ misses. ap exit_of (went.missing misses);
    remains = λ other. absurd (other refl);
  }
  status_shows (Err g) went = record {
    well = λ is. absurd (some_status g is);
    fault = λ _. (g, refl, went.done);
    reads = rises_at fault.ReadFault _ _ (Err g) read_at (λ is. some_status fault.ReadFault is) went.causes.reads;
    writes = rises_at fault.WriteFault _ _ (Err g) write_at (λ is. some_status fault.WriteFault is) went.causes.writes;
    opens = rises_at fault.OpenFault _ _ (Err g) open_at (λ is. some_status fault.OpenFault is) went.causes.opens;
    net = rises_at fault.NetFault _ _ (Err g) net_at (λ is. some_status fault.NetFault is) went.causes.net;
    complete = λ fine. inr (call_status asked old new g (went.complete fine));
    refused = λ f is. refused_status f g (went.refused f is);
    missing = λ misses. ap exit_of (went.missing misses);
    remains = λ _. went.remains;
  }
