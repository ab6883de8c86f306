-- How a command went, with what stands beside its streams.
use Rattle.std.proofs.Common.{◌≡◌, ℕ, Result, Ok, Err, IfErr, refl, ap}
use Rattle.sk_model.specs.Causes.{HasCause}
use Rattle.sk_cli.specs.Behaviour.{Behaviour}
use Rattle.sk_cli.specs.Beside.{Beside, left_of, cleared}
use Rattle.sk_cli.specs.Outside.{Streams}
use Rattle.sk_cli.specs.Run.{Executes, ExecutesSo, HasCauses}
use Rattle.sk_cli.specs.declared.fault.Fault.{Fault}
use Rattle.sk_cli.specs.declared.fault.Fault.TheVariants as fault
use Rattle.sk_cli.specs.declared.remains.Remains.{Remains}
use Rattle.sk_cli.proofs.Asking.{leaves_nothing, if_err}

-- a command that neither tells watchers nor makes a hub
pub streams_alone : (how : Behaviour) (most : ℕ) (from to : Beside) (a b : Streams) (r : Result (Unit {0}) Fault) → Executes how most from to a b r → HasCauses a b r → to.board ≡ cleared from.board → to.remains ≡ from.remains → ExecutesSo how most from to a b r
streams_alone how most from to a b r done causes board remains = record {
  done = done;
  causes = causes;
  beside = record { board = λ _. board; remains = if_err r _ remains; leaves = leaves_nothing how.makes from.remains to.remains remains };
}

-- what is left of hubs, by the handles
pub remains_left : {W : Type 0} (r : Result (Unit {0}) Fault) (old new : Remains W) → IfErr r (λ _. new ≡ old) → IfErr r (λ _. left_of new ≡ left_of old)
remains_left (Ok x) old new same = tt
remains_left (Err f) old new same = ap (λ m. left_of m) same

well : (r : Result (Unit {0}) Fault) (x : Unit {0}) (f : Fault) → r ≡ Ok x → r ≡ Err f → ⊥
well r x f is other = cc

no_read : (r : Result (Unit {0}) Fault) (f : Fault) → r ≡ Err f → r ≡ Err fault.ReadFault → f ≡ fault.WriteFault → ⊥
no_read r f is read write = cc

-- a command that only writes moves no count but that of the sink
pub write_causes : (r : Result (Unit {0}) Fault) (a b : Streams) → b.read_faults ≡ a.read_faults → IfErr r (λ f. f ≡ fault.WriteFault) → HasCause a.write_faults b.write_faults r → HasCauses a b r
write_causes (Ok x) a b same is cause = record {
  read = record { steady = λ _. same; failed = λ failed. absurd (well (Ok x) x fault.ReadFault refl failed) };
  write = record { steady = λ _. cause.steady; failed = λ failed. absurd (well (Ok x) x fault.WriteFault refl failed) };
}
write_causes (Err f) a b same is cause = record {
  read = record { steady = λ _. same; failed = λ failed. absurd (no_read (Err f) f refl failed is) };
  write = record { steady = λ other. absurd (other (ap (λ g. Err g) is)); failed = λ _. cause.failed };
}
