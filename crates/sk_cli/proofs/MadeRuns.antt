-- How a run with `make` ends.
use Rattle.std.proofs.Common.{◌≡◌, ◌≢◌, ◌⊎◌, inl, inr, ℕ, false, true, List, [], Option, None, Result, Ok, Err, refl, subst, arith}
use Rattle.std.specs.Io.KnownBytes.{Appends}
use Rattle.sk_model.specs.Causes.{AppendsPart}
use Rattle.sk_model.specs.Lines.{lines_of}
use Rattle.sk_read.specs.Reads.{IsSettled}
use Rattle.sk_cli.specs.Fault.{status_of}
use Rattle.sk_cli.specs.Outside.{Outside, over_input, beside_in}
use Rattle.sk_cli.specs.Run.{Finishes, BreaksOff, IsDueWhole, IsDueOnTheWay, Refuses, FailsText, RunsMake, exit_of}
use Rattle.sk_cli.specs.commands.Count.{LeavesHub}
use Rattle.sk_cli.specs.commands.Make.{text_by, counted_by, made_report, making}
use Rattle.sk_cli.specs.declared.command.Command.TheVariants.{Make}
use Rattle.sk_cli.specs.declared.commands.make.MakePlan.{MakePlan}
use Rattle.sk_cli.specs.declared.fault.Fault.{Fault}
use Rattle.sk_cli.specs.declared.fault.Fault.TheVariants as fault
use Rattle.sk_cli.proofs.Performing.{TextDone}

settled_here : (P : List ℕ → Type 0) (left : Option (List ℕ)) (taken : List ℕ) → IsSettled P left taken → (text : List ℕ) × P text
settled_here P left taken (inl always) = (_, always [])
settled_here P left taken (inr here) = (taken, here.1)

module _ (plan : MakePlan) (old new : Outside) (most : ℕ) where
  report_due : (taken due : List ℕ) (left : Option (List ℕ)) (P : Type 0) → IsDueWhole (making plan) (beside_in old) (beside_in new) left taken due ⊎ (P × IsDueOnTheWay (making plan) (beside_in old) (beside_in new) left taken due) → due ≡ made_report plan
  report_due taken due left P (inl whole) = whole.is_due
  report_due taken due left P (inr on_way) = (settled_here (λ (text : List ℕ). due ≡ made_report plan) left taken on_way.1).1

  finished : Finishes (making plan) most (beside_in old) (beside_in new) (over_input old) (over_input new) → RunsMake plan old new 0
  finished done = record {
    ends = inl refl;
    whole = λ well. subst (Appends old.written new.written) done.is_due done.written;
    leaves = λ well. subst (λ (due : List ℕ). LeavesHub (counted_by plan) (beside_in old) (lines_of (text_by plan)) due (beside_in new)) done.is_due done.leaves;
    nothing = λ other. absurd (omega (arith, other));
    part = λ other. absurd (omega (arith, other));
  }

  found_no_memory : new.written ≡ old.written → RunsMake plan old new 1
  found_no_memory same = record {
    ends = inr (inl refl);
    whole = λ other. absurd (omega (arith, other));
    leaves = λ other. absurd (omega (arith, other));
    nothing = λ none. same;
    part = λ other. absurd (omega (arith, other));
  }

  broke_off : BreaksOff (making plan) most (beside_in old) (beside_in new) (over_input old) (over_input new) → RunsMake plan old new 4
  broke_off off = record {
    ends = inr (inr refl);
    whole = λ other. absurd (omega (arith, other));
    leaves = λ other. absurd (omega (arith, other));
    nothing = λ other. absurd (omega (arith, other));
    part = λ failed. subst (AppendsPart old.written new.written) (report_due off.taken off.due _ _ off.is_due) off.written;
  }

  never_refused : (f : Fault) → Refuses (making plan) most f (beside_in old) (beside_in new) (over_input old) (over_input new) → ⊥
  never_refused f off = (settled_here (λ (text : List ℕ). (making plan).Refuses f text × (making plan).IsDueAt (beside_in old) (beside_in new) f text off.due) (over_input new).left off.taken off.refused).1.0

  no_reads : {P : Type 0} → false ≡ true → P
  no_reads is = absurd (cc)

  failed : (f : Fault) → FailsText (record { command = Make plan; file = None }) most old new f → (status_of f ≢ 0 → status_of f ≢ 4 → new.written ≡ old.written) → RunsMake plan old new (status_of f)
  failed fault.OutOfMemory off quiet = found_no_memory (quiet (λ is. absurd (omega (arith, is))) (λ is. absurd (omega (arith, is))))
  failed fault.Usage off quiet = absurd off
  failed fault.ReadFault off quiet = no_reads off.reads
  failed fault.WriteFault off quiet = broke_off off
  failed fault.OpenFault off quiet = absurd off
  failed fault.NetFault off quiet = absurd off
  failed fault.TooMuch off quiet = no_reads off.reads
  failed f off quiet = absurd (never_refused f off)

  -- by how what was asked for went
  pub made_so : (r : Result (Unit {0}) Fault) → TextDone (record { command = Make plan; file = None }) most old new r → (exit_of r ≢ 0 → exit_of r ≢ 4 → new.written ≡ old.written) → RunsMake plan old new (exit_of r)
  made_so (Ok x) done quiet = finished done
  made_so (Err f) done quiet = failed f done quiet
