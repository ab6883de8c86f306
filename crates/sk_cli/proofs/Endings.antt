-- How a command ends.
use Rattle.std.proofs.Common.{◌≡◌, inl, inr, ℕ, ◌≤◌, List, [], ◌++◌, length, Option, Result, Ok, Err, OnOk, OnErr, IfErr, IsErrAnd, refl, sym, subst, arith}
use Rattle.std.specs.Io.KnownBytes.{Consumes}
use Rattle.std.proofs.KnownBytes.{Appends-nil, Consumes-nil}
use Rattle.sk_model.specs.Causes.{AppendsFront}
use Rattle.sk_model.specs.Limits.{line_limit}
use Rattle.sk_model.specs.Lines.{AreWithin}
use Rattle.sk_cli.specs.Behaviour.{Behaviour}
use Rattle.sk_cli.specs.Beside.{Beside}
use Rattle.sk_cli.specs.Outside.{Streams}
use Rattle.sk_cli.specs.Run.{Finishes, GivesUp, Ends, Executes}
use Rattle.sk_cli.specs.declared.fault.Fault.{Fault}
use Rattle.sk_cli.specs.declared.fault.Fault.TheVariants as fault

-- a command that was given a fault ends by it
pub ends_by : (how : Behaviour) (most : ℕ) (from to : Beside) (a b : Streams) (r : Result (Unit {0}) Fault) (f : Fault) → IsErrAnd r (λ (e : Fault). e ≡ f) → Ends how most from to a b f → Executes how most from to a b r
ends_by how most from to a b (Ok x) f gives ends = absurd gives
ends_by how most from to a b (Err e) f gives ends = subst (λ (x : Fault). Ends how most from to a b x) (sym gives) ends

-- a command whose last step is a write
pub ends_writing : (how : Behaviour) (most : ℕ) (from to : Beside) (a b : Streams) (r : Result (Unit {0}) Fault) → OnOk r (Finishes how most from to a b) → OnErr r (Ends how most from to a b fault.WriteFault)
    → IfErr r (λ (f : Fault). f ≡ fault.WriteFault) → Executes how most from to a b r
ends_writing how most from to a b (Ok x) ok err is = ok
ends_writing how most from to a b (Err e) ok err is = subst (λ (x : Fault). Ends how most from to a b x) (sym is) err

pub on_ok_then : {T E : Type 0} (r : Result T E) (P Q : Type 0) → (P → Q) → OnOk r P → OnOk r Q
on_ok_then (Ok x) P Q follows holds = follows holds
on_ok_then (Err e) P Q follows holds = tt

-- nothing was written, which is the front of any text
pub front_of_any : (old : Option (List ℕ)) (text : List ℕ) → AppendsFront old old text
front_of_any old text = (0, omega arith, Appends-nil old)

pub none_within : AreWithin line_limit []
none_within = λ k d below. absurd (omega arith)

-- a command that has written nothing, of which nothing or little is due
pub nothing_more : (how : Behaviour) (most : ℕ) (from to : Beside) (a b : Streams) (taken due : List ℕ) → Consumes a.left b.left taken → length taken ≤ most → b.written ≡ a.written → ((text : List ℕ) → how.IsDueBefore from to text due) → GivesUp how most from to a b
nothing_more how most from to a b taken due consumed size same is = record {
  taken = taken;
  due = due;
  consumed = consumed;
  size = size;
  is_due = inr (inl (λ later. is (taken ++ later)));
  written = subst (λ (w : Option (List ℕ)). AppendsFront a.written w due) (sym same) (front_of_any a.written due);
}

-- it has read nothing either
pub nothing_yet : (how : Behaviour) (most : ℕ) (from to : Beside) (a : Streams) (due : List ℕ) → ((text : List ℕ) → how.IsDueBefore from to text due) → GivesUp how most from to a a
nothing_yet how most from to a due is = nothing_more how most from to a a [] due (Consumes-nil a.left) (omega arith) refl is

-- no command opens a file
pub never_opens : (how : Behaviour) (most : ℕ) (from to : Beside) (a b : Streams) (r : Result (Unit {0}) Fault) → Executes how most from to a b r → r ≡ Err fault.OpenFault → ⊥
never_opens how most from to a b r went is = subst (λ (x : Result (Unit {0}) Fault). Executes how most from to a b x) is went
