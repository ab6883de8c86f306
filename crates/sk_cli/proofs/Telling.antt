-- How a command goes that writes a text about the program.
use Rattle.std.proofs.Common.{◌≡◌, inl, inr, ℕ, List, [], Option, Result, OnOk, OnErr, IfErr, sym, subst, arith}
use Rattle.std.specs.Io.KnownBytes.{Appends, Consumes}
use Rattle.std.proofs.KnownBytes.{Consumes-nil}
use Rattle.sk_model.specs.Causes.{AppendsPart}
use Rattle.sk_cli.specs.Beside.{Beside}
use Rattle.sk_cli.specs.commands.About.{about}
use Rattle.sk_cli.specs.Outside.{Streams}
use Rattle.sk_cli.specs.Run.{Finishes, Ends, Executes}
use Rattle.sk_cli.specs.declared.fault.Fault.{Fault}
use Rattle.sk_cli.specs.declared.fault.Fault.TheVariants as fault
use Rattle.sk_cli.proofs.Endings.{ends_writing, on_ok_then}
use Rattle.sk_report.proofs.Fronts.{on_err_then}

pub about_told : (page bytes : List ℕ) (most : ℕ) (from to : Beside) (a b : Streams) (r : Result (Unit {0}) Fault) → bytes ≡ page → b.left ≡ a.left → OnOk r (Appends a.written b.written bytes) → OnErr r (AppendsPart a.written b.written bytes) →
    IfErr r (λ (f : Fault). f ≡ fault.WriteFault) → Executes (about page) most from to a b r
about_told page bytes most from to a b r is same ok part only =
    let consumed : Consumes a.left b.left [] = subst (λ (l : Option (List ℕ)). Consumes a.left l []) (sym same) (Consumes-nil a.left) in
    ends_writing (about page) most from to a b r
    (on_ok_then r (Appends a.written b.written bytes) (Finishes (about page) most from to a b)
    (λ appended. record { text = []; due = bytes; consumed = consumed; end = tt; size = tt; fine = tt; is_due = is; leaves = tt; written = appended }) ok)
    (on_err_then r (AppendsPart a.written b.written bytes) (Ends (about page) most from to a b fault.WriteFault)
    (λ part. record {
      taken = [];
      due = bytes;
      consumed = consumed;
      size = omega arith;
      is_due = inr (tt, inl (λ later. is));
      written = part;
      by_lines = tt;
    }) part) only
