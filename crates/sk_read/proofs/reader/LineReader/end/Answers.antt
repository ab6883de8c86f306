use Rattle.std.proofs.Common.{◌≡◌, ℕ, false, Ok, Err, Result, Bool, ap, ◌∙◌, subst, arith, true}
use Rattle.sk_read.specs.declared.reader.LineFault.{LineFault}
use Rattle.sk_read.specs.declared.reader.LineFault.TheVariants as fault
use Rattle.sk_read.specs.Reading.{Reading, IsLongLast}
use Rattle.sk_read.specs.Inside.{reading_of}
use Rattle.sk_read.proofs.Readings.{long_end}
use Rattle.sk_read.proofs.reader.LineReader.end.Goals.{in-Line, in-More, in-Long}
use Rattle.sk_read.proofs.reader.LineReader.end.Goals as goal

ok_is_no_error : (r : Result Bool LineFault) (b : Bool) (n : ℕ) → r ≡ Ok b → r ≡ Err (fault.LongLine n) → ⊥
ok_is_no_error r b n ok err = cc

same_line : (r : Result Bool LineFault) (m n : ℕ) → r ≡ Err (fault.LongLine m) → r ≡ Err (fault.LongLine n) → m ≡ n
same_line r m n one other = cc

pub returns-clause-long : goal.returns-clause-long
returns-clause-long c = λ n is. elim c.match-end.branch [
  | in-Line w ↦ absurd (ok_is_no_error _ true n w.result-is is)
  | in-More w ↦ absurd (ok_is_no_error _ false n w.result-is is)
  | in-Long w ↦
      let number : w.in-Long.line ≡ n = same_line _ _ n w.result-is is in
      subst (λ (m : ℕ). IsLongLast c.args.self.now m) number
      (subst (λ (r : Reading). IsLongLast r w.in-Long.line) c.self.view_is
      (long_end (reading_of c.self.inside) w.in-Long.line (ap (λ (r : Reading). r.ended) c.self.view_is ∙ c.requires.open) (omega (arith, c.self.invariant.bound, c.self.invariant.few))
      (c.end.ensures.long w.in-Long.line w.in-Long.is)))
]
