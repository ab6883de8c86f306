use Rattle.std.proofs.Common.{arith, ◌++◌, ◌∷◌, [], ℕ, List, Bool, Ok, sym, subst, append-nil}
use Rattle.std.proofs.KnownBytes.{Consumes-nil}
use Rattle.sk_read.specs.Reading.{HasRead, Goes, GoesHeld}
use Rattle.sk_read.specs.Reads.{IsInTime}
use Rattle.sk_read.specs.declared.units.Units.TheVariants.{Lines}
use Rattle.sk_read.proofs.Readings.{goes_passed, in_time_within}
use Rattle.sk_read.proofs.reader.LineReader.next.Goals as goal

pub returns-then-branch-clause-goes : goal.returns-then-branch-clause-goes
returns-then-branch-clause-goes g c = λ given taken read.
    let left = g.S.Source.left c.args.source.now in
    let held = subst (λ (b : Bool). GoesHeld c.next_held.new.self left given taken (Ok b)) c.if-branch.true (c.in_ok-next_held.ensures.goes left given taken read) in (
      [],
      Consumes-nil left,
      subst (λ (text : List ℕ). HasRead c.next_held.new.self left (given ++ c.next_held.new.self.cutter.line ∷ []) text × IsInTime c.next_held.new.self.last Lines given text) (sym (append-nil taken)) (held, in_time_within Lines given taken (omega (arith, c.next_held.ensures.piece)) read.in_time),
    )

pub returns-clause-goes : goal.returns-clause-goes
returns-clause-goes g c = λ given taken read.
    let left = g.S.Source.left c.args.source.now in
    c.next_read.ensures.goes given taken (subst (λ (b : Bool). GoesHeld c.next_held.new.self left given taken (Ok b)) c.if-branch.false (c.in_ok-next_held.ensures.goes left given taken read)).0

pub returns-in_err-next_held-clause-goes : goal.returns-in_err-next_held-clause-goes
returns-in_err-next_held-clause-goes g c = λ given taken read.
    let left = g.S.Source.left c.args.source.now in
    let s = c.in_err-next_held.field-0.0 in (
      [],
      Consumes-nil left,
      subst (λ (text : List ℕ). Goes c.next_held.new.self left given text c.from_residual.result) (sym (append-nil taken))
          (goes_passed c.next_held.new.self left given taken s c.from_residual.result c.from_residual.ensures.1 (c.in_err-next_held.ensures.goes left given taken read)),
    )
