use Rattle.std.proofs.Common.{◌≡◌, ◌<◌, ◌≤◌, ◌+◌, ℕ, List, ◌++◌, ◌∷◌, [], length, Ok, Err, Bool, true, false, refl, sym, ap, ◌∙◌, subst, arith, length-append}
use Rattle.std.specs.Io.KnownBytes.{Consumes}
use Rattle.std.proofs.KnownBytes.{Consumes-nil, Consumes-trans}
use Rattle.sk_model.specs.Limits.{line_limit, source_limit}
use Rattle.sk_read.specs.declared.fault.Fault.TheVariants as fault
use Rattle.sk_read.specs.Faults.{fault_by}
use Rattle.sk_read.specs.Reading.{Goes, HasRead}
use Rattle.sk_read.specs.Reads.{IsInTime}
use Rattle.sk_read.specs.declared.units.Units.TheVariants.{Lines}
use Rattle.sk_read.proofs.CauseLaws.{steady_ok}
use Rattle.sk_read.proofs.FaultLaws.{given_fault, no_read_fault}
use Rattle.sk_read.proofs.ItemLaws.{has_few, last_within}
use Rattle.sk_read.proofs.Readings.{in_time_within}
use Rattle.sk_read.proofs.LineEnds.{ends_read, nothing_came, no_line, line_missed, line_missed_among, all_lines}
use Rattle.sk_read.proofs.lines.read_lines.Given.{Over}
use Rattle.sk_read.proofs.lines.read_lines.Goals.{In_ok-next}
use Rattle.sk_read.proofs.lines.read_lines.Goals as goal

-- the reader after a line
next_line : (g : Over) (c : In_ok-next g) → c.in_ok-next.field-0 ≡ true → (more : List ℕ) × Consumes (g.S.Source.left c.line.source) (g.S.Source.left c.next.new.source) more
    × (HasRead c.next.new.self (g.S.Source.left c.next.new.source) (c.line.invariant.given ++ c.next.new.self.cutter.line ∷ []) (c.line.invariant.taken ++ more) × IsInTime c.next.new.self.last Lines c.line.invariant.given (c.line.invariant.taken ++ more))
next_line g c is =
    let inv = c.line.invariant in
    let gave : c.next.result ≡ Ok true = c.in_ok-next.was ∙ ap (λ (b : Bool). Ok b) is in
    let next = c.next.ensures.goes inv.given inv.taken inv.read in
    (next.0, next.1, subst (Goes c.next.new.self (g.S.Source.left c.next.new.source) inv.given (inv.taken ++ next.0)) gave next.2)

room : (g : Over) (c : In_ok-next g) → c.in_ok-next.field-0 ≡ true → length c.line.invariant.given < source_limit
room g c is =
    let inv = c.line.invariant in
    let read = (next_line g c is).2.0 in
    let few = has_few c.next.new.self _ _ read.has in
    omega (arith, few, read.has.count, read.bound, read.few, length-append inv.given (c.next.new.self.cutter.line ∷ []))

-- its number
numbered : (g : Over) (c : In_ok-next g) → c.in_ok-next.field-0 ≡ true → (n : ℕ) → n ≡ c.next.new.self.cutter.number → n ≡ length c.line.invariant.given + 1
numbered g c is n count =
    let given = c.line.invariant.given in
    omega (arith, count, (next_line g c is).2.0.has.number, room g c is, length-append given (c.next.new.self.cutter.line ∷ []))

short : (g : Over) (c : In_ok-next g) → c.in_ok-next.field-0 ≡ true → length c.next.new.self.cutter.line ≤ line_limit
short g c is =
    let read = (next_line g c is).2.0 in
    subst (λ (m : ℕ). length c.next.new.self.cutter.line ≤ m) read.limit (last_within c.next.new.self.cutter.limit c.line.invariant.given c.next.new.self.cutter.line read.has.within)

-- the taker after it
taken_next : (g : Over) (c : In_ok-next g) → c.in_ok-next.field-0 ≡ true → (n : ℕ) (line : List ℕ) (new : g.row.T.Denot) → n ≡ c.next.new.self.cutter.number → line ≡ c.next.new.self.cutter.line →
    ((start : g.row.T.Denot) (units : List (List ℕ)) → length units + 1 ≡ n → g.T.UnitTaker.went start c.line.taker units → g.T.UnitTaker.went start new (units ++ line ∷ [])) →
    g.T.UnitTaker.went c.args.taker.now new (c.line.invariant.given ++ c.next.new.self.cutter.line ∷ [])
taken_next g c is n line new count own took =
    let inv = c.line.invariant in
    subst (λ (l : List ℕ). g.T.UnitTaker.went c.args.taker.now new (inv.given ++ l ∷ [])) own (took c.args.taker.now inv.given (sym (numbered g c is n count)) inv.gave)

pub returns-in_err-reader-clause-read : goal.returns-in_err-reader-clause-read
returns-in_err-reader-clause-read g c =
    let left = g.S.Source.left c.args.source.now in
    let Gave = g.T.UnitTaker.went c.args.taker.now c.args.taker.now in
    let Stopped = g.T.UnitTaker.stopped c.args.taker.now c.args.taker.now in
    ends_read Gave Stopped c.args.most 0 (g.S.Source.last c.args.source.now) Lines left left fault.OutOfMemory c.from_residual.result c.from_residual.ensures.1 (omega arith)
    (nothing_came Gave Stopped c.args.most 0 left c.requires.start)

pub line-init : goal.line-init
line-init g c = record {
  given = [];
  taken = [];
  read = c.in_ok-reader.ensures.read (g.S.Source.left c.args.source.now);
  consumed = Consumes-nil (g.S.Source.left c.args.source.now);
  gave = c.requires.start;
  most = c.in_ok-reader.ensures.most;
  piece = omega (arith, c.in_ok-reader.ensures.piece);
  steady = refl;
  stays = refl;
  standing = refl;
}

pub returns-in_err-next-clause-read : goal.returns-in_err-next-clause-read
returns-in_err-next-clause-read g c =
    let inv = c.line.invariant in
    let old = g.S.Source.left c.args.source.now in
    let left = g.S.Source.left c.next.new.source in
    let Gave = g.T.UnitTaker.went c.args.taker.now c.line.taker in
    let Stopped = g.T.UnitTaker.stopped c.args.taker.now c.line.taker in
    let s = c.in_err-next.field-0.0 in
    let next = c.next.ensures.goes inv.given inv.taken inv.read in
    let goes : Goes c.next.new.self left inv.given (inv.taken ++ next.0) (Err s) = subst (Goes c.next.new.self left inv.given (inv.taken ++ next.0)) c.in_err-next.was next.2 in
    ends_read Gave Stopped c.args.most _ _ Lines old left (fault_by s) c.from_residual-in_err-next.result c.from_residual-in_err-next.ensures.1 (c.next.ensures.piece inv.piece)
    (no_line Gave Stopped c.args.most c.next.new.self old left inv.given (inv.taken ++ next.0) s (c.next.ensures.most ∙ inv.most)
    (Consumes-trans _ _ _ _ _ inv.consumed next.1) inv.gave goes)

pub take-requires : goal.take-requires
take-requires g c =
    let inv = c.line.invariant in
    let at = (goal.at.take-requires g c).In_ok-next in
    let few = room g at c.if-branch.true in
    let place = numbered g at c.if-branch.true c.number.result c.number.ensures in
    record {
      short = subst (λ (l : List ℕ). length l ≤ line_limit) (sym c.line-in-line.ensures) (short g at c.if-branch.true);
      room = omega (arith, place, few);
      behind = (c.args.taker.now, inv.given, sym place, inv.gave);
    }

pub give_held-requires : goal.give_held-requires
give_held-requires g c =
    let inv = c.line.invariant in
    let at = (goal.at.give_held-requires g c).In_ok-next in
    let next = next_line g at c.if-branch.true in
    let went = taken_next g at c.if-branch.true c.number.result c.line-in-line.result.now c.take.new.self c.number.ensures c.line-in-line.ensures c.in_ok-take.ensures.went in
    record { behind = (c.args.taker.now, g.S.Source.left c.next.new.source, inv.given ++ c.next.new.self.cutter.line ∷ [], inv.taken ++ next.0, next.2.0, went) }

pub line-preserved : goal.line-preserved
line-preserved g c =
    let inv = c.line.invariant in
    let at = (goal.at.line-preserved g c).In_ok-next in
    let next = next_line g at c.if-branch.true in
    let left = g.S.Source.left c.next.new.source in
    let given = inv.given ++ c.next.new.self.cutter.line ∷ [] in
    let taken = inv.taken ++ next.0 in
    let went = taken_next g at c.if-branch.true c.number.result c.line-in-line.result.now c.take.new.self c.number.ensures c.line-in-line.ensures c.in_ok-take.ensures.went in
    let held = c.in_ok-give_held.ensures.gave c.args.taker.now left given taken next.2.0 went in
    record {
      given = given ++ held.0;
      taken = taken;
      read = held.1;
      consumed = Consumes-trans _ _ _ _ _ inv.consumed next.1;
      gave = held.2;
      most = c.give_held.ensures.most ∙ c.next.ensures.most ∙ inv.most;
      piece = omega (arith, c.give_held.ensures.piece, c.next.ensures.piece inv.piece);
      steady = steady_ok _ _ _ _ _ c.next.ensures.cause c.in_ok-next.was ∙ inv.steady;
      stays = c.next.ensures.stays ∙ inv.stays;
      standing = c.give_held.ensures.stays ∙ c.take.ensures.stays ∙ inv.standing;
    }

pub returns-in_err-give_held-clause-read : goal.returns-in_err-give_held-clause-read
returns-in_err-give_held-clause-read g c =
    let inv = c.line.invariant in
    let old = g.S.Source.left c.args.source.now in
    let left = g.S.Source.left c.next.new.source in
    let Gave = g.T.UnitTaker.went c.args.taker.now c.give_held.new.taker in
    let Stopped = g.T.UnitTaker.stopped c.args.taker.now c.give_held.new.taker in
    let at = (goal.at.returns-in_err-give_held-clause-read g c).In_ok-next in
    let next = next_line g at c.if-branch.true in
    let given = inv.given ++ c.next.new.self.cutter.line ∷ [] in
    let taken = inv.taken ++ next.0 in
    let f = c.in_err-give_held.field-0.0 in
    let went = taken_next g at c.if-branch.true c.number.result c.line-in-line.result.now c.take.new.self c.number.ensures c.line-in-line.ensures c.in_ok-take.ensures.went in
    let held = c.in_err-give_held.ensures.stopped c.args.taker.now left given taken next.2.0 went in
    ends_read Gave Stopped c.args.most _ _ Lines old left f c.from_residual-in_err-give_held.result c.from_residual-in_err-give_held.ensures.1 (omega (arith, c.give_held.ensures.piece, c.next.ensures.piece inv.piece))
    (line_missed_among Gave Stopped c.args.most c.give_held.new.reader old left given held.0 taken f (c.give_held.ensures.most ∙ c.next.ensures.most ∙ inv.most)
    (Consumes-trans _ _ _ _ _ inv.consumed next.1) held.2 held.1 (in_time_within Lines given taken (omega (arith, c.give_held.ensures.piece)) next.2.0.in_time))

pub returns-in_err-give_held-clause-cause : goal.returns-in_err-give_held-clause-cause
returns-in_err-give_held-clause-cause g c =
    let inv = c.line.invariant in
    let at = (goal.at.returns-in_err-give_held-clause-cause g c).In_ok-next in
    let next = next_line g at c.if-branch.true in
    let f = c.in_err-give_held.field-0.0 in
    let went = taken_next g at c.if-branch.true c.number.result c.line-in-line.result.now c.take.new.self c.number.ensures c.line-in-line.ensures c.in_ok-take.ensures.went in
    let held = c.in_err-give_held.ensures.stopped c.args.taker.now (g.S.Source.left c.next.new.source) (inv.given ++ c.next.new.self.cutter.line ∷ []) (inv.taken ++ next.0) next.2.0 went in
    record {
      steady = λ _. steady_ok _ _ _ _ _ c.next.ensures.cause c.in_ok-next.was ∙ inv.steady;
      failed = λ is. absurd (no_read_fault _ f held.2.fault (given_fault _ f _ c.from_residual-in_err-give_held.ensures.1 is));
    }

pub returns-in_err-take-clause-read : goal.returns-in_err-take-clause-read
returns-in_err-take-clause-read g c =
    let inv = c.line.invariant in
    let old = g.S.Source.left c.args.source.now in
    let left = g.S.Source.left c.next.new.source in
    let Gave = g.T.UnitTaker.went c.args.taker.now c.take.new.self in
    let Stopped = g.T.UnitTaker.stopped c.args.taker.now c.take.new.self in
    let own = c.next.new.self.cutter.line in
    let at = (goal.at.returns-in_err-take-clause-read g c).In_ok-next in
    let next = next_line g at c.if-branch.true in
    let n = c.number.result in
    let f = c.in_err-take.field-0.0 in
    let place = numbered g at c.if-branch.true n c.number.ensures in
    let stopped : Stopped f inv.given own = subst (Stopped f inv.given) c.line-in-line.ensures (c.in_err-take.ensures.stopped c.args.taker.now inv.given (sym place) inv.gave) in
    ends_read Gave Stopped c.args.most _ _ Lines old left f c.from_residual-in_err-take.result c.from_residual-in_err-take.ensures.1 (c.next.ensures.piece inv.piece)
    (line_missed Gave Stopped c.args.most c.next.new.self old left inv.given own (inv.taken ++ next.0) n f (c.next.ensures.most ∙ inv.most)
    (Consumes-trans _ _ _ _ _ inv.consumed next.1) place c.in_err-take.ensures.fault stopped next.2.0 next.2.1)

pub returns-in_err-take-clause-cause : goal.returns-in_err-take-clause-cause
returns-in_err-take-clause-cause g c = record {
  steady = λ _. steady_ok _ _ _ _ _ c.next.ensures.cause c.in_ok-next.was ∙ c.line.invariant.steady;
  failed = λ is. absurd (no_read_fault _ _ c.in_err-take.ensures.fault (given_fault _ c.in_err-take.field-0.0 _ c.from_residual-in_err-take.ensures.1 is));
}

pub returns-clause-read : goal.returns-clause-read
returns-clause-read g c =
    let inv = c.line.invariant in
    let Gave = g.T.UnitTaker.went c.args.taker.now c.line.taker in
    let Stopped = g.T.UnitTaker.stopped c.args.taker.now c.line.taker in
    let left = g.S.Source.left c.next.new.source in
    let none : c.next.result ≡ Ok false = c.in_ok-next.was ∙ ap (λ (b : Bool). Ok b) c.if-branch.false in
    let next = c.next.ensures.goes inv.given inv.taken inv.read in
    let goes : Goes c.next.new.self left inv.given (inv.taken ++ next.0) (Ok false) = subst (Goes c.next.new.self left inv.given (inv.taken ++ next.0)) none next.2 in
    all_lines Gave Stopped c.args.most c.next.new.self (g.S.Source.left c.args.source.now) left inv.given (inv.taken ++ next.0) c.number-2.result
    (c.next.ensures.most ∙ inv.most) (Consumes-trans _ _ _ _ _ inv.consumed next.1) inv.gave goes c.number-2.ensures
