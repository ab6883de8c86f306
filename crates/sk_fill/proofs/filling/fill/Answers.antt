use Rattle.std.proofs.Common.{◌≡◌, ◌≤◌, ℕ, List, [], ◌∷◌, ◌++◌, length, Bool, true, false, Option, Ok, Err, OnOk, refl, sym, ap, ◌∙◌, subst, arith, append_assoc}
use Rattle.std.specs.Io.KnownBytes.{Consumes}
use Rattle.std.proofs.KnownBytes.{Consumes-trans}
use Rattle.sk_model.specs.Limits.{line_limit, most_kept}
use Rattle.sk_read.specs.Faults.{fault_by}
use Rattle.sk_read.specs.Reading.{HasRead, Goes}
use Rattle.sk_read.specs.Reads.{Ends}
use Rattle.sk_read.specs.declared.fault.Fault.TheVariants as fault
use Rattle.sk_read.specs.declared.units.Units.TheVariants.{Lines}
use Rattle.sk_read.proofs.LineEnds.{no_line, line_missed}
use Rattle.sk_read.proofs.Readings.{in_time_within}
use Rattle.sk_fill.specs.Fills.{RefusesLine, ReadsLine}
use Rattle.sk_fill.proofs.Readings.{if_err_is, steady_on_ok}
use Rattle.sk_fill.proofs.Filled.{read_few, line_read, line_number, line_short, line_added, still_unfilled, now_full, now_unfilled, still_good, held_stopped, held_on, held_last, not_yet}
use Rattle.sk_fill.proofs.filling.fill.Given.{Over}
use Rattle.sk_fill.proofs.filling.fill.Goals.{In_ok-next}
use Rattle.sk_fill.proofs.filling.fill.Goals as goal

-- the reader after a line
next_line : (g : Over) (c : In_ok-next g) → c.in_ok-next.field-0 ≡ true → (given : List (List ℕ)) (taken : List ℕ) → HasRead c.args.reader.now (g.S.Source.left c.args.source.now) given taken
    → ReadsLine c.next.new.self (g.S.Source.left c.args.source.now) (g.S.Source.left c.next.new.source) (given ++ c.piece.window.lines) c.next.new.self.cutter.line taken
next_line g c is given taken has =
    let lines = given ++ c.piece.window.lines in
    let before = c.piece.invariant.read given taken has in
    let next = c.next.ensures.goes lines (taken ++ before.0) before.2 in
    let gave : c.next.result ≡ Ok true = c.in_ok-next.was ∙ ap (λ (b : Bool). Ok b) is in
    line_read c.next.new.self (g.S.Source.left c.args.source.now) (g.S.Source.left c.piece.source) (g.S.Source.left c.next.new.source) lines c.next.new.self.cutter.line taken before.0 next.0 before.1 next.1
    (subst (Goes c.next.new.self (g.S.Source.left c.next.new.source) lines ((taken ++ before.0) ++ next.0)) gave next.2)

pub returns-in_err-next-clause-stopped : goal.returns-in_err-next-clause-stopped
returns-in_err-next-clause-stopped g c =
    let s = c.in_err-next.field-0.0 in
    let lines = c.piece.window.lines in
    if_err_is c.from_residual.result (fault_by s) _ c.from_residual.ensures.1 (λ first given taken consumed has.
    let inv = c.piece.invariant in
    let left = g.S.Source.left c.next.new.source in
    let before = inv.read given taken has in
    let next = c.next.ensures.goes (given ++ lines) (taken ++ before.0) before.2 in
    let goes : Goes c.next.new.self left (given ++ lines) ((taken ++ before.0) ++ next.0) (Err s) = subst (Goes c.next.new.self left (given ++ lines) ((taken ++ before.0) ++ next.0)) c.in_err-next.was next.2 in
    no_line (λ l. l ≡ given ++ lines) (RefusesLine c.args.kind (given ++ lines)) c.args.reader.now.most c.next.new.self first left (given ++ lines) ((taken ++ before.0) ++ next.0) s
    (c.next.ensures.most ∙ inv.bound) (Consumes-trans _ _ _ _ _ (Consumes-trans _ _ _ _ _ consumed before.1) next.1) refl goes)

pub returns-then-not-is_good-clause-stopped : goal.returns-then-not-is_good-clause-stopped
returns-then-not-is_good-clause-stopped g c = λ first given taken consumed has.
    let at = (goal.at.returns-then-not-is_good-clause-stopped g c).In_ok-next in
    let lines = given ++ c.piece.window.lines in
    let line = c.next.new.self.cutter.line in
    let left = g.S.Source.left c.next.new.source in
    let one = next_line g at c.if-branch.true given taken has in
    let n = c.number.result in
    let place = line_number c.next.new.self (g.S.Source.left c.args.source.now) left lines line taken n one c.number.ensures in
    let bad = c.if-not-is_good.ensures.bad in
    line_missed (λ l. l ≡ lines) (RefusesLine c.args.kind lines) c.args.reader.now.most c.next.new.self first left lines line (taken ++ one.more) n (fault.BadItem n)
    (c.next.ensures.most ∙ c.piece.invariant.bound) (Consumes-trans _ _ _ _ _ consumed one.consumed) place refl
    (subst (λ l. RefusesLine c.args.kind lines (fault.BadItem n) lines l) c.line-line.ensures (refl, (bad refl).0, (bad refl).1)) one.read one.in_time

pub push_line-requires-clause-room : goal.push_line-requires-clause-room
push_line-requires-clause-room g c = still_unfilled c.piece.window.most c.piece.window.lines c.piece.invariant.unfilled

pub push_line-requires-clause-short : goal.push_line-requires-clause-short
push_line-requires-clause-short g c =
    let at = (goal.at.push_line-requires-clause-short g c).In_ok-next in
    let start = c.requires.started in
    let left = g.S.Source.left c.next.new.source in
    let one = next_line g at c.if-branch.true start.0 start.1 start.2 in
    subst (λ l. length l ≤ line_limit) (sym c.line-line.ensures) (line_short c.next.new.self (g.S.Source.left c.args.source.now) left (start.0 ++ c.piece.window.lines) c.next.new.self.cutter.line start.1 one)

pub returns-in_err-push_line-clause-stopped : goal.returns-in_err-push_line-clause-stopped
returns-in_err-push_line-clause-stopped g c =
    if_err_is c.from_residual-in_err-push_line.result fault.OutOfMemory _ c.from_residual-in_err-push_line.ensures.1 (λ first given taken consumed has.
    let at = (goal.at.returns-in_err-push_line-clause-stopped g c).In_ok-next in
    let lines = given ++ c.piece.window.lines in
    let line = c.next.new.self.cutter.line in
    let left = g.S.Source.left c.next.new.source in
    let one = next_line g at c.if-branch.true given taken has in
    let place = line_number c.next.new.self (g.S.Source.left c.args.source.now) left lines line taken c.next.new.self.cutter.number one refl in
    subst (λ l. Ends c.next.new.self.last Lines c.args.reader.now.most (λ x. x ≡ given ++ l) (RefusesLine c.args.kind (given ++ l)) first left fault.OutOfMemory) (sym c.in_err-push_line.ensures.refused)
    (line_missed (λ l. l ≡ lines) (RefusesLine c.args.kind lines) c.args.reader.now.most c.next.new.self first left lines line (taken ++ one.more) c.next.new.self.cutter.number fault.OutOfMemory
    (c.next.ensures.most ∙ c.piece.invariant.bound) (Consumes-trans _ _ _ _ _ consumed one.consumed) place tt refl one.read one.in_time))

pub returns-then-is_full-clause-full : goal.returns-then-is_full-clause-full
returns-then-is_full-clause-full g c = λ _. now_full c.piece.window c.push_line.new.self c.line-line.result.now c.is_full.result c.piece.invariant.unfilled c.push_line.ensures.most c.in_ok-push_line.ensures.lines c.is_full.ensures c.if-is_full.true

pub returns-then-is_full-clause-good : goal.returns-then-is_full-clause-good
returns-then-is_full-clause-good g c = still_good c.args.kind c.piece.window.lines c.push_line.new.self.lines c.line-line.result.now c.piece.invariant.good (c.is_good.ensures.good c.if-not-is_good.false) c.in_ok-push_line.ensures.lines

pub returns-then-is_full-clause-last : goal.returns-then-is_full-clause-last
returns-then-is_full-clause-last g c = λ _. λ given taken has.
    let at = (goal.at.returns-then-is_full-clause-last g c).In_ok-next in
    let lines = c.piece.window.lines in
    let one = next_line g at c.if-branch.true given taken has in (
      lines,
      c.line-line.result.now,
      c.in_ok-push_line.ensures.lines,
      subst (λ l. ReadsLine c.next.new.self (g.S.Source.left c.args.source.now) (g.S.Source.left c.next.new.source) (given ++ lines) l taken) (sym c.line-line.ensures) one,
    )

-- the reader after the line that was put into the window
at_line : (g : Over) (c : In_ok-next g) → c.in_ok-next.field-0 ≡ true → (own : List ℕ) (lines : List (List ℕ)) → own ≡ c.next.new.self.cutter.line → lines ≡ c.piece.window.lines ++ own ∷ [] → (given : List (List ℕ)) (taken : List ℕ) → HasRead c.args.reader.now (g.S.Source.left c.args.source.now) given taken
    → (more : List ℕ) × Consumes (g.S.Source.left c.args.source.now) (g.S.Source.left c.next.new.source) more × HasRead c.next.new.self (g.S.Source.left c.next.new.source) (given ++ lines) (taken ++ more)
at_line g c is own lines same added given taken has =
    let one = next_line g c is given taken has in
    (one.more, one.consumed, line_added c.next.new.self (g.S.Source.left c.next.new.source) given c.piece.window.lines lines c.next.new.self.cutter.line own (taken ++ one.more) same added one.read)

pub take_held-requires-clause-unfilled : goal.take_held-requires-clause-unfilled
take_held-requires-clause-unfilled g c =
    now_unfilled c.piece.window c.push_line.new.self c.line-line.result.now c.is_full.result c.piece.invariant.unfilled c.push_line.ensures.most c.in_ok-push_line.ensures.lines c.is_full.ensures c.if-is_full.false

pub take_held-requires-clause-good : goal.take_held-requires-clause-good
take_held-requires-clause-good g c =
    still_good c.args.kind c.piece.window.lines c.push_line.new.self.lines c.line-line.result.now c.piece.invariant.good (c.is_good.ensures.good c.if-not-is_good.false) c.in_ok-push_line.ensures.lines

pub take_held-requires-clause-started : goal.take_held-requires-clause-started
take_held-requires-clause-started g c =
    let start = c.requires.started in
    let now = at_line g (goal.at.take_held-requires-clause-started g c).In_ok-next c.if-branch.true c.line-line.result.now c.push_line.new.self.lines c.line-line.ensures c.in_ok-push_line.ensures.lines start.0 start.1 start.2 in
    (g.S.Source.left c.next.new.source, start.0, start.1 ++ now.0, now.2)

pub returns-in_err-take_held-clause-few : goal.returns-in_err-take_held-clause-few
returns-in_err-take_held-clause-few g c = λ given taken has.
    let now = at_line g (goal.at.returns-in_err-take_held-clause-few g c).In_ok-next c.if-branch.true c.line-line.result.now c.push_line.new.self.lines c.line-line.ensures c.in_ok-push_line.ensures.lines given taken has in
    c.take_held.ensures.takes.few (g.S.Source.left c.next.new.source) given (taken ++ now.0) now.2

pub returns-in_err-take_held-clause-stopped : goal.returns-in_err-take_held-clause-stopped
returns-in_err-take_held-clause-stopped g c =
    let why = c.in_err-take_held.field-0.0 in
    if_err_is c.from_residual-in_err-take_held.result why _ c.from_residual-in_err-take_held.ensures.1 (λ first given taken consumed has.
    let now = at_line g (goal.at.returns-in_err-take_held-clause-stopped g c).In_ok-next c.if-branch.true c.line-line.result.now c.push_line.new.self.lines c.line-line.ensures c.in_ok-push_line.ensures.lines given taken has in
    let left = g.S.Source.left c.next.new.source in
    let lines = c.take_held.new.window.lines in
    subst (λ m. Ends c.take_held.new.reader.last Lines m (λ l. l ≡ given ++ lines) (RefusesLine c.args.kind (given ++ lines)) first left why) (c.next.ensures.most ∙ c.piece.invariant.bound)
    (held_stopped c.take_held.result why (λ e. (first left : Option (List ℕ)) (given : List (List ℕ)) (taken : List ℕ) → Consumes first left taken → HasRead c.next.new.self left (given ++ c.push_line.new.self.lines) taken
    → Ends c.take_held.new.reader.last Lines c.next.new.self.most (λ l. l ≡ given ++ lines) (RefusesLine c.args.kind (given ++ lines)) first left e) c.in_err-take_held.was c.take_held.ensures.takes.stopped
    first left given (taken ++ now.0) (Consumes-trans _ _ _ _ _ consumed now.1) now.2))

pub returns-then-branch-2-clause-last : goal.returns-then-branch-2-clause-last
returns-then-branch-2-clause-last g c = λ _. λ given taken has.
    let at = (goal.at.returns-then-branch-2-clause-last g c).In_ok-next in
    let yes : c.take_held.result ≡ Ok true = c.in_ok-take_held.was ∙ ap (λ (b : Bool). Ok b) c.if-branch-2.true in
    let takes = c.take_held.ensures.takes in
    let left = g.S.Source.left c.next.new.source in
    let now = at_line g at c.if-branch.true c.line-line.result.now c.push_line.new.self.lines c.line-line.ensures c.in_ok-push_line.ensures.lines given taken has in
    held_last c.take_held.new.reader (g.S.Source.left c.args.source.now) left given c.push_line.new.self.lines c.take_held.new.window.lines taken now.0 now.1 (takes.last yes) (in_time_within Lines (given ++ c.push_line.new.self.lines) (taken ++ now.0) (omega (arith, c.take_held.ensures.piece)) now.2.in_time)
    (held_on c.take_held.result true _ yes takes.read left given (taken ++ now.0) now.2)

pub returns-then-branch-2-clause-few : goal.returns-then-branch-2-clause-few
returns-then-branch-2-clause-few g c = λ given taken has.
    let now = at_line g (goal.at.returns-then-branch-2-clause-few g c).In_ok-next c.if-branch.true c.line-line.result.now c.push_line.new.self.lines c.line-line.ensures c.in_ok-push_line.ensures.lines given taken has in
    c.take_held.ensures.takes.few (g.S.Source.left c.next.new.source) given (taken ++ now.0) now.2

pub piece-preserved : goal.piece-preserved
piece-preserved g c =
    let inv = c.piece.invariant in
    let at = (goal.at.piece-preserved g c).In_ok-next in
    let takes = c.take_held.ensures.takes in
    let no : c.take_held.result ≡ Ok false = c.in_ok-take_held.was ∙ ap (λ (b : Bool). Ok b) c.if-branch-2.false in
    record {
      unfilled = takes.unfilled (not_yet c.take_held.result no);
      good = takes.good;
      most = c.take_held.ensures.most ∙ c.push_line.ensures.most ∙ inv.most;
      read = λ given taken has.
          let now = at_line g at c.if-branch.true c.line-line.result.now c.push_line.new.self.lines c.line-line.ensures c.in_ok-push_line.ensures.lines given taken has in
          (now.0, now.1, held_on c.take_held.result false _ no takes.read (g.S.Source.left c.next.new.source) given (taken ++ now.0) now.2);
      bound = c.take_held.ensures.bound ∙ c.next.ensures.most ∙ inv.bound;
      piece = λ within. let now = c.next.ensures.piece (inv.piece within) in omega (arith, c.take_held.ensures.piece, now);
      fewer = omega (arith, c.take_held.ensures.remaining, c.next.ensures.progress (c.in_ok-next.was ∙ ap (λ (b : Bool). Ok b) c.if-branch.true), inv.fewer);
      steady = subst (λ r. OnOk r (g.S.Source.faults c.next.new.source ≡ g.S.Source.faults c.piece.source)) c.in_ok-next.was
          (steady_on_ok _ (g.S.Source.faults c.piece.source) (g.S.Source.faults c.next.new.source) c.next.result c.next.ensures.cause) ∙ inv.steady;
      stays = c.next.ensures.stays ∙ inv.stays;
    }

pub returns-clause-rest : goal.returns-clause-rest
returns-clause-rest g c = λ _. λ given taken has.
    let lines = given ++ c.piece.window.lines in
    let left = g.S.Source.left c.next.new.source in
    let before = c.piece.invariant.read given taken has in
    let next = c.next.ensures.goes lines (taken ++ before.0) before.2 in
    let none : c.next.result ≡ Ok false = c.in_ok-next.was ∙ ap (λ (b : Bool). Ok b) c.if-branch.false in
    let goes : Goes c.next.new.self left lines ((taken ++ before.0) ++ next.0) (Ok false) = subst (Goes c.next.new.self left lines ((taken ++ before.0) ++ next.0)) none next.2 in
    (before.0 ++ next.0, Consumes-trans _ _ _ _ _ before.1 next.1, subst (HasRead c.next.new.self left lines) (append_assoc taken before.0 next.0) goes.0)

pub returns-in_err-next-clause-few : goal.returns-in_err-next-clause-few
returns-in_err-next-clause-few g c = λ given taken has.
    let before = c.piece.invariant.read given taken has in
    read_few c.piece.reader (g.S.Source.left c.piece.source) (given ++ c.piece.window.lines) (taken ++ before.0) before.2

pub returns-then-not-is_good-clause-few : goal.returns-then-not-is_good-clause-few
returns-then-not-is_good-clause-few g c = λ given taken has.
    let before = c.piece.invariant.read given taken has in
    read_few c.piece.reader (g.S.Source.left c.piece.source) (given ++ c.piece.window.lines) (taken ++ before.0) before.2

pub returns-clause-few : goal.returns-clause-few
returns-clause-few g c = λ given taken has.
    let before = c.piece.invariant.read given taken has in
    read_few c.piece.reader (g.S.Source.left c.piece.source) (given ++ c.piece.window.lines) (taken ++ before.0) before.2

pub returns-in_err-push_line-clause-few : goal.returns-in_err-push_line-clause-few
returns-in_err-push_line-clause-few g c = λ given taken has.
    let before = c.piece.invariant.read given taken has in
    subst (λ l. length (given ++ l) ≤ most_kept) (sym c.in_err-push_line.ensures.refused)
    (read_few c.piece.reader (g.S.Source.left c.piece.source) (given ++ c.piece.window.lines) (taken ++ before.0) before.2)

pub returns-then-is_full-clause-few : goal.returns-then-is_full-clause-few
returns-then-is_full-clause-few g c = λ given taken has.
    let at = (goal.at.returns-then-is_full-clause-few g c).In_ok-next in
    let one = next_line g at c.if-branch.true given taken has in
    let left = g.S.Source.left c.next.new.source in
    read_few c.next.new.self left (given ++ c.push_line.new.self.lines) (taken ++ one.more)
    (line_added c.next.new.self left given c.piece.window.lines c.push_line.new.self.lines c.next.new.self.cutter.line c.line-line.result.now (taken ++ one.more) c.line-line.ensures c.in_ok-push_line.ensures.lines one.read)
