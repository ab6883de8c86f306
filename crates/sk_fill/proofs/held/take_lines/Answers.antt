use Rattle.std.proofs.Common.{◌≡◌, ◌++◌, ◌∷◌, [], ℕ, List, Option, Ok, Bool, true, refl, sym, ap, ◌∙◌, subst, arith}
use Rattle.sk_read.specs.Reading.{HasRead, GoesHeld}
use Rattle.sk_fill.specs.Fills.{TakesHeld, TakesMore}
use Rattle.sk_fill.proofs.Filled.{held_line, still_unfilled, still_good, now_full, now_unfilled}
use Rattle.sk_fill.proofs.ManyLines.{none_taken}
use Rattle.sk_fill.proofs.HeldLines as held
use Rattle.sk_fill.proofs.held.take_lines.Goals.{In_ok-next_held}
use Rattle.sk_fill.proofs.held.take_lines.Goals as goal

pub line-init : goal.line-init
line-init c = record {
  more = none_taken c.args.kind c.args.window.now.most c.args.window.now.lines c.args.reader.now c.args.reader.now c.requires.unfilled c.requires.good (λ left given taken has. has);
  most = refl;
  fewer = omega arith;
  bound = refl;
  piece = refl;
}

-- the reader after a line
gave : (c : In_ok-next_held) → c.in_ok-next_held.field-0 ≡ true → (left : Option (List ℕ)) (given : List (List ℕ)) (taken : List ℕ) → HasRead c.line.reader left given taken → HasRead c.next_held.new.self left (given ++ c.next_held.new.self.cutter.line ∷ []) taken
gave c is left given taken has =
    held_line c.next_held.new.self left given taken c.next_held.result (c.in_ok-next_held.was ∙ ap (λ (b : Bool). Ok b) is) (c.next_held.ensures.goes left given taken has)

pub returns-in_err-next_held-clause-takes : goal.returns-in_err-next_held-clause-takes
returns-in_err-next_held-clause-takes c =
    let inv = c.line.invariant in
    let why = c.in_err-next_held.field-0.0 in
    let r = c.next_held.new.self in
    held.long_held c.args.kind c.line.window.most c.args.window.now.lines c.line.window.lines c.args.reader.now c.line.reader r inv.more why c.from_residual.result (c.next_held.ensures.most ∙ inv.bound) c.from_residual.ensures.1
    (λ left given taken has. subst (GoesHeld r left given taken) c.in_err-next_held.was (c.next_held.ensures.goes left given taken has))

pub returns-then-not-is_good-clause-takes : goal.returns-then-not-is_good-clause-takes
returns-then-not-is_good-clause-takes c =
    let at = (goal.at.returns-then-not-is_good-clause-takes c).In_ok-next_held in
    let inv = c.line.invariant in
    let bad = c.if-not-is_good.ensures.bad in
    held.bad_held c.args.kind c.line.window.most c.args.window.now.lines c.line.window.lines c.args.reader.now c.line.reader c.next_held.new.self inv.more c.line-line.result.now c.number.result
    (c.next_held.ensures.most ∙ inv.bound) c.next_held.ensures.piece c.line-line.ensures c.number.ensures (bad refl).0 (bad refl).1 (gave at c.if-branch.true)

pub push_line-requires-clause-room : goal.push_line-requires-clause-room
push_line-requires-clause-room c = still_unfilled c.line.window.most c.line.window.lines c.line.invariant.more.unfilled

pub push_line-requires-clause-short : goal.push_line-requires-clause-short
push_line-requires-clause-short c =
    let at = (goal.at.push_line-requires-clause-short c).In_ok-next_held in
    let start = c.requires.started in
    held.short_line c.next_held.new.self start.0 _ c.next_held.new.self.cutter.line c.line-line.result.now start.2 c.line-line.ensures
    (gave at c.if-branch.true start.0 _ start.2 (c.line.invariant.more.read start.0 start.1 start.2 start.3))

pub returns-in_err-push_line-clause-takes : goal.returns-in_err-push_line-clause-takes
returns-in_err-push_line-clause-takes c =
    let at = (goal.at.returns-in_err-push_line-clause-takes c).In_ok-next_held in
    let inv = c.line.invariant in
    subst (λ m. TakesHeld c.args.kind m c.args.window.now.lines c.push_line.new.self.lines c.args.reader.now c.next_held.new.self c.from_residual-in_err-push_line.result) (sym c.push_line.ensures.most)
    (held.no_room_held c.args.kind c.line.window.most c.args.window.now.lines c.line.window.lines c.args.reader.now c.line.reader c.next_held.new.self inv.more c.push_line.new.self.lines c.from_residual-in_err-push_line.result
    c.in_err-push_line.ensures.refused (c.next_held.ensures.most ∙ inv.bound) c.next_held.ensures.piece c.from_residual-in_err-push_line.ensures.1 (gave at c.if-branch.true))

pub returns-then-is_full-clause-takes : goal.returns-then-is_full-clause-takes
returns-then-is_full-clause-takes c =
    let at = (goal.at.returns-then-is_full-clause-takes c).In_ok-next_held in
    let inv = c.line.invariant in
    let lines = c.in_ok-push_line.ensures.lines in
    let full = now_full c.line.window c.push_line.new.self c.line-line.result.now c.is_full.result inv.more.unfilled c.push_line.ensures.most lines c.is_full.ensures c.if-is_full.true in
    let good = still_good c.args.kind c.line.window.lines c.push_line.new.self.lines c.line-line.result.now inv.more.good (c.is_good.ensures.good c.if-not-is_good.false) lines in
    let before = subst (λ m. TakesMore c.args.kind m c.args.window.now.lines c.line.window.lines c.args.reader.now c.line.reader) (sym c.push_line.ensures.most) inv.more in
    held.last_taken c.args.kind c.push_line.new.self.most c.args.window.now.lines c.line.window.lines c.args.reader.now c.line.reader c.next_held.new.self before c.push_line.new.self.lines c.line-line.result.now c.line-line.ensures lines full good (gave at c.if-branch.true)

pub line-preserved : goal.line-preserved
line-preserved c =
    let at = (goal.at.line-preserved c).In_ok-next_held in
    let inv = c.line.invariant in
    let lines = c.in_ok-push_line.ensures.lines in
    let unfilled = now_unfilled c.line.window c.push_line.new.self c.line-line.result.now c.is_full.result inv.more.unfilled c.push_line.ensures.most lines c.is_full.ensures c.if-is_full.false in
    let good = still_good c.args.kind c.line.window.lines c.push_line.new.self.lines c.line-line.result.now inv.more.good (c.is_good.ensures.good c.if-not-is_good.false) lines in
    let before = subst (λ m. TakesMore c.args.kind m c.args.window.now.lines c.line.window.lines c.args.reader.now c.line.reader) (sym c.push_line.ensures.most) inv.more in
    record {
      more = held.line_taken c.args.kind c.push_line.new.self.most c.args.window.now.lines c.line.window.lines c.args.reader.now c.line.reader c.next_held.new.self before c.push_line.new.self.lines c.line-line.result.now c.line-line.ensures lines unfilled good (gave at c.if-branch.true);
      most = c.push_line.ensures.most ∙ inv.most;
      fewer = omega (arith, c.next_held.ensures.remaining, inv.fewer);
      bound = c.next_held.ensures.most ∙ inv.bound;
      piece = c.next_held.ensures.piece ∙ inv.piece;
    }

pub returns-clause-takes : goal.returns-clause-takes
returns-clause-takes c =
    let no = c.in_ok-next_held.was ∙ ap (λ (b : Bool). Ok b) c.if-branch.false in
    held.none_held c.args.kind c.line.window.most c.args.window.now.lines c.line.window.lines c.args.reader.now c.line.reader c.next_held.new.self c.line.invariant.more
    (λ left given taken has. subst (GoesHeld c.next_held.new.self left given taken) no (c.next_held.ensures.goes left given taken has))
