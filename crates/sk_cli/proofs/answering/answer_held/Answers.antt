use Rattle.std.proofs.Common.{◌≡◌, ◌≢◌, ℕ, List, Bool, Result, Ok, Err, true, false, refl, sym, ap, ◌∙◌, subst, arith}
use Rattle.sk_model.specs.declared.memory.OutOfMemory.{OutOfMemory}
use Rattle.sk_cli.proofs.ByAnswers.{CameHeld, came_none, answered_more, came_more, refused_held, no_memory_held, long_held, full_held, none_held}
use Rattle.sk_cli.proofs.answering.answer_held.Goals as goal

pub line-init : goal.line-init
line-init g c =
    let A = g.A.Answerer in
    record {
      came = λ left given taken due read led. came_none (A.led c.args.answerer.now) c.args.reader.now left given taken due c.clear.new.self.items c.clear.ensures.items read led;
      line = c.requires.line;
      due = λ lines text is. is;
      most = refl;
      piece = refl;
      remaining = omega arith;
    }

pub line-preserved : goal.line-preserved
line-preserved g c =
    let A = g.A.Answerer in
    let inv = c.line.invariant in
    let some : c.next_held.result ≡ Ok true = c.in_ok-next_held.was ∙ ap (λ (b : Bool). Ok b) c.if-not-branch-2.false in
    let answers = c.answer.ensures.answers (c.in_ok-answer.was ∙ ap (λ (b : Bool). Ok b) c.if-not-branch.false) in
    record {
      came = λ left given taken due read led.
          let on = answered_more (A.led c.line.answerer) (A.led c.answer.new.self) c.line.reader left given taken due c.line.text.items c.answer.new.text.items c.line-in-line.result.now (inv.came left given taken due read led) c.line-in-line.ensures answers in
          came_more (A.led c.answer.new.self) c.line.reader c.next_held.new.self left given taken due c.answer.new.text.items c.next_held.result on (c.next_held.ensures.goes left) some;
      line = c.next_held.ensures.holds some;
      due = λ lines text is. inv.due lines text (c.answer.ensures.due lines text is);
      most = c.next_held.ensures.most ∙ inv.most;
      piece = c.next_held.ensures.piece ∙ inv.piece;
      remaining = omega (arith, c.next_held.ensures.remaining, inv.remaining);
    }

not_answered : (r : Result Bool OutOfMemory) (why : OutOfMemory) → r ≡ Err why → r ≢ Ok true
not_answered r why is = λ other. cc

refused : (r : Result Bool OutOfMemory) → r ≡ Ok false → r ≢ Ok true
refused r is = λ other. cc

pub returns-in_err-answer-clause-held : goal.returns-in_err-answer-clause-held
returns-in_err-answer-clause-held g c = λ left given taken due read led.
    let A = g.A.Answerer in
    let inv = c.line.invariant in
    let same = c.answer.ensures.stays (not_answered c.answer.result c.in_err-answer.field-0.0 c.in_err-answer.was) in
    let came = subst (λ (t : List ℕ). CameHeld (A.led c.line.answerer) c.line.reader left given taken due t) (sym same) (inv.came left given taken due read led) in
    no_memory_held (A.due c.args.answerer.now) (A.led c.line.answerer) (A.led c.answer.new.self) A.refuses (λ lines text is. inv.due lines text (g.met.A.Answerer.is_due c.line.answerer lines text is)) left given taken due c.answer.new.text.items
    c.line.reader c.from_residual.result c.from_residual.ensures.1 came

pub returns-then-not-branch-clause-held : goal.returns-then-not-branch-clause-held
returns-then-not-branch-clause-held g c = λ left given taken due read led.
    let A = g.A.Answerer in
    let inv = c.line.invariant in
    let none : c.answer.result ≡ Ok false = c.in_ok-answer.was ∙ ap (λ (b : Bool). Ok b) c.if-not-branch.true in
    let came = subst (λ (t : List ℕ). CameHeld (A.led c.line.answerer) c.line.reader left given taken due t) (sym (c.answer.ensures.stays (refused c.answer.result none))) (inv.came left given taken due read led) in
    refused_held (A.due c.args.answerer.now) (A.led c.line.answerer) (A.led c.answer.new.self) A.refuses (λ lines text is. inv.due lines text (g.met.A.Answerer.is_due c.line.answerer lines text is)) left given taken due c.answer.new.text.items
    c.line.reader c.number.result c.line-in-line.result.now c.line-in-line.ensures c.number.ensures came (c.answer.ensures.refused none)

pub returns-then-len-ge-FULL_LEN-clause-held : goal.returns-then-len-ge-FULL_LEN-clause-held
returns-then-len-ge-FULL_LEN-clause-held g c = λ left given taken due read led.
    let A = g.A.Answerer in
    let inv = c.line.invariant in
    let answers = c.answer.ensures.answers (c.in_ok-answer.was ∙ ap (λ (b : Bool). Ok b) c.if-not-branch.false) in
    let on = answered_more (A.led c.line.answerer) (A.led c.answer.new.self) c.line.reader left given taken due c.line.text.items c.answer.new.text.items c.line-in-line.result.now (inv.came left given taken due read led) c.line-in-line.ensures answers in
    full_held (A.due c.args.answerer.now) (A.led c.answer.new.self) A.refuses (λ lines text is. inv.due lines text (c.answer.ensures.due lines text (g.met.A.Answerer.is_due c.answer.new.self lines text is))) left given taken due c.answer.new.text.items c.line.reader on

pub returns-in_err-next_held-clause-held : goal.returns-in_err-next_held-clause-held
returns-in_err-next_held-clause-held g c = λ left given taken due read led.
    let A = g.A.Answerer in
    let inv = c.line.invariant in
    let answers = c.answer.ensures.answers (c.in_ok-answer.was ∙ ap (λ (b : Bool). Ok b) c.if-not-branch.false) in
    let on = answered_more (A.led c.line.answerer) (A.led c.answer.new.self) c.line.reader left given taken due c.line.text.items c.answer.new.text.items c.line-in-line.result.now (inv.came left given taken due read led) c.line-in-line.ensures answers in
    long_held (A.due c.args.answerer.now) (A.led c.answer.new.self) (A.led c.answer.new.self) A.refuses (λ lines text is. inv.due lines text (c.answer.ensures.due lines text (g.met.A.Answerer.is_due c.answer.new.self lines text is))) left given taken due c.answer.new.text.items
    c.line.reader c.next_held.new.self c.from_residual-in_err-next_held.result c.next_held.result c.in_err-next_held.field-0.0 on (c.next_held.ensures.goes left) c.in_err-next_held.was c.next_held.ensures.long c.from_residual-in_err-next_held.ensures.1

pub returns-then-not-branch-2-clause-held : goal.returns-then-not-branch-2-clause-held
returns-then-not-branch-2-clause-held g c = λ left given taken due read led.
    let A = g.A.Answerer in
    let inv = c.line.invariant in
    let answers = c.answer.ensures.answers (c.in_ok-answer.was ∙ ap (λ (b : Bool). Ok b) c.if-not-branch.false) in
    let on = answered_more (A.led c.line.answerer) (A.led c.answer.new.self) c.line.reader left given taken due c.line.text.items c.answer.new.text.items c.line-in-line.result.now (inv.came left given taken due read led) c.line-in-line.ensures answers in
    none_held (A.due c.args.answerer.now) (A.led c.answer.new.self) A.refuses (λ lines text is. inv.due lines text (c.answer.ensures.due lines text (g.met.A.Answerer.is_due c.answer.new.self lines text is))) left given taken due c.answer.new.text.items
    c.line.reader c.next_held.new.self c.next_held.result on (c.next_held.ensures.goes left) (c.in_ok-next_held.was ∙ ap (λ (b : Bool). Ok b) c.if-not-branch-2.true)
