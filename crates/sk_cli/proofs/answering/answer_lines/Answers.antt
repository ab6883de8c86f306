use Rattle.std.proofs.Common.{◌++◌, ℕ, List, Err, false, refl, sym, ap, ◌∙◌, subst, arith}
use Rattle.std.specs.Io.KnownBytes.{Appends}
use Rattle.sk_model.specs.Causes.{AppendsPart}
use Rattle.sk_read.specs.declared.reader.LineFault.TheVariants as stop
use Rattle.sk_cli.specs.Answering.{AnswersHeld}
use Rattle.sk_cli.specs.Fault.{fault_by_line}
use Rattle.sk_cli.specs.Outside.{Streams, streams_of}
use Rattle.sk_cli.specs.Run.{Ends}
use Rattle.sk_cli.specs.declared.fault.Fault.{Fault}
use Rattle.sk_cli.specs.declared.fault.Fault.TheVariants as fault
use Rattle.sk_cli.proofs.ByAnswers.{due_too, came_to_start, came_on, no_room, no_line, ended, answers_cut_short, fault_behind_answers}
use Rattle.sk_cli.proofs.Endings.{ends_by}
use Rattle.sk_cli.proofs.Moves.{caused_elsewhere, steady_ok}
use Rattle.sk_cli.proofs.Reading.{went, went_so, got_line}
use Rattle.sk_cli.proofs.answering.answer_lines.Goals as goal

pub returns-in_err-text-clause-done : goal.returns-in_err-text-clause-done
returns-in_err-text-clause-done g c = λ from to start given taken read consumed same led by.
    let A = g.A.Answerer in
    let how = A.how c.args.answerer.now in
    let b : Streams = streams_of g.S.Source g.O.Sink c.args.source.now c.args.out.now in
    ends_by how c.args.reader.now.most from to start b _ fault.OutOfMemory c.from_residual.ensures.1
    (no_room how from to (A.due c.args.answerer.now) A.refuses given by c.args.reader.now.most start b (A.led c.args.answerer.now) (g.met.A.Answerer.is_due c.args.answerer.now) c.args.reader.now taken refl read consumed same led)

pub read-init : goal.read-init
read-init g c =
    let A = g.A.Answerer in
    record {
      came = λ start given taken read consumed same led. came_to_start (A.led c.args.answerer.now) c.args.reader.now start (g.S.Source.left c.args.source.now) (g.O.Sink.written c.args.out.now) given taken read consumed same led;
      due = λ lines text is. is;
      most = refl;
      piece = c.requires.piece;
      read_count = refl;
      write_count = refl;
      stays = refl;
    }

pub returns-in_err-next-clause-done : goal.returns-in_err-next-clause-done
returns-in_err-next-clause-done g c = λ from to start given taken read consumed same led by.
    let A = g.A.Answerer in
    let inv = c.read.invariant in
    let how = A.how c.args.answerer.now in
    let most = c.args.reader.now.most in
    let s = c.in_err-next.field-0.0 in
    let b : Streams = streams_of g.S.Source g.O.Sink c.next.new.source c.read.out in
    let came = inv.came start given taken read consumed same led in
    let on = went c.read.reader c.next.new.self start.left (g.S.Source.left c.read.source) b.left most (given ++ came.more) came.taken c.next.result (Err s) came.reads c.next.ensures.goes c.next.ensures.most c.in_err-next.was in
    ends_by how most from to start b _ (fault_by_line s) c.from_residual-in_err-next.ensures.1
    (no_line how from to (A.due c.args.answerer.now) A.refuses given by most start b (A.led c.read.answerer) (λ lines text is. inv.due lines text (g.met.A.Answerer.is_due c.read.answerer lines text is)) c.read.reader (g.S.Source.left c.read.source) b.written came
    c.next.new.self s (c.next.ensures.piece inv.piece) on refl)

pub returns-in_err-write_text-clause-done : goal.returns-in_err-write_text-clause-done
returns-in_err-write_text-clause-done g c = λ from to start given taken read consumed same led by.
    let A = g.A.Answerer in
    let inv = c.read.invariant in
    let how = A.how c.args.answerer.now in
    let most = c.args.reader.now.most in
    let r = c.answer_held-answered.new.reader in
    let text = c.answer_held-answered.new.text.items in
    let b : Streams = streams_of g.S.Source g.O.Sink c.next.new.source c.write_text.new.out in
    let came = inv.came start given taken read consumed same led in
    let got = got_line c.read.reader c.next.new.self start.left (g.S.Source.left c.read.source) b.left most (given ++ came.more) came.taken c.next.result _ came.reads c.next.ensures.goes c.next.ensures.most c.in_ok-next.was c.if-branch.true in
    let held = due_too (A.due c.read.answerer) (A.due c.args.answerer.now) (A.led c.answer_held-answered.new.answerer) A.refuses r b.left (given ++ came.more) got.taken came.text text c.answer_held-answered.result inv.due
    (c.answer_held-answered.ensures.held b.left (given ++ came.more) got.taken came.text got.reads.read came.led) in
    let part = subst (λ (t : List ℕ). AppendsPart (g.O.Sink.written c.read.out) b.written t) c.deref.ensures.value c.in_err-write_text.ensures.part in
    let ends : Ends how most from to start b fault.WriteFault =
    answers_cut_short how from to (A.due c.args.answerer.now) A.refuses given by most start b (A.led c.read.answerer) (λ lines text is. inv.due lines text (g.met.A.Answerer.is_due c.read.answerer lines text is)) c.read.reader (g.S.Source.left c.read.source) (g.O.Sink.written c.read.out) came
    (A.led c.answer_held-answered.new.answerer) c.next.new.self r text c.answer_held-answered.result got c.answer_held-answered.ensures.most (c.next.ensures.piece inv.piece) c.answer_held-answered.ensures.piece held part in
    ends_by how most from to start b _ _ c.from_residual-in_err-write_text.ensures.1 (subst (λ (f : Fault). Ends how most from to start b f) (sym c.in_err-write_text.ensures.err) ends)

pub read-preserved : goal.read-preserved
read-preserved g c =
    let A = g.A.Answerer in
    let inv = c.read.invariant in
    let most = c.args.reader.now.most in
    let r = c.answer_held-answered.new.reader in
    let text = c.answer_held-answered.new.text.items in
    let left = g.S.Source.left c.next.new.source in
    let written = g.O.Sink.written c.write_text.new.out in
    record {
      came = λ start given taken read consumed same led.
          let came = inv.came start given taken read consumed same led in
          let got = got_line c.read.reader c.next.new.self start.left (g.S.Source.left c.read.source) left most (given ++ came.more) came.taken c.next.result _ came.reads c.next.ensures.goes c.next.ensures.most c.in_ok-next.was c.if-branch.true in
          let held = c.answer_held-answered.ensures.held left (given ++ came.more) got.taken came.text got.reads.read came.led in
          came_on (A.led c.read.answerer) (A.due c.read.answerer) (A.led c.answer_held-answered.new.answerer) A.refuses c.read.reader c.next.new.self r start (g.S.Source.left c.read.source) left most (g.O.Sink.written c.read.out) written given text came got c.answer_held-answered.ensures.most
          (subst (λ answered. AnswersHeld (A.due c.read.answerer) (A.led c.answer_held-answered.new.answerer) A.refuses r left (given ++ came.more) got.taken came.text text answered) c.in_ok-answered.was held)
          (subst (λ (t : List ℕ). Appends (g.O.Sink.written c.read.out) written t) c.deref.ensures.value c.in_ok-write_text.ensures.ok);
      due = λ lines text is. inv.due lines text (c.answer_held-answered.ensures.due lines text is);
      most = c.answer_held-answered.ensures.most ∙ c.next.ensures.most ∙ inv.most;
      piece = omega (arith, c.answer_held-answered.ensures.piece, c.next.ensures.piece inv.piece);
      read_count = steady_ok stop.ReadFault _ _ c.next.result _ c.next.ensures.cause c.in_ok-next.was ∙ inv.read_count;
      write_count = c.in_ok-write_text.ensures.cause.steady ∙ inv.write_count;
      stays = c.next.ensures.stays ∙ inv.stays;
    }

pub returns-in_err-answered-clause-done : goal.returns-in_err-answered-clause-done
returns-in_err-answered-clause-done g c = λ from to start given taken read consumed same led by.
    let A = g.A.Answerer in
    let inv = c.read.invariant in
    let how = A.how c.args.answerer.now in
    let most = c.args.reader.now.most in
    let r = c.answer_held-answered.new.reader in
    let text = c.answer_held-answered.new.text.items in
    let b : Streams = streams_of g.S.Source g.O.Sink c.next.new.source c.write_text.new.out in
    let came = inv.came start given taken read consumed same led in
    let got = got_line c.read.reader c.next.new.self start.left (g.S.Source.left c.read.source) b.left most (given ++ came.more) came.taken c.next.result _ came.reads c.next.ensures.goes c.next.ensures.most c.in_ok-next.was c.if-branch.true in
    let held = due_too (A.due c.read.answerer) (A.due c.args.answerer.now) (A.led c.answer_held-answered.new.answerer) A.refuses r b.left (given ++ came.more) got.taken came.text text c.answer_held-answered.result inv.due
    (c.answer_held-answered.ensures.held b.left (given ++ came.more) got.taken came.text got.reads.read came.led) in
    let wrote = subst (λ (t : List ℕ). Appends (g.O.Sink.written c.read.out) b.written t) c.deref.ensures.value c.in_ok-write_text.ensures.ok in
    ends_by how most from to start b _ c.in_err-answered.field-0.0 c.from_residual-in_err-answered.ensures.1
    (fault_behind_answers how from to (A.due c.args.answerer.now) A.refuses given by most start b (A.led c.read.answerer) (λ lines text is. inv.due lines text (g.met.A.Answerer.is_due c.read.answerer lines text is)) c.read.reader (g.S.Source.left c.read.source) (g.O.Sink.written c.read.out) came
    (A.led c.answer_held-answered.new.answerer) c.next.new.self r text c.answer_held-answered.result got c.answer_held-answered.ensures.most (c.next.ensures.piece inv.piece) c.answer_held-answered.ensures.piece held c.in_err-answered.field-0.0 c.in_err-answered.was wrote)

pub returns-in_err-answered-clause-causes : goal.returns-in_err-answered-clause-causes
returns-in_err-answered-clause-causes g c =
    let inv = c.read.invariant in
    let a : Streams = streams_of g.S.Source g.O.Sink c.args.source.now c.args.out.now in
    let b : Streams = streams_of g.S.Source g.O.Sink c.next.new.source c.write_text.new.out in
    let none = c.answer_held-answered.ensures.cause in
    let was = c.in_err-answered.was in
    caused_elsewhere a b _ c.in_err-answered.field-0.0 c.from_residual-in_err-answered.ensures.1 (λ is. none.0 (was ∙ ap (λ (f : Fault). Err f) is)) (λ is. none.1 (was ∙ ap (λ (f : Fault). Err f) is))
    (steady_ok stop.ReadFault _ _ c.next.result _ c.next.ensures.cause c.in_ok-next.was ∙ inv.read_count, c.in_ok-write_text.ensures.cause.steady ∙ inv.write_count)

pub returns-clause-done : goal.returns-clause-done
returns-clause-done g c = λ from to start given taken read consumed same led by.
    let A = g.A.Answerer in
    let inv = c.read.invariant in
    let how = A.how c.args.answerer.now in
    let most = c.args.reader.now.most in
    let b : Streams = streams_of g.S.Source g.O.Sink c.next.new.source c.read.out in
    let came = inv.came start given taken read consumed same led in
    let on = went_so c.read.reader c.next.new.self start.left (g.S.Source.left c.read.source) b.left most (given ++ came.more) came.taken c.next.result _ false came.reads c.next.ensures.goes c.next.ensures.most c.in_ok-next.was c.if-branch.false in
    ended how from to (A.due c.args.answerer.now) A.refuses given by most start b (A.led c.read.answerer) (λ lines text is. inv.due lines text (g.met.A.Answerer.is_due c.read.answerer lines text is)) c.read.reader (g.S.Source.left c.read.source) b.written came c.next.new.self on refl
