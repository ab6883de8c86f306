use Rattle.std.proofs.Common.{◌≡◌, ◌∷◌, [], ℕ, Some, None, Err, false, refl, sym, ap, ◌∙◌, subst, arith}
use Rattle.std.specs.Option.{option_map}
use Rattle.std.proofs.KnownBytes.{Appends-nil}
use Rattle.sk_cli.specs.commands.Replay.{start_of, started, MeetsThere, IsAnswered, replaying}
use Rattle.sk_cli.specs.Outside.{Streams, streams_of}
use Rattle.sk_cli.specs.Run.{Executes}
use Rattle.sk_cli.specs.Fault.{fault_by_line}
use Rattle.sk_cli.specs.declared.fault.Fault.TheVariants as fault
use Rattle.sk_cli.proofs.Endings.{ends_by, nothing_more, nothing_yet}
use Rattle.sk_cli.proofs.Reading.{Went, went, went_so, got_line, reads_none, failed}
use Rattle.sk_cli.proofs.Replaying.{replay_by_lines, no_answer_yet, refuses, refuses_nothing, replay_goes, led_to_start}
use Rattle.sk_read.proofs.Readings.{in_time_within}
use Rattle.sk_read.specs.declared.units.Units.TheVariants.{Lines}
use Rattle.sk_cli.proofs.commands.replay.replay.Goals as goal

pub answer_lines-requires : goal.answer_lines-requires
answer_lines-requires g c = record { piece = c.next.ensures.piece (omega (arith, c.in_ok-reader.ensures.piece)) }

pub returns-in_err-reader-clause-done : goal.returns-in_err-reader-clause-done
returns-in_err-reader-clause-done g c = λ from to.
    let a : Streams = streams_of g.S.Source g.O.Sink c.args.source.now c.args.out.now in
    ends_by replaying c.args.most from to a a _ fault.OutOfMemory c.from_residual.ensures.1 (nothing_yet replaying c.args.most from to a [] (no_answer_yet from to))

pub returns-in_err-next-clause-done : goal.returns-in_err-next-clause-done
returns-in_err-next-clause-done g c = λ from to.
    let s = c.in_err-next.field-0.0 in
    let a : Streams = streams_of g.S.Source g.O.Sink c.args.source.now c.args.out.now in
    let b : Streams = streams_of g.S.Source g.O.Sink c.next.new.source c.args.out.now in
    let none = reads_none c.in_ok-reader.reader a.left c.args.most c.in_ok-reader.ensures.read c.in_ok-reader.ensures.most in
    let on : Went c.next.new.self a.left (g.S.Source.left c.next.new.source) c.args.most [] (Err s) =
    went c.in_ok-reader.reader c.next.new.self a.left a.left (g.S.Source.left c.next.new.source) c.args.most [] [] c.next.result (Err s) none c.next.ensures.goes c.next.ensures.most c.in_err-next.was in
    let within = c.next.ensures.piece (omega (arith, c.in_ok-reader.ensures.piece)) in
    ends_by replaying c.args.most from to a b _ (fault_by_line s) c.from_residual-in_err-next.ensures.1
    (failed replaying from to IsAnswered (replay_by_lines from to) c.args.most a b c.next.new.self [] [] s within on refl (Appends-nil a.written))

pub returns-then-not-branch-clause-done : goal.returns-then-not-branch-clause-done
returns-then-not-branch-clause-done g c = λ from to.
    let a : Streams = streams_of g.S.Source g.O.Sink c.args.source.now c.args.out.now in
    let b : Streams = streams_of g.S.Source g.O.Sink c.next.new.source c.args.out.now in
    let none = reads_none c.in_ok-reader.reader a.left c.args.most c.in_ok-reader.ensures.read c.in_ok-reader.ensures.most in
    let on = went_so c.in_ok-reader.reader c.next.new.self a.left _ _ c.args.most [] [] c.next.result _ false none c.next.ensures.goes c.next.ensures.most c.in_ok-next.was c.if-not-branch.true in
    refuses_nothing from to a b c.args.most c.next.new.self (c.next.ensures.piece (omega (arith, c.in_ok-reader.ensures.piece))) on refl

pub returns-in_err-state-clause-done : goal.returns-in_err-state-clause-done
returns-in_err-state-clause-done g c = λ from to.
    let a : Streams = streams_of g.S.Source g.O.Sink c.args.source.now c.args.out.now in
    let b : Streams = streams_of g.S.Source g.O.Sink c.next.new.source c.args.out.now in
    let own = c.next.new.self.cutter.line in
    let none = reads_none c.in_ok-reader.reader a.left c.args.most c.in_ok-reader.ensures.read c.in_ok-reader.ensures.most in
    let got = got_line c.in_ok-reader.reader c.next.new.self a.left _ _ c.args.most [] [] c.next.result _ none c.next.ensures.goes c.next.ensures.most c.in_ok-next.was c.if-not-branch.false in
    ends_by replaying c.args.most from to a b _ fault.OutOfMemory c.from_residual-in_err-state.ensures.1 (nothing_more replaying c.args.most from to a b got.taken [] got.reads.consumed (omega (arith, got.reads.read.has.count, got.reads.read.bound, got.reads.most_is)) refl (no_answer_yet from to))

pub returns-in_default-clause-done : goal.returns-in_default-clause-done
returns-in_default-clause-done g c = λ from to.
    let a : Streams = streams_of g.S.Source g.O.Sink c.args.source.now c.args.out.now in
    let b : Streams = streams_of g.S.Source g.O.Sink c.next.new.source c.args.out.now in
    let own = c.next.new.self.cutter.line in
    let none = reads_none c.in_ok-reader.reader a.left c.args.most c.in_ok-reader.ensures.read c.in_ok-reader.ensures.most in
    let got = got_line c.in_ok-reader.reader c.next.new.self a.left _ _ c.args.most [] [] c.next.result _ none c.next.ensures.goes c.next.ensures.most c.in_ok-next.was c.if-not-branch.false in
    let unnamed : start_of own ≡ None = ap start_of (sym c.line.ensures) ∙ sym c.in_ok-state.ensures.value ∙ ap (option_map started) c.in_default.is in
    let within = c.next.ensures.piece (omega (arith, c.in_ok-reader.ensures.piece)) in
    refuses from to a b c.args.most 1 c.next.new.self [] own [] got.taken got.reads (in_time_within Lines [] got.taken within got.time) (omega arith) refl (Appends-nil a.written) unnamed

pub returns-clause-done : goal.returns-clause-done
returns-clause-done g c = λ from to.
    let a : Streams = streams_of g.S.Source g.O.Sink c.args.source.now c.args.out.now in
    let b : Streams = streams_of g.S.Source g.O.Sink c.answer_lines.new.source c.answer_lines.new.out in
    let own = c.next.new.self.cutter.line in
    let none = reads_none c.in_ok-reader.reader a.left c.args.most c.in_ok-reader.ensures.read c.in_ok-reader.ensures.most in
    let got = got_line c.in_ok-reader.reader c.next.new.self a.left _ _ c.args.most [] [] c.next.result _ none c.next.ensures.goes c.next.ensures.most c.in_ok-next.was c.if-not-branch.false in
    let state = c.in-Some.state in
    let named : start_of own ≡ Some (started state) = ap start_of (sym c.line.ensures) ∙ sym c.in_ok-state.ensures.value ∙ ap (option_map started) c.in-Some.is in
    let led = led_to_start state own named (subst MeetsThere c.in-Some.is c.in_ok-state.ensures.invariant) in
    subst (λ (m : ℕ). Executes replaying m from to a b c.answer_lines.result) (c.next.ensures.most ∙ c.in_ok-reader.ensures.most)
    (c.answer_lines.ensures.done from to a (own ∷ []) got.taken got.reads.read got.reads.consumed refl led (replay_goes from to own))
