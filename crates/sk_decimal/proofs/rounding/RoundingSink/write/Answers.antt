use Rattle.std.proofs.Common.{◌≡◌, ◌<◌, ℕ, List, ◌++◌, length, take, ap, sym, ◌∙◌, subst, arith}
use Rattle.std.proofs.lemmas.List.{length-take-le}
use Rattle.sk_decimal.specs.Rounded.{passage}
use Rattle.sk_decimal.specs.Account.{Shown, Account, Rounder, report}
use Rattle.sk_decimal.specs.Inside.{IsSound}
use Rattle.sk_decimal.proofs.Accounts.{sound_after, sound_stopped, report_grows}
use Rattle.sk_decimal.proofs.rounding.RoundingSink.write.Goals as goal

pub invariant_of-self-in-Ok : goal.invariant_of-self-in-Ok
invariant_of-self-in-Ok g c =
    let inside = c.self.inside in
    let start : Shown = record { written = g.O.Sink.written inside.start.value; faults = g.O.Sink.faults inside.start.value } in
    let old : Shown = record { written = g.O.Sink.written inside.out; faults = g.O.Sink.faults inside.out } in
    let new : Shown = record { written = g.O.Sink.written c.take_piece.new.out; faults = g.O.Sink.faults c.take_piece.new.out } in
    let a : Account = record { digits = inside.digits.count; start = start; text = inside.text } in
    let piece = take c.piece_len.result c.args.bytes.now in
    let fine : inside.faults ≡ 0 = omega (arith, c.if-self-gt0.false) in
    let held = c.self.invariant.held fine in
    let got = c.in-Ok.ensures.ok (passage inside.digits.count inside.text) held in
    subst (λ (t : List ℕ). IsSound (record { digits = inside.digits.count; start = start; text = t }) c.take_piece.new.line c.take_piece.new.passing inside.faults new) (sym c.add.ensures)
    (sound_after a old new piece got.0 c.take_piece.new.line c.take_piece.new.passing inside.faults fine (c.self.invariant.settled fine)
    (c.in-Ok.ensures.held (passage inside.digits.count inside.text) held) got.1 got.2 c.in-Ok.ensures.cause.steady)

pub invariant_of-self-in-Err : goal.invariant_of-self-in-Err
invariant_of-self-in-Err g c =
    let inside = c.self.inside in
    let start : Shown = record { written = g.O.Sink.written inside.start.value; faults = g.O.Sink.faults inside.start.value } in
    let old : Shown = record { written = g.O.Sink.written inside.out; faults = g.O.Sink.faults inside.out } in
    let new : Shown = record { written = g.O.Sink.written c.take_piece.new.out; faults = g.O.Sink.faults c.take_piece.new.out } in
    let a : Account = record { digits = inside.digits.count; start = start; text = inside.text } in
    let piece = take c.piece_len.result c.args.bytes.now in
    let fine : inside.faults ≡ 0 = omega (arith, c.if-self-gt0.false) in
    let some : 0 < c.count_fault-in-Err.new.faults = omega (arith, c.count_fault-in-Err.ensures) in
    let got = c.in-Err.ensures.err (passage inside.digits.count inside.text) (c.self.invariant.held fine) in
    sound_stopped a old new piece got.0 c.take_piece.new.line c.take_piece.new.passing c.count_fault-in-Err.new.faults (c.self.invariant.settled fine) got.1 got.2 c.in-Err.ensures.cause.failed some

pub returns-in-Ok-clause-bytes : goal.returns-in-Ok-clause-bytes
returns-in-Ok-clause-bytes g c =
    let inside = c.self.inside in
    let start : Shown = record { written = g.O.Sink.written inside.start.value; faults = g.O.Sink.faults inside.start.value } in
    let a : Account = record { digits = inside.digits.count; start = start; text = inside.text } in
    let bytes = c.args.bytes.now in
    let n = c.piece_len.result in
    ap (λ (t : List ℕ). report (record { digits = inside.digits.count; start = start; text = t })) c.add.ensures ∙ report_grows a (take n bytes)
    ∙ ap (λ (r : Rounder). report r.account ++ take n bytes) c.self.view_is
    ∙ ap (λ (k : ℕ). report c.args.self.now.account ++ take k bytes) (sym (length-take-le n bytes c.piece_len.ensures.within))
