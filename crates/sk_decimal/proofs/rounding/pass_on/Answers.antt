use Rattle.std.proofs.Common.{ℕ, List, subst}
use Rattle.std.specs.Io.KnownBytes.{Appends}
use Rattle.sk_decimal.proofs.Parts.{on_err, part_behind}
use Rattle.sk_decimal.proofs.rounding.pass_on.Goals as goal

pub returns-clause-err : goal.returns-clause-err
returns-clause-err g c =
    let before = g.O.Sink.written c.args.out.now in
    let between = g.O.Sink.written c.write_all.new.out in
    let first = subst (λ (l : List ℕ). Appends before between l) c.bytes.ensures c.in_ok-write_all.ensures.ok in
    on_err c.write_all-2.result (λ part. part_behind before between (g.O.Sink.written c.write_all-2.new.out) c.args.line.now c.args.piece.now first part) c.write_all-2.ensures.err
