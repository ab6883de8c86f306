use Rattle.std.proofs.Common.{◌++◌, decimal, subst, List, ℕ}
use Rattle.std.specs.Io.KnownBytes.{Appends}
use Rattle.sk_model.specs.Causes.{AppendsPart}
use Rattle.sk_lines.proofs.Digits.{decimal_is_short}
use Rattle.sk_cli.specs.Fault.{unit_message}
use Rattle.sk_report.proofs.Fronts.{part_longer, part_behind, on_err, on_err_then}
use Rattle.sk_cli.proofs.fault.tell_unit.Goals as goal

pub put_decimal-len-requires : goal.put_decimal-len-requires
put_decimal-len-requires g c = decimal_is_short c.args.number c.ranges.number.fits

pub returns-in_err-write_all-clause-part : goal.returns-in_err-write_all-clause-part
returns-in_err-write_all-clause-part g c =
    on_err _ _ (part_longer _ _ c.args.unit.now (decimal c.args.number ++ c.args.what.now) c.in_err-write_all.ensures.err)

pub returns-in_err-write_all-2-clause-part : goal.returns-in_err-write_all-2-clause-part
returns-in_err-write_all-2-clause-part g c =
    let number = c.put_decimal-len.ensures.text in
    let part = subst (λ (l : List ℕ). AppendsPart (g.E.Sink.written c.write_all.new.out) (g.E.Sink.written c.write_all-2.new.out) l) number c.in_err-write_all-2.ensures.err in
    on_err _ _ (part_behind _ _ _ c.args.unit.now (decimal c.args.number ++ c.args.what.now) c.in_ok-write_all.ensures.ok
    (part_longer _ _ (decimal c.args.number) c.args.what.now part))

pub returns-clause-part : goal.returns-clause-part
returns-clause-part g c =
    let number = c.put_decimal-len.ensures.text in
    let second = subst (λ (l : List ℕ). Appends (g.E.Sink.written c.write_all.new.out) (g.E.Sink.written c.write_all-2.new.out) l) number c.in_ok-write_all-2.ensures.ok in
    on_err_then c.write_all-3.result
    (AppendsPart (g.E.Sink.written c.write_all-2.new.out) (g.E.Sink.written c.write_all-3.new.out) c.args.what.now)
    (AppendsPart (g.E.Sink.written c.args.err.now) (g.E.Sink.written c.write_all-3.new.out) (unit_message c.args.unit.now c.args.number c.args.what.now))
    (λ part. part_behind (g.E.Sink.written c.args.err.now) (g.E.Sink.written c.write_all.new.out) (g.E.Sink.written c.write_all-3.new.out)
    c.args.unit.now (decimal c.args.number ++ c.args.what.now) c.in_ok-write_all.ensures.ok
    (part_behind (g.E.Sink.written c.write_all.new.out) (g.E.Sink.written c.write_all-2.new.out) (g.E.Sink.written c.write_all-3.new.out)
    (decimal c.args.number) c.args.what.now second part))
    c.write_all-3.ensures.err
