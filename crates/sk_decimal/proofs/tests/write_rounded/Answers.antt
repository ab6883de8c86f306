use Rattle.std.proofs.Common.{◌++◌}
use Rattle.sk_decimal.specs.Account.{Account, Shown}
use Rattle.sk_decimal.proofs.Accounts.{all_is_rounded, made_fresh, rose_from}
use Rattle.sk_decimal.proofs.tests.write_rounded.Goals as goal

pub returns : goal.returns
returns g c =
    let start : Shown = record { written = g.O.Sink.written c.args.out; faults = g.O.Sink.faults c.args.out } in
    let below : Shown = record { written = g.O.Sink.written c.finish.result.0; faults = g.O.Sink.faults c.finish.result.0 } in
    let made = c.new-rounding.result in
    let wrote = c.write_both-wrote in
    all_is_rounded wrote.result c.finish.result.1 c.args.digits.count wrote.new.out.faults start below made.account wrote.new.out.account (c.args.first.now ++ c.args.second.now)
    (made_fresh made.account c.args.digits.count start c.new-rounding.ensures.digits c.new-rounding.ensures.start c.new-rounding.ensures.text)
    wrote.ensures.ok (rose_from wrote.result made.faults wrote.new.out.faults c.new-rounding.ensures.faults wrote.ensures.cause.failed)
    c.finish.ensures.stopped (c.finish.ensures.done made.account)
