use Rattle.std.proofs.Common.{ℕ, List, [], false, sym, subst}
use Rattle.sk_decimal.specs.Account.{Account, Shown}
use Rattle.sk_decimal.specs.Inside.{IsSound}
use Rattle.sk_decimal.proofs.Accounts.{sound_at_first}
use Rattle.sk_decimal.proofs.rounding.Rounding.new.Goals as goal

pub invariant_of-result : goal.invariant_of-result
invariant_of-result g c =
    let out : Shown = record { written = g.O.Sink.written c.args.out; faults = g.O.Sink.faults c.args.out } in
    let start : Shown = record { written = g.O.Sink.written c.of-start.result.value; faults = g.O.Sink.faults c.of-start.result.value } in
    let digits = c.args.digits.count in
    subst (λ (t : List ℕ). IsSound (record { digits = digits; start = start; text = t }) c.cut.new.self false 0 out) (sym c.new.ensures)
    (subst (λ (l : List ℕ). IsSound (record { digits = digits; start = start; text = [] }) l false 0 out) (sym c.cut.ensures)
    (subst (λ (o : _). IsSound (record { digits = digits; start = record { written = g.O.Sink.written o; faults = g.O.Sink.faults o }; text = [] }) [] false 0 out) (sym c.of-start.ensures)
    (sound_at_first digits out)))
