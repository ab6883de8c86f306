use Rattle.std.proofs.Common.{sym, subst}
use Rattle.sk_label.specs.Carrying.{shown}
use Rattle.sk_label.specs.Goes.{setting, EndsBefore}
use Rattle.sk_label.specs.declared.fault.LabelFault.{LabelFault}
use Rattle.sk_label.proofs.CarryLaws.{ends_before}
use Rattle.sk_label.proofs.carrier.read_carried.Goals as goal

pub returns-in-Err-clause-read : goal.returns-in-Err-clause-read
returns-in-Err-clause-read g c =
    let old = c.args.carrier.now.taker.now in
    let new = c.read_units.new.taker.taker.now in
    let a = shown (g.T.LineTaker.rules old) (g.T.LineTaker.written old) (g.T.LineTaker.faults old) in
    let b = shown (g.T.LineTaker.rules new) (g.T.LineTaker.written new) (g.T.LineTaker.faults new) in
    subst (λ (f : LabelFault). EndsBefore a.rules (g.S.Source.last c.read_units.new.source) c.args.most (setting (g.S.Source.left c.args.source.now) a.written) (setting (g.S.Source.left c.read_units.new.source) b.written) f) (sym c.fault_by.ensures)
    (ends_before (g.T.LineTaker.went old new) a b c.args.most (g.S.Source.left c.args.source.now) (g.S.Source.left c.read_units.new.source) _ c.read_units.new.taker.stop c.in-Err.fault c.in-Err.ensures.read)
