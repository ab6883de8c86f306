use Rattle.std.proofs.Common.{sym, subst, OnOk, OnErr}
use Rattle.std.specs.Io.KnownBytes.{Appends}
use Rattle.sk_model.specs.Causes.{AppendsPart}
use Rattle.sk_cli.specs.declared.fault.Fault.{Fault}
use Rattle.sk_cli.specs.Fault.{message_of}
use Rattle.sk_cli.proofs.fault.Fault.tell.Goals as goal

pub returns-in-ReadFault-clause-ok : goal.returns-in-ReadFault-clause-ok
returns-in-ReadFault-clause-ok g c =
    subst (λ (f : Fault). OnOk c.write_all-in-ReadFault.result (Appends (g.E.Sink.written c.args.err.now) (g.E.Sink.written c.write_all-in-ReadFault.new.out) (message_of f))) (sym c.in-ReadFault.is) c.write_all-in-ReadFault.ensures.ok

pub returns-in-ReadFault-clause-part : goal.returns-in-ReadFault-clause-part
returns-in-ReadFault-clause-part g c =
    subst (λ (f : Fault). OnErr c.write_all-in-ReadFault.result (AppendsPart (g.E.Sink.written c.args.err.now) (g.E.Sink.written c.write_all-in-ReadFault.new.out) (message_of f))) (sym c.in-ReadFault.is) c.write_all-in-ReadFault.ensures.err

pub returns-in-LongLine-clause-ok : goal.returns-in-LongLine-clause-ok
returns-in-LongLine-clause-ok g c =
    subst (λ (f : Fault). OnOk c.tell_unit.result (Appends (g.E.Sink.written c.args.err.now) (g.E.Sink.written c.tell_unit.new.err) (message_of f))) (sym c.in-LongLine.is) c.tell_unit.ensures.ok

pub returns-in-LongLine-clause-part : goal.returns-in-LongLine-clause-part
returns-in-LongLine-clause-part g c =
    subst (λ (f : Fault). OnErr c.tell_unit.result (AppendsPart (g.E.Sink.written c.args.err.now) (g.E.Sink.written c.tell_unit.new.err) (message_of f))) (sym c.in-LongLine.is) c.tell_unit.ensures.part

pub returns-in-BadItem-clause-ok : goal.returns-in-BadItem-clause-ok
returns-in-BadItem-clause-ok g c =
    subst (λ (f : Fault). OnOk c.tell_unit-in-BadItem.result (Appends (g.E.Sink.written c.args.err.now) (g.E.Sink.written c.tell_unit-in-BadItem.new.err) (message_of f))) (sym c.in-BadItem.is) c.tell_unit-in-BadItem.ensures.ok

pub returns-in-BadItem-clause-part : goal.returns-in-BadItem-clause-part
returns-in-BadItem-clause-part g c =
    subst (λ (f : Fault). OnErr c.tell_unit-in-BadItem.result (AppendsPart (g.E.Sink.written c.args.err.now) (g.E.Sink.written c.tell_unit-in-BadItem.new.err) (message_of f))) (sym c.in-BadItem.is) c.tell_unit-in-BadItem.ensures.part

pub returns-in-Usage-clause-part : goal.returns-in-Usage-clause-part
returns-in-Usage-clause-part g c =
    subst (λ (f : Fault). OnErr c.write_all-in-Usage.result (AppendsPart (g.E.Sink.written c.args.err.now) (g.E.Sink.written c.write_all-in-Usage.new.out) (message_of f))) (sym c.in-Usage.is) c.write_all-in-Usage.ensures.err

pub returns-in-BadEvent-clause-ok : goal.returns-in-BadEvent-clause-ok
returns-in-BadEvent-clause-ok g c =
    subst (λ (f : Fault). OnOk c.tell_unit-in-BadEvent.result (Appends (g.E.Sink.written c.args.err.now) (g.E.Sink.written c.tell_unit-in-BadEvent.new.err) (message_of f))) (sym c.in-BadEvent.is) c.tell_unit-in-BadEvent.ensures.ok

pub returns-in-BadEvent-clause-part : goal.returns-in-BadEvent-clause-part
returns-in-BadEvent-clause-part g c =
    subst (λ (f : Fault). OnErr c.tell_unit-in-BadEvent.result (AppendsPart (g.E.Sink.written c.args.err.now) (g.E.Sink.written c.tell_unit-in-BadEvent.new.err) (message_of f))) (sym c.in-BadEvent.is) c.tell_unit-in-BadEvent.ensures.part

pub returns-in-OpenFault-clause-ok : goal.returns-in-OpenFault-clause-ok
returns-in-OpenFault-clause-ok g c =
    subst (λ (f : Fault). OnOk c.write_all-in-OpenFault.result (Appends (g.E.Sink.written c.args.err.now) (g.E.Sink.written c.write_all-in-OpenFault.new.out) (message_of f))) (sym c.in-OpenFault.is) c.write_all-in-OpenFault.ensures.ok

pub returns-in-OpenFault-clause-part : goal.returns-in-OpenFault-clause-part
returns-in-OpenFault-clause-part g c =
    subst (λ (f : Fault). OnErr c.write_all-in-OpenFault.result (AppendsPart (g.E.Sink.written c.args.err.now) (g.E.Sink.written c.write_all-in-OpenFault.new.out) (message_of f))) (sym c.in-OpenFault.is) c.write_all-in-OpenFault.ensures.err

pub returns-in-BadField-clause-ok : goal.returns-in-BadField-clause-ok
returns-in-BadField-clause-ok g c =
    subst (λ (f : Fault). OnOk c.tell_unit-in-BadField.result (Appends (g.E.Sink.written c.args.err.now) (g.E.Sink.written c.tell_unit-in-BadField.new.err) (message_of f))) (sym c.in-BadField.is) c.tell_unit-in-BadField.ensures.ok

pub returns-in-BadField-clause-part : goal.returns-in-BadField-clause-part
returns-in-BadField-clause-part g c =
    subst (λ (f : Fault). OnErr c.tell_unit-in-BadField.result (AppendsPart (g.E.Sink.written c.args.err.now) (g.E.Sink.written c.tell_unit-in-BadField.new.err) (message_of f))) (sym c.in-BadField.is) c.tell_unit-in-BadField.ensures.part

pub returns-in-BadCsv-clause-ok : goal.returns-in-BadCsv-clause-ok
returns-in-BadCsv-clause-ok g c =
    subst (λ (f : Fault). OnOk c.tell_unit-in-BadCsv.result (Appends (g.E.Sink.written c.args.err.now) (g.E.Sink.written c.tell_unit-in-BadCsv.new.err) (message_of f))) (sym c.in-BadCsv.is) c.tell_unit-in-BadCsv.ensures.ok

pub returns-in-BadCsv-clause-part : goal.returns-in-BadCsv-clause-part
returns-in-BadCsv-clause-part g c =
    subst (λ (f : Fault). OnErr c.tell_unit-in-BadCsv.result (AppendsPart (g.E.Sink.written c.args.err.now) (g.E.Sink.written c.tell_unit-in-BadCsv.new.err) (message_of f))) (sym c.in-BadCsv.is) c.tell_unit-in-BadCsv.ensures.part

pub returns-in-BadLine-clause-ok : goal.returns-in-BadLine-clause-ok
returns-in-BadLine-clause-ok g c =
    subst (λ (f : Fault). OnOk c.tell_unit-in-BadLine.result (Appends (g.E.Sink.written c.args.err.now) (g.E.Sink.written c.tell_unit-in-BadLine.new.err) (message_of f))) (sym c.in-BadLine.is) c.tell_unit-in-BadLine.ensures.ok

pub returns-in-BadLine-clause-part : goal.returns-in-BadLine-clause-part
returns-in-BadLine-clause-part g c =
    subst (λ (f : Fault). OnErr c.tell_unit-in-BadLine.result (AppendsPart (g.E.Sink.written c.args.err.now) (g.E.Sink.written c.tell_unit-in-BadLine.new.err) (message_of f))) (sym c.in-BadLine.is) c.tell_unit-in-BadLine.ensures.part

pub returns-in-Backward-clause-ok : goal.returns-in-Backward-clause-ok
returns-in-Backward-clause-ok g c =
    subst (λ (f : Fault). OnOk c.tell_unit-in-Backward.result (Appends (g.E.Sink.written c.args.err.now) (g.E.Sink.written c.tell_unit-in-Backward.new.err) (message_of f))) (sym c.in-Backward.is) c.tell_unit-in-Backward.ensures.ok

pub returns-in-Backward-clause-part : goal.returns-in-Backward-clause-part
returns-in-Backward-clause-part g c =
    subst (λ (f : Fault). OnErr c.tell_unit-in-Backward.result (AppendsPart (g.E.Sink.written c.args.err.now) (g.E.Sink.written c.tell_unit-in-Backward.new.err) (message_of f))) (sym c.in-Backward.is) c.tell_unit-in-Backward.ensures.part

pub returns-in-UnknownTenant-clause-ok : goal.returns-in-UnknownTenant-clause-ok
returns-in-UnknownTenant-clause-ok g c =
    subst (λ (f : Fault). OnOk c.tell_unit-in-UnknownTenant.result (Appends (g.E.Sink.written c.args.err.now) (g.E.Sink.written c.tell_unit-in-UnknownTenant.new.err) (message_of f))) (sym c.in-UnknownTenant.is) c.tell_unit-in-UnknownTenant.ensures.ok

pub returns-in-UnknownTenant-clause-part : goal.returns-in-UnknownTenant-clause-part
returns-in-UnknownTenant-clause-part g c =
    subst (λ (f : Fault). OnErr c.tell_unit-in-UnknownTenant.result (AppendsPart (g.E.Sink.written c.args.err.now) (g.E.Sink.written c.tell_unit-in-UnknownTenant.new.err) (message_of f))) (sym c.in-UnknownTenant.is) c.tell_unit-in-UnknownTenant.ensures.part
