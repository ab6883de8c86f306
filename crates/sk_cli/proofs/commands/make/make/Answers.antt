use Rattle.std.proofs.Common.{◌≡◌, ℕ, List, true, sym, subst, ap}
use Rattle.sk_cli.specs.Beside.{Beside, CountingHub, beside_of}
use Rattle.sk_io.specs.Memory.{TextState}
use Rattle.sk_cli.specs.Run.{LeavesBeside}
use Rattle.sk_cli.specs.commands.Count.{counting}
use Rattle.sk_cli.specs.commands.Count as counts
use Rattle.sk_count.specs.declared.plan.Plan.{Plan}
use Rattle.sk_cli.proofs.Making.{counted_within, made_so, made_causes, written_same}
use Rattle.sk_cli.proofs.commands.make.make.Goals as goal

pub count-requires-clause-within : goal.count-requires-clause-within
count-requires-clause-within g c = λ κs alive. subst (λ (p : Plan). counts.IsWithin p) (sym c.counted.ensures) (counted_within c.args.plan.now c.requires.within)

pub returns-clause-done : goal.returns-clause-done
returns-clause-done g c = λ most left faults own.
    let from : Beside = beside_of (g.B.Seen.places c.args.board.now) c.args.remains.now in
    let to : Beside = beside_of (g.B.Seen.places c.count.new.board) c.count.new.remains in
    let last : (counting c.counted.result).writes_last ≡ true = ap (λ (p : Plan). (counting p).writes_last) c.counted.ensures in
    made_so c.args.plan.now c.requires.within from to c.in-Ok.source.left c.count.new.source.left (ap (λ (s : TextState). s.left) c.in-Ok.ensures.text) left
    (g.O.Sink.written c.args.out.now) (g.O.Sink.written c.count.new.out) faults (g.O.Sink.faults c.args.out.now) (g.O.Sink.faults c.count.new.out) most c.in-Ok.source.last c.count.new.source.last own
    c.counted.result c.count.result c.counted.ensures c.count.ensures.done c.count.ensures.causes
    (written_same (λ o. g.O.Sink.written o) c.args.out.now c.count.new.out c.count.result (c.count.ensures.last last))

pub returns-clause-causes : goal.returns-clause-causes
returns-clause-causes g c = λ left faults own.
    let from : Beside = beside_of (g.B.Seen.places c.args.board.now) c.args.remains.now in
    made_causes c.args.plan.now c.requires.within from from c.in-Ok.source.left c.count.new.source.left (ap (λ (s : TextState). s.left) c.in-Ok.ensures.text) left
    (g.O.Sink.written c.args.out.now) (g.O.Sink.written c.count.new.out) faults (g.O.Sink.faults c.args.out.now) (g.O.Sink.faults c.count.new.out) 0 c.in-Ok.source.last c.count.new.source.last own
    c.count.result c.count.ensures.causes

pub returns-clause-beside : goal.returns-clause-beside
returns-clause-beside g c =
    let from : Beside = beside_of (g.B.Seen.places c.args.board.now) c.args.remains.now in
    let to : Beside = beside_of (g.B.Seen.places c.count.new.board) c.count.new.remains in
    subst (λ (marks : List ℕ). LeavesBeside marks CountingHub from to c.count.result) (ap (λ (p : Plan). p.alarms) c.counted.ensures) c.count.ensures.beside
