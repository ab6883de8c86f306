use Rattle.std.proofs.Common.{◌≡◌, None, false, ℕ, List, length, get_or, refl, sym, ap, subst, ◌∙◌, arith}
use Rattle.std.proofs.lemmas.List.{get_or_default}
use Rattle.sk_fill.proofs.Readings.{if_ok_then}
use Rattle.sk_label.specs.Rules.{AreFine}
use Rattle.sk_tenant.specs.Desks.{DeskState}
use Rattle.sk_desks.specs.Feeds.{TakesLines, TakeBlocks}
use Rattle.sk_desks.specs.Windows.{HaveTaken}
use Rattle.sk_desks.proofs.ClerkLaws.{taken_alone}
use Rattle.sk_label.specs.Goes.{setting, EndsBefore, ReadsLines}
use Rattle.sk_label.specs.declared.fault.LabelFault.{LabelFault}
use Rattle.sk_label.specs.declared.fault.LabelFault.TheVariants as fault
use Rattle.sk_label.proofs.QuietLaws.{reads_so, ends_at_start}
use Rattle.sk_label.proofs.CarryLaws.{ends_within}
use Rattle.sk_desks.specs.Desks.{desk_rules}
use Rattle.sk_desks.proofs.LaneLaws.{desks}
use Rattle.sk_desks.proofs.WentLaws.{fine_same, went_ready, went_all, went_then_none, stop_is}
use Rattle.sk_desks.proofs.command.read_all.Goals as goal

pub returns-in_err-takers-clause-early : goal.returns-in_err-takers-clause-early
returns-in_err-takers-clause-early g c =
    let rules = desk_rules c.args.plan.now c.args.names.now in let left = g.S.Source.left c.args.source.now in
    stop_is (λ (f : LabelFault). EndsBefore rules (g.S.Source.last c.args.source.now) c.args.most (setting left None) (setting left None) f) fault.OutOfMemory c.from_residual.result c.from_residual.ensures.1 (ends_at_start _ rules c.args.most left None)

pub returns-in_err-new-clause-early : goal.returns-in_err-new-clause-early
returns-in_err-new-clause-early g c =
    let rules = desk_rules c.args.plan.now c.args.names.now in let left = g.S.Source.left c.args.source.now in
    stop_is (λ (f : LabelFault). EndsBefore rules (g.S.Source.last c.args.source.now) c.args.most (setting left None) (setting left None) f) fault.OutOfMemory c.from_residual-in_err-new.result c.from_residual-in_err-new.ensures.1 (ends_at_start _ rules c.args.most left None)

pub read_stretches-requires-clause-piece : goal.read_stretches-requires-clause-piece
read_stretches-requires-clause-piece g c κs within = omega (arith, c.in_ok-new.ensures.piece)

pub read_stretches-requires-clause-none : goal.read_stretches-requires-clause-none
read_stretches-requires-clause-none g c κs within = c.in_ok-new.ensures.read (g.S.Source.left c.args.source.now)

pub returns-then-len-eq1-clause-read : goal.returns-then-len-eq1-clause-read
returns-then-len-eq1-clause-read g c =
    let plan = c.args.plan.now in let names = c.args.names.now in let first = c.args.desks.now.items in
    let desk = c.index_mut.result.now in let d' = c.read_alone.new.desk in
    let one : length first ≡ 1 = omega (arith, c.args.desks.now.ok, c.len.ensures, c.if-len-eq1.true) in
    let same : desk.names ≡ names = ap (λ (d : DeskState). d.names) c.index_mut.ensures.value ∙ (c.requires.unused.each 0 desk (omega (arith, one))).names_are in
    let here : desk ≡ get_or first 0 d' = c.index_mut.ensures.value ∙ get_or_default first 0 desk d' (omega (arith, one)) in
    if_ok_then c.read_alone.result _ _ c.read_alone.ensures.read
    (λ x read. reads_so (λ lines. AreFine (desk_rules plan desk.names) lines × TakesLines plan.seed desk lines d') _ c.args.most (g.S.Source.left c.args.source.now) (g.S.Source.left c.read_alone.new.source)
    (λ lines both. (fine_same plan names desk.names lines same both.0, taken_alone plan.seed first _ d' lines one refl (subst (λ (d : DeskState). TakesLines plan.seed d lines d') here both.1))) read)

pub feed_in_turn-requires-clause-room : goal.feed_in_turn-requires-clause-room
feed_in_turn-requires-clause-room g c =
    let w = c.read_stretches.new in
    went_ready c.args.plan.now c.args.names.now (desks c.in_ok-takers.takers.items) w.takers.items w.last false w.gatherer.reader (g.S.Source.left c.args.source.now) (g.S.Source.left w.source) c.in_ok-read_stretches.ensures.went

pub returns-in_err-desks-clause-early : goal.returns-in_err-desks-clause-early
returns-in_err-desks-clause-early g c =
    let w = c.read_stretches.new in let rules = desk_rules c.args.plan.now c.args.names.now in
    let old = g.S.Source.left c.args.source.now in let new = g.S.Source.left w.source in
    let last = g.S.Source.last w.source in
    stop_is (λ (f : LabelFault). EndsBefore rules last c.args.most (setting old None) (setting new None) f) fault.OutOfMemory c.from_residual-in_err-desks.result c.from_residual-in_err-desks.ensures.1
    (subst (λ (m : ℕ). EndsBefore rules last m (setting old None) (setting new None) fault.OutOfMemory) (c.in_ok-read_stretches.ensures.bound ∙ c.in_ok-new.ensures.most)
    (ends_within rules w.gatherer.reader.last last w.gatherer.reader.most (setting old None) (setting new None) fault.OutOfMemory c.read_stretches.ensures.piece
    (went_then_none c.args.plan.now c.args.names.now (desks c.in_ok-takers.takers.items) w.takers.items w.last false w.gatherer.reader old new c.in_ok-read_stretches.ensures.went)))

pub returns-clause-read : goal.returns-clause-read
returns-clause-read g c =
    let w = c.read_stretches.new in let plan = c.args.plan.now in let names = c.args.names.now in
    let old = g.S.Source.left c.args.source.now in let new = g.S.Source.left w.source in
    let first = desks c.in_ok-takers.takers.items in let after = c.in_ok-desks.field-0.items in
    let is : first ≡ c.args.desks.now.items = c.in_ok-takers.ensures ∙ ap (λ v. v.items) c.replace.ensures.value in
    let took = subst (TakeBlocks plan.seed (desks w.takers.items) w.last.windows) (sym c.in_ok-desks.ensures) c.feed_in_turn.ensures in
    subst (λ (ds : List DeskState). ReadsLines c.args.most (λ lines. AreFine (desk_rules plan names) lines × HaveTaken plan.seed ds after lines) old new) is
    (went_all plan names first w.takers.items w.last false w.gatherer.reader old new c.in_ok-read_stretches.ensures.went c.args.most after (c.in_ok-read_stretches.ensures.bound ∙ c.in_ok-new.ensures.most) refl took)
