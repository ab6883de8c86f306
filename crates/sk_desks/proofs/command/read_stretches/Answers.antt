use Rattle.std.proofs.Common.{◌≡◌, ◌∙◌, None, Err, OnOk, List, ℕ, Bool, ap, refl, subst}
use Rattle.sk_fill.proofs.Readings.{steady_on_ok}
use Rattle.sk_fill.specs.Windows.{all_lines}
use Rattle.sk_read.specs.declared.kind.Kind.TheVariants.{Hash}
use Rattle.sk_label.specs.Goes.{setting, EndsBefore}
use Rattle.sk_label.specs.declared.fault.LabelFault.{LabelFault}
use Rattle.sk_label.proofs.CarryLaws.{ends_within}
use Rattle.sk_desks.specs.Desks.{desk_rules}
use Rattle.sk_desks.specs.Lanes.{FeedsAndGathers}
use Rattle.sk_desks.specs.Windows.{WentToDesks}
use Rattle.sk_desks.proofs.GatherLaws.{not_written}
use Rattle.sk_desks.proofs.LaneLaws.{desks}
use Rattle.sk_desks.proofs.WentLaws.{went_start, first_wrong, went_room, went_started, went_more, went_wrong, stop_is}
use Rattle.sk_desks.proofs.command.read_stretches.Goals as goal

pub returns-in_err-more-clause-early : goal.returns-in_err-more-clause-early
returns-in_err-more-clause-early g c =
    let plan = c.args.plan.now in let names = c.args.gatherer.now.names.now in let r = c.args.gatherer.now.reader in let f = c.in_err-more.field-0.0 in
    let old = g.S.Source.left c.args.source.now in let new = g.S.Source.left c.gather_stretch.new.source in
    let last = g.S.Source.last c.gather_stretch.new.source in
    stop_is (λ (x : LabelFault). EndsBefore (desk_rules plan names) last r.most (setting old None) (setting new None) x) f c.from_residual.result c.from_residual.ensures.1
    (ends_within (desk_rules plan names) c.gather_stretch.new.gatherer.reader.last last r.most (setting old None) (setting new None) f (c.gather_stretch.ensures.piece c.requires.piece)
    (first_wrong plan names (all_lines c.gather_stretch.new.stretch.windows) r c.gather_stretch.new.gatherer.reader old new c.gather_stretch.result f c.requires.none c.gather_stretch.ensures.gathers c.in_err-more.was))

pub returns-in_err-more-clause-quiet : goal.returns-in_err-more-clause-quiet
returns-in_err-more-clause-quiet g c =
    not_written c.from_residual.result c.in_err-more.field-0.0 c.from_residual.ensures.1
    (λ same. c.gather_stretch.ensures.gathers.quiet (c.in_err-more.was ∙ ap (λ (x : LabelFault). Err x) same))

pub stretch-init : goal.stretch-init
stretch-init g c =
    let plan = c.args.plan.now in let names = c.args.gatherer.now.names.now in let r = c.args.gatherer.now.reader in
    let old = g.S.Source.left c.args.source.now in let new = g.S.Source.left c.gather_stretch.new.source in
    let gathers = c.gather_stretch.ensures.gathers in record {
      went = went_start plan names (desks c.args.takers.now.items) c.gather_stretch.new.stretch r c.gather_stretch.new.gatherer.reader old new c.gather_stretch.result c.in_ok-more.more c.requires.unused c.requires.none gathers c.in_ok-more.was c.gather_stretch.ensures.first;
      most = c.gather_stretch.ensures.most;
      names = c.gather_stretch.ensures.names;
      bound = gathers.bound;
      piece = c.gather_stretch.ensures.piece c.requires.piece;
      steady = subst (λ x. OnOk x (g.S.Source.faults c.gather_stretch.new.source ≡ g.S.Source.faults c.args.source.now)) c.in_ok-more.was
          (steady_on_ok _ (g.S.Source.faults c.args.source.now) (g.S.Source.faults c.gather_stretch.new.source) c.gather_stretch.result c.gather_stretch.ensures.cause);
      stays = c.gather_stretch.ensures.stays;
    }

pub feed_in_lanes-requires-clause-room : goal.feed_in_lanes-requires-clause-room
feed_in_lanes-requires-clause-room g c κs within =
    let l = c.stretch in
    went_room c.args.plan.now c.args.gatherer.now.names.now (desks c.args.takers.now.items) l.takers.items l.last l.more l.gatherer.reader (g.S.Source.left c.args.source.now) (g.S.Source.left l.source) l.invariant.went

pub feed_in_lanes-requires-clause-started : goal.feed_in_lanes-requires-clause-started
feed_in_lanes-requires-clause-started g c κs within =
    let l = c.stretch in
    went_started c.args.plan.now c.args.gatherer.now.names.now (desks c.args.takers.now.items) l.takers.items l.last l.more l.gatherer.reader (g.S.Source.left c.args.source.now) (g.S.Source.left l.source) l.invariant.went l.invariant.most

pub returns-in_err-more-2-clause-early : goal.returns-in_err-more-2-clause-early
returns-in_err-more-2-clause-early g c =
    let l = c.stretch in let f = c.in_err-more-2.field-0.0 in
    let plan = c.args.plan.now in let names = c.args.gatherer.now.names.now in
    let old = g.S.Source.left c.args.source.now in let mid = g.S.Source.left l.source in let new = g.S.Source.left c.feed_in_lanes.new.source in
    let r' = c.feed_in_lanes.new.gatherer.reader in
    let goes = subst (λ (ns : List (List ℕ)). FeedsAndGathers (Hash c.args.plan.now.seed) ns l.last c.feed_in_lanes.new.stretch l.takers.items c.feed_in_lanes.new.takers.items l.gatherer.reader r' mid new c.feed_in_lanes.result) l.invariant.names c.feed_in_lanes.ensures.goes in
    let last = g.S.Source.last c.feed_in_lanes.new.source in
    stop_is (λ (x : LabelFault). EndsBefore (desk_rules plan names) last c.args.gatherer.now.reader.most (setting old None) (setting new None) x) f c.from_residual-in_err-more-2.result c.from_residual-in_err-more-2.ensures.1
    (subst (λ (m : ℕ). EndsBefore (desk_rules plan names) last m (setting old None) (setting new None) f) l.invariant.bound
    (ends_within (desk_rules plan names) r'.last last l.gatherer.reader.most (setting old None) (setting new None) f (c.feed_in_lanes.ensures.piece l.invariant.piece)
    (went_wrong plan names (desks c.args.takers.now.items) l.takers.items l.last l.more l.gatherer.reader old mid l.invariant.went r' new goes.lines c.feed_in_lanes.result f goes.gathers c.in_err-more-2.was)))

pub returns-in_err-more-2-clause-quiet : goal.returns-in_err-more-2-clause-quiet
returns-in_err-more-2-clause-quiet g c =
    not_written c.from_residual-in_err-more-2.result c.in_err-more-2.field-0.0 c.from_residual-in_err-more-2.ensures.1
    (λ same. c.feed_in_lanes.ensures.goes.gathers.quiet (c.in_err-more-2.was ∙ ap (λ (x : LabelFault). Err x) same))

pub stretch-preserved : goal.stretch-preserved
stretch-preserved g c =
    let l = c.stretch in let plan = c.args.plan.now in let names = c.args.gatherer.now.names.now in
    let old = g.S.Source.left c.args.source.now in let mid = g.S.Source.left l.source in let new = g.S.Source.left c.feed_in_lanes.new.source in
    let r' = c.feed_in_lanes.new.gatherer.reader in
    let goes = subst (λ (ns : List (List ℕ)). FeedsAndGathers (Hash c.args.plan.now.seed) ns l.last c.feed_in_lanes.new.stretch l.takers.items c.feed_in_lanes.new.takers.items l.gatherer.reader r' mid new c.feed_in_lanes.result) l.invariant.names c.feed_in_lanes.ensures.goes in record {
      went = went_more plan names (desks c.args.takers.now.items) l.takers.items l.last l.more l.gatherer.reader old mid l.invariant.went (Hash c.args.plan.now.seed) c.feed_in_lanes.new.takers.items c.feed_in_lanes.new.stretch r' new c.feed_in_lanes.result c.in_ok-more-2.more refl goes c.in_ok-more-2.was;
      most = c.feed_in_lanes.ensures.most;
      names = c.feed_in_lanes.ensures.names ∙ l.invariant.names;
      bound = goes.gathers.bound ∙ l.invariant.bound;
      piece = c.feed_in_lanes.ensures.piece l.invariant.piece;
      steady = subst (λ x. OnOk x (g.S.Source.faults c.feed_in_lanes.new.source ≡ g.S.Source.faults l.source)) c.in_ok-more-2.was
          (steady_on_ok _ (g.S.Source.faults l.source) (g.S.Source.faults c.feed_in_lanes.new.source) c.feed_in_lanes.result c.feed_in_lanes.ensures.cause) ∙ l.invariant.steady;
      stays = c.feed_in_lanes.ensures.stays ∙ l.invariant.stays;
    }

pub returns-clause-went : goal.returns-clause-went
returns-clause-went g c =
    let l = c.stretch in
    subst (λ (b : Bool). WentToDesks c.args.plan.now c.args.gatherer.now.names.now (desks c.args.takers.now.items) (desks l.takers.items) l.last b l.gatherer.reader (g.S.Source.left c.args.source.now) (g.S.Source.left l.source)) c.stretch-test.false l.invariant.went
