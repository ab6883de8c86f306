use Rattle.std.proofs.Common.{◌≡◌, ◌≤◌, [], ◌++◌, true, OnOk, inl, refl, sym, ap, ◌∙◌, subst, arith}
use Rattle.sk_read.specs.declared.units.Units.TheVariants.{Lines}
use Rattle.std.proofs.lemmas.List.Elements.{All-nil}
use Rattle.sk_read.specs.Items.{IsGood}
use Rattle.sk_read.specs.Reads.{ReadsAll}
use Rattle.sk_read.specs.Units.{units_by}
use Rattle.sk_read.specs.declared.fault.Fault.TheVariants as fault
use Rattle.sk_fill.specs.Windows.{most_lines, all_lines}
use Rattle.sk_feed.specs.Hubs.{hub_of, FeedsWindows}
use Rattle.sk_ingest.specs.Ingests.{Ingests, GoesSoFar, StopsAtUnit, EndsEarly}
use Rattle.sk_ingest.specs.Takers.{unreported}
use Rattle.sk_fill.specs.Stretches.{ReadsStretch}
use Rattle.sk_ingest.specs.FedAndRead.{FeedsAndReads}
use Rattle.sk_fill.proofs.Cutting.{no_units}
use Rattle.sk_feed.proofs.Between.{none_fed}
use Rattle.sk_ingest.proofs.Unreported.{cut_so_far}
use Rattle.sk_ingest.proofs.StretchLaws.{StretchesWent, none_went, stretches_go, stretches_hub, stretches_few, stretches_lines, stretches_room, stretches_fail, stretches_end, stretches_out, feeds_on, feeds_fail, early_within, cause_passed}
use Rattle.sk_fill.proofs.Readings.{nothing_came, if_err_is, steady_on_ok}
use Rattle.sk_ingest.proofs.stretches.ingest_stretches.Goals as goal

pub returns-in_err-reader-clause-refused : goal.returns-in_err-reader-clause-refused
returns-in_err-reader-clause-refused g c =
    let k = g.C.Composable in let plan = c.args.plan.now in let hub = hub_of c.args.opened.now in
    let t = unreported k.keeps_of k.hint_of plan in let old = g.S.Source.left c.args.source.now in
    if_err_is c.from_residual.result fault.OutOfMemory (EndsEarly t (g.S.Source.last c.args.source.now) (units_by plan.column) old old hub tt tt) c.from_residual.ensures.1
    (inl (nothing_came _ (GoesSoFar t hub tt tt) (StopsAtUnit t hub tt tt) (units_by plan.column) plan.most old
    (cut_so_far t [] [] [] hub tt c.requires.unreported (no_units plan.window c.requires.window.0) (All-nil (IsGood plan.kind)))))

pub fill_stretch-requires : goal.fill_stretch-requires
fill_stretch-requires g c = record { started = ([], [], c.in_ok-reader.ensures.read (g.S.Source.left c.args.source.now)) }

pub returns-in_err-more-clause-refused : goal.returns-in_err-more-clause-refused
returns-in_err-more-clause-refused g c =
    let k = g.C.Composable in let plan = c.args.plan.now in let hub = hub_of c.args.opened.now in
    let t = unreported k.keeps_of k.hint_of plan in let old = g.S.Source.left c.args.source.now in
    let new = g.S.Source.left c.fill_stretch.new.source in let r = c.in_ok-reader.reader in let r' = c.fill_stretch.new.reader in
    let windows = c.fill_stretch.new.stretch.windows in let why = c.in_err-more.field-0.0 in
    let reads = subst (λ m. ReadsStretch plan.kind m windows r r' old new c.fill_stretch.result) c.new-stretch.ensures.most c.fill_stretch.ensures.reads in
    let start = none_went k.keeps_of k.hint_of plan hub r old c.in_ok-reader.ensures.most (c.in_ok-reader.ensures.read old) in
    let last = g.S.Source.last c.fill_stretch.new.source in
    if_err_is c.from_residual-in_err-more.result why (EndsEarly t last (units_by plan.column) old new hub tt tt) c.from_residual-in_err-more.ensures.1
    (subst (λ u. EndsEarly t last u old new hub tt tt why) (sym (ap units_by c.requires.lines))
    (early_within t r'.last last Lines old new hub tt tt why (c.fill_stretch.ensures.piece (omega (arith, c.in_ok-reader.ensures.piece)))
    (stretches_fail k.keeps_of k.hint_of plan [] 0 true hub hub r old old start windows why c.fill_stretch.result r' new c.requires.window.0 c.requires.unreported refl reads c.in_err-more.was)))

pub stretch-init : goal.stretch-init
stretch-init g c =
    let k = g.C.Composable in let plan = c.args.plan.now in let hub = hub_of c.args.opened.now in
    let t = unreported k.keeps_of k.hint_of plan in let old = g.S.Source.left c.args.source.now in
    let new = g.S.Source.left c.fill_stretch.new.source in let r = c.in_ok-reader.reader in let r' = c.fill_stretch.new.reader in
    let windows = c.fill_stretch.new.stretch.windows in let more = c.in_ok-more.more in
    let reads = subst (λ m. ReadsStretch plan.kind m windows r r' old new c.fill_stretch.result) c.new-stretch.ensures.most c.fill_stretch.ensures.reads in
    let start = none_went k.keeps_of k.hint_of plan hub r old c.in_ok-reader.ensures.most (c.in_ok-reader.ensures.read old) in record {
      went = stretches_go k.keeps_of k.hint_of plan [] 0 true hub hub r old old start windows c.fill_stretch.new.stretch.first c.fill_stretch.result more hub r' new refl (none_fed plan.propagator k.keeps_of k.hint_of plan.kind hub) reads c.in_ok-more.was c.fill_stretch.ensures.first;
      stretch = c.fill_stretch.ensures.most ∙ c.new-stretch.ensures.most;
      piece = c.fill_stretch.ensures.piece (omega (arith, c.in_ok-reader.ensures.piece));
      steady = subst (λ x. OnOk x (g.S.Source.faults c.fill_stretch.new.source ≡ g.S.Source.faults c.args.source.now)) c.in_ok-more.was
          (steady_on_ok _ (g.S.Source.faults c.args.source.now) (g.S.Source.faults c.fill_stretch.new.source) c.fill_stretch.result c.fill_stretch.ensures.cause);
      stays = c.fill_stretch.ensures.stays;
    }

pub feed_on-requires-clause-hub : goal.feed_on-requires-clause-hub
feed_on-requires-clause-hub g c κs within =
    let k = g.C.Composable in
    stretches_hub k.keeps_of k.hint_of c.args.plan.now c.stretch.stretch.windows c.stretch.stretch.first c.stretch.more (hub_of c.args.opened.now) (hub_of c.stretch.opened) c.stretch.reader (g.S.Source.left c.args.source.now) (g.S.Source.left c.stretch.source) c.stretch.invariant.went c.requires.hub

pub feed_on-requires-clause-few : goal.feed_on-requires-clause-few
feed_on-requires-clause-few g c κs within =
    let k = g.C.Composable in
    stretches_few k.keeps_of k.hint_of c.args.plan.now c.stretch.stretch.windows c.stretch.stretch.first c.stretch.more (hub_of c.args.opened.now) (hub_of c.stretch.opened) c.stretch.reader (g.S.Source.left c.args.source.now) (g.S.Source.left c.stretch.source) c.stretch.invariant.went c.requires.few

pub feed_on-requires-clause-started : goal.feed_on-requires-clause-started
feed_on-requires-clause-started g c κs within =
    let k = g.C.Composable in let went = c.stretch.invariant.went in record {
      least = subst (λ m. 1 ≤ m) (sym c.stretch.invariant.stretch) c.requires.window.0;
      highest = subst (λ m. m ≤ most_lines) (sym c.stretch.invariant.stretch) c.requires.window.1;
      given = all_lines went.fed ++ all_lines c.stretch.stretch.windows;
      taken = went.taken;
      read = went.read;
      count = stretches_lines k.keeps_of k.hint_of c.args.plan.now c.stretch.stretch.windows c.stretch.stretch.first c.stretch.more (hub_of c.args.opened.now) (hub_of c.stretch.opened) c.stretch.reader (g.S.Source.left c.args.source.now) (g.S.Source.left c.stretch.source) went;
    }

pub returns-in_err-more-2-clause-refused : goal.returns-in_err-more-2-clause-refused
returns-in_err-more-2-clause-refused g c =
    let k = g.C.Composable in let plan = c.args.plan.now in let hub = hub_of c.args.opened.now in
    let t = unreported k.keeps_of k.hint_of plan in let old = g.S.Source.left c.args.source.now in let s = c.stretch.stretch in let next = c.feed_on.new.stretch in let b = hub_of c.stretch.opened in let x = hub_of c.feed_on.new.opened in
    let mid = g.S.Source.left c.stretch.source in let new = g.S.Source.left c.feed_on.new.source in let r' = c.feed_on.new.reader in let why = c.in_err-more-2.field-0.0 in
    let went = subst (λ m. StretchesWent k.keeps_of k.hint_of plan s.windows s.first m hub b c.stretch.reader old mid) c.stretch-test.true c.stretch.invariant.went in
    let on = subst (λ m. FeedsAndReads (λ windows. FeedsWindows plan.propagator k.keeps_of k.hint_of plan.kind windows b x) plan.kind m s next c.stretch.reader r' mid new c.feed_on.result) c.stretch.invariant.stretch c.feed_on.ensures.goes in
    let last = g.S.Source.last c.feed_on.new.source in
    if_err_is c.from_residual-in_err-more-2.result why (EndsEarly t last (units_by plan.column) old new hub tt tt) c.from_residual-in_err-more-2.ensures.1
    (subst (λ u. EndsEarly t last u old new hub tt tt why) (sym (ap units_by c.requires.lines))
    (early_within t r'.last last Lines old new hub tt tt why (c.feed_on.ensures.piece c.stretch.invariant.piece)
    (feeds_fail k.keeps_of k.hint_of plan s next hub b x c.stretch.reader r' old mid new c.feed_on.result went on why c.requires.window.0 c.requires.unreported c.in_err-more-2.was)))

pub returns-in_err-more-2-clause-cause : goal.returns-in_err-more-2-clause-cause
returns-in_err-more-2-clause-cause g c =
    cause_passed (g.S.Source.faults c.stretch.source) (g.S.Source.faults c.args.source.now) (g.S.Source.faults c.feed_on.new.source) c.in_err-more-2.field-0.0 c.feed_on.result c.from_residual-in_err-more-2.result
    c.feed_on.ensures.cause c.in_err-more-2.was c.from_residual-in_err-more-2.ensures.1 c.stretch.invariant.steady

pub stretch-preserved : goal.stretch-preserved
stretch-preserved g c =
    let k = g.C.Composable in let plan = c.args.plan.now in let hub = hub_of c.args.opened.now in
    let old = g.S.Source.left c.args.source.now in let s = c.stretch.stretch in let next = c.feed_on.new.stretch in let b = hub_of c.stretch.opened in let x = hub_of c.feed_on.new.opened in
    let mid = g.S.Source.left c.stretch.source in let new = g.S.Source.left c.feed_on.new.source in let r' = c.feed_on.new.reader in let more = c.in_ok-more-2.more in
    let went = subst (λ m. StretchesWent k.keeps_of k.hint_of plan s.windows s.first m hub b c.stretch.reader old mid) c.stretch-test.true c.stretch.invariant.went in
    let on = subst (λ m. FeedsAndReads (λ windows. FeedsWindows plan.propagator k.keeps_of k.hint_of plan.kind windows b x) plan.kind m s next c.stretch.reader r' mid new c.feed_on.result) c.stretch.invariant.stretch c.feed_on.ensures.goes in
    let now = feeds_on k.keeps_of k.hint_of plan s next hub b x c.stretch.reader r' old mid new c.feed_on.result went on more c.in_ok-more-2.was in record {
      went = now;
      stretch = c.in_ok-more-2.ensures.most ∙ c.stretch.invariant.stretch;
      piece = c.feed_on.ensures.piece c.stretch.invariant.piece;
      steady = subst (λ z. OnOk z (g.S.Source.faults c.feed_on.new.source ≡ g.S.Source.faults c.stretch.source)) c.in_ok-more-2.was
          (steady_on_ok _ (g.S.Source.faults c.stretch.source) (g.S.Source.faults c.feed_on.new.source) c.feed_on.result c.feed_on.ensures.cause) ∙ c.stretch.invariant.steady;
      stays = c.feed_on.ensures.stays ∙ c.stretch.invariant.stays;
    }

pub feed_stretch-requires-clause-hub : goal.feed_stretch-requires-clause-hub
feed_stretch-requires-clause-hub g c =
    let k = g.C.Composable in
    stretches_hub k.keeps_of k.hint_of c.args.plan.now c.stretch.stretch.windows c.stretch.stretch.first c.stretch.more (hub_of c.args.opened.now) (hub_of c.stretch.opened) c.stretch.reader (g.S.Source.left c.args.source.now) (g.S.Source.left c.stretch.source) c.stretch.invariant.went c.requires.hub

pub feed_stretch-requires-clause-room : goal.feed_stretch-requires-clause-room
feed_stretch-requires-clause-room g c =
    let k = g.C.Composable in
    stretches_room k.keeps_of k.hint_of c.args.plan.now c.stretch.stretch.windows c.stretch.stretch.first c.stretch.more (hub_of c.args.opened.now) (hub_of c.stretch.opened) c.stretch.reader (g.S.Source.left c.args.source.now) (g.S.Source.left c.stretch.source) c.stretch.invariant.went c.requires.few

pub returns-in_err-feed_stretch-clause-refused : goal.returns-in_err-feed_stretch-clause-refused
returns-in_err-feed_stretch-clause-refused g c =
    let k = g.C.Composable in let plan = c.args.plan.now in let hub = hub_of c.args.opened.now in
    let t = unreported k.keeps_of k.hint_of plan in let old = g.S.Source.left c.args.source.now in
    let now = g.S.Source.left c.stretch.source in
    if_err_is c.from_residual-in_err-feed_stretch.result fault.OutOfMemory (EndsEarly t (g.S.Source.last c.stretch.source) (units_by plan.column) old now hub tt tt) c.from_residual-in_err-feed_stretch.ensures.1
    (subst (λ u. EndsEarly t (g.S.Source.last c.stretch.source) u old now hub tt tt fault.OutOfMemory) (sym (ap units_by c.requires.lines))
    (stretches_out k.keeps_of k.hint_of plan c.stretch.stretch.windows c.stretch.stretch.first c.stretch.more hub (hub_of c.stretch.opened) c.stretch.reader old now c.stretch.invariant.went (g.S.Source.last c.stretch.source) c.requires.unreported c.stretch-test.false))

pub returns-clause-ok : goal.returns-clause-ok
returns-clause-ok g c =
    let k = g.C.Composable in let plan = c.args.plan.now in let hub = hub_of c.args.opened.now in
    let t = unreported k.keeps_of k.hint_of plan in let old = g.S.Source.left c.args.source.now in
    let now = g.S.Source.left c.stretch.source in let x = hub_of c.feed_stretch.new.opened in
    subst (λ u. ReadsAll u plan.most c.number.result (λ units. Ingests t units hub tt x tt) old now) (sym (ap units_by c.requires.lines))
    (stretches_end k.keeps_of k.hint_of plan c.stretch.stretch.windows c.stretch.stretch.first c.stretch.more hub (hub_of c.stretch.opened) c.stretch.reader old now c.stretch.invariant.went c.number.result x c.requires.unreported c.stretch-test.false c.number.ensures c.requires.hub
    c.in_ok-feed_stretch.ensures.fed)
