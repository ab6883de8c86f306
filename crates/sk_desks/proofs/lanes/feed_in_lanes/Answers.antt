use Rattle.std.proofs.Common.{◌≤◌, ◌+◌, ◌++◌, length, OnOk, sym, ap, ◌∙◌, subst, arith}
use Rattle.sk_model.specs.Limits.{most_kept}
use Rattle.sk_fill.specs.Windows.{all_lines}
use Rattle.sk_fill.specs.Stretches.{StretchState}
use Rattle.sk_fill.proofs.Filled.{read_few}
use Rattle.sk_feed.specs.Deliveries.{windows_of}
use Rattle.sk_lanes.specs.Rings.{GaveEach, AllEnd}
use Rattle.sk_lanes.specs.Lanes.{HaveRunWith}
use Rattle.sk_desks.specs.Feeds.{HasRoomAfter}
use Rattle.sk_desks.specs.Lanes.{took}
use Rattle.sk_desks.proofs.LaneLaws.{nothing_fed, feeds_passed, feeds_then_none, feeds}
use Rattle.sk_desks.proofs.lanes.feed_in_lanes.Given.{Over}
use Rattle.sk_desks.proofs.lanes.feed_in_lanes.Goals.{In_ok-more}
use Rattle.sk_desks.proofs.lanes.feed_in_lanes.Goals as goal

pub open_lanes-requires-clause-lines : goal.open_lanes-requires-clause-lines
open_lanes-requires-clause-lines g c =
    let start = c.requires.started in
    let few : c.args.stretch.now.first + length (all_lines c.args.stretch.now.windows) ≤ most_kept
    = omega (arith, start.count, read_few c.args.gatherer.now.reader (g.S.Source.left c.args.source.now) start.given start.taken start.read) in
    subst (λ (z : StretchState). z.first + length (all_lines z.windows) ≤ most_kept) (sym c.replace-first.ensures.value) few

pub returns-in_err-crewed-clause-goes : goal.returns-in_err-crewed-clause-goes
returns-in_err-crewed-clause-goes g c = nothing_fed c.args.kind c.args.gatherer.now.names.now c.args.stretch.now _ c.args.takers.now.items _ c.args.gatherer.now.reader (g.S.Source.left c.args.source.now) c.from_residual.result c.from_residual.ensures.1

pub gather_beside-requires-clause-given : goal.gather_beside-requires-clause-given
gather_beside-requires-clause-given g c κs within =
    let start = c.requires.started in record {
      given = start.given;
      taken = start.taken;
      read = start.read;
      ends = subst (AllEnd c.in_ok-crewed.supply.outlets) (sym start.count)
          (subst (λ (z : StretchState). AllEnd c.in_ok-crewed.supply.outlets (z.first + length (all_lines z.windows))) c.replace-first.ensures.value c.in_ok-crewed.ensures.ends);
    }

pub gather_beside-requires-clause-same : goal.gather_beside-requires-clause-same
gather_beside-requires-clause-same g c κs within = c.in_ok-crewed.ensures.most ∙ ap (λ (z : StretchState). z.most) c.replace-first.ensures.value ∙ c.requires.started.most

pub returns-in_err-more-clause-goes : goal.returns-in_err-more-clause-goes
returns-in_err-more-clause-goes g c =
    feeds_passed c.args.kind c.args.gatherer.now.names.now c.args.stretch.now c.gather_beside.new.next c.args.takers.now.items _ c.args.gatherer.now.reader (g.S.Source.left c.args.source.now)
    c.in_ok-crewed.supply.outlets c.gather_beside.new.supply.outlets c.gather_beside.new.gatherer.reader (g.S.Source.left c.gather_beside.new.source) c.gather_beside.result c.gather_beside.ensures.gives
    c.in_err-more.field-0.0 c.from_residual-in_err-more.result c.in_err-more.was c.from_residual-in_err-more.ensures.1

-- the lanes have run with the stretch and all that were given after it
ran : (g : Over) (c : In_ok-more g) → HaveRunWith (took c.args.kind) (λ t count. HasRoomAfter count t.desk) c.args.takers.now.items (c.args.stretch.now.windows ++ windows_of c.gather_beside.ensures.gives.given) c.gather_beside.new.crewed.lanes.items c.gather_beside.new.supply.outlets
ran g c =
    let gives = c.gather_beside.ensures.gives in record {
      first = c.replace-first.result;
      given = gives.given;
      lanes = c.in_ok-crewed.crewed.lanes.items;
      outlets = c.in_ok-crewed.supply.outlets;
      takers_are = c.in_ok-crewed.ensures.takers ∙ ap (λ v. v.items) c.replace-taken.ensures.value;
      windows_are = ap (λ (z : StretchState). z.windows ++ windows_of gives.given) (sym c.replace-first.ensures.value);
      opened = c.in_ok-crewed.ensures.open;
      run = c.gather_beside.ensures.run;
      gave = subst (λ x. OnOk x (GaveEach c.in_ok-crewed.supply.outlets c.gather_beside.new.supply.outlets gives.given)) c.in_ok-more.was gives.gave;
    }

pub finish-requires-clause-ran : goal.finish-requires-clause-ran
finish-requires-clause-ran g c = (c.args.takers.now.items, c.args.stretch.now.windows ++ windows_of c.gather_beside.ensures.gives.given, ran g (goal.at.finish-requires-clause-ran g c).In_ok-more)

pub returns-in_err-takers-clause-goes : goal.returns-in_err-takers-clause-goes
returns-in_err-takers-clause-goes g c =
    feeds_then_none c.args.kind c.args.gatherer.now.names.now c.args.stretch.now c.gather_beside.new.next c.args.takers.now.items _ c.args.gatherer.now.reader (g.S.Source.left c.args.source.now)
    c.in_ok-crewed.supply.outlets c.gather_beside.new.supply.outlets c.gather_beside.new.gatherer.reader (g.S.Source.left c.gather_beside.new.source) c.gather_beside.result c.gather_beside.ensures.gives
    c.in_ok-more.more c.from_residual-in_err-takers.result c.in_ok-more.was c.from_residual-in_err-takers.ensures.1

pub returns-clause-goes : goal.returns-clause-goes
returns-clause-goes g c =
    let at = (goal.at.returns-clause-goes g c).In_ok-more in let gives = c.gather_beside.ensures.gives in
    let took = c.in_ok-takers.ensures.took c.args.takers.now.items (c.args.stretch.now.windows ++ windows_of gives.given) (ran g at) in
    feeds c.args.kind c.args.gatherer.now.names.now c.args.stretch.now c.gather_beside.new.next c.args.takers.now.items _ c.args.gatherer.now.reader (g.S.Source.left c.args.source.now)
    c.in_ok-crewed.supply.outlets c.gather_beside.new.supply.outlets c.gather_beside.new.gatherer.reader (g.S.Source.left c.gather_beside.new.source) c.gather_beside.result gives c.in_ok-more.more c.in_ok-more.was took
