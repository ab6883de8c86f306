use Rattle.std.proofs.Common.{◌≡◌, ◌+◌, ◌≤◌, ◌++◌, length, sym, ap, ◌∙◌, subst}
use Rattle.sk_model.specs.Limits.{most_kept}
use Rattle.sk_fill.specs.Windows.{all_lines}
use Rattle.sk_feed.specs.Deliveries.{windows_of}
use Rattle.sk_lanes.specs.Rings.{AllEnd}
use Rattle.sk_ingest.specs.Supplies.{Supplies}
use Rattle.sk_fill.proofs.StretchLaws.{on_ok_at}
use Rattle.sk_ingest.proofs.SupplyLaws.{nothing_fed, supplies_passed, supplies_then_none, supplies_at_most, started_few}
use Rattle.sk_ingest.proofs.lanes.feed_in_lanes.Goals as goal

pub open_lanes-requires-clause-lines : goal.open_lanes-requires-clause-lines
open_lanes-requires-clause-lines g c =
    let few = started_few c.args.stretch.now c.args.reader.now (g.S.Source.left c.args.source.now) c.requires.started in
    subst (λ z. z.first + length (all_lines z.windows) ≤ most_kept) (sym c.replace-first.ensures.value) few

pub returns-in_err-crewed-clause-goes : goal.returns-in_err-crewed-clause-goes
returns-in_err-crewed-clause-goes g c = nothing_fed _ c.args.kind c.args.stretch.now.most c.args.stretch.now _ c.args.reader.now (g.S.Source.left c.args.source.now) c.from_residual.result c.from_residual.ensures.1 c.requires.started.least

pub supply_beside-requires-clause-given : goal.supply_beside-requires-clause-given
supply_beside-requires-clause-given g c κs within =
    let start = c.requires.started in record {
      given = start.given;
      taken = start.taken;
      read = start.read;
      ends = subst (AllEnd c.in_ok-crewed.supply.outlets) (sym start.count)
          (subst (λ z. AllEnd c.in_ok-crewed.supply.outlets (z.first + length (all_lines z.windows))) c.replace-first.ensures.value c.in_ok-crewed.ensures.ends);
    }

pub returns-in_err-more-clause-goes : goal.returns-in_err-more-clause-goes
returns-in_err-more-clause-goes g c =
    let s = c.args.stretch.now in let next = c.supply_beside.new.next in let r = c.args.reader.now in let r' = c.supply_beside.new.reader in let os = c.in_ok-crewed.supply.outlets in let os' = c.supply_beside.new.supply.outlets in
    let old = g.S.Source.left c.args.source.now in let new = g.S.Source.left c.supply_beside.new.source in
    let most : c.replace-first.new.dest.most ≡ s.most = ap (λ z. z.most) c.replace-first.ensures.after ∙ c.new-free.ensures.most ∙ c.most.ensures.value in
    let supplies = subst (λ m. Supplies c.args.kind m os os' next r r' old new c.supply_beside.result) most c.supply_beside.ensures.supplies in
    supplies_passed _ c.args.kind s.most s next r old os os' r' new c.supply_beside.result supplies c.in_err-more.field-0.0 c.from_residual-in_err-more.result c.in_err-more.was c.from_residual-in_err-more.ensures.1

pub finish-requires-clause-ran : goal.finish-requires-clause-ran
finish-requires-clause-ran g c =
    let k = g.T.TakesStretches in let raw = c.supply_beside.ensures.supplies in let ts = c.args.takers.now.items in
    let gave = on_ok_at c.supply_beside.result c.in_ok-more.more _ c.in_ok-more.was raw.gave in (
      ts,
      c.args.stretch.now.windows ++ windows_of raw.given,
      record {
        first = c.replace-first.result;
        given = raw.given;
        lanes = c.in_ok-crewed.crewed.lanes.items;
        outlets = c.in_ok-crewed.supply.outlets;
        takers_are = c.in_ok-crewed.ensures.takers ∙ ap (λ v. v.items) c.replace-taken.ensures.value;
        windows_are = ap (λ z. z.windows ++ windows_of raw.given) (sym c.replace-first.ensures.value);
        opened = c.in_ok-crewed.ensures.open;
        run = c.supply_beside.ensures.run;
        gave = gave;
      },
    )

pub returns-in_err-takers-clause-goes : goal.returns-in_err-takers-clause-goes
returns-in_err-takers-clause-goes g c =
    let s = c.args.stretch.now in let next = c.supply_beside.new.next in let r = c.args.reader.now in let r' = c.supply_beside.new.reader in let os = c.in_ok-crewed.supply.outlets in let os' = c.supply_beside.new.supply.outlets in
    let old = g.S.Source.left c.args.source.now in let new = g.S.Source.left c.supply_beside.new.source in
    let most : c.replace-first.new.dest.most ≡ s.most = ap (λ z. z.most) c.replace-first.ensures.after ∙ c.new-free.ensures.most ∙ c.most.ensures.value in
    let supplies = subst (λ m. Supplies c.args.kind m os os' next r r' old new c.supply_beside.result) most c.supply_beside.ensures.supplies in
    supplies_then_none _ c.args.kind s.most s next r old os os' r' new c.supply_beside.result supplies c.in_ok-more.more c.from_residual-in_err-takers.result c.in_ok-more.was c.from_residual-in_err-takers.ensures.1 c.requires.started.least

pub returns-clause-goes : goal.returns-clause-goes
returns-clause-goes g c =
    let k = g.T.TakesStretches in let s = c.args.stretch.now in let next = c.supply_beside.new.next in let r = c.args.reader.now in let r' = c.supply_beside.new.reader in let os = c.in_ok-crewed.supply.outlets in let os' = c.supply_beside.new.supply.outlets in
    let old = g.S.Source.left c.args.source.now in let new = g.S.Source.left c.supply_beside.new.source in let more = c.in_ok-more.more in
    let most : c.replace-first.new.dest.most ≡ s.most = ap (λ z. z.most) c.replace-first.ensures.after ∙ c.new-free.ensures.most ∙ c.most.ensures.value in
    let raw = c.supply_beside.ensures.supplies in
    let gave = on_ok_at c.supply_beside.result more _ c.in_ok-more.was raw.gave in
    let took = c.in_ok-takers.ensures.took c.args.takers.now.items (s.windows ++ windows_of raw.given) (record {
      first = c.replace-first.result;
      given = raw.given;
      lanes = c.in_ok-crewed.crewed.lanes.items;
      outlets = os;
      takers_are = c.in_ok-crewed.ensures.takers ∙ ap (λ v. v.items) c.replace-taken.ensures.value;
      windows_are = ap (λ z. z.windows ++ windows_of raw.given) (sym c.replace-first.ensures.value);
      opened = c.in_ok-crewed.ensures.open;
      run = c.supply_beside.ensures.run;
      gave = gave;
    }) in
    supplies_at_most _ c.args.kind c.replace-first.new.dest.most s.most s next r old os os' r' new c.supply_beside.result raw most more c.in_ok-more.was took
