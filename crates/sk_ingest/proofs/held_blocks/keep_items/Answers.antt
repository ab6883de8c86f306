use Rattle.std.proofs.Common.{◌≡◌, ◌<◌, ◌+◌, ◌&&◌, nat_lt, Bool, length, take, sym, ap, subst, arith, ◌∙◌, get_or, set, take_all}
use Rattle.std.specs.List.{filter}
use Rattle.std.specs.Int.{from_bool}
use Rattle.std.proofs.lemmas.List.Elements.{All-filter}
use Rattle.sk_model.specs.Width.{IsItem, AreItems}
use Rattle.sk_ingest.specs.ItemWindows.{items_held}
use Rattle.sk_ingest.proofs.ItemWindows.{held_are_items, next_kept, at_most_one}
use Rattle.sk_ingest.proofs.held_blocks.keep_items.Goals as goal

pub item-preserved : goal.item-preserved
item-preserved g c =
    let keeps = g.C.Composable.keeps_of c.args.hint in let held = c.args.held.now in let at = c.item.at in
    let counts = c.is_kept.result in
    let next : c.item.count + c.from-count.result ≡ c.item.count + from_bool counts = ap (λ n. c.item.count + n) c.from-count.ensures in
    let room : c.item.count < length c.item.kept = omega (arith, c.item.invariant.few, c.item-test.true, c.requires.few, c.told-kept) in record {
      few = omega (arith, next, c.item.invariant.few, at_most_one counts);
      kept = ap (λ n. take n (set c.item.kept c.item.count (get_or held at 0))) next
          ∙ next_kept keeps held c.item.kept at c.item.count counts c.item-test.true room c.is_kept.ensures c.item.invariant.kept;
    }

pub returns-clause-kept : goal.returns-clause-kept
returns-clause-kept g c =
    c.item.invariant.kept ∙ ap (λ l. filter (g.C.Composable.keeps_of c.args.hint) (items_held l)) (take_all c.item.at c.args.held.now (omega (arith, c.item-test.false)))

pub returns-clause-items : goal.returns-clause-items
returns-clause-items g c =
    subst AreItems (sym (returns-clause-kept g c)) (All-filter (g.C.Composable.keeps_of c.args.hint) IsItem (items_held c.args.held.now) (held_are_items c.args.held.now c.requires.items))
