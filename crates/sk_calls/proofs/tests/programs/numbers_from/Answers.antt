use Rattle.std.proofs.Common.{◌∷◌, [], length, sym, ap, subst, arith, length-append}
use Rattle.std.proofs.lemmas.List.Elements.{All-nil, All-push}
use Rattle.sk_model.specs.Width.{IsItem, AreItems}
use Rattle.sk_calls.proofs.tests.programs.numbers_from.Goals as goal

pub number-init : goal.number-init
number-init c = record {
  items = subst AreItems (sym c.new-numbers.ensures.items) (All-nil IsItem);
  count = omega (arith, ap length c.new-numbers.ensures.items);
}

pub number-preserved : goal.number-preserved
number-preserved c =
    let inv = c.number.invariant in let items = c.in_ok-push.ensures.items in
    record {
      items = subst AreItems (sym items) (All-push IsItem c.number.numbers.items c.number.number inv.items (omega (arith, inv.count, c.requires.least, c.requires.most, c.number-test.true)));
      count = omega (arith, inv.count, ap length items, length-append c.number.numbers.items (c.number.number ∷ []));
    }
