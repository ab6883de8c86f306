use Rattle.std.proofs.Common.{◌≡◌, length}
use Rattle.sk_hub.specs.Starts.{AreNew}
use Rattle.sk_hub.proofs.opened.admit_each.Given as goal

abbrev pub invariant-size : goal.invariant-size
invariant-size g l = let k = g.C.Composable in record {
  heart : l.heart ≡ record l.initial.heart { admitted = l.size-index };
  count : length l.updaters.items ≡ l.size-index;
  updaters : AreNew k.hint_of l.sizes l.initial.heart l.updaters.items;
}
