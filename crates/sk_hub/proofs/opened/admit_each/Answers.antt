use Rattle.std.proofs.Common.{◌≡◌, [], ◌∷◌, ◌++◌, length, refl, ap}
use Rattle.sk_hub.proofs.Opening.{one_longer, one_more, none_new, one_more_new}
use Rattle.sk_hub.proofs.opened.admit_each.Goals as goal

pub size-init : goal.size-init
size-init g c = let k = g.C.Composable in let h = c.args.heart.now in record {
  heart = λ a. record h { admitted = c.requires.none a };
  count = ap (λ l. length l) c.in_ok-updaters.ensures.items;
  updaters = none_new k.hint_of c.args.sizes.now h c.in_ok-updaters.updaters.items c.in_ok-updaters.ensures.items;
}

pub size-preserved : goal.size-preserved
size-preserved g c = let k = g.C.Composable in
    let i = c.size.invariant in let before = c.size.updaters.items in let u = c.in-Admitted.updater in let sizes = c.args.sizes.now in
    let more : c.push.new.self.items ≡ before ++ u ∷ [] = c.in_ok-push-in-Admitted.ensures.items in
    record {
      heart = one_more c.args.heart.now c.size.heart c.admit.new.self c.size.size-index (c.in-Admitted.ensures.count u refl) i.heart;
      count = one_longer before c.push.new.self.items u c.size.size-index more i.count;
      updaters = one_more_new k.hint_of sizes c.args.heart.now c.size.heart before c.push.new.self.items u c.size.size-index i.heart i.count more (c.in-Admitted.ensures.admitted u refl) i.updaters;
    }
