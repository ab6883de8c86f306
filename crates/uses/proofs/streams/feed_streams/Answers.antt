use Rattle.std.proofs.Common.{◌≡◌, length, drop, map, sym, ap, subst, arith}
use Rattle.std.proofs.lemmas.List.{take_at}
use Rattle.uses.specs.Fed.{TakeEach}
use Rattle.uses.proofs.streams.feed_streams.Goals as goal

pub returns : goal.returns
returns g c =
    let k = g.C.Composable in let us = c.args.updaters.items in let us' = c.feed_each.new.updaters in
    let streams = map (λ stream. stream.items) c.args.streams.now in
    let len : length us' ≡ c.args.updaters.len = omega (arith, c.feed_each.auto.updaters, c.as_mut_slice.ensures.len) in
    let after = take_at us' (drop (length us') us) c.args.updaters.len len in
    record {
      count = omega (arith, ap length after, c.feed_each.auto.updaters, ap length c.as_mut_slice.ensures.value);
      each = subst (λ l. TakeEach k.keeps_of k.hint_of us streams l) (sym after)
          (subst (λ l. TakeEach k.keeps_of k.hint_of l streams us') c.as_mut_slice.ensures.value c.feed_each.ensures);
    }
