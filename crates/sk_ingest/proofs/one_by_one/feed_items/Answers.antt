use Rattle.std.proofs.Common.{◌≡◌, ℕ, ◌+◌, ◌-◌, ◌≤◌, List, ◌++◌, length, take, drop, sym, ap, ◌∙◌, subst, arith, length-take, length-drop}
use Rattle.std.proofs.Math.Seq.{take-add}
use Rattle.std.proofs.lemmas.List.{take_rest}
use Rattle.sk_hub.specs.Calls.{Takes}
use Rattle.sk_hub.proofs.Calls.{none_refl, takes_none, takes_trans, takes_few}
use Rattle.sk_feed.proofs.HubLaws.{may_wait, may_go}
use Rattle.sk_ingest.proofs.one_by_one.feed_items.Goals as goal

-- the first items, and the first of those after them
more_of : (at n : ℕ) (items : List ℕ) → take at items ++ take n (take (length items - at) (drop at items)) ≡ take (at + n) items
more_of at n items = ap (λ (l : List ℕ). take at items ++ take n l) (take_rest items at) ∙ sym (take-add at n items)

left_of : (at : ℕ) (items : List ℕ) → length (take (length items - at) (drop at items)) ≡ length items - at
left_of at items = ap (λ (l : List ℕ). length l) (take_rest items at) ∙ length-drop at items

pub some-init : goal.some-init
some-init g c = let k = g.C.Composable in record {
  within = omega arith;
  taken = takes_none k.keeps_of k.hint_of c.args.u.now c.args.u.now (none_refl c.args.u.now);
  room = omega (arith, c.requires.room);
  heart = may_wait c.args.plan.now.propagator c.args.heart.now;
}

pub returns-in_err-count-clause-heart : goal.returns-in_err-count-clause-heart
returns-in_err-count-clause-heart g c = may_go c.args.plan.now.propagator c.args.heart.now c.some.heart c.feed_some.new.heart c.some.invariant.heart c.feed_some.ensures.heart

pub some-preserved : goal.some-preserved
some-preserved g c =
    let k = g.C.Composable in let items : List ℕ = c.args.items.now in let at : ℕ = c.some.at in let n : ℕ = c.in_ok-count.count in
    let after : List ℕ = take (length items - at) (drop at items) in
    let step = c.in_ok-count.ensures.taken in
    let within : at + n ≤ length items = omega (arith, c.in_ok-count.ensures.count.1, left_of at items, c.some.invariant.within) in record {
      within = within;
      taken = subst (λ (l : List ℕ). Takes k.keeps_of k.hint_of c.args.u.now l c.feed_some.new.u) (more_of at n items)
          (takes_trans k.keeps_of k.hint_of c.args.u.now c.some.u c.feed_some.new.u (take at items) (take n after) c.some.invariant.taken step);
      room = omega (arith, within, c.some.invariant.room, takes_few k.keeps_of k.hint_of c.some.u c.feed_some.new.u (take n after) step, length-take n after);
      heart = may_go c.args.plan.now.propagator c.args.heart.now c.some.heart c.feed_some.new.heart c.some.invariant.heart c.feed_some.ensures.heart;
    }
