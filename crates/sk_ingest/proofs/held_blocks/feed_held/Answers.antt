use Rattle.std.proofs.Common.{◌≡◌, ℕ, ◌+◌, ◌-◌, ◌≤◌, List, ◌++◌, length, take, drop, nat_lt, sym, ap, ◌∙◌, subst, arith, length-take, length-drop}
use Rattle.std.proofs.Math.Seq.{take-add}
use Rattle.std.proofs.lemmas.List.Elements.{filter-append}
use Rattle.sk_hub.specs.Calls.{Takes}
use Rattle.sk_hub.proofs.Calls.{none_refl, takes_none, takes_trans, takes_few}
use Rattle.sk_feed.proofs.HubLaws.{may_wait, may_go}
use Rattle.sk_ingest.specs.ItemWindows.{items_held}
use Rattle.sk_ingest.proofs.ItemWindows.{few_held}
use Rattle.sk_ingest.proofs.held_blocks.feed_held.Goals as goal

-- the first of what is held, and some of those after them
more_of : (at n : ℕ) (held : List ℕ) → items_held (take at held) ++ items_held (take n (drop at held)) ≡ items_held (take (at + n) held)
more_of at n held = sym (ap (λ l. items_held l) (take-add at n held) ∙ filter-append (λ item. nat_lt 0 item) (take at held) (take n (drop at held)))

pub group-init : goal.group-init
group-init g c = let k = g.C.Composable in record {
  within = omega arith;
  taken = takes_none k.keeps_of k.hint_of c.args.u.now c.args.u.now (none_refl c.args.u.now);
  room = omega (arith, c.requires.room);
  heart = may_wait c.args.plan.now.propagator c.args.heart.now;
}

-- what is fed of it
part_is : (held : List ℕ) (at n : ℕ) → take (at + n - at) (drop at held) ≡ take n (drop at held)
part_is held at n = let count : at + n - at ≡ n = omega arith in ap (λ m. take m (drop at held)) count

pub group-preserved : goal.group-preserved
group-preserved g c =
    let k = g.C.Composable in let held : List ℕ = c.args.held.now in let at : ℕ = c.group.at in let n : ℕ = c.min-count.result in
    let part : List ℕ = take n (drop at held) in let u' = c.feed_group.new.u in
    let step : Takes k.keeps_of k.hint_of c.group.u (items_held part) u' = subst (λ (l : List ℕ). Takes k.keeps_of k.hint_of c.group.u (items_held l) u') (part_is held at n) c.in_ok-feed_group.ensures.taken in
    let within : at + n ≤ length held = omega (arith, c.min-count.ensures) in record {
      within = within;
      taken = subst (λ (l : List ℕ). Takes k.keeps_of k.hint_of c.args.u.now l u') (more_of at n held)
          (takes_trans k.keeps_of k.hint_of c.args.u.now c.group.u u' (items_held (take at held)) (items_held part) c.group.invariant.taken step);
      room = omega (arith, within, c.group.invariant.room, takes_few k.keeps_of k.hint_of c.group.u u' (items_held part) step, few_held part, length-take n (drop at held));
      heart = may_go c.args.plan.now.propagator c.args.heart.now c.group.heart c.feed_group.new.heart c.group.invariant.heart c.feed_group.ensures.heart;
    }

pub returns-in_err-feed_group-clause-heart : goal.returns-in_err-feed_group-clause-heart
returns-in_err-feed_group-clause-heart g c = may_go c.args.plan.now.propagator c.args.heart.now c.group.heart c.feed_group.new.heart c.group.invariant.heart c.feed_group.ensures.heart
