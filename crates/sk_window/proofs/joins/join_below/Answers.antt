use Rattle.std.proofs.Common.{◌≡◌, ◌+◌, ◌<◌, ◌≤◌, ◌++◌, ℕ, suc, List, length, take, sym, ap, subst, ◌∙◌, arith}
use Rattle.std.proofs.lemmas.List.{take_all}
use Rattle.std.proofs.lemmas.List.Elements.{All-append}
use Rattle.std.proofs.lemmas.Option.{slice_get-get_or}
use Rattle.sk_model.specs.Width.{IsItem, AreItems}
use Rattle.sk_theta.specs.Kept.{Sketch, StandsFor}
use Rattle.sk_window.specs.Joins.{all_kept, below}
use Rattle.sk_window.proofs.Standing.{item_at}
use Rattle.sk_window.proofs.Joined.{below_more, kept_more}
use Rattle.sk_window.proofs.joins.join_below.Goals as goal

pub unreachable-requires : goal.unreachable-requires
unreachable-requires c =
    let within : c.below.place < length c.args.sketches.now.items = omega arith in
    let there = slice_get-get_or c.args.sketches.now.items c.below.place c.below.into within in
    let none = c.in_default.ensures in
    cc

pub below-preserved : goal.below-preserved
below-preserved c =
    let ss = c.args.sketches.now.items in
    let i = c.below.place in
    let s = c.in-Some.sketch.now in
    let bound = c.args.bound in
    let before = all_kept (take i ss) in
    let within : i < length ss = omega arith in
    let more : all_kept (take (suc i) ss) ≡ before ++ s.kept = kept_more ss i s within ∙ ap (λ (t : Sketch). before ++ t.kept) (sym (item_at ss i s within c.in-Some.ensures)) in
    let next : i + 1 ≡ suc i = omega arith in
    let all : all_kept (take (i + 1) ss) ≡ before ++ s.kept = ap (λ (n : ℕ). all_kept (take n ss)) next ∙ more in
    record {
      k = c.put_below.ensures.k ∙ c.below.invariant.k;
      small = subst AreItems (sym all) (All-append IsItem before s.kept c.below.invariant.small c.put_below.ensures.items);
      stands = λ items stands. subst (λ (l : List ℕ). StandsFor c.put_below.new.into (items ++ below bound l)) (sym all)
          (subst (StandsFor c.put_below.new.into) (below_more bound items before s.kept)
          (c.put_below.ensures.stands (items ++ below bound before) (c.below.invariant.stands items stands)));
    }

pub returns-clause-items : goal.returns-clause-items
returns-clause-items c =
    let ss = c.args.sketches.now.items in
    let all : length ss ≤ c.below.place = omega arith in
    subst (λ (l : List Sketch). AreItems (all_kept l)) (take_all c.below.place ss all) c.below.invariant.small

pub returns-clause-stands : goal.returns-clause-stands
returns-clause-stands c = λ items stands.
    let ss = c.args.sketches.now.items in
    let all : length ss ≤ c.below.place = omega arith in
    subst (λ (l : List Sketch). StandsFor c.below.into (items ++ below c.args.bound (all_kept l))) (take_all c.below.place ss all) (c.below.invariant.stands items stands)
