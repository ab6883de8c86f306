use Rattle.std.proofs.Common.{◌≡◌, ◌+◌, ◌<◌, ◌≤◌, ◌++◌, ℕ, suc, List, [], length, take, get_or, sym, ap, subst, ◌∙◌, arith}
use Rattle.std.proofs.lemmas.List.{take_all}
use Rattle.std.proofs.lemmas.Option.{slice_get-get_or}
use Rattle.sk_theta.specs.Kept.{Sketch, StandsFor}
use Rattle.sk_window.specs.Intervals.{all_items}
use Rattle.sk_window.proofs.Standing.{stand_count, stand_at, item_at, items_more}
use Rattle.sk_window.proofs.joins.join_whole.Goals as goal

pub unreachable-requires : goal.unreachable-requires
unreachable-requires c =
    let within : c.sketch.place < length c.args.sketches.now.items = omega arith in
    let there = slice_get-get_or c.args.sketches.now.items c.sketch.place c.sketch.into within in
    let none = c.in_default.ensures in
    cc

pub join-requires : goal.join-requires
join-requires c =
    let within : c.sketch.place < length c.args.sketches.now.items = omega arith in
    record {
      k = ap (λ (s : Sketch). s.k) (item_at c.args.sketches.now.items c.sketch.place c.in-Some.sketch.now within c.in-Some.ensures)
          ∙ c.requires.k c.sketch.place c.in-Some.sketch.now within
          ∙ sym c.sketch.invariant.0;
    }

pub sketch-preserved : goal.sketch-preserved
sketch-preserved c = (
  c.join.ensures.numbers ∙ c.sketch.invariant.0,
  λ lists items each stands.
      let ss = c.args.sketches.now.items in
      let i = c.sketch.place in
      let s = c.in-Some.sketch.now in
      let within : i < length ss = omega arith in
      let inside : i < length lists = omega (arith, stand_count c.args.into.now.k ss lists each) in
      let its : StandsFor s (get_or lists i []) =
      subst (λ (t : Sketch). StandsFor t (get_or lists i [])) (sym (item_at ss i s within c.in-Some.ensures)) (stand_at c.args.into.now.k ss lists i s [] within each) in
      let next : i + 1 ≡ suc i = omega arith in
      subst (λ (n : ℕ). StandsFor c.join.new.self (items ++ all_items (take n lists))) (sym next)
      (subst (StandsFor c.join.new.self) (items_more lists i [] items inside)
      (c.join.ensures.stands (items ++ all_items (take i lists)) (get_or lists i []) (c.sketch.invariant.1 lists items each stands) its)),
)

pub returns-clause-stands : goal.returns-clause-stands
returns-clause-stands c = λ lists items each stands.
    let all : length lists ≤ c.sketch.place = omega (arith, stand_count c.args.into.now.k c.args.sketches.now.items lists each) in
    subst (λ (l : List (List ℕ)). StandsFor c.sketch.into (items ++ all_items l)) (take_all c.sketch.place lists all) (c.sketch.invariant.1 lists items each stands)
