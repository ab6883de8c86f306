use Rattle.std.proofs.Common.{◌≡◌, inl, inr, ℕ, Option, Some, [], ◌∷◌, ◌++◌, length, sym, ap, ap₂, ◌∙◌, arith, rules, length-append}
use Rattle.std.specs.Prelude.{slice_get}
use Rattle.sk_image.specs.Union.{lesser}
use Rattle.sk_image.proofs.Walks.{walk_starts, walk_step, walk_ends, none_left}
use Rattle.sk_image.proofs.merge.least_of_both.Goals as goal
use Rattle.sk_image.proofs.merge.least_of_both.Goals.{else-walk-test, then-walk-test+in_default}

pub walk-init : goal.walk-init
walk-init c = record {
  walked = rw c.in_ok-least.ensures.items (walk_starts c.args.a.now c.args.b.now c.requires.a_rises c.requires.b_rises);
  most = omega (arith, ap length c.in_ok-least.ensures.items);
  room = search rules;
}

pub walk-preserved : goal.walk-preserved
walk-preserved c =
    let walked = c.walk.invariant.walked in
    let heads : lesser (slice_get c.walk.a.now 0) (slice_get c.walk.b.now 0) ≡ Some c.in-Some.next =
    sym (ap₂ (λ (x y : Option ℕ). lesser x y) (c.copied.ensures ∙ c.first.ensures.value) (c.copied-in-walk.ensures ∙ c.first-in-walk.ensures.value)) ∙ sym c.lesser.ensures ∙ c.in-Some.is in
    record {
      walked = rw (c.push_reserved.ensures.items, c.without_first-a.ensures, c.without_first-b.ensures)
          (walk_step c.walk.least.items c.walk.a.now c.walk.b.now (c.args.a.now ++ c.args.b.now) c.in-Some.next walked heads);
      most = omega (arith, ap length c.push_reserved.ensures.items, length-append c.walk.least.items (c.in-Some.next ∷ []), c.walk-test.true, c.len.ensures, c.walk.least.ok.0);
      room = search rules;
    }

pub returns : goal.returns
returns c = walk_ends c.args.k c.walk.least.items c.walk.a.now c.walk.b.now (c.args.a.now ++ c.args.b.now) c.walk.invariant.walked c.walk.invariant.most (elim c.walk-test.branch [
  | else-walk-test w ↦ inl (omega (arith, w.walk-test.false, c.len.ensures, c.walk.least.ok.0))
  | then-walk-test+in_default w ↦ inr (none_left c.walk.a.now c.walk.b.now
      (sym (ap₂ (λ (x y : Option ℕ). lesser x y) (w.copied.ensures ∙ w.first.ensures.value) (w.copied-in-walk.ensures ∙ w.first-in-walk.ensures.value)) ∙ sym w.lesser.ensures ∙ w.in_default.is))
])
