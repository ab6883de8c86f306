use Rattle.std.proofs.Common.{◌≡◌, ◌+◌, ◌-◌, ◌<◌, ℕ, List, ◌++◌, length, take, drop, arith, get_or, refl, ap, ◌∙◌}
use Rattle.std.proofs.lemmas.List.{get_or_read, length-take-le, with_items_is}
use Rattle.sk_quant.proofs.Merges.{waits_in_front, merging_goes_on, merging_is_done}
use Rattle.sk_quant.proofs.compaction.merge.Goals as goal
use Rattle.sk_quant.proofs.compaction.merge.Goals.{then-merge-test+else-right-gt0, else-merge-test}

pub merge-preserved : goal.merge-preserved
merge-preserved c =
    let others = c.args.others.now in
    let items = c.args.items.now.items in
    let now = c.merge.items.items in
    let left = c.merge.left in
    let right = c.merge.right in
    let item = c.index.result.now in
    let so_far = c.merge.invariant.merging in
    let within : left - 1 < length now = omega (arith, c.merge-test.true, so_far.len, so_far.items_wait) in
    let read : item ≡ get_or now (left - 1) 0 = get_or_read now (left - 1) item within c.index.ensures 0 in
    let there = waits_in_front others items now left right (left - 1) (omega (arith, c.merge-test.true)) so_far in
    record {
      merging = merging_goes_on others items now left right item (get_or others (right - 1) 0) c.greater_of-last.result c.requires.others c.requires.items
          (omega (arith, c.merge-test.true)) (omega (arith, c.if-right-gt0.true)) (read ∙ there) refl c.greater_of-last.ensures.first c.greater_of-last.ensures.second so_far;
      room = c.merge.invariant.room;
    }

pub put_first-requires : goal.put_first-requires
put_first-requires c =
    let so_far = c.merge.invariant.merging in
    omega (
      arith,
      length-take-le c.merge.right c.args.others.now so_far.others_wait,
      so_far.len,
      so_far.others_wait,
      ap (λ (l : List ℕ). length l) c.deref_mut.ensures.value,
    )

pub returns-clause-items : goal.returns-clause-items
returns-clause-items c =
    let others = c.args.others.now in
    let items = c.args.items.now.items in
    let left = c.merge.left in
    let right = c.merge.right in
    let so_far = c.merge.invariant.merging in
    let last : 0 < left → right ≡ 0 = elim c.merge-test.branch [
      | then-merge-test+else-right-gt0 w ↦ λ _. omega (arith, w.if-right-gt0.false)
      | else-merge-test w ↦ λ some. absurd (omega (arith, w.merge-test.false, some))
    ] in
    let first : length (take right others) ≡ right = length-take-le right others so_far.others_wait in
    with_items_is c.merge.items c.put_first.new.items (omega (arith, c.put_first.auto.items, ap (λ (l : List ℕ). length l) c.deref_mut.ensures.value, c.merge.items.ok.0))
    ∙ c.put_first.ensures
    ∙ ap (λ (n : ℕ). take right others ++ drop n c.deref_mut.result.now) first
    ∙ ap (λ (l : List ℕ). take right others ++ drop right l) c.deref_mut.ensures.value
    ∙ merging_is_done others items c.merge.items.items left right c.requires.others c.requires.items last so_far
