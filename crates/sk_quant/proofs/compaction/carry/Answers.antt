use Rattle.std.proofs.Common.{◌≤◌, ◌++◌, ℕ, length, vec_len, vec_capacity, List, Vec, Global, get_or, arith, sym, ap, subst, ◌∙◌, length-append}
use Rattle.std.proofs.lemmas.Bool.{eqb-true, eqb-false}
use Rattle.std.proofs.lemmas.List.{nil_from_length}
use Rattle.std.proofs.lemmas.List.Elements.{All-set}
use Rattle.std.specs.List.Sorted.{IsNonDecreasing}
use Rattle.sk_quant.specs.Coins.{Coins, coin_of}
use Rattle.sk_quant.specs.Held.{halved}
use Rattle.sk_quant.specs.Order.{in_order}
use Rattle.sk_quant.proofs.Carries.{there, goes_through, stops, ends}
use Rattle.sk_quant.proofs.Halves.{length-halved, halved_rises}
use Rattle.sk_quant.proofs.Orders.{in_order_rises, length-in_order}
use Rattle.sk_quant.proofs.compaction.carry.Goals as goal

pub unwrap-requires : goal.unwrap-requires
unwrap-requires c =
    let it = there c.args.k c.levels.level-index c.args.levels.now c.levels.levels c.level-item.result (omega arith) c.levels.auto.levels c.requires.levels.short c.levels.invariant.rooms c.levels.invariant.carrying in
    let none = eqb-true (vec_len (get_or c.levels.levels c.levels.level-index c.level-item.result)) 0 (sym c.is_empty.ensures ∙ c.if-is_empty.true) in
    let half = ap (λ (l : List ℕ). length l) c.halve.ensures.items ∙ length-halved c.toss.result c.levels.items.items in
    c.extend_from_slice.ensures.succeeds (omega (arith, none, half, it.room, c.deref.ensures.len))

pub returns-then-is_empty-clause-up : goal.returns-then-is_empty-clause-up
returns-then-is_empty-clause-up c =
    let level = get_or c.levels.levels c.levels.level-index c.level-item.result in
    let it = there c.args.k c.levels.level-index c.args.levels.now c.levels.levels c.level-item.result (omega arith) c.levels.auto.levels c.requires.levels.short c.levels.invariant.rooms c.levels.invariant.carrying in
    let none = eqb-true (vec_len level) 0 (sym c.is_empty.ensures ∙ c.if-is_empty.true) in
    let nothing = nil_from_length level.items (omega (arith, none, level.ok.0)) in
    let coin = c.toss.ensures.coin ∙ ap (λ (key : ℕ). coin_of key c.levels.coins.taken) c.levels.invariant.key in
    let half = c.halve.ensures.items ∙ ap (λ (n : ℕ). halved n c.levels.items.items) coin in
    let filled = rw c.unwrap.ensures at c.extend_from_slice.ensures.items in
    stops c.toss.new.self.taken c.levels.level-index c.args.levels.now c.levels.levels level c.extend_from_slice.new.self (omega arith) it nothing c.levels.invariant.carrying
    (ap (λ (s : Coins). s.taken) c.toss.ensures.next)
    (filled ∙ ap (λ (l : List ℕ). l ++ c.deref.result.now) nothing ∙ c.deref.ensures.value ∙ half)

pub merge-requires-clause-items : goal.merge-requires-clause-items
merge-requires-clause-items c =
    subst (λ (l : List ℕ). IsNonDecreasing l) (sym c.halve.ensures.items) (halved_rises c.toss.result c.levels.items.items c.levels.invariant.rise)

pub merge-requires-clause-others : goal.merge-requires-clause-others
merge-requires-clause-others c =
    let it = there c.args.k c.levels.level-index c.args.levels.now c.levels.levels c.level-item.result (omega arith) c.levels.auto.levels c.requires.levels.short c.levels.invariant.rooms c.levels.invariant.carrying in
    subst (λ (l : List ℕ). IsNonDecreasing l) (sym c.deref-in-levels.ensures.value) it.rises

pub merge-requires-clause-room : goal.merge-requires-clause-room
merge-requires-clause-room c =
    let it = there c.args.k c.levels.level-index c.args.levels.now c.levels.levels c.level-item.result (omega arith) c.levels.auto.levels c.requires.levels.short c.levels.invariant.rooms c.levels.invariant.carrying in
    let half = ap (λ (l : List ℕ). length l) c.halve.ensures.items ∙ length-halved c.toss.result c.levels.items.items in
    omega (arith, half, it.short, ap (λ (l : List ℕ). length l) c.deref-in-levels.ensures.value)

pub levels-preserved : goal.levels-preserved
levels-preserved c =
    let level = get_or c.levels.levels c.levels.level-index c.level-item.result in
    let it = there c.args.k c.levels.level-index c.args.levels.now c.levels.levels c.level-item.result (omega arith) c.levels.auto.levels c.requires.levels.short c.levels.invariant.rooms c.levels.invariant.carrying in
    let some = eqb-false (vec_len level) 0 (sym c.is_empty.ensures ∙ c.if-is_empty.false) in
    let coin = c.toss.ensures.coin ∙ ap (λ (key : ℕ). coin_of key c.levels.coins.taken) c.levels.invariant.key in
    let half = c.halve.ensures.items ∙ ap (λ (n : ℕ). halved n c.levels.items.items) coin in
    let long = ap (λ (l : List ℕ). length l) half ∙ length-halved (coin_of c.args.coins.now.key c.levels.coins.taken) c.levels.items.items in
    let more = c.merge.ensures.items ∙ ap (λ (l : List ℕ). in_order (l ++ c.halve.new.items.items)) c.deref-in-levels.ensures.value in
    let longer = ap (λ (l : List ℕ). length l) more ∙ length-in_order (level.items ++ c.halve.new.items.items) ∙ length-append level.items c.halve.new.items.items in
    record {
      carrying = goes_through c.toss.new.self.taken c.levels.level-index c.merge.new.items.items c.args.levels.now c.levels.levels level c.clear.new.self (omega arith) it (omega (arith, some, level.ok.0)) c.levels.invariant.carrying
          (ap (λ (s : Coins). s.taken) c.toss.ensures.next)
          (more ∙ ap (λ (l : List ℕ). in_order (level.items ++ l)) half)
          c.clear.ensures.items;
      key = ap (λ (s : Coins). s.key) c.toss.ensures.next ∙ c.levels.invariant.key;
      taken = omega (arith, ap (λ (s : Coins). s.taken) c.toss.ensures.next, c.levels.invariant.taken);
      few = omega (arith, longer, long, it.short);
      rise = subst (λ (l : List ℕ). IsNonDecreasing l) (sym more) (in_order_rises (level.items ++ c.halve.new.items.items));
      room = omega (arith, c.levels.invariant.room, c.halve.ensures.room, c.merge.ensures.room);
      rooms = All-set (λ (v : Vec ℕ Global). c.args.k ≤ vec_capacity v) c.levels.levels c.levels.level-index c.clear.new.self (omega (arith, c.clear.ensures.capacity, it.room)) c.levels.invariant.rooms;
    }

pub returns-clause-up : goal.returns-clause-up
returns-clause-up c =
    ends c.levels.level-index c.args.levels.now c.levels.levels c.levels.auto.levels (omega arith) c.levels.invariant.carrying
