use Rattle.std.proofs.Common.{◌≡◌, ℕ, List, ◌+◌, ◌-◌, ◌≤◌, length, take, drop, ap, subst, ◌∙◌, arith, length-drop, length-take}
use Rattle.sk_hub.specs.Calls.{Takes}
use Rattle.sk_hub.proofs.Calls.{none_refl, takes_none, takes_trans, takes_few}
use Rattle.sk_hub.proofs.Each.{rest_of, part_more, stops_at}
use Rattle.sk_hub.proofs.updater.Updater.update_each.Goals as goal

pub items-init : goal.items-init
items-init g c = let k = g.C.Composable in record {
  within = omega arith;
  taken = takes_none k.keeps_of k.hint_of c.args.self.now c.args.self.now (none_refl c.args.self.now);
  room = omega (arith, c.requires.room);
}

pub returns-then-taken-eq0-clause-taken : goal.returns-then-taken-eq0-clause-taken
returns-then-taken-eq0-clause-taken g c =
    let k = g.C.Composable in let items : List ℕ = c.args.items.now in let at : ℕ = c.items.at in let n : ℕ = c.take_some-taken.result in
    let none : at + n ≡ at = omega (arith, c.if-taken-eq0.true) in
    let after : List ℕ = take (length items - at) (drop at items) in
    subst (λ (l : List ℕ). Takes k.keeps_of k.hint_of c.args.self.now l c.take_some-taken.new.self) (part_more at n items ∙ ap (λ (m : ℕ). take m items) none)
    (takes_trans k.keeps_of k.hint_of c.args.self.now c.items.self c.take_some-taken.new.self (take at items) (take n after) c.items.invariant.taken c.take_some-taken.ensures.taken)

pub returns-then-taken-eq0-clause-stops : goal.returns-then-taken-eq0-clause-stops
returns-then-taken-eq0-clause-stops g c = λ _.
    let k = g.C.Composable in
    stops_at k.keeps_of k.hint_of c.args.self.now c.items.self c.take_some-taken.new.self c.items.at c.args.items.now c.items.invariant.taken (c.take_some-taken.ensures.busy c.if-taken-eq0.true)

pub items-preserved : goal.items-preserved
items-preserved g c =
    let k = g.C.Composable in let items : List ℕ = c.args.items.now in let at : ℕ = c.items.at in let n : ℕ = c.take_some-taken.result in
    let after : List ℕ = take (length items - at) (drop at items) in
    let step = c.take_some-taken.ensures.taken in
    let long : length after ≡ length items - at = ap (λ (l : List ℕ). length l) (rest_of at items) ∙ length-drop at items in
    let within : at + n ≤ length items = omega (arith, c.take_some-taken.ensures.within, long, c.items.invariant.within) in record {
      within = within;
      taken = subst (λ (l : List ℕ). Takes k.keeps_of k.hint_of c.args.self.now l c.take_some-taken.new.self) (part_more at n items)
          (takes_trans k.keeps_of k.hint_of c.args.self.now c.items.self c.take_some-taken.new.self (take at items) (take n after) c.items.invariant.taken step);
      room = omega (arith, within, c.items.invariant.room, takes_few k.keeps_of k.hint_of c.items.self c.take_some-taken.new.self (take n after) step, length-take n after);
    }
