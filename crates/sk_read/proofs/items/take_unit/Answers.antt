use Rattle.std.proofs.Common.{◌≡◌, ◌<◌, ℕ, List, length, Some, IsSome, sym, subst, arith, rules}
use Rattle.std.proofs.lemmas.List.Elements.{All-push}
use Rattle.sk_read.specs.Items.{items_by, item_of, IsGood}
use Rattle.sk_read.proofs.ItemLaws.{items_are_fewer, items_of_more, items_of_empty}
use Rattle.sk_read.proofs.items.take_unit.Goals as goal

pub returns-then-is_empty-clause-gave : goal.returns-then-is_empty-clause-gave
returns-then-is_empty-clause-gave g c = λ units place gave.
    let none : length c.args.unit.now ≡ 0 = search rules in (
      All-push (IsGood c.args.kind) units c.args.unit.now gave.0 (λ some. absurd (omega (arith, some, none))),
      subst (λ (items : List ℕ). g.T.Taker.stands_for c.args.taker.now items) (sym (items_of_empty c.args.kind units c.args.unit.now none)) gave.1,
    )

pub take-requires-clause-room : goal.take-requires-clause-room
take-requires-clause-room g c =
    let units = c.requires.behind.0 in
    (items_by c.args.kind units, omega (arith, c.requires.behind.1, c.requires.room, items_are_fewer c.args.kind units), c.requires.behind.2.1)

is_some : (kind : _) (unit : List ℕ) (item : ℕ) → item_of kind unit ≡ Some item → IsSome (item_of kind unit)
is_some kind unit item is = rw is (search rules)

pub returns-in-Some-clause-gave : goal.returns-in-Some-clause-gave
returns-in-Some-clause-gave g c = λ units place gave.
    let some : 0 < length c.args.unit.now = search rules in
    let is : item_of c.args.kind c.args.unit.now ≡ Some c.in-Some.item = search rules in (
      All-push (IsGood c.args.kind) units c.args.unit.now gave.0 (λ _. is_some c.args.kind c.args.unit.now c.in-Some.item is),
      subst (λ (items : List ℕ). g.T.Taker.stands_for c.take.new.self items) (sym (items_of_more c.args.kind units c.args.unit.now c.in-Some.item some is))
          (c.take.ensures.stands (items_by c.args.kind units) (omega (arith, place, c.requires.room, items_are_fewer c.args.kind units)) gave.1),
    )
