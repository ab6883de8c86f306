use Rattle.std.proofs.Common.{◌+◌, ◌++◌, List, ℕ, Option, Bor, length, option_map, option_copied, ap, ◌∙◌, arith}
use Rattle.sk_cli.specs.Values.{numbers_from, parts_in}
use Rattle.sk_cli.proofs.ValueLaws.{listed, read_all, some_part}
use Rattle.sk_cli.proofs.values.number_list.Goals as goal

pub returns-clause-value : goal.returns-clause-value
returns-clause-value c =
    let inv = c.part.invariant in
    let items = c.part.numbers in
    let count = ap (λ (r : Option (Bor (List ℕ))). length items + length (parts_in (option_copied r))) c.in_default.is in
    let read = inv.numbers ∙ ap (λ (r : Option (Bor (List ℕ))). option_map (λ (ns : List ℕ). items ++ ns) (numbers_from c.args.low c.args.high (parts_in (option_copied r)))) c.in_default.is in
    listed c.args.most c.args.low c.args.high c.args.word.now items (omega (arith, inv.count, count, inv.few)) (read_all c.args.low c.args.high _ items read)

pub returns-clause-some : goal.returns-clause-some
returns-clause-some c =
    let inv = c.part.invariant in
    let items = c.part.numbers in
    let count = ap (λ (r : Option (Bor (List ℕ))). length items + length (parts_in (option_copied r))) c.in_default.is in
    omega (arith, inv.count, count, some_part c.args.word.now)
