use Rattle.std.proofs.Common.{◌<◌, ◌+◌, ℕ, List, map, slice_range, arith}
use Rattle.sk_desks.proofs.Taking.{takes_unlabelled, names_stay}
use Rattle.sk_desks.proofs.ClerkLaws.{empty_unlabelled, range_size}
use Rattle.sk_desks.proofs.LookLaws.{its_place, its_item}
use Rattle.sk_desks.proofs.calls.give_item.Goals as goal

pub returns-then-at-span-clause-took : goal.returns-then-at-span-clause-took
returns-then-at-span-clause-took g c =
    let text = c.args.text.now in let from = c.args.span.from in let to = c.args.span.to in
    let line : List ℕ = slice_range text from to in
    let size = range_size text from to c.requires.order c.requires.within in
    takes_unlabelled c.args.seed c.args.desk.now line (empty_unlabelled line (c.requires.label.none (omega (arith, c.if-at-span.true, size, c.requires.order))))

pub insist-requires-clause-place : goal.insist-requires-clause-place
insist-requires-clause-place g c =
    let text = c.args.text.now in let from = c.args.span.from in let to = c.args.span.to in let found = c.args.found in
    let some : from + found.item < to = omega (arith, c.requires.label.within, c.if-at-span.false, range_size text from to c.requires.order c.requires.within) in
    its_place c.args.seed c.args.desk.now text from to found.tenant found.item c.hash63_at-item.result c.requires.order c.requires.within c.requires.tenants c.requires.label some

pub returns-clause-took : goal.returns-clause-took
returns-clause-took g c =
    let text = c.args.text.now in let from = c.args.span.from in let to = c.args.span.to in let found = c.args.found in
    let some : from + found.item < to = omega (arith, c.requires.label.within, c.if-at-span.false, range_size text from to c.requires.order c.requires.within) in
    its_item c.args.seed c.args.desk.now text from to found.tenant found.item c.hash63_at-item.result c.requires.order c.requires.within c.requires.tenants c.requires.label some
    c.hash63_at-item.ensures.value c.insist.new.desk c.insist.ensures

pub returns-clause-names : goal.returns-clause-names
returns-clause-names g c = names_stay c.args.desk.now c.insist.new.desk (map (λ call. (c.args.found.tenant, call)) c.insist.ensures.calls) c.insist.ensures.done
