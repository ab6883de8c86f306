use Rattle.std.proofs.Common.{◌≡◌, ℕ, List, length, map, flat_map, get_or, [], All, sym, ap, subst, ◌∙◌, arith}
use Rattle.std.specs.List.{range_with_len}
use Rattle.std.proofs.lemmas.List.{length-map}
use Rattle.sk_snap.specs.History.{entries_in}
use Rattle.sk_snap.specs.Versions.{items_in}
use Rattle.sk_learn.specs.Closing.{AreApart, HasExactly}
use Rattle.sk_cms.specs.Tallies.{IsTally, cms_numbers}
use Rattle.uses.specs.Tallied.{HaveKept}
use Rattle.uses.proofs.Parts.{all_parts}
use Rattle.uses.proofs.Tallied as lemmas
use Rattle.uses.proofs.count_min.how_often.Goals as goal

pub close-requires-clause-table : goal.close-requires-clause-table
close-requires-clause-table g c =
    let h = c.in_ok-heart.heart in let us = c.as_mut_slice.result.now in let us' = c.learn_all.new.updaters in
    let b = c.args.shape.now.b in let streams = map (λ stream. stream.items) c.args.streams.now in
    let have : HaveKept h b streams us = subst (λ l. HaveKept h b streams l) (sym c.as_mut_slice.ensures.value) c.in_ok-heart.ensures.kept in
    let long : length us' ≡ c.in_ok-heart.updaters.len = omega (arith, c.learn_all.auto.updaters, c.as_mut_slice.ensures.len) in
    lemmas.as_lent (λ l. All (λ u. u.table ≡ h.table) l) us' c.in_ok-heart.updaters.items c.in_ok-heart.updaters.len long (lemmas.at_table h b streams us us' have c.learn_all.ensures.asked)

pub close-requires-clause-apart : goal.close-requires-clause-apart
close-requires-clause-apart g c =
    let h = c.in_ok-heart.heart in let us = c.as_mut_slice.result.now in let us' = c.learn_all.new.updaters in
    let b = c.args.shape.now.b in let streams = map (λ stream. stream.items) c.args.streams.now in
    let have : HaveKept h b streams us = subst (λ l. HaveKept h b streams l) (sym c.as_mut_slice.ensures.value) c.in_ok-heart.ensures.kept in
    let long : length us' ≡ c.in_ok-heart.updaters.len = omega (arith, c.learn_all.auto.updaters, c.as_mut_slice.ensures.len) in
    lemmas.as_lent (λ l. AreApart l) us' c.in_ok-heart.updaters.items c.in_ok-heart.updaters.len long (lemmas.are_apart h b streams us us' have c.learn_all.ensures.asked)

pub returns-clause-meanwhile : goal.returns-clause-meanwhile
returns-clause-meanwhile g c =
    let h = c.in_ok-heart.heart in let us = c.as_mut_slice.result.now in let r = c.in_ok-sketch.reader in let s = c.learn_all.new.reader in let t = c.read-meanwhile.new.self in
    let rows = c.args.setup.rows in let width = c.args.setup.width in let said = c.read-meanwhile.result in
    let b = c.args.shape.now.b in let streams = map (λ stream. stream.items) c.args.streams.now in
    let have : HaveKept h b streams us = subst (λ l. HaveKept h b streams l) (sym c.as_mut_slice.ensures.value) c.in_ok-heart.ensures.kept in
    let numbers : s.numbers ≡ cms_numbers rows width = c.learn_all.ensures.learns.goes.numbers ∙ c.in_ok-sketch.ensures.numbers.1 in
    lemmas.tally_meanwhile c.args.x rows width b said.n said.least h streams us r s t have c.learn_all.ensures.learns c.read-meanwhile.ensures.begins
    (lemmas.with_numbers c.args.x rows width said.n said.least s.numbers (items_in t.known) numbers c.read-meanwhile.ensures.gives)

pub returns-clause-grows : goal.returns-clause-grows
returns-clause-grows g c =
    let s = c.learn_all.new.reader in let t = c.read-meanwhile.new.self in let v = c.close.new.reader in
    let rows = c.args.setup.rows in let width = c.args.setup.width in let x = c.args.x in let said = c.read-meanwhile.result in let last = c.in_ok-last.last in
    let numbers : s.numbers ≡ cms_numbers rows width = c.learn_all.ensures.learns.goes.numbers ∙ c.in_ok-sketch.ensures.numbers.1 in
    lemmas.tally_grows x rows width t v said.n said.least last.n last.least c.in_ok-last.ensures.closed.takes.goes.grows (c.never_falls.ensures rows width x)
    (lemmas.with_numbers x rows width said.n said.least s.numbers (items_in t.known) numbers c.read-meanwhile.ensures.gives)
    (lemmas.with_numbers x rows width last.n last.least t.numbers (items_in v.known) (c.read-meanwhile.ensures.numbers ∙ numbers) c.in_ok-last.ensures.gives)

pub returns-clause-last : goal.returns-clause-last
returns-clause-last g c =
    let h = c.in_ok-heart.heart in let us = c.as_mut_slice.result.now in let us' = c.learn_all.new.updaters in
    let s = c.learn_all.new.reader in let t = c.read-meanwhile.new.self in let v = c.close.new.reader in let list = entries_in v.known in
    let rows = c.args.setup.rows in let width = c.args.setup.width in let x = c.args.x in let last = c.in_ok-last.last in
    let parts = c.args.streams.now in let b = c.args.shape.now.b in let streams = map (λ stream. stream.items) parts in
    let have : HaveKept h b streams us = subst (λ l. HaveKept h b streams l) (sym c.as_mut_slice.ensures.value) c.in_ok-heart.ensures.kept in
    let long : length us' ≡ c.in_ok-heart.updaters.len = omega (arith, c.learn_all.auto.updaters, c.as_mut_slice.ensures.len) in
    let exactly : HasExactly list us' = lemmas.as_back (λ l. HasExactly list l) us' c.in_ok-heart.updaters.items c.in_ok-heart.updaters.len long c.in_ok-last.ensures.closed.exactly in
    let asked = c.learn_all.ensures.asked in
    let numbers : t.numbers ≡ cms_numbers rows width = c.read-meanwhile.ensures.numbers ∙ c.learn_all.ensures.learns.goes.numbers ∙ c.in_ok-sketch.ensures.numbers.1 in
    let tally = c.a_tally_is_of_all_items.ensures x rows width last.n last.least (length streams) list (λ i. get_or streams i [])
    (lemmas.only_theirs h b streams us us' have asked list exactly) (lemmas.of_each h b streams us us' have asked list exactly)
    (lemmas.with_numbers x rows width last.n last.least t.numbers (items_in v.known) numbers c.in_ok-last.ensures.gives) in
    let all : flat_map (λ i. get_or streams i []) (range_with_len 0 (length streams)) ≡ flat_map (λ stream. stream.items) parts =
    ap (λ (n : ℕ). flat_map (λ i. get_or streams i []) (range_with_len 0 n)) (length-map parts (λ stream. stream.items)) ∙ all_parts (λ stream. stream.items) parts in
    subst (λ (l : List ℕ). IsTally x rows width l last.n last.least) all tally
