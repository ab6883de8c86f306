use Rattle.std.proofs.Common.{◌≡◌, [], length, map, flat_map, get_or, rules, ap, ◌∙◌, arith}
use Rattle.std.specs.List.{range_with_len}
use Rattle.sk_model.specs.Sketch.{packed_of}
use Rattle.sk_model.specs.Width.{AreItems}
use Rattle.sk_compose.specs.Numbers.{k_of}
use Rattle.uses.specs.Fed.{AreFed}
use Rattle.uses.proofs.Parts.{none_kept, all_at_table, all_numbered, all_kept, all_parts, part_holds}
use Rattle.uses.proofs.streams.count_streams.Goals as goal

pub join-updaters-requires-after_bounds : goal.join-updaters-requires-after_bounds
join-updaters-requires-after_bounds g c κs within =
    let none = none_kept g.C.Composable.hint_of _ c.in_ok-heart.field-0.heart c.in_ok-heart.field-0.updaters.items c.in_ok-heart.ensures.updaters in
    search rules

pub drain_all-requires-clause-table : goal.drain_all-requires-clause-table
drain_all-requires-clause-table g c =
    let k = g.C.Composable in let o = c.in_ok-heart.field-0 in let us = o.updaters.items in let us' = c.join-updaters.result.0.items in
    let streams = map (λ stream. stream.items) c.args.streams.now in
    let fed : AreFed k.keeps_of k.hint_of us streams us' = search rules in
    all_at_table k.keeps_of k.hint_of _ o.heart us us' streams c.in_ok-heart.ensures.updaters fed.each fed.count

pub drain_all-requires-clause-numbers : goal.drain_all-requires-clause-numbers
drain_all-requires-clause-numbers g c =
    let k = g.C.Composable in let o = c.in_ok-heart.field-0 in let us = o.updaters.items in let us' = c.join-updaters.result.0.items in
    let streams = map (λ stream. stream.items) c.args.streams.now in
    let fed : AreFed k.keeps_of k.hint_of us streams us' = search rules in
    all_numbered k.keeps_of k.hint_of _ o.heart us us' streams c.in_ok-heart.ensures.updaters fed.each fed.count

pub returns-clause-last : goal.returns-clause-last
returns-clause-last g c =
    let k = g.C.Composable in let o = c.in_ok-heart.field-0 in let us = o.updaters.items in let us' = c.join-updaters.result.0.items in
    let parts = c.args.streams.now in let streams = map (λ stream. stream.items) parts in
    let numbers = k.numbers c.args.global in let list = c.drain_all.new.heart.view.seen in
    let made = c.in_ok-heart.ensures in let has = c.in_ok-last.ensures.seen in
    let fed : AreFed k.keeps_of k.hint_of us streams us' = search rules in
    let count : length us' ≡ length parts = omega (arith, fed.count, made.count, c.requires.count) in
    let kept = all_kept k.keeps_of k.hint_of _ o.heart us us' streams made.updaters fed.each fed.count numbers list made.heart.numbers_are has (c.kept_stays.ensures k.keeps_of (k.hint_of numbers)) in
    let word = c.the_word_is_of_all_items.ensures numbers list (length us') (λ i. get_or streams i [])
    has.only
    (λ i within. part_holds (λ stream. stream.items) AreItems parts i (omega (arith, count)) c.requires.items)
    (λ i within. kept i (omega (arith, fed.count))) in
    c.in_ok-last.ensures.word
    ∙ ap (λ n. k.packed_of n list) made.heart.numbers_are
    ∙ word
    ∙ ap (λ n. packed_of (k_of numbers) (flat_map (λ i. get_or streams i []) (range_with_len 0 n))) count
    ∙ ap (λ l. packed_of (k_of numbers) l) (all_parts (λ stream. stream.items) parts)
