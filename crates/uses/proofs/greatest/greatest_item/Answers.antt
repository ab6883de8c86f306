use Rattle.std.proofs.Common.{◌≡◌, [], length, get_or, sym, ap, subst, ◌∙◌, arith}
use Rattle.sk_hub.specs.Updaters.{kept_of}
use Rattle.sk_hub.specs.Calls.{Takes}
use Rattle.uses.proofs.Maximum.{above, hint_in, none_greatest}
use Rattle.uses.proofs.One.{hint_of_all, first_new, one_at, greatest_found}
use Rattle.uses.proofs.greatest.greatest_item.Goals as goal

pub open-requires : goal.open-requires
open-requires g c = record { fresh = c.new.ensures ∙ none_greatest }

pub feed_all-requires-clause-room : goal.feed_all-requires-clause-room
feed_all-requires-clause-room g c =
    let o = c.in_ok-heart.field-0 in let us = o.updaters.items in let u = c.index_mut.result.now in
    let one : length us ≡ 1 = c.in_ok-heart.ensures.count ∙ c.requires.alone in
    let none : kept_of u ≡ [] = ap kept_of c.index_mut.ensures.value ∙ (first_new _ o.heart us u u [] c.in_ok-heart.ensures.updaters one).kept in
    let e = ap length none in omega (arith, c.requires.room)

pub drain_all-requires-clause-table : goal.drain_all-requires-clause-table
drain_all-requires-clause-table g c = λ i d within.
    let o = c.in_ok-heart.field-0 in let us = o.updaters.items in let u = c.index_mut.result.now in
    let one : length us ≡ 1 = c.in_ok-heart.ensures.count ∙ c.requires.alone in
    ap (λ z. z.table) (one_at us c.feed_all.new.updater d i one within).0 ∙ c.feed_all.ensures.goes.table ∙ ap (λ z. z.table) c.index_mut.ensures.value ∙ (first_new _ o.heart us u u [] c.in_ok-heart.ensures.updaters one).table

pub drain_all-requires-clause-numbers : goal.drain_all-requires-clause-numbers
drain_all-requires-clause-numbers g c = λ i d within.
    let o = c.in_ok-heart.field-0 in let us = o.updaters.items in let u = c.index_mut.result.now in
    let one : length us ≡ 1 = c.in_ok-heart.ensures.count ∙ c.requires.alone in
    let at = one_at us c.feed_all.new.updater d i one within in
    ap (λ z. z.number) at.0 ∙ c.feed_all.ensures.goes.number ∙ ap (λ z. z.number) c.index_mut.ensures.value ∙ (first_new _ o.heart us u u [] c.in_ok-heart.ensures.updaters one).number_is ∙ sym at.1

pub returns : goal.returns
returns g c =
    let o = c.in_ok-heart.field-0 in let us = o.updaters.items in let u = c.index_mut.result.now in let u' = c.feed_all.new.updater in let items = c.args.items.now in
    let one : length us ≡ 1 = c.in_ok-heart.ensures.count ∙ c.requires.alone in
    let taken : Takes above hint_of_all (get_or us 0 u) items u' = subst (λ z. Takes above hint_of_all z items u') c.index_mut.ensures.value c.feed_all.ensures in
    c.in_ok-greatest.ensures.word
    ∙ greatest_found _ o.heart us u u' items c.in_ok-heart.ensures.updaters one c.drain_all.new.heart.view.seen (c.kept_stays.ensures above hint_in) taken c.in_ok-greatest.ensures.seen
