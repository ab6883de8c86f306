use Rattle.std.proofs.Common.{◌≡◌, [], List, slice_set, refl, sym, subst}
use Rattle.sk_hub.specs.Updaters.{UpdaterState}
use Rattle.sk_learn.specs.Closing.{AreApart}
use Rattle.sk_window.specs.Intervals.{StandForEach}
use Rattle.sk_window.specs.Panes.{Closes}
use Rattle.sk_panes.specs.Panes.{running_after}
use Rattle.sk_panes.specs.Running.{items_of_interval, lists_before, FeedsSmallest}
use Rattle.sk_panes.proofs.Feeding.{hands_in, has_room}
use Rattle.sk_panes.proofs.Closing.{apart, its_lists, is_last}
use Rattle.sk_panes.proofs.running.Running.finish.Goals as goal

pub hand_to-requires : goal.hand_to-requires
hand_to-requires g c =
    let stands = c.requires.stands.1.stands in
    record { room = has_room c.args.self.now.plan c.args.self.now.panes.heart c.args.self.now.updaters.items c.index_mut.result.now stands.feeds c.index_mut.ensures.value }

pub returns-clause-last : goal.returns-clause-last
returns-clause-last g c = λ lines after.
    let plan = c.args.self.now.plan in
    let p = c.args.self.now.panes in
    let held = c.args.self.now.candidates in
    let first = c.args.self.now.updaters.items in
    let us = slice_set first 0 c.hand_to.new.u in
    let u = c.index.result.now in
    let q = c.finish.new.self in
    let st = after.stands in
    let whole = c.number-number.ensures.whole in
    let items = items_of_interval plan lines (running_after plan lines) in
    let feeds : FeedsSmallest plan p.heart items us = hands_in plan p.heart items held first c.index_mut.result.now c.hand_to.new.u st.feeds c.index_mut.ensures.value st.held_k st.held_is c.in_ok-hand_to.ensures.taken in
    let entry : us ≡ c.replace-updaters.result.items = rw c.replace-updaters.ensures.value refl in
    let lists = lists_before plan lines (running_after plan lines) in
    let alone : AreApart c.replace-updaters.result.items = subst AreApart entry (apart plan lines p first us held u _ st feeds whole c.index.ensures) in
    let each : StandForEach p.shape.k p.closed lists = its_lists plan lines p first us held u _ st feeds whole c.index.ensures in
    let closes : Closes p us lists c.in-Done.reply q =
    subst (λ (v : List UpdaterState). Closes p v lists c.in-Done.reply q) (sym entry) (c.in-Done.ensures.done c.in-Done.reply refl [] lists st.none alone each) in
    is_last plan lines p first us held u _ st feeds whole c.index.ensures c.in-Done.reply q c.running-interval.result closes c.running-interval.ensures.value
