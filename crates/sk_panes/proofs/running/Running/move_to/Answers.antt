use Rattle.std.proofs.Common.{◌≡◌, ◌/◌, ℕ, [], List, Some, slice_set, refl, sym, ap, subst}
use Rattle.sk_hub.specs.Updaters.{UpdaterState}
use Rattle.sk_learn.specs.Closing.{AreApart}
use Rattle.sk_window.specs.Intervals.{StandForEach}
use Rattle.sk_window.specs.Panes.{Moves}
use Rattle.sk_window.specs.declared.frame.Frame.{Frame}
use Rattle.sk_panes.specs.Panes.{running_after}
use Rattle.sk_panes.specs.Running.{items_of_interval, lists_before, ComesTo, FeedsSmallest}
use Rattle.sk_panes.proofs.Feeding.{hands_in, has_room}
use Rattle.sk_panes.proofs.Closing.{apart, its_lists, comes_later}
use Rattle.sk_panes.proofs.running.Running.move_to.Goals as goal

pub hand_to-requires : goal.hand_to-requires
hand_to-requires g c =
    let stands = c.requires.stands.1.stands in
    record { room = has_room c.args.self.now.plan c.args.self.now.panes.heart c.args.self.now.updaters.items c.index_mut.result.now stands.feeds c.index_mut.ensures.value }

pub returns-in-Moved-clause-came : goal.returns-in-Moved-clause-came
returns-in-Moved-clause-came g c = λ lines after.
    let plan = c.args.self.now.plan in
    let p = c.args.self.now.panes in
    let held = c.args.self.now.candidates in
    let first = c.args.self.now.updaters.items in
    let us = slice_set first 0 c.hand_to.new.u in
    let u = c.index.result.now in
    let q = c.advance.new.self in
    let st = after.stands in
    let whole = c.number-number.ensures.whole in
    let items = items_of_interval plan lines (running_after plan lines) in
    let feeds : FeedsSmallest plan p.heart items us = hands_in plan p.heart items held first c.index_mut.result.now c.hand_to.new.u st.feeds c.index_mut.ensures.value st.held_k st.held_is c.in_ok-hand_to.ensures.taken in
    let entry : us ≡ c.replace-updaters.result.items = rw c.replace-updaters.ensures.value refl in
    let lists = lists_before plan lines (running_after plan lines) in
    let alone : AreApart c.replace-updaters.result.items = subst AreApart entry (apart plan lines p first us held u _ st feeds whole c.index.ensures) in
    let each : StandForEach p.shape.k p.closed lists = its_lists plan lines p first us held u _ st feeds whole c.index.ensures in
    let us' = c.in-Moved.updaters.items in
    let moved = c.in-Moved.ensures.moved c.in-Moved.reply c.in-Moved.updaters refl in
    let moves : Moves p (c.args.moment / p.frame.span) us lists c.in-Moved.reply us' q =
    subst (λ (v : List UpdaterState). Moves p (c.args.moment / p.frame.span) v lists c.in-Moved.reply us' q) (sym entry) (moved.1 [] lists st.none alone each) in
    subst (λ (n : ℕ). ComesTo plan lines n (Some (record { interval = c.running-interval.result; reply = c.in-Moved.reply })) q us' c.hand_to.new.self) (ap (λ (f : Frame). c.args.moment / f.span) st.frame)
    (comes_later plan lines p first us held u _ st feeds whole c.index.ensures (c.args.moment / p.frame.span) c.in-Moved.reply us' q c.running-interval.result c.hand_to.new.self moved.0 moves
    c.in-Moved.ensures.frame c.in-Moved.ensures.shape c.running-interval.ensures.value c.in_ok-hand_to.ensures.k c.in_ok-hand_to.ensures.none)
