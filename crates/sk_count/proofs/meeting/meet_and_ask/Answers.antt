use Rattle.std.proofs.Common.{◌≡◌, List, length, sym, subst, ap, ◌∙◌}
use Rattle.std.specs.Vec.{with_items}
use Rattle.std.proofs.lemmas.List.{with_items_is}
use Rattle.sk_hub.specs.Updaters.{UpdaterState}
use Rattle.sk_feed.specs.Hubs.{Hub, hub_of, IsHub, LeavesHub}
use Rattle.sk_feed.proofs.HubLaws.{heart_waits}
use Rattle.sk_count.specs.Hubs.{AsksHub}
use Rattle.sk_count.specs.Meets.{MayMeetAll, MeetsFirst, AreNoted, split_off, FirstHear}
use Rattle.sk_count.proofs.MeetingLaws.{may_meet_hub, tables_are, b, asks, leaves, still_hub}
use Rattle.sk_count.proofs.meeting.meet_and_ask.Goals as goal

pub meet_all-requires : goal.meet_all-requires
meet_all-requires c = record { may = subst (λ (l : List UpdaterState). MayMeetAll c.args.opened.now.token l) (sym c.as_mut_slice-updaters.ensures.value) (may_meet_hub (hub_of c.args.opened.now) c.requires.hub) }

pub give_notes-requires : goal.give_notes-requires
give_notes-requires c =
    let a : Hub = hub_of c.args.opened.now in
    let same = c.as_mut_slice-updaters.ensures.value in
    let met : MeetsFirst a.token a.updaters (length a.updaters) c.meet_all.new.token = subst (λ (l : List UpdaterState). MeetsFirst a.token l (length l) c.meet_all.new.token) same c.meet_all.ensures.met in
    let noted : AreNoted a.updaters (length a.updaters) c.meet_all.new.updaters = subst (λ (l : List UpdaterState). AreNoted l (length l) c.meet_all.new.updaters) same c.meet_all.ensures.noted in
    record { tables = tables_are a c.meet_all.new.token c.meet_all.new.updaters c.requires.hub met noted c.ask-word.new.self c.ask-word.ensures.table }

pub returns : goal.returns
returns c =
    let a : Hub = hub_of c.args.opened.now in
    let t = c.meet_all.new.token in
    let us = c.meet_all.new.updaters in
    let same = c.as_mut_slice-updaters.ensures.value in
    let met : MeetsFirst a.token a.updaters (length a.updaters) t = subst (λ (l : List UpdaterState). MeetsFirst a.token l (length l) t) same c.meet_all.ensures.met in
    let noted : AreNoted a.updaters (length a.updaters) us = subst (λ (l : List UpdaterState). AreNoted l (length l) us) same c.meet_all.ensures.noted in
    let t1 = c.ask-word.new.self in
    let us1 = c.give_notes.new.updaters in
    let heard : FirstHear t1.view.seen us (length a.updaters) us1 = subst (λ n. FirstHear t1.view.seen us n us1) noted.count c.give_notes.ensures.heard in
    let token : split_off (length a.updaters) t1 ≡ c.give_notes.new.token = ap (λ n. split_off n t1) (sym noted.count) ∙ sym c.give_notes.ensures.token in
    let v = c.args.opened.now.updaters in
    let items : (with_items v us1).items ≡ us1 = with_items_is v us1 (heard.count ∙ noted.count ∙ sym v.ok.0) in
    let now : Hub = record { heart = a.heart; updaters = (with_items v us1).items; token = c.give_notes.new.token } in
    let is : b a t us c.requires.hub met noted c.ask-word.result t1 c.ask-word.ensures.table c.ask-word.ensures.reply us1 heard ≡ now = λ d. record { heart = a.heart; updaters = sym items d; token = token d } in
    record {
      asks = subst (λ (b : Hub). AsksHub a c.ask-word.result b) is (asks a t us c.requires.hub met noted c.ask-word.result t1 c.ask-word.ensures.table c.ask-word.ensures.reply us1 heard);
      leaves = subst (λ (b : Hub). LeavesHub a b) is (leaves a t us c.requires.hub met noted c.ask-word.result t1 c.ask-word.ensures.table c.ask-word.ensures.reply us1 heard (heart_waits a.heart));
      hub = subst (λ (b : Hub). IsHub b) is (still_hub a t us c.requires.hub met noted c.ask-word.result t1 c.ask-word.ensures.table c.ask-word.ensures.reply us1 heard);
    }
