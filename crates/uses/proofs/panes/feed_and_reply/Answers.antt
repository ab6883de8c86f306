use Rattle.std.proofs.Common.{◌≡◌, List, length, map, All, sym, ap, subst, arith}
use Rattle.sk_hub.specs.Hearts.{HeartState}
use Rattle.sk_hub.specs.Updaters.{UpdaterState}
use Rattle.sk_snap.specs.History.{name_of}
use Rattle.sk_learn.specs.Closing.{AreApart}
use Rattle.sk_learn.specs.Learning.{AreAsked}
use Rattle.sk_window.specs.Panes.{PanesState}
use Rattle.uses.specs.Replies.{keeps, hint_of, RepliesNow}
use Rattle.uses.proofs.Intervals.{fed_names, asked_tables, asked_apart}
use Rattle.uses.proofs.Tallied.{as_lent}
use Rattle.uses.proofs.panes.feed_and_reply.Goals as goal

pub feed_streams-updaters-requires-clause-none : goal.feed_streams-updaters-requires-clause-none
feed_streams-updaters-requires-clause-none g c κs pre = λ i d within. (c.requires.fresh.each i d within).kept

pub reply_now-requires : goal.reply_now-requires
reply_now-requires g c =
    let p = c.args.panes.now in
    record {
      names = subst (λ (l : List UpdaterState). All (λ (u : UpdaterState). u.view.name ≡ name_of p.learnt.known.book) l) (sym c.as_mut_slice.ensures.value)
          (fed_names p.shape p.heart c.args.updaters.items p.learnt c.requires.fresh keeps hint_of (map (λ stream. stream.items) c.args.streams.now)
          c.feed_streams-updaters.result.items c.feed_streams-updaters.ensures);
    }

pub returns-clause-reply : goal.returns-clause-reply
returns-clause-reply g c = λ lists each. record {
  fed = c.feed_streams-updaters.result.items;
  took = c.feed_streams-updaters.ensures;
  now = subst (λ (l : List UpdaterState). RepliesNow c.args.panes.now.shape.k l lists c.in_ok-reply.reply) c.as_mut_slice.ensures.value (c.in_ok-reply.ensures.reply lists each);
}

pub returns-clause-tables : goal.returns-clause-tables
returns-clause-tables g c =
    let p = c.args.panes.now in
    let fed = c.feed_streams-updaters.result in
    let asked = c.reply_now.new.updaters in
    let asks : AreAsked fed.items (length fed.items) asked = subst (λ (l : List UpdaterState). AreAsked l (length l) asked) c.as_mut_slice.ensures.value c.in_ok-reply.ensures.asked in
    let long : length asked ≡ fed.len = omega (arith, c.reply_now.auto.updaters, c.as_mut_slice.ensures.len) in
    let heart : c.reply_now.new.panes.heart ≡ p.heart = ap (λ (z : PanesState). z.heart) c.in_ok-reply.ensures.stays in
    as_lent (λ l. All (λ (u : UpdaterState). u.table ≡ c.reply_now.new.panes.heart.table) l) asked fed.items fed.len long
    (subst (λ (h : HeartState). All (λ (u : UpdaterState). u.table ≡ h.table) asked) (sym heart)
    (asked_tables p.shape p.heart c.args.updaters.items p.learnt c.requires.fresh keeps hint_of (map (λ stream. stream.items) c.args.streams.now) fed.items c.feed_streams-updaters.ensures asked asks))

pub returns-clause-apart : goal.returns-clause-apart
returns-clause-apart g c =
    let p = c.args.panes.now in
    let fed = c.feed_streams-updaters.result in
    let asked = c.reply_now.new.updaters in
    let asks : AreAsked fed.items (length fed.items) asked = subst (λ (l : List UpdaterState). AreAsked l (length l) asked) c.as_mut_slice.ensures.value c.in_ok-reply.ensures.asked in
    let long : length asked ≡ fed.len = omega (arith, c.reply_now.auto.updaters, c.as_mut_slice.ensures.len) in
    as_lent (λ l. AreApart l) asked fed.items fed.len long
    (asked_apart p.shape p.heart c.args.updaters.items p.learnt c.requires.fresh keeps hint_of (map (λ stream. stream.items) c.args.streams.now) fed.items c.feed_streams-updaters.ensures asked asks)
