use Rattle.std.proofs.Common.{◌-◌, refl, length, drop, slice_range, ap, ◌∙◌, subst, arith, length-take}
use Rattle.sk_fill.specs.Windows.{items_in}
use Rattle.sk_hub.specs.Calls.{Takes}
use Rattle.sk_feed.proofs.OnItsWay.{sets_out, waits_on, arrives}
use Rattle.sk_feed.proofs.HubLaws.{heart_waits, heart_goes}
use Rattle.sk_feed.proofs.turns.feed_through.Goals as goal

pub again-init : goal.again-init
again-init g c =
    let k = g.C.Composable in let lines = c.args.window.now.lines in let block = c.args.block in let items = c.of-items.ensures in record {
      kind = items.kind;
      way = sets_out k.keeps_of k.hint_of (slice_range lines block.from block.to) c.args.u.now c.of-items.result items.waiting items.rest;
      room = omega (arith, c.requires.room, ap length items.waiting, ap length items.rest, length-take (block.to - block.from) (drop block.from lines));
      heart = heart_waits c.args.heart.now;
      quiet = λ other. refl;
    }

pub again-preserved : goal.again-preserved
again-preserved g c =
    let k = g.C.Composable in let inv = c.again.invariant in let fed = c.feed in let block = slice_range c.args.window.now.lines c.args.block.from c.args.block.to in record {
      kind = fed.ensures.kind ∙ inv.kind;
      way = waits_on k.keeps_of k.hint_of block c.args.u.now fed.new.u fed.new.self (fed.ensures.way block c.args.u.now inv.way) c.propagate.new.u c.propagate.ensures.none;
      room = omega (arith, fed.ensures.room, ap length c.propagate.ensures.none.kept);
      heart = heart_goes c.args.heart.now c.again.heart c.propagate.new.heart inv.heart c.propagate.ensures.heart;
      quiet = λ other. c.propagate.ensures.quiet other ∙ inv.quiet other;
    }

pub returns-in_err-propagate-clause-heart : goal.returns-in_err-propagate-clause-heart
returns-in_err-propagate-clause-heart g c = heart_goes c.args.heart.now c.again.heart c.propagate.new.heart c.again.invariant.heart c.propagate.ensures.heart

pub returns-in_err-propagate-clause-quiet : goal.returns-in_err-propagate-clause-quiet
returns-in_err-propagate-clause-quiet g c = λ other. c.propagate.ensures.quiet other ∙ c.again.invariant.quiet other

pub returns-then-feed-clause-each : goal.returns-then-feed-clause-each
returns-then-feed-clause-each g c = λ each. absurd (c.helps.ensures.no c.if-helps.false each)

pub returns-then-feed-clause-taken : goal.returns-then-feed-clause-taken
returns-then-feed-clause-taken g c =
    let k = g.C.Composable in let inv = c.again.invariant in let fed = c.feed in let block = slice_range c.args.window.now.lines c.args.block.from c.args.block.to in
    subst (λ kind. Takes k.keeps_of k.hint_of c.args.u.now (items_in kind block) fed.new.u) (fed.ensures.kind ∙ inv.kind)
    (arrives k.keeps_of k.hint_of block c.args.u.now fed.new.u fed.new.self (fed.ensures.way block c.args.u.now inv.way) (fed.ensures.none_waits c.if-feed.true) (fed.ensures.none_is_left c.if-feed.true))
