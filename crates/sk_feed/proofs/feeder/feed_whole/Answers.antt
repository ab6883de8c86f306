use Rattle.std.proofs.Common.{◌≡◌, ◌-◌, length, drop, slice_range, ap, ◌∙◌, subst, arith, length-take, ℕ, ◌≤◌, true, refl}
use Rattle.std.proofs.lemmas.Result.{IfOk-weaker, on_err_weaker}
use Rattle.sk_fill.specs.Windows.{items_in}
use Rattle.sk_hub.specs.Calls.{Takes}
use Rattle.sk_hub.proofs.Calls.{on_err}
use Rattle.sk_feed.specs.Calls.{filter_of, FeedsLines}
use Rattle.sk_feed.proofs.OnItsWay.{sets_out, waits_on, arrives, front_taken}
use Rattle.sk_feed.proofs.feeder.feed_whole.Goals as goal

pub again-init : goal.again-init
again-init g c =
    let k = g.C.Composable in let lines = c.args.window.now.lines in let block = c.args.block in let items = c.of-items.ensures in record {
      kind = items.kind;
      way = sets_out k.keeps_of k.hint_of (slice_range lines block.from block.to) c.args.u.now c.of-items.result items.waiting items.rest;
      room = omega (arith, c.requires.room, ap length items.waiting, ap length items.rest, length-take (block.to - block.from) (drop block.from lines));
    }

pub again-preserved : goal.again-preserved
again-preserved g c =
    let k = g.C.Composable in let inv = c.again.invariant in let fed = c.feed in let block = slice_range c.args.window.now.lines c.args.block.from c.args.block.to in record {
      kind = fed.ensures.kind ∙ inv.kind;
      way = waits_on k.keeps_of k.hint_of block c.args.u.now fed.new.u fed.new.self (fed.ensures.way block c.args.u.now inv.way) c.wait_or_help.new.u c.wait_or_help.ensures.none;
      room = omega (arith, fed.ensures.room, ap length c.wait_or_help.ensures.none.kept);
    }

pub returns-then-feed-clause-taken : goal.returns-then-feed-clause-taken
returns-then-feed-clause-taken g c =
    let k = g.C.Composable in let inv = c.again.invariant in let fed = c.feed in let block = slice_range c.args.window.now.lines c.args.block.from c.args.block.to in
    subst (λ kind. Takes k.keeps_of k.hint_of c.args.u.now (items_in kind block) fed.new.u) (fed.ensures.kind ∙ inv.kind)
    (arrives k.keeps_of k.hint_of block c.args.u.now fed.new.u fed.new.self (fed.ensures.way block c.args.u.now inv.way) (fed.ensures.none_waits c.if-feed.true) (fed.ensures.none_is_left c.if-feed.true))

-- what was taken before memory ran out
pub returns-in_err-wait_or_help-clause-refused : goal.returns-in_err-wait_or_help-clause-refused
returns-in_err-wait_or_help-clause-refused g c =
    let k = g.C.Composable in let inv = c.again.invariant in let fed = c.feed in let lines = c.args.window.now.lines in let from = c.args.block.from in let to = c.args.block.to in let block = slice_range lines from to in let u' = c.wait_or_help.new.u in
    let way = waits_on k.keeps_of k.hint_of block c.args.u.now fed.new.u fed.new.self (fed.ensures.way block c.args.u.now inv.way) u' c.wait_or_help.ensures.none in
    on_err c.from_residual.result
    (subst (λ kind. (place : ℕ) × (from ≤ place) × (place ≤ to) × Takes k.keeps_of k.hint_of c.args.u.now (items_in kind (slice_range lines from place)) u') (fed.ensures.kind ∙ inv.kind)
    (front_taken k.keeps_of k.hint_of block c.args.u.now u' fed.new.self way lines from to c.requires.order refl))

-- what was fed with help
pub returns-then-helps-clause-place : goal.returns-then-helps-clause-place
returns-then-helps-clause-place g c =
    let k = g.C.Composable in let block = c.args.block in let u' = c.feed_block.new.u in
    IfOk-weaker c.feed_block.result (FeedsLines (filter_of k.keeps_of k.early_of k.hint_of) true c.args.kind c.args.window.now.lines block.from block.to c.args.u.now u') (λ place. (block.from ≤ place) × (place ≤ block.to))
    (λ place fed. (fed.after, fed.before)) c.feed_block.ensures.fed

pub returns-then-helps-clause-taken : goal.returns-then-helps-clause-taken
returns-then-helps-clause-taken g c =
    let k = g.C.Composable in let block = c.args.block in let lines = c.args.window.now.lines in let u' = c.feed_block.new.u in
    IfOk-weaker c.feed_block.result (FeedsLines (filter_of k.keeps_of k.early_of k.hint_of) true c.args.kind lines block.from block.to c.args.u.now u') (λ place. Takes k.keeps_of k.hint_of c.args.u.now (items_in c.args.kind (slice_range lines block.from place)) u')
    (λ place fed. fed.taken) c.feed_block.ensures.fed

pub returns-then-helps-clause-all : goal.returns-then-helps-clause-all
returns-then-helps-clause-all g c =
    let k = g.C.Composable in let block = c.args.block in let u' = c.feed_block.new.u in
    IfOk-weaker c.feed_block.result (FeedsLines (filter_of k.keeps_of k.early_of k.hint_of) true c.args.kind c.args.window.now.lines block.from block.to c.args.u.now u') (λ place. place ≡ block.to)
    (λ place fed. fed.all refl) c.feed_block.ensures.fed

pub returns-then-helps-clause-refused : goal.returns-then-helps-clause-refused
returns-then-helps-clause-refused g c = on_err_weaker c.feed_block.result (λ stops. (stops.place, stops.after, stops.before, stops.taken)) c.feed_block.ensures.refused

pub returns-then-helps-clause-cause : goal.returns-then-helps-clause-cause
returns-then-helps-clause-cause g c = on_err_weaker c.feed_block.result (λ stops. stops.cause) c.feed_block.ensures.refused
