use Rattle.std.proofs.Common.{map, sym, subst}
use Rattle.sk_feed.specs.Rounds.{TakeBlocks, TakeFronts}
use Rattle.sk_feed.proofs.Rounds.{ok_then}
use Rattle.sk_feed.proofs.Shares.{one_window}
use Rattle.sk_feed.proofs.feeders.Feeders.feed_window.Goals as goal

pub returns-clause-taken : goal.returns-clause-taken
returns-clause-taken g c =
    let k = g.C.Composable in let lines = c.args.window.now.lines in
    let us = c.args.updaters.now.items in let us' = c.give_back.new.updaters.items in
    let fs' = c.feed_by-fed.new.feeders.items in
    let fronts = subst (λ l. TakeFronts k.keeps_of k.hint_of c.args.kind lines us l) (sym c.give_back.ensures.moved) (subst (λ l. TakeFronts k.keeps_of k.hint_of c.args.kind lines l (map (λ f. f.updater) fs')) c.lend.ensures.moved c.feed_by-fed.ensures.fronts) in
    ok_then c.feed_by-fed.result c.feed_by-fed.ensures.taken (λ blocks. one_window k.keeps_of k.hint_of c.args.kind lines us us' fronts.count
    (subst (λ l. TakeBlocks k.keeps_of k.hint_of c.args.kind lines us l) (sym c.give_back.ensures.moved) (subst (λ l. TakeBlocks k.keeps_of k.hint_of c.args.kind lines l (map (λ f. f.updater) fs')) c.lend.ensures.moved blocks)))

pub returns-clause-fronts : goal.returns-clause-fronts
returns-clause-fronts g c =
    let k = g.C.Composable in let lines = c.args.window.now.lines in
    let us = c.args.updaters.now.items in
    let fs' = c.feed_by-fed.new.feeders.items in
    subst (λ l. TakeFronts k.keeps_of k.hint_of c.args.kind lines us l) (sym c.give_back.ensures.moved) (subst (λ l. TakeFronts k.keeps_of k.hint_of c.args.kind lines l (map (λ f. f.updater) fs')) c.lend.ensures.moved c.feed_by-fed.ensures.fronts)
