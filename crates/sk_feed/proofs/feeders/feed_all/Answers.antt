use Rattle.std.proofs.Common.{◌≡◌, length, drop, map, sym, ap, subst, arith}
use Rattle.std.proofs.lemmas.List.{take_at}
use Rattle.sk_feed.specs.Rounds.{TakeBlocks, TakeFronts}
use Rattle.sk_feed.proofs.Rounds.{ok_then}
use Rattle.sk_feed.proofs.feeders.feed_all.Goals as goal

pub returns-clause-taken : goal.returns-clause-taken
returns-clause-taken g c =
    let k = g.C.Composable in let lines = c.args.window.now.lines in
    let fs = c.as_mut_slice.result.now in let fs' = c.feed_each.new.feeders in let items = c.args.feeders.now.items in
    let len : length fs' ≡ c.args.feeders.now.len = omega (arith, c.feed_each.auto.feeders, c.as_mut_slice.ensures.len) in
    let before = ap (map (λ f. f.updater)) c.as_mut_slice.ensures.value in
    let after = ap (map (λ f. f.updater)) (take_at fs' (drop (length fs') items) c.args.feeders.now.len len) in
    ok_then c.feed_each.result c.feed_each.ensures.taken (λ blocks.
    subst (λ l. TakeBlocks k.keeps_of k.hint_of c.args.kind lines (map (λ f. f.updater) items) l) (sym after) (subst (λ l. TakeBlocks k.keeps_of k.hint_of c.args.kind lines l (map (λ f. f.updater) fs')) before blocks))

pub returns-clause-fronts : goal.returns-clause-fronts
returns-clause-fronts g c =
    let k = g.C.Composable in let lines = c.args.window.now.lines in
    let fs = c.as_mut_slice.result.now in let fs' = c.feed_each.new.feeders in let items = c.args.feeders.now.items in
    let len : length fs' ≡ c.args.feeders.now.len = omega (arith, c.feed_each.auto.feeders, c.as_mut_slice.ensures.len) in
    let before = ap (map (λ f. f.updater)) c.as_mut_slice.ensures.value in
    let after = ap (map (λ f. f.updater)) (take_at fs' (drop (length fs') items) c.args.feeders.now.len len) in
    subst (λ l. TakeFronts k.keeps_of k.hint_of c.args.kind lines (map (λ f. f.updater) items) l) (sym after) (subst (λ l. TakeFronts k.keeps_of k.hint_of c.args.kind lines l (map (λ f. f.updater) fs')) before c.feed_each.ensures.fronts)
