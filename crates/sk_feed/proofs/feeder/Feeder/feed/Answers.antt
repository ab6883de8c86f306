use Rattle.std.proofs.Common.{◌≡◌, ◌+◌, length, ap, ◌∙◌}
use Rattle.sk_fill.specs.Blocks.{place_of}
use Rattle.sk_feed.proofs.Rounds.{front_taken}
use Rattle.sk_feed.proofs.feeder.Feeder.feed.Goals as goal

pub returns-clause-front : goal.returns-clause-front
returns-clause-front g c =
    let k = g.C.Composable in let lines = c.args.window.now.lines in
    let from : c.of-block.result.from ≡ place_of (length lines) c.args.i c.args.n = c.of-block.ensures.from ∙ ap (λ m. place_of m c.args.i c.args.n) c.len.ensures.value in
    let to : c.of-block.result.to ≡ place_of (length lines) (c.args.i + 1) c.args.n = c.of-block.ensures.to ∙ ap (λ m. place_of m (c.args.i + 1) c.args.n) c.len.ensures.value in
    front_taken k.keeps_of k.hint_of c.args.kind lines c.args.i c.args.n c.of-block.result.from c.of-block.result.to c.args.self.now.updater c.feed_whole-self.new.u c.feed_whole-self.result c.requires.within from to
    c.feed_whole-self.ensures.place c.feed_whole-self.ensures.taken c.feed_whole-self.ensures.refused
