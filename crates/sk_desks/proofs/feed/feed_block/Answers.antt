use Rattle.std.proofs.Common.{◌≡◌, ◌+◌, ◌-◌, ℕ, length, slice_range, sym, subst, ap, ◌∙◌, arith}
use Rattle.sk_fill.specs.Blocks.{place_of}
use Rattle.sk_tenant.specs.Desks.{DeskState}
use Rattle.sk_desks.specs.Feeds.{TakesLines, HasRoom}
use Rattle.sk_desks.proofs.feed.feed_block.Goals as goal

pub feed_together-requires-clause-room : goal.feed_together-requires-clause-room
feed_together-requires-clause-room g c = λ t u within. omega (arith, c.requires.room t u within, c.of-block.ensures.ends, c.len.ensures.value)

pub feed_lines-requires-clause-room : goal.feed_lines-requires-clause-room
feed_lines-requires-clause-room g c =
    subst (HasRoom (c.of-block.result.to - c.of-block.result.from)) (sym (c.feed_together.ensures.not c.if-feed_together.false)) (λ t u within. omega (arith, c.requires.room t u within, c.of-block.ensures.ends, c.len.ensures.value))

pub returns-then-feed_together : goal.returns-then-feed_together
returns-then-feed_together g c =
    let lines = c.args.window.now.lines in
    let from : c.of-block.result.from ≡ place_of (length lines) c.args.i c.args.n = c.of-block.ensures.from ∙ ap (λ (m : ℕ). place_of m c.args.i c.args.n) c.len.ensures.value in
    let to : c.of-block.result.to ≡ place_of (length lines) (c.args.i + 1) c.args.n = c.of-block.ensures.to ∙ ap (λ (m : ℕ). place_of m (c.args.i + 1) c.args.n) c.len.ensures.value in
    let Took : ℕ → ℕ → Type 0 = λ a b. TakesLines c.args.seed c.args.desk.now (slice_range lines a b) c.feed_together.new.desk in
    subst (Took (place_of (length lines) c.args.i c.args.n)) to (subst (λ (a : ℕ). Took a c.of-block.result.to) from (c.feed_together.ensures.took c.if-feed_together.true))

pub returns : goal.returns
returns g c =
    let lines = c.args.window.now.lines in
    let from : c.of-block.result.from ≡ place_of (length lines) c.args.i c.args.n = c.of-block.ensures.from ∙ ap (λ (m : ℕ). place_of m c.args.i c.args.n) c.len.ensures.value in
    let to : c.of-block.result.to ≡ place_of (length lines) (c.args.i + 1) c.args.n = c.of-block.ensures.to ∙ ap (λ (m : ℕ). place_of m (c.args.i + 1) c.args.n) c.len.ensures.value in
    let Took : ℕ → ℕ → Type 0 = λ a b. TakesLines c.args.seed c.args.desk.now (slice_range lines a b) c.feed_lines.new.desk in
    subst (Took (place_of (length lines) c.args.i c.args.n)) to
    (subst (λ (a : ℕ). Took a c.of-block.result.to) from
    (subst (λ (d : DeskState). TakesLines c.args.seed d (slice_range lines c.of-block.result.from c.of-block.result.to) c.feed_lines.new.desk) (c.feed_together.ensures.not c.if-feed_together.false) c.feed_lines.ensures))
