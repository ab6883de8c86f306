use Rattle.std.proofs.Common.{◌≡◌, ◌-◌, ◌+◌, length, sym, ◌∙◌, subst, arith}
use Rattle.sk_read.specs.ShortNumbers.{AreDense}
use Rattle.sk_read.proofs.Dense as dense
use Rattle.sk_read.proofs.short_numbers.are_short_numbers.Goals as goal

pub returns-then-run-lt-BLOCK : goal.returns-then-run-lt-BLOCK
returns-then-run-lt-BLOCK c = record {
  short = λ yes. dense.short_lines c.args.run.now c.requires.whole (c.are_few_dense.ensures.0 yes);
  exact = λ all. c.are_few_dense.ensures.1 (dense.dense_lines c.args.run.now c.requires.whole all.0 all.1);
}

pub block-init : goal.block-init
block-init c = λ some. absurd (omega arith)

pub block-preserved : goal.block-preserved
block-preserved c = λ _.
    let run = c.args.run.now in
    let more = dense.dense_more run c.block.at c.block.at (omega arith) c.block.invariant (c.is_dense_block.ensures.0 c.if-not-is_dense_block.false) in
    dense.dense_part run 0 (c.block.at + 64) 0 (c.block.at + 48 + 14) (omega arith) (omega arith) more

pub returns-then-not-is_dense_block-clause-exact : goal.returns-then-not-is_dense_block-clause-exact
returns-then-not-is_dense_block-clause-exact c = λ all.
    let run = c.args.run.now in
    let whole = dense.dense_lines run c.requires.whole all.0 all.1 in
    sym c.if-not-is_dense_block.true ∙ c.is_dense_block.ensures.1 (dense.dense_part run 0 (length run) c.block.at (c.block.at + 64) (omega arith) (omega (arith, c.block-test.true)) whole)

pub returns-clause-short : goal.returns-clause-short
returns-clause-short c = λ yes.
    let run = c.args.run.now in
    let end : length run - 64 + 64 ≡ length run = omega (arith, c.if-run-lt-BLOCK.false) in
    let more = dense.dense_more run c.block.at (length run - 64) (omega (arith, c.block-test.false)) c.block.invariant (c.is_dense_block-2.ensures.0 yes) in
    dense.short_lines run c.requires.whole (subst (AreDense run 0) end more)

pub returns-clause-exact : goal.returns-clause-exact
returns-clause-exact c = λ all.
    let run = c.args.run.now in
    let whole = dense.dense_lines run c.requires.whole all.0 all.1 in
    c.is_dense_block-2.ensures.1 (dense.dense_part run 0 (length run) (length run - 64) (length run - 64 + 64) (omega arith) (omega (arith, c.if-run-lt-BLOCK.false)) whole)
