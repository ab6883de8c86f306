use Rattle.sk_label.proofs.SpaceMarks as marks
use Rattle.sk_label.proofs.spaces.first_space.Goals as goal

pub returns-then-spaces-ne0-clause-place : goal.returns-then-spaces-ne0-clause-place
returns-then-spaces-ne0-clause-place c =
    (marks.first_of_block c.args.line.now c.block.at c.spaces_of_block-spaces.result c.spaces_of_block-spaces.ensures c.block.invariant.1 c.block-test.true c.spaces_of_block-spaces.type_inv c.if-spaces-ne0.true).0

pub returns-then-spaces-ne0-clause-within : goal.returns-then-spaces-ne0-clause-within
returns-then-spaces-ne0-clause-within c =
    (marks.first_of_block c.args.line.now c.block.at c.spaces_of_block-spaces.result c.spaces_of_block-spaces.ensures c.block.invariant.1 c.block-test.true c.spaces_of_block-spaces.type_inv c.if-spaces-ne0.true).1

pub block-preserved : goal.block-preserved
block-preserved c =
    (c.block-test.true, marks.none_in_block c.args.line.now c.block.at c.spaces_of_block-spaces.result c.spaces_of_block-spaces.ensures c.block.invariant.1 c.block-test.true c.if-spaces-ne0.false)
