use Rattle.std.proofs.Common.{arith, subst, ℕ, ◌≡◌, sym, w64}
use Rattle.std.specs.Int.{bit_at}
use Rattle.std.proofs.lemmas.Nat.Bits.{bit_at-zero, bit_at-trailing_zeros}
use Rattle.sk_label.proofs.SpaceMarks as marks
use Rattle.sk_label.proofs.spaces.first_space_in.Goals as goal

pub returns-clause-place : goal.returns-clause-place
returns-clause-place c =
    marks.first_in_text c.args.text.now c.args.from c.args.to c.spaces_of_block-spaces.result c.spaces_of_block-spaces.ensures c.requires.order c.requires.within c.spaces_of_block-spaces.type_inv
    c.if-spaces-eq0.false (omega (arith, c.if-to-from.false))

pub returns-then-spaces-eq0-clause-none : goal.returns-then-spaces-eq0-clause-none
returns-then-spaces-eq0-clause-none c = λ _ inside.
    marks.none_in_text c.args.text.now c.args.from c.args.to c.spaces_of_block-spaces.result c.spaces_of_block-spaces.ensures c.requires.order c.requires.within
    (λ k _ _. subst (λ (m : ℕ). bit_at m k ≡ 0) (sym c.if-spaces-eq0.true) (bit_at-zero k)) inside

pub returns-then-to-from-clause-none : goal.returns-then-to-from-clause-none
returns-then-to-from-clause-none c = λ _ inside.
    marks.none_in_text c.args.text.now c.args.from c.args.to c.spaces_of_block-spaces.result c.spaces_of_block-spaces.ensures c.requires.order c.requires.within
    (λ k here _. (bit_at-trailing_zeros w64 c.spaces_of_block-spaces.result (omega (arith, c.if-spaces-eq0.false)) c.spaces_of_block-spaces.type_inv).2 k (omega (arith, here, c.if-to-from.true)))
    inside
