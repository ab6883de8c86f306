use Rattle.std.proofs.Common.{length, eq-eqb, arith, sym}
use Rattle.std.proofs.lemmas.List.Sums.{position_or_len_is}
use Rattle.sk_label.specs.Labels.{is_space}
use Rattle.sk_label.proofs.spaces.first_space_from.Goals as goal

pub returns-then-line-at-eq32-clause-place : goal.returns-then-line-at-eq32-clause-place
returns-then-line-at-eq32-clause-place c = sym (position_or_len_is is_space c.args.line.now c.byte.at 0 (omega arith) c.byte.invariant (λ less. eq-eqb _ 32 c.if-line-at-eq32.true))

pub returns-clause-place : goal.returns-clause-place
returns-clause-place c = sym (position_or_len_is is_space c.args.line.now (length c.args.line.now) 0 (omega arith) (λ k less. c.byte.invariant k (omega arith)) (λ less. absurd (omega arith)))
