use Rattle.std.proofs.Common.{ℕ, eqb, length, get_or, sym, arith, ne_eqb, eq-eqb}
use Rattle.std.proofs.lemmas.List.Sums.{position_or_len_is}
use Rattle.sk_decimal.proofs.words.slash_place.Goals as goal

pub returns-then-word-i-eq47-clause-place : goal.returns-then-word-i-eq47-clause-place
returns-then-word-i-eq47-clause-place c =
    sym (position_or_len_is (λ (byte : ℕ). eqb byte 47) c.args.word.now c.byte.i 0 (omega arith) (λ k below. ne_eqb (get_or c.args.word.now k 0) 47 (c.byte.invariant k below)) (λ _. eq-eqb (get_or c.args.word.now c.byte.i 0) 47 c.if-word-i-eq47.true))

pub returns-clause-place : goal.returns-clause-place
returns-clause-place c =
    sym (position_or_len_is (λ (byte : ℕ). eqb byte 47) c.args.word.now (length c.args.word.now) 0 (omega arith) (λ k below. ne_eqb (get_or c.args.word.now k 0) 47 (c.byte.invariant k (omega arith))) (λ more. absurd (omega arith)))
