use Rattle.std.proofs.Common.{◌≡◌, ℕ, ◌+◌, ◌≤◌, take, drop, subst, sym, arith}
use Rattle.sk_decimal.specs.Rounded.{last_word}
use Rattle.sk_decimal.proofs.Numbers.{no_word, space_here, letter_here}
use Rattle.sk_decimal.proofs.words.word_start.Goals as goal
use Rattle.sk_decimal.proofs.words.word_start.Goals.{then-line-i-eq32, else-line-i-eq32}

pub byte-init : goal.byte-init
byte-init c = record { before = omega arith; word = no_word }

pub byte-preserved : goal.byte-preserved
byte-preserved c = elim c.if-line-i-eq32.branch [
  | then-line-i-eq32 w ↦ record {
    before = omega arith;
    word = subst (λ (s : ℕ). drop s (take (c.byte.i + 1) c.args.line.now) ≡ last_word (take (c.byte.i + 1) c.args.line.now)) (sym w.start-is) (space_here c.args.line.now c.byte.i (omega arith) w.if-line-i-eq32.true);
  }
  | else-line-i-eq32 w ↦ record {
    before = omega (arith, c.byte.invariant.before);
    word = subst (λ (s : ℕ). drop s (take (c.byte.i + 1) c.args.line.now) ≡ last_word (take (c.byte.i + 1) c.args.line.now)) (sym w.start-is) (letter_here c.args.line.now c.byte.i c.byte.start (omega arith) w.if-line-i-eq32.false c.byte.invariant.before c.byte.invariant.word);
  }
]
