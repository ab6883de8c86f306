use Rattle.std.proofs.Common.{◌≡◌, ◌≤◌, ◌∷◌, ◌++◌, [], ℕ, List, Option}
use Rattle.sk_lines.specs.declared.cutter.Next.TheVariants as next
use Rattle.sk_read.specs.Reading.{HasRead, remaining_of}
use Rattle.sk_cli.proofs.ByAnswers.{CameHeld}
use Rattle.sk_cli.proofs.answering.answer_held.Given as goal

abbrev pub invariant-line : goal.invariant-line
invariant-line g l = let A = g.A.Answerer in record {
  came : (left : Option (List ℕ)) (given : List (List ℕ)) (taken due : List ℕ) → HasRead l.fn.reader left (given ++ l.fn.reader.cutter.line ∷ []) taken → A.led l.fn.answerer given due → CameHeld (A.led l.answerer) l.reader left given taken due l.text.items;
  line : l.reader.cutter.last ≡ next.Line;
  due : (lines : List (List ℕ)) (text : List ℕ) → A.due l.answerer lines text → A.due l.fn.answerer lines text;
  most : l.reader.most ≡ l.fn.reader.most;
  piece : l.reader.last ≡ l.fn.reader.last;
  remaining : remaining_of l.reader ≤ remaining_of l.fn.reader;
}

abbrev pub decreases-line : goal.decreases-line
decreases-line g l = remaining_of l.reader
