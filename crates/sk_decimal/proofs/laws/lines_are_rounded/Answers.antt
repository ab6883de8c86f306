use Rattle.sk_decimal.proofs.Lines as lines
use Rattle.sk_decimal.proofs.laws.lines_are_rounded.Goals as goal

pub returns-clause-apart : goal.returns-clause-apart
returns-clause-apart c = lines.apart

pub returns-clause-line : goal.returns-clause-line
returns-clause-line c = lines.line_is

pub returns-clause-piece : goal.returns-clause-piece
returns-clause-piece c = lines.piece_is
