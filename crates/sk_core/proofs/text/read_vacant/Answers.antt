use Rattle.std.proofs.Common.{rules}
use Rattle.sk_core.proofs.Lines.{vacant_of_line}
use Rattle.sk_core.proofs.text.read_vacant.Goals as goal

pub returns-then-ne-clause-value : goal.returns-then-ne-clause-value
returns-then-ne-clause-value c = rw (vacant_of_line c.args.line.now c.in_ok-word.word.now c.in_ok-word.rest.now c.in_ok-k.k.now c.in_ok-k.n.now c.in_ok-word.ensures c.in_ok-k.ensures) (search rules)

pub returns-in_err-number-clause-value : goal.returns-in_err-number-clause-value
returns-in_err-number-clause-value c = rw (vacant_of_line c.args.line.now c.in_ok-word.word.now c.in_ok-word.rest.now c.in_ok-k.k.now c.in_ok-k.n.now c.in_ok-word.ensures c.in_ok-k.ensures) (search rules)

pub returns-in_err-number-2-clause-value : goal.returns-in_err-number-2-clause-value
returns-in_err-number-2-clause-value c = rw (vacant_of_line c.args.line.now c.in_ok-word.word.now c.in_ok-word.rest.now c.in_ok-k.k.now c.in_ok-k.n.now c.in_ok-word.ensures c.in_ok-k.ensures) (search rules)

pub returns-clause-value : goal.returns-clause-value
returns-clause-value c = rw (vacant_of_line c.args.line.now c.in_ok-word.word.now c.in_ok-word.rest.now c.in_ok-k.k.now c.in_ok-k.n.now c.in_ok-word.ensures c.in_ok-k.ensures) (search rules)
