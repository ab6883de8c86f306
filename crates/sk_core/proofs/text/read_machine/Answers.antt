use Rattle.std.proofs.Common.{rules}
use Rattle.sk_core.proofs.Lines.{machine_of_line}
use Rattle.sk_core.proofs.text.read_machine.Goals as goal

pub returns-then-ne-clause-value : goal.returns-then-ne-clause-value
returns-then-ne-clause-value c = rw (machine_of_line c.args.line.now c.in_ok-word.word.now c.in_ok-word.rest.now c.in_ok-k.k.now c.in_ok-k.rest.now c.in_ok-b.b.now c.in_ok-b.n.now c.in_ok-word.ensures c.in_ok-k.ensures c.in_ok-b.ensures) (search rules)

pub returns-in_err-number-clause-value : goal.returns-in_err-number-clause-value
returns-in_err-number-clause-value c = rw (machine_of_line c.args.line.now c.in_ok-word.word.now c.in_ok-word.rest.now c.in_ok-k.k.now c.in_ok-k.rest.now c.in_ok-b.b.now c.in_ok-b.n.now c.in_ok-word.ensures c.in_ok-k.ensures c.in_ok-b.ensures) (search rules)

pub returns-in_err-number-2-clause-value : goal.returns-in_err-number-2-clause-value
returns-in_err-number-2-clause-value c = rw (machine_of_line c.args.line.now c.in_ok-word.word.now c.in_ok-word.rest.now c.in_ok-k.k.now c.in_ok-k.rest.now c.in_ok-b.b.now c.in_ok-b.n.now c.in_ok-word.ensures c.in_ok-k.ensures c.in_ok-b.ensures) (search rules)

pub returns-in_err-number-3-clause-value : goal.returns-in_err-number-3-clause-value
returns-in_err-number-3-clause-value c = rw (machine_of_line c.args.line.now c.in_ok-word.word.now c.in_ok-word.rest.now c.in_ok-k.k.now c.in_ok-k.rest.now c.in_ok-b.b.now c.in_ok-b.n.now c.in_ok-word.ensures c.in_ok-k.ensures c.in_ok-b.ensures) (search rules)

pub returns-clause-value : goal.returns-clause-value
returns-clause-value c = rw (machine_of_line c.args.line.now c.in_ok-word.word.now c.in_ok-word.rest.now c.in_ok-k.k.now c.in_ok-k.rest.now c.in_ok-b.b.now c.in_ok-b.n.now c.in_ok-word.ensures c.in_ok-k.ensures c.in_ok-b.ensures) (search rules)
