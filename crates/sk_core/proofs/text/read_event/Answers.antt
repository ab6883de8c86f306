use Rattle.std.proofs.Common.{rules}
use Rattle.sk_core.proofs.Lines.{event_of_three}
use Rattle.sk_core.proofs.text.read_event.Goals as goal

pub returns-in_err-read_number-in-Some-2 : goal.returns-in_err-read_number-in-Some-2
returns-in_err-read_number-in-Some-2 c = rw (event_of_three c.args.line.now c.in_ok-word.word.now c.in_ok-word.rest.now c.in-Some.n.now c.in-Some.m.now c.in_ok-word.ensures c.in-Some.ensures) (search rules)

pub returns-in_ok-read_number-in-Some-2 : goal.returns-in_ok-read_number-in-Some-2
returns-in_ok-read_number-in-Some-2 c = rw (event_of_three c.args.line.now c.in_ok-word.word.now c.in_ok-word.rest.now c.in-Some.n.now c.in-Some.m.now c.in_ok-word.ensures c.in-Some.ensures) (search rules)
