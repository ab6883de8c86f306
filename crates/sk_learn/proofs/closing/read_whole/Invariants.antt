use Rattle.std.proofs.Common.{◌≡◌}
use Rattle.sk_learn.specs.Learning.{ReaderGoesOn}
use Rattle.sk_learn.proofs.closing.read_whole.Given as goal

abbrev pub invariant-again : goal.invariant-again
invariant-again g l = (l.query ≡ l.fn.query) × ReaderGoesOn l.initial.reader l.reader
