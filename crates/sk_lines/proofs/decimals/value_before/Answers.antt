use Rattle.sk_lines.proofs.Digits.{value_of_none}
use Rattle.std.proofs.Common.{sym}
use Rattle.sk_lines.proofs.decimals.value_before.Goals as goal

pub value_on-requires-clause-front : goal.value_on-requires-clause-front
value_on-requires-clause-front c = sym value_of_none

pub value_on-front-requires-clause-front : goal.value_on-front-requires-clause-front
value_on-front-requires-clause-front c = sym value_of_none
