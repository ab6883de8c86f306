use Rattle.std.proofs.Common.{◌≡◌, length, option_copied}
use Rattle.sk_cli.specs.Names.{is_among}
use Rattle.sk_cli.specs.Values.{parts_in}
use Rattle.sk_cli.proofs.names.is_among.Given as goal

abbrev pub invariant-other : goal.invariant-other
invariant-other l = is_among l.word (parts_in (option_copied l.others)) ≡ is_among l.word (parts_in (option_copied l.rest))

abbrev pub decreases-other : goal.decreases-other
decreases-other l = length (parts_in (option_copied l.rest))
