use Rattle.std.proofs.Common.{◌≡◌, ◌++◌, length, map, option_copied, string_bytes}
use Rattle.sk_cli.specs.Values.{parts_in}
use Rattle.sk_cli.proofs.names.NameList.texts.Given as goal

abbrev pub invariant-part : goal.invariant-part
invariant-part l = l.self ≡ map string_bytes l.texts.items ++ parts_in (option_copied l.rest)

abbrev pub decreases-part : goal.decreases-part
decreases-part l = length (parts_in (option_copied l.rest))
