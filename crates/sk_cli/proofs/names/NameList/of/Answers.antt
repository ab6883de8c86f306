use Rattle.std.proofs.Common.{sym, ◌∙◌}
use Rattle.sk_cli.proofs.NameLaws.{joined_names}
use Rattle.sk_cli.proofs.names.NameList.of.Goals as goal

pub invariant_of-result : goal.invariant_of-result
invariant_of-result c = joined_names c.args.word.now (sym c.joins_names.ensures ∙ c.if-joins_names.true)
