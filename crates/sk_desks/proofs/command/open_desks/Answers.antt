use Rattle.std.proofs.Common.{Err, ap}
use Rattle.sk_tenant.specs.Names.{bytes_of}
use Rattle.sk_tenant.specs.declared.answers.TenantStop.{TenantStop}
use Rattle.sk_desks.proofs.EndingLaws.{not_twice}
use Rattle.sk_desks.proofs.command.open_desks.Goals as goal

pub unreachable-requires-in-Err-Twice : goal.unreachable-requires-in-Err-Twice
unreachable-requires-in-Err-Twice c =
    not_twice (bytes_of c.args.names.items) c.in-Err-Twice.field-0-0 c.requires.names.different (c.in-Err-Twice.ensures.twice c.in-Err-Twice.field-0-0 (ap (λ (s : TenantStop). Err s) c.in-Err-Twice.field-0-is))
