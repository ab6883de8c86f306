use Rattle.std.proofs.Common.{◌≡◌, ◌+◌, ◌-◌, length, arith, rules}
use Rattle.sk_lines.proofs.Feeding.{read_is}
use Rattle.sk_lines.proofs.padded.read_behind.Goals as goal

pub returns-clause-read : goal.returns-clause-read
returns-clause-read g c =
    let size : c.args.at + 65536 - c.args.at ≡ 65536 = omega arith in
    let whole : length c.read_within.new.piece ≡ c.args.at + 65536 - c.args.at = search rules in
    read_is _ _ c.read_within.result c.args.bytes.now c.read_within.new.piece c.args.at (c.args.at + 65536 - c.args.at) (omega (arith, c.requires)) whole (omega (arith, size)) c.read_within.ensures.bound c.read_within.ensures.bytes
