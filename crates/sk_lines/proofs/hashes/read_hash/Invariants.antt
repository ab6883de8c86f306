use Rattle.std.proofs.Common.{◌≡◌, ◌^◌, ◌<◌, take}
use Rattle.sk_lines.specs.Hashes.{hex}
use Rattle.sk_lines.proofs.hashes.read_hash.Given as goal

abbrev pub invariant-digit : goal.invariant-digit
invariant-digit l = record {
  small : l.hash < 16 ^ l.byte-index;
  spelt : take l.byte-index l.digits ≡ hex l.byte-index l.hash;
}
