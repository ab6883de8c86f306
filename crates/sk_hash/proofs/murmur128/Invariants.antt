use Rattle.std.proofs.Common.{◌≡◌}
use Rattle.sk_model.specs.Murmur.{after_blocks}
use Rattle.sk_hash.proofs.murmur128.Given as goal

abbrev pub invariant-mix : goal.invariant-mix
invariant-mix l = l.h ≡ after_blocks l.seed l.bytes l.i
