use Rattle.std.proofs.Common.{refl}
use Rattle.sk_hash.proofs.Masks.{hash_of_short}
use Rattle.sk_hash.proofs.hash_short.Goals as goal

pub returns : goal.returns
returns c =
    let hash = hash_of_short c.args.seed c.args.from c.args.len c.args.text.now (λ j. (c.type_inv.text j).fits) c.requires.short c.requires.room in
    rw hash (rw c.finish.ensures (rw c.scramble_first.ensures (rw c.scramble_second.ensures (rw c.read_word.ensures (rw c.read_word-2.ensures (rw c.from-seed.ensures refl))))))
