use Rattle.std.proofs.Common.{refl}
use Rattle.sk_model.specs.Murmur.{scrambled_first, scrambled_second, after_block, after_blocks, with_tail, finished_word, finished, murmur128_of, hash_of}
use Rattle.sk_model.proofs.laws.worked.hashes_of_texts.Goals as goal

pub returns : goal.returns
unfolding scrambled_first scrambled_second after_block after_blocks with_tail finished_word finished murmur128_of hash_of
returns c = record { empty = refl; word = refl; words = refl; sentence = refl }
