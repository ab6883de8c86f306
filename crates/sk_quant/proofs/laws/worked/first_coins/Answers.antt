use Rattle.std.proofs.Common.{refl}
use Rattle.rand_core.specs.Steps.{u32_at}
use Rattle.rand_chacha.specs.Block.{quarter_round, column_round, diagonal_round, double_rounds, block_word}
use Rattle.sk_quant.specs.Coins.{coin_of}
use Rattle.sk_quant.proofs.laws.worked.first_coins.Goals as goal

pub returns : goal.returns
unfolding u32_at quarter_round column_round diagonal_round double_rounds block_word coin_of
returns c = record { zero = refl; other = refl }
