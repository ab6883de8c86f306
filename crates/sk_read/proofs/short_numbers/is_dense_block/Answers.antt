use Rattle.std.proofs.Common.{◌≡◌, true, false, not, ap, ⊎_elim}
use Rattle.std.proofs.lemmas.Bool.{cases_Bool, not-true}
use Rattle.sk_read.proofs.Dense as dense
use Rattle.sk_read.proofs.short_numbers.is_dense_block.Goals as goal

pub returns-then-are_digits_or_lfs : goal.returns-then-are_digits_or_lfs
returns-then-are_digits_or_lfs c =
    let text = c.args.text.now in
    let marks = c.lfs_of_block.ensures in (
      λ yes. dense.dense_block text c.args.at c.lfs_of_block.result marks (c.are_digits_or_lfs.ensures.0 c.if-are_digits_or_lfs.true)
          (c.has_long_line.ensures.none (not-true c.has_long_line.result yes)),
      λ is. ⊎_elim
          (λ (some : c.has_long_line.result ≡ true). absurd (dense.long_block text c.args.at c.lfs_of_block.result marks (c.has_long_line.ensures.some some) is))
          (λ (none : c.has_long_line.result ≡ false). ap not none)
          (cases_Bool c.has_long_line.result),
    )
