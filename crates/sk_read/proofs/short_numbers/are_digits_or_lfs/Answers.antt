use Rattle.sk_read.proofs.Dense as dense
use Rattle.sk_read.proofs.short_numbers.are_digits_or_lfs.Goals as goal

pub returns : goal.returns
returns c = dense.digits_or_lfs c.args.text.now c.args.at c.requires c.type_inv.text
