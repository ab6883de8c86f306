use Rattle.std.proofs.Common.{sym, ap, ◌∙◌}
use Rattle.std.proofs.lemmas.Nat.Bits.{bit_at-zero, bit_at_ones}
use Rattle.sk_read.specs.Quotes.{inside_bit}
use Rattle.sk_read.proofs.Quotes.{not_inside}
use Rattle.sk_read.proofs.records.quotes.all_or_none.Goals as goal

pub returns-in-InQuotes : goal.returns-in-InQuotes
returns-in-InQuotes c k below = bit_at_ones 64 k below ∙ sym (ap inside_bit c.in-InQuotes.is)

pub returns : goal.returns
returns c k below = bit_at-zero k ∙ sym (not_inside c.args.start c.in_default.not-InQuotes)
