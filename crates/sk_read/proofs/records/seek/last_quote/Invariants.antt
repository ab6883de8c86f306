use Rattle.std.proofs.Common.{◌-◌, length}
use Rattle.sk_read.specs.Delimiters.{IsQuote}
use Rattle.sk_read.proofs.DelimiterLaws.{IsNowhere}
use Rattle.sk_read.proofs.records.seek.last_quote.Given as goal

abbrev pub invariant-byte : goal.invariant-byte
invariant-byte l = IsNowhere IsQuote l.text l.from l.at

abbrev pub decreases-byte : goal.decreases-byte
decreases-byte l = length l.text - l.at
