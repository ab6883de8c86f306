use Rattle.std.proofs.Common.{arith}
use Rattle.sk_read.specs.Delimiters.{IsQuote}
use Rattle.sk_read.proofs.DelimiterLaws.{nowhere_yet, nowhere_next, first_found}
use Rattle.sk_read.proofs.records.seek.last_quote.Goals as goal

pub byte-init : goal.byte-init
byte-init c = nowhere_yet IsQuote c.args.text.now c.args.from c.requires

pub byte-preserved : goal.byte-preserved
byte-preserved c = nowhere_next IsQuote c.args.text.now c.args.from c.byte.at c.byte.invariant c.byte-test.true c.if-text-at-ne34.true

pub returns-after-byte : goal.returns-after-byte
returns-after-byte c = first_found IsQuote c.args.text.now c.args.from c.byte.at c.byte.invariant (λ inside. absurd (omega (arith, inside, c.byte-test.false)))

pub returns-else-text-at-ne34 : goal.returns-else-text-at-ne34
returns-else-text-at-ne34 c = first_found IsQuote c.args.text.now c.args.from c.byte.at c.byte.invariant (λ _. c.if-text-at-ne34.false)
