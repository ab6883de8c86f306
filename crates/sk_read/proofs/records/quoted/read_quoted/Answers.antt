use Rattle.std.proofs.Common.{◌≢◌, ◌+◌, ◌<◌, ◌++◌, length, slice_index, slice_range, sym, ◌∙◌, arith}
use Rattle.std.proofs.lemmas.Bool.{false≢true}
use Rattle.sk_read.proofs.QuotedRecords.{doubled_quote, last_quote, quotes_over, kept_more}
use Rattle.sk_read.proofs.records.quoted.read_quoted.Goals as goal

pub returns-then-not-is_doubled-clause-read : goal.returns-then-not-is_doubled-clause-read
returns-then-not-is_doubled-clause-read c =
    let inv = c.quote.invariant in
    let text = c.args.text.now in
    let quote = c.seek_quote-quote.result in
    let piece = slice_range text c.quote.at quote in
    let other : quote + 1 < length text → slice_index text (quote + 1) ≢ 34 = λ inside is. false≢true (sym c.if-not-is_doubled.true ∙ c.is_doubled.ensures.1 (inside, is)) in (
      inv.more ++ piece,
      kept_more c.args.keeps c.args.held.now.items c.quote.held.items c.keep.new.held.items inv.more piece inv.held c.in_ok-keep.ensures.kept,
      last_quote text c.args.start c.quote.at quote inv.more inv.stays c.seek_quote-quote.ensures other c.min.result (λ inside. omega (arith, inside, c.min.ensures)) (λ past. omega (arith, past, c.min.ensures, c.seek_quote-quote.ensures.within)),
    )

pub quote-preserved : goal.quote-preserved
quote-preserved c =
    let inv = c.quote.invariant in
    let text = c.args.text.now in
    let quote = c.seek_quote-quote.result in
    let piece = slice_range text c.quote.at (quote + 1) in
    let two = c.is_doubled.ensures.0 c.if-not-is_doubled.false in
    record {
      more = inv.more ++ piece;
      stays = doubled_quote text c.args.start c.quote.at quote inv.more inv.stays c.seek_quote-quote.ensures two.0 two.1;
      held = kept_more c.args.keeps c.args.held.now.items c.quote.held.items c.keep-in-quote.new.held.items inv.more piece inv.held c.in_ok-keep-2.ensures.kept;
    }

pub returns-clause-read : goal.returns-clause-read
returns-clause-read c =
    let inv = c.quote.invariant in
    (inv.more, inv.held, quotes_over c.args.text.now c.args.start c.quote.at inv.more inv.stays c.quote-test.false)
