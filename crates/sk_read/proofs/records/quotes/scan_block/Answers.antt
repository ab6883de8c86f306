use Rattle.std.proofs.Common.{◌+◌, ◌-◌, slice_index, inl, inr, sym, ◌∙◌, arith}
use Rattle.std.specs.Int.{bit_at}
use Rattle.std.proofs.lemmas.Nat.Bits.{bit_at_or}
use Rattle.sk_read.specs.Quotes.{inside_bit}
use Rattle.sk_read.specs.Scan.{state_of}
use Rattle.sk_read.proofs.Cuts.{cut_none}
use Rattle.sk_read.proofs.DelimiterLaws.{max_is}
use Rattle.sk_read.proofs.Quotes.{HasQuotes, inside_small, ready_at_start, block_cut}
use Rattle.sk_read.proofs.records.quotes.scan_block.Goals.{After-place_after}
use Rattle.sk_read.proofs.records.quotes.scan_block.Goals as goal

has : (c : After-place_after) → HasQuotes c.args.bytes.now c.args.at (state_of c.args.start) (inside_bit c.args.start) c.marks_of_block-quotes.result c.between_quotes-within.result
has c =
    let text = c.args.bytes.now in
    let at = c.args.at in
    let quotes = c.marks_of_block-quotes.result in
    let within = c.between_quotes-within.result in
    let among = c.are_among.ensures c.if-not-are_among.false in
    record {
      fits = c.requires;
      marked = c.marks_of_block-quotes.ensures;
      small = inside_small c.args.start;
      first = c.between_quotes-within.ensures.first;
      next = c.between_quotes-within.ensures.next;
      ready = ready_at_start c.args.start (slice_index text (at + 0)) (λ out here.
          let set = (c.marks_of_block-quotes.ensures 0).1 (omega arith, here) in
          c.next_places-may_begin.ensures.first (among 0 (omega arith) set (omega (arith, c.between_quotes-within.ensures.first, out, set))));
      begin = λ k below set now.
          let marks = c.next_places-may_begin.ensures.next k below (among (k + 1) (omega (arith, below)) set now) in
          elim (max_is (bit_at c.delimiters_of_block.result k) (bit_at quotes k) (sym (bit_at_or c.delimiters_of_block.result quotes k) ∙ marks)) [
            | inl delimiter ↦ inl ((c.delimiters_of_block.ensures k).0 delimiter).1
            | inr quote ↦ inr ((c.marks_of_block-quotes.ensures k).0 quote).1
          ];
    }

pub returns-clause-cut : goal.returns-clause-cut
returns-clause-cut c =
    let text = c.args.bytes.now in
    let at = c.args.at in
    let within = c.between_quotes-within.result in
    let free = c.without.ensures in
    let end = c.end_of-cut.ensures in
    let cut = c.end_of-cut.result in
    block_cut text at (state_of c.args.start) (inside_bit c.args.start) c.marks_of_block-quotes.result within (has c) (state_of c.place_after.result) cut (cut_none c.args.start) c.place_after.ensures end.bound
    (λ some.
    let t = free.set (cut - 1) (omega (arith, end.bound, some)) (end.set some) in
    (t.1, ((c.ends_of_block.ensures (cut - 1)).0 t.0).1))
    (λ j from below ends.
    let set = (c.ends_of_block.ensures j).1 (below, ends.1) in
    omega (arith, free.unset j below (end.above j from) set, ends.0))
