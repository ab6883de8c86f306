use Rattle.std.proofs.Common.{◌+◌, refl, arith}
use Rattle.sk_lines.proofs.Ends.{no_lines}
use Rattle.sk_lines.proofs.Even.{even_then, plain_at}
use Rattle.sk_lines.proofs.group.cut_fours.Goals as goal

pub four-init : goal.four-init
four-init c = record { size = c.told-spans; few = omega arith; within = c.requires.within; lines = λ limit _. no_lines c.args.bytes.now limit c.args.from }

pub four-preserved : goal.four-preserved
four-preserved c =
    let plain = c.are_plain_lines.ensures.plain c.if-are_plain_lines.true in
    let within = c.are_plain_lines.ensures.within c.if-are_plain_lines.true in
    let after = c.put_line-at.ensures.after in
    let after-second = c.put_line-at-in-four.ensures.after in
    let after-third = c.put_line-at-in-four-2.ensures.after in
    record {
      size = c.put_line-at-in-four-3.array_long;
      few = c.four-test.true;
      within = omega (arith, within, after, after-second, after-third, c.put_line-at-in-four-3.ensures.after);
      lines = λ limit short.
          let first = even_then c.args.bytes.now limit c.args.from c.four.at c.args.len c.four.count (c.four.count + 1) c.put_line-at.result c.four.spans c.put_line-at.new.spans
          (c.four.invariant.lines limit short) (omega (arith, c.four.invariant.size, c.four-test.true, c.requires.room)) (omega (arith, within)) short plain.first
          c.put_line-at.ensures.span after refl in
          let second = even_then c.args.bytes.now limit c.args.from c.put_line-at.result c.args.len (c.four.count + 1) (c.four.count + 2) c.put_line-at-in-four.result c.put_line-at.new.spans c.put_line-at-in-four.new.spans
          first (omega (arith, c.put_line-at.array_long, c.four-test.true, c.requires.room)) (omega (arith, within, after)) short (plain_at c.args.bytes.now _ c.args.len c.put_line-at.result (omega (arith, after)) plain.second)
          c.put_line-at-in-four.ensures.span after-second (omega arith) in
          let third = even_then c.args.bytes.now limit c.args.from c.put_line-at-in-four.result c.args.len (c.four.count + 2) (c.four.count + 3) c.put_line-at-in-four-2.result c.put_line-at-in-four.new.spans c.put_line-at-in-four-2.new.spans
          second (omega (arith, c.put_line-at-in-four.array_long, c.four-test.true, c.requires.room)) (omega (arith, within, after, after-second)) short (plain_at c.args.bytes.now _ c.args.len c.put_line-at-in-four.result (omega (arith, after, after-second)) plain.third)
          c.put_line-at-in-four-2.ensures.span after-third (omega arith) in
          even_then c.args.bytes.now limit c.args.from c.put_line-at-in-four-2.result c.args.len (c.four.count + 3) (c.four.count + 4) c.put_line-at-in-four-3.result c.put_line-at-in-four-2.new.spans c.put_line-at-in-four-3.new.spans
          third (omega (arith, c.put_line-at-in-four-2.array_long, c.four-test.true, c.requires.room)) (omega (arith, within, after, after-second, after-third)) short
          (plain_at c.args.bytes.now _ c.args.len c.put_line-at-in-four-2.result (omega (arith, after, after-second, after-third)) plain.fourth)
          c.put_line-at-in-four-3.ensures.span c.put_line-at-in-four-3.ensures.after (omega arith);
    }
