use Rattle.std.proofs.Common.{arith}
use Rattle.std.proofs.lemmas.Simd.{get_or-chunk}
use Rattle.sk_lines.proofs.Even.{none_below, least_plain}
use Rattle.sk_lines.proofs.group.are_plain_lines.Goals as goal

pub returns-clause-plain : goal.returns-clause-plain
returns-clause-plain c = λ is.
    let bytes = c.args.bytes.now in
    let least = c.lowered-least-2.result in
    let above = none_below least c.args.floors c.lowered-least-2.ensures.wide c.requires.floors.wide c.if-least-floors-ne0.false in
    let rest = c.are_plain_between.ensures is in
    record {
      first = least_plain bytes c.args.floors least c.args.at c.args.len c.requires.floors c.if-bytes-at-ne-LF.false above
          (λ k inside. omega (arith, c.lowered-least-2.ensures.lane k inside, c.lowered.ensures.lane k inside, c.lowered-least.ensures.lane k inside, get_or-chunk c.args.at 16 bytes k 0 inside)) rest.first;
      second = least_plain bytes c.args.floors least _ c.args.len c.requires.floors c.if-bytes-second-ne-LF.false above
          (λ k inside. omega (arith, c.lowered-least-2.ensures.lane k inside, c.lowered.ensures.lane k inside, c.lowered-least.ensures.byte k inside)) rest.second;
      third = least_plain bytes c.args.floors least _ c.args.len c.requires.floors c.if-bytes-third-ne-LF.false above
          (λ k inside. omega (arith, c.lowered-least-2.ensures.lane k inside, c.lowered.ensures.byte k inside)) rest.third;
      fourth = least_plain bytes c.args.floors least _ c.args.len c.requires.floors c.if-bytes-fourth-ne-LF.false above (λ k inside. c.lowered-least-2.ensures.byte k inside) rest.fourth;
    }
