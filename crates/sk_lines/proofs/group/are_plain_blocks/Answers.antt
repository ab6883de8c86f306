use Rattle.std.proofs.Common.{◌+◌, arith, eqb-true}
use Rattle.std.proofs.lemmas.Simd.{get_or-chunk}
use Rattle.sk_lines.proofs.Even.{block_above}
use Rattle.sk_lines.proofs.group.are_plain_blocks.Goals as goal

pub returns : goal.returns
returns c = λ is.
    let bytes = c.args.bytes.now in
    let least = c.lowered-least-2.result in
    let wide = c.lowered-least-2.ensures.wide in
    let none = eqb-true _ 0 is in
    record {
      first = block_above bytes least c.args.at c.args.place wide none
          (λ k inside. omega (arith, c.lowered-least-2.ensures.lane k inside, c.lowered.ensures.lane k inside, c.lowered-least.ensures.lane k inside, get_or-chunk (c.args.at + c.args.place) 16 bytes k 0 inside));
      second = block_above bytes least _ c.args.place wide none (λ k inside. omega (arith, c.lowered-least-2.ensures.lane k inside, c.lowered.ensures.lane k inside, c.lowered-least.ensures.byte k inside));
      third = block_above bytes least _ c.args.place wide none (λ k inside. omega (arith, c.lowered-least-2.ensures.lane k inside, c.lowered.ensures.byte k inside));
      fourth = block_above bytes least _ c.args.place wide none (λ k inside. c.lowered-least-2.ensures.byte k inside);
    }
