use Rattle.std.proofs.Common.{◌-◌, ℕ, arith}
use Rattle.sk_read.proofs.Lanes as lanes
use Rattle.sk_read.proofs.wide.lanes_before.Goals as goal

pub returns : goal.returns
returns c =
    let at : ℕ = c.args.to - 16 in
    let n : ℕ = c.args.to - c.args.from in
    record {
      wide = lanes.length_kept c.args.text.now at n (omega (arith, c.requires)) (omega (arith, c.requires));
      front = λ k before. lanes.lane_in_front c.args.text.now at n (omega (arith, c.requires)) (omega (arith, c.requires)) k before;
      back = λ k inside. lanes.lane_of_line c.args.text.now at n (omega (arith, c.requires)) (omega (arith, c.requires)) k c.args.from inside (omega (arith, c.requires));
    }
