use Rattle.std.proofs.Common.{◌-◌, length, arith}
use Rattle.sk_read.proofs.Dense as dense
use Rattle.sk_read.proofs.short_numbers.are_few_dense.Goals as goal

pub returns : goal.returns
returns c =
    let run = c.args.run.now in
    let is = dense.padded run c.copy_from_slice.new.self c.copy_from_slice.ensures.after c.requires in
    let same = dense.dense_padded run _ (64 - length run) is (omega (arith, c.requires)) in
    (λ yes. same.0 (c.is_dense_block.ensures.0 yes), λ is_dense. c.is_dense_block.ensures.1 (same.1 is_dense))
