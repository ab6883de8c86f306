use Rattle.std.proofs.Common.{eqb, sym, ap, ◌∙◌, arith, w64}
use lib.Count.{count_trailing_zeros}
use Rattle.std.specs.Simd.Lanes.{chunk}
use Rattle.std.proofs.lemmas.Simd.{length-chunk, bitmask_splat, leading_from_mask_l, trailing_mask_l}
use Rattle.sk_heap.proofs.walk.count_before_4.Goals as goal

pub returns-then-hits-eq0 : goal.returns-then-hits-eq0
returns-then-hits-eq0 c =
    let v = chunk c.args.at 4 c.args.table.now in
    let long = length-chunk c.args.at 4 c.args.table.now c.requires in
    let hits = bitmask_splat w64 eqb v 4 c.args.number long (omega arith) in
    sym (leading_from_mask_l (λ x. eqb x c.args.number) v (sym hits ∙ c.if-hits-eq0.true) ∙ long)

pub returns-else-hits-eq0 : goal.returns-else-hits-eq0
returns-else-hits-eq0 c =
    let v = chunk c.args.at 4 c.args.table.now in
    let long = length-chunk c.args.at 4 c.args.table.now c.requires in
    let hits = bitmask_splat w64 eqb v 4 c.args.number long (omega arith) in
    ap (count_trailing_zeros 64) hits ∙ trailing_mask_l (λ x. eqb x c.args.number) 64 v (omega arith) (omega arith)
