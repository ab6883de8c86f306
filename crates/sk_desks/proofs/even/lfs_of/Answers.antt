use Rattle.std.proofs.Common.{◌≡◌, ◌+◌, ◌-◌, ℕ, slice_index, sym, ap, ◌∙◌, arith}
use Rattle.sk_lines.proofs.Places.{marks_of_block}
use Rattle.sk_desks.proofs.even.lfs_of.Goals as goal

pub returns : goal.returns
returns c i from below =
    let k : ℕ = i - c.args.at in
    let place : c.args.at + k ≡ i = omega arith in
    let marks = marks_of_block 16 10 c.args.text.now c.args.at k (omega arith) (omega arith) c.requires in
    (λ set. ap (slice_index c.args.text.now) (sym place) ∙ (marks.0 set).1, λ byte. marks.1 (omega arith, ap (slice_index c.args.text.now) place ∙ byte))
