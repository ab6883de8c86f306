use Rattle.std.proofs.Common.{◌≡◌, ◌+◌, ◌-◌, ◌<◌, ◌≤◌, ⊎_elim, ap, ◌∙◌, arith}
use Rattle.std.specs.Int.{bit_at}
use Rattle.std.proofs.lemmas.Bool.{cases_lt}
use Rattle.sk_desks.proofs.EvenLaws.{none_marked, not_marked, last_marked, marked_so}
use Rattle.sk_desks.proofs.even.ends_first.Goals as goal

pub returns-then-end-from-clause-end : goal.returns-then-end-from-clause-end
returns-then-end-from-clause-end c _ =
    let so = marked_so c.lfs_of.result c.lfs_of-2.result 32768 c.if-lfs_of-ne0.false in
    let place : c.args.end - (c.args.end + 1 - 16) ≡ 15 = omega (arith, c.requires.long) in
    (c.lfs_of-2.ensures c.args.end (omega arith) (omega (arith, c.requires.long))).0 (ap (bit_at c.lfs_of-2.result) place ∙ last_marked c.lfs_of-2.result so.1)

pub returns-else-end-from-clause-end : goal.returns-else-end-from-clause-end
returns-else-end-from-clause-end c _ =
    let so = marked_so c.lfs_of.result c.lfs_of-2.result 32768 c.if-lfs_of-ne0.false in
    let place : c.args.end - (c.args.end + 1 - 16) ≡ 15 = omega (arith, c.requires.long) in
    (c.lfs_of-2.ensures c.args.end (omega arith) (omega (arith, c.requires.long))).0 (ap (bit_at c.lfs_of-2.result) place ∙ last_marked c.lfs_of-2.result so.1)

pub returns-then-end-from-clause-plain : goal.returns-then-end-from-clause-plain
returns-then-end-from-clause-plain c _ i above below lf =
    let so = marked_so c.lfs_of.result c.lfs_of-2.result 32768 c.if-lfs_of-ne0.false in
    ⊎_elim
    (λ (first : i < c.args.from + 16). none_marked c.lfs_of.result (i - c.args.from) so.0 ((c.lfs_of.ensures i above first).1 lf))
    (λ (later : c.args.from + 16 ≤ i).
    not_marked c.lfs_of-2.result (i - (c.args.end + 1 - 16)) so.1 (omega (arith, below, c.requires.long))
    ((c.lfs_of-2.ensures i (omega (arith, later, c.if-end-from.true)) (omega (arith, below, c.requires.long))).1 lf))
    (cases_lt i (c.args.from + 16))

pub returns-else-end-from-clause-plain : goal.returns-else-end-from-clause-plain
returns-else-end-from-clause-plain c between i above below lf =
    let so = marked_so c.lfs_of.result c.lfs_of-2.result 32768 c.if-lfs_of-ne0.false in
    ⊎_elim
    (λ (first : i < c.args.from + 16). none_marked c.lfs_of.result (i - c.args.from) so.0 ((c.lfs_of.ensures i above first).1 lf))
    (λ (later : c.args.from + 16 ≤ i). ⊎_elim
    (λ (before : i < c.args.end + 1 - 16). c.are_blocks_without_lf.ensures between i later before lf)
    (λ (last : c.args.end + 1 - 16 ≤ i).
    not_marked c.lfs_of-2.result (i - (c.args.end + 1 - 16)) so.1 (omega (arith, below, last, c.requires.long))
    ((c.lfs_of-2.ensures i last (omega (arith, below, c.requires.long))).1 lf))
    (cases_lt i (c.args.end + 1 - 16)))
    (cases_lt i (c.args.from + 16))
