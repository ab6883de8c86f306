use Rattle.std.proofs.Common.{◌≡◌, ◌∙◌, sym, ap, arith, insert, List, ℕ}
use Rattle.sk_theta.specs.Place.{IsPlace}
use Rattle.sk_theta.proofs.Places.{past_all, put_in}
use Rattle.sk_theta.proofs.place.put_among.Goals as goal

pub returns-then-at-k-clause-items : goal.returns-then-at-k-clause-items
returns-then-at-k-clause-items c =
    let place : IsPlace c.args.hash c.args.kept.now.items c.in-Err.at = rw c.as_slice.ensures.value at c.in-Err.ensures.absent in
    sym (past_all c.args.hash c.args.kept.now.items c.in-Err.at c.args.k place (omega arith) c.if-at-k.true)

pub returns-clause-items : goal.returns-clause-items
returns-clause-items c =
    let place : IsPlace c.args.hash c.args.kept.now.items c.in-Err.at = rw c.as_slice.ensures.value at c.in-Err.ensures.absent in
    let stands : c.insert.new.self.items ≡ insert c.truncate.new.self.items c.in-Err.at c.args.hash = rw c.unwrap.ensures at c.insert.ensures.items in
    stands
    ∙ ap (λ (l : List ℕ). insert l c.in-Err.at c.args.hash) c.truncate.ensures.items
    ∙ sym (put_in c.args.hash c.args.kept.now.items c.in-Err.at c.args.k place (omega arith) c.if-at-k.false)
