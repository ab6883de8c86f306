use Rattle.std.proofs.Common.{◌≡◌, ◌==◌, subst, ◌+◌, ◌∷◌, [], ◌++◌, inl, inr, length, drop, get_or, slice_range, sym, ap, ◌∙◌, arith, rules, length-append, append_assoc, drop_of_length-le}
use Rattle.sk_model.specs.Sketch.{rising}
use Rattle.std.proofs.lemmas.Bool.Decides.{nat_tests}
use Rattle.sk_sorted.proofs.Once.{at_most_one}
use Rattle.sk_sorted.proofs.Walks.{run_below, second_goes, walk_ends, increasing_drop, to_the_end}
use Rattle.sk_sorted.proofs.least.least_of_both.Goals as goal
use Rattle.sk_sorted.proofs.least.least_of_both.Goals.{then-walk-test+then-j-piece+else-len-k, then-walk-test+else-j-piece, else-walk-test}

pub walk-preserved-then-x-y : goal.walk-preserved-then-x-y
walk-preserved-then-x-y c =
    let kept = c.args.kept.now in
    let piece = c.args.piece.now in
    let i = c.walk.i in
    let to = c.append_below-i.result in
    let left = rising (drop to kept ++ drop c.walk.j piece) in
    let place = c.append_below-i.ensures.place in
    let step = run_below kept piece i to c.walk.j c.requires.kept_rises c.requires.piece_rises place.0 place.1 c.if-j-piece.true c.append_below-i.ensures.below in
    record {
      kept = place.1;
      piece = c.walk.invariant.piece;
      most = omega (arith, c.append_below-i.ensures.within, c.append_below-i.new.least.ok.0);
      room = c.append_below-i.ensures.room;
      rest = c.walk.invariant.rest ∙ ap (λ l. c.walk.least.items ++ l) step ∙ sym (append_assoc c.walk.least.items (slice_range kept i to) left) ∙ ap (λ l. l ++ left) (sym c.append_below-i.ensures.items);
    }

pub walk-preserved : goal.walk-preserved
walk-preserved c =
    let kept = c.args.kept.now in
    let piece = c.args.piece.now in
    let i = c.walk.i in
    let j = c.walk.j in
    let x = get_or kept i 0 in
    let y = get_or piece j 0 in
    let left = rising (drop (i + c.from-i.result) kept ++ drop (j + 1) piece) in
    let whole = rising (drop i kept ++ drop j piece) in
    let step = subst (λ n. whole ≡ y ∷ rising (drop (i + n) kept ++ drop (j + 1) piece)) (sym c.from-i.ensures)
    (second_goes kept piece i j (x == y) c.requires.kept_rises c.requires.piece_rises c.walk-test.true c.if-j-piece.true (omega (arith, c.if-x-y.false)) (λ is. grind (arith, nat_tests)) (λ is. grind (arith, nat_tests))) in
    record {
      kept = omega (arith, c.from-i.ensures, at_most_one (x == y), c.walk-test.true);
      piece = omega (arith, c.if-j-piece.true);
      most = omega (arith, ap length c.push_reserved.ensures.items, length-append c.walk.least.items (y ∷ []), c.if-len-k.true, c.len.ensures, c.walk.least.ok.0);
      room = search rules;
      rest = c.walk.invariant.rest ∙ ap (λ l. c.walk.least.items ++ l) step ∙ sym (append_assoc c.walk.least.items (y ∷ []) left) ∙ ap (λ l. l ++ left) (sym c.push_reserved.ensures.items);
    }

pub returns-clause-least : goal.returns-clause-least
returns-clause-least c =
    let kept = c.args.kept.now in
    let piece = c.args.piece.now in
    let a = drop c.walk.i kept in
    let b = drop c.walk.j piece in
    rw (c.append_within-2.ensures.items, c.append_within.ensures.items, to_the_end kept c.walk.i c.walk.invariant.kept, to_the_end piece c.walk.j c.walk.invariant.piece)
    (walk_ends c.args.k c.walk.least.items a b (kept ++ piece) c.walk.invariant.rest c.walk.invariant.most (increasing_drop c.walk.i kept c.requires.kept_rises) (increasing_drop c.walk.j piece c.requires.piece_rises) (elim c.walk-test.branch [
      | then-walk-test+then-j-piece+else-len-k w ↦ inl (omega (arith, w.if-len-k.false, w.len.ensures, c.walk.least.ok.0))
      | then-walk-test+else-j-piece w ↦ inr (inr (drop_of_length-le piece w.if-j-piece.false))
      | else-walk-test w ↦ inr (inl (drop_of_length-le kept w.walk-test.false))
    ]))
