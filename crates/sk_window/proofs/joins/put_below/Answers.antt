use Rattle.std.proofs.Common.{◌≡◌, ◌++◌, ◌∷◌, [], ℕ, List, take, get_or, sym, subst, ◌∙◌}
use Rattle.std.proofs.lemmas.List.{take_all, take_more}
use Rattle.sk_theta.specs.Kept.{StandsFor}
use Rattle.sk_window.specs.Joins.{below}
use Rattle.sk_window.proofs.Joined.{below_more, items_same, same_below}
use Rattle.sk_window.proofs.joins.put_below.Goals as goal

pub put_if_below-requires : goal.put_if_below-requires
put_if_below-requires c = record { item = items_same c.heap-hashes.result.now c.args.sketch.now.kept c.heap-hashes.ensures.members c.count-count.ensures.whole.items c.hash.hash-index 0 c.hash-test.true }

pub hash-preserved : goal.hash-preserved
hash-preserved c =
    let hs = c.heap-hashes.result.now in
    let i = c.hash.hash-index in
    let h = get_or hs i 0 in
    let bound = c.args.bound in
    record {
      k = c.put_if_below.ensures.k ∙ c.hash.invariant.k;
      stands = λ items stands. subst (λ (l : List ℕ). StandsFor c.put_if_below.new.into (items ++ below bound l)) (sym (take_more hs i 0 c.hash-test.true))
          (subst (StandsFor c.put_if_below.new.into) (below_more bound items (take i hs) (h ∷ []))
          (c.put_if_below.ensures.stands (items ++ below bound (take i hs)) (c.hash.invariant.stands items stands)));
    }

pub returns-clause-items : goal.returns-clause-items
returns-clause-items c = c.count-count.ensures.whole.items

pub returns-clause-stands : goal.returns-clause-stands
returns-clause-stands c = λ items stands.
    let hs = c.heap-hashes.result.now in
    let into = c.hash.into in
    let all : take c.hash.hash-index hs ≡ hs = take_all c.hash.hash-index hs c.hash-test.false in
    subst (λ (l : List ℕ). StandsFor into (items ++ below c.args.bound l)) all (c.hash.invariant.stands items stands)
    ∙ same_below into.k c.args.bound items hs c.args.sketch.now.kept c.heap-hashes.ensures.members
