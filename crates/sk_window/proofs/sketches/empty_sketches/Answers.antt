use Rattle.std.proofs.Common.{◌≡◌, ◌+◌, ◌<◌, ◌++◌, ◌∷◌, ℕ, [], List, length, replicate, sym, ap, subst, ◌∙◌, arith}
use Rattle.std.proofs.lemmas.List.{replicate-append-replicate, length-replicate}
use Rattle.circular_buffer.specs.Buffer.{Buffer}
use Rattle.sk_theta.specs.Kept.{Sketch}
use Rattle.sk_window.specs.Intervals.{StandForEach}
use Rattle.sk_window.proofs.Standing.{stand_push, stand_count, pushed_room}
use Rattle.sk_window.proofs.sketches.empty_sketches.Goals as goal

pub sketch-preserved : goal.sketch-preserved
sketch-preserved c =
    let ss = c.sketch.sketches.items in
    let new = c.in_ok-new.field-0 in
    let n = c.sketch.counter in
    let few : length ss < c.sketch.sketches.capacity =
    omega (arith, stand_count c.args.k ss (replicate n []) c.sketch.invariant.1, length-replicate {A = List ℕ} n [], c.sketch.invariant.0, c.sketch-test.true) in
    let put : c.push_back-none.new.self.items ≡ ss ++ new ∷ [] =
    ap (λ (b : Buffer Sketch). b.items) c.push_back-none.ensures.items ∙ pushed_room c.sketch.sketches.capacity ss new few in
    let all : StandForEach c.args.k (ss ++ new ∷ []) (replicate n [] ++ [] ∷ []) =
    stand_push c.args.k ss (replicate n []) new [] c.sketch.invariant.1 c.in_ok-new.ensures.numbers c.in_ok-new.ensures.stands in (
      ap (λ (b : Buffer Sketch). b.capacity) c.push_back-none.ensures.items ∙ c.sketch.invariant.0,
      subst (λ (ts : List Sketch). StandForEach c.args.k ts (replicate (n + 1) [])) (sym put)
          (subst (StandForEach c.args.k (ss ++ new ∷ [])) (replicate-append-replicate n 1 []) all),
    )
