use Rattle.std.proofs.Common.{◌≡◌, ◌∙◌, ap, take, take_all, List, ℕ, arith}
use Rattle.sk_model.specs.Sketch.{rising, k_smallest}
use Rattle.sk_model.proofs.Sketch.{rising_more}
use Rattle.sk_model.proofs.plain.k_smallest.Goals as goal

pub place-init : goal.place-init
unfolding rising
place-init c = c.new-kept.ensures.items

pub place-preserved : goal.place-preserved
place-preserved c =
    let hashes = c.args.hashes.now in
    let i = c.place.hash-index in
    rw (rising_more hashes i 0 (omega arith), ← c.place.invariant) c.in_ok-place.ensures

pub returns : goal.returns
unfolding k_smallest
returns c =
    let whole : take c.place.hash-index c.args.hashes.now ≡ c.args.hashes.now = take_all c.place.hash-index c.args.hashes.now (omega arith) in
    c.truncate.ensures.items ∙ ap (λ (l : List ℕ). take c.args.k l) (c.place.invariant ∙ ap rising whole)
