use Rattle.std.proofs.Common.{◌≡◌, ℕ, ◌+◌, ◌<◌, max, List, length, get_or, set, slice_index, arith, ap, sym, ◌∙◌, length-set, get_or-set_same, get_or-set_other}
use mathlib.Core.Logic.{dite}
use native.Mathlib.Decide.{ℕ_discrete}
use Rattle.sk_core.proofs.state.tokens.longest.Goals as goal

set_done : (xs ys zs : List ℕ) (i v j : ℕ) → i < length zs → v ≡ max (slice_index xs i) (slice_index ys i) → (j < i → slice_index zs j ≡ max (slice_index xs j) (slice_index ys j)) → j < i + 1 → slice_index (set zs i v) j ≡ max (slice_index xs j) (slice_index ys j)
set_done xs ys zs i v j inside is old near = dite (ℕ_discrete j i)
    (λ e. ap (slice_index (set zs i v)) e ∙ get_or-set_same zs i v 0 inside ∙ is ∙ sym (ap (λ k. max (slice_index xs k) (slice_index ys k)) e))
    (λ ne. get_or-set_other zs i j v 0 ne ∙ old (omega arith))

pub updaters-preserved : goal.updaters-preserved
updaters-preserved c =
    let inv = c.updaters.invariant in
    let wide = inv.wide in
    let inside = c.updaters-test.true in
    record {
      wide = length-set c.updaters.longest c.updaters.i c.max.result ∙ inv.wide;
      done = λ j near. set_done c.args.known.now c.args.other.now c.updaters.longest c.updaters.i c.max.result j (omega arith) (c.max.ensures ∙ ap (λ a. max a (get_or c.args.other.now c.updaters.i 0)) (inv.todo c.updaters.i (omega arith))) (inv.done j) near;
      todo = λ j after. get_or-set_other c.updaters.longest c.updaters.i j c.max.result 0 (λ e. omega arith) ∙ inv.todo j (omega arith);
    }
