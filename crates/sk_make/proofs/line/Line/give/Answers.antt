use Rattle.std.proofs.Common.{◌≡◌, ℕ, ◌+◌, ◌-◌, ◌≤◌, List, ◌++◌, length, take, drop, slice_range, sym, ap, ◌∙◌, arith, length-take, take-append-drop, take_at, drop-drop}
use Rattle.std.proofs.lemmas.List.{drop-take}
use Rattle.sk_make.proofs.line.Line.give.Goals as goal

-- what is left of a range once its front was given
range_less : (bytes : List ℕ) (at end n : ℕ) → at + n ≤ end → slice_range bytes (at + n) end ≡ drop n (slice_range bytes at end)
range_less bytes at end n inside =
    let parts : end - at ≡ n + (end - (at + n)) = omega arith in
    sym (ap (λ (k : ℕ). drop n (take k (drop at bytes))) parts ∙ drop-take n (end - (at + n)) (drop at bytes) ∙ ap (take (end - (at + n))) (drop-drop n at bytes))

pub returns-clause-bytes : goal.returns-clause-bytes
returns-clause-bytes c =
    let n = c.min-n.result in
    let inside = c.self.inside in
    let left : List ℕ = slice_range inside.bytes inside.at inside.end in
    let copied = c.copy_from_slice.new.self in
    let few = length-take (inside.end - inside.at) (drop inside.at inside.bytes) in
    let long : length copied ≡ n = omega (arith, c.copy_from_slice.ensures.len, length-take n c.args.buf.now, c.min-n.ensures) in
    let front : take n (copied ++ drop n c.args.buf.now) ≡ take n left = take_at copied (drop n c.args.buf.now) n long ∙ c.copy_from_slice.ensures.after in
    sym c.self.view_is ∙ sym (take-append-drop n left) ∙ ap (λ (l : List ℕ). l ++ drop n left) (sym front)
    ∙ ap (λ (l : List ℕ). take n (copied ++ drop n c.args.buf.now) ++ l) (sym (range_less inside.bytes inside.at inside.end n (omega (arith, c.min-n.ensures, few, c.self.invariant.0))))
