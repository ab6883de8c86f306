use Rattle.std.proofs.Common.{◌≡◌, ℕ, List, ◌++◌, sym, ap, ◌∙◌, subst}
use Rattle.sk_model.specs.Sketch.{k_smallest}
use Rattle.sk_image.specs.Images.{IsImage}
use Rattle.sk_image.proofs.Grammar.{renamed}
use Rattle.sk_image.proofs.Unions.{joined_is_image}
use Rattle.sk_image.proofs.merge.join.Goals as goal

pub invariant_of-result : goal.invariant_of-result
invariant_of-result c =
    let a = c.args.a.now in
    let b = c.args.b.now in
    let other : IsImage a.version a.k a.seed b.hashes.items =
    renamed b.version b.k b.seed a.version a.k a.seed b.hashes.items (sym c.if-a-b.false) (sym c.if-a-b-2.false) (sym c.if-a-b-3.false) b.whole in
    let kept : c.in_ok-hashes.hashes.items ≡ k_smallest a.k (a.hashes.items ++ b.hashes.items) =
    c.in_ok-hashes.ensures ∙ ap (λ (l : List ℕ). k_smallest a.k (l ++ c.deref-2.result.now)) c.deref.ensures.value
    ∙ ap (λ (l : List ℕ). k_smallest a.k (a.hashes.items ++ l)) c.deref-2.ensures.value in
    record { whole = subst (IsImage a.version a.k a.seed) (sym kept) (joined_is_image a.version a.k a.seed a.hashes.items b.hashes.items a.whole other) }
