use Rattle.std.proofs.Common.{◌≡◌, ℕ, ◌≤◌, List, ◌++◌, take, sym, ap, ◌∙◌, subst, vec_capacity}
use Rattle.std.specs.List.Sorted.{IsStrictlyIncreasing}
use Rattle.sk_model.specs.Sketch.{k_smallest}
use Rattle.sk_theta.specs.Kept.{Sketch, StandsFor, IsWhole, theta_kept}
use Rattle.sk_sorted.proofs.Members.{rising_increases}
use Rattle.sk_sorted.proofs.Pieces.{piece_of, piece_stands, whole_again}
use Rattle.sk_sorted.proofs.sorted_theta.SortedTheta.merge_piece.Goals as goal

pub least_of_both-requires-clause-piece_rises : goal.least_of_both-requires-clause-piece_rises
least_of_both-requires-clause-piece_rises c = subst IsStrictlyIncreasing (sym c.sort_below-count.ensures.piece) (rising_increases _)

kept_is : (c : goal.After-self-1) → c.swap.new.x.items ≡ k_smallest c.self.inside.k (c.self.inside.kept.items ++ piece_of c.self.inside.theta c.args.batch.now)
kept_is c =
    let s = c.self.inside in
    ap (λ v. v.items) c.swap.ensures.x_after
    ∙ c.least_of_both.ensures.least
    ∙ ap (λ (l : List ℕ). k_smallest s.k (l ++ take c.sort_below-count.result c.sort_below-count.new.piece)) c.as_slice.ensures.value
    ∙ ap (λ (l : List ℕ). k_smallest s.k (s.kept.items ++ l)) c.sort_below-count.ensures.piece

pub invariant_of-self : goal.invariant_of-self
invariant_of-self c =
    let s = c.self.inside in
    let room : s.k ≤ vec_capacity c.swap.new.x = subst (λ v. s.k ≤ vec_capacity v) (sym c.swap.ensures.x_after) c.least_of_both.ensures.room in
    let spare : s.k ≤ vec_capacity c.swap.new.y = subst (λ v. s.k ≤ vec_capacity v) (sym c.swap.ensures.y_after) c.self.invariant.1 in
    (subst (λ (l : List ℕ). IsWhole (record { k = s.k; kept = l })) (sym (kept_is c)) (whole_again s.k s.theta s.kept.items c.args.batch.now c.self.invariant.0 c.requires.items), room, spare, c.theta_among-self-inside.ensures ∙ ap (λ (l : List ℕ). theta_kept s.k l) c.as_slice-2.ensures.value)

pub returns-clause-stands : goal.returns-clause-stands
returns-clause-stands c = λ hashes stands.
    let s = c.self.inside in
    let batch = c.args.batch.now in
    kept_is c
    ∙ ap (λ (theta : ℕ). k_smallest s.k (s.kept.items ++ piece_of theta batch)) c.self.invariant.3
    ∙ piece_stands s.k s.kept.items hashes batch c.requires.items (subst (λ (sketch : Sketch). StandsFor sketch hashes) (sym c.self.view_is) stands)
