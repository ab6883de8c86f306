use Rattle.std.proofs.Common.{◌≡◌, ℕ, ◌≤◌, List, true, ap, sym, subst, ◌∙◌}
use Rattle.std.specs.BinaryHeap.{heap_items}
use Rattle.std.proofs.lemmas.Bool.{false≢true}
use Rattle.sk_model.specs.Sketch.{rising, k_smallest}
use Rattle.sk_theta.specs.Kept.{Sketch, theta_kept}
use Rattle.sk_theta.proofs.Sketches.{idle_stands, idle_unchanged, placed_stands, placed_changed}
use Rattle.sk_heap.specs.Table.{is_at_home}
use Rattle.sk_heap.proofs.AtHome.{known_stands, home_is_known}
use Rattle.sk_heap.proofs.heap_theta.HeapTheta.update.Goals as goal

pub returns-then-h-self-clause-stands : goal.returns-then-h-self-clause-stands
returns-then-h-self-clause-stands c =
    let s = c.args.self.now in
    let past : theta_kept s.k s.kept ≤ c.args.h = subst (λ (s : Sketch). theta_kept s.k s.kept ≤ c.args.h) c.self.view_is (rw (c.self.invariant.2) at c.if-h-self.true) in
    λ hashes stands. idle_stands s.k c.args.h s.kept hashes (c.requires.item) past stands

pub returns-then-h-self-clause-changed : goal.returns-then-h-self-clause-changed
returns-then-h-self-clause-changed c =
    let s = c.args.self.now in
    let past : theta_kept s.k s.kept ≤ c.args.h = subst (λ (s : Sketch). theta_kept s.k s.kept ≤ c.args.h) c.self.view_is (rw (c.self.invariant.2) at c.if-h-self.true) in
    λ hashes stands. (λ no. absurd (false≢true no), λ other. absurd (other (idle_unchanged s.k c.args.h s.kept hashes (c.requires.item) past stands)))

pub returns-clause-stands : goal.returns-clause-stands
returns-clause-stands c =
    let s = c.args.self.now in
    λ hashes stands. rw c.put.ensures.numbers (placed_stands s.k c.args.h s.kept c.put.new.self.kept hashes c.put.ensures.kept stands)

pub returns-clause-changed : goal.returns-clause-changed
returns-clause-changed c =
    let s = c.args.self.now in
    λ hashes stands. placed_changed s.k c.args.h s.kept c.put.new.self.kept hashes c.put.result c.put.ensures.kept c.put.ensures.changed stands

pub returns-then-is_at_home-clause-stands : goal.returns-then-is_at_home-clause-stands
returns-then-is_at_home-clause-stands c =
    let i = c.self.inside in let heap : List ℕ = heap_items i.heap in
    let shown : rising heap ≡ c.args.self.now.kept = ap (λ (s : Sketch). s.kept) c.self.view_is in
    let k_is : i.k ≡ c.args.self.now.k = ap (λ (s : Sketch). s.k) c.self.view_is in
    let there : is_at_home i.table.items c.args.h ≡ true = rw (← c.as_slice.ensures.value) (sym c.is_at_home.ensures ∙ c.if-is_at_home.true) in
    λ hashes stands. stands ∙ sym (known_stands c.args.self.now.k c.args.h hashes (home_is_known i.k heap i.table.items c.self.invariant.0 hashes c.args.h (shown ∙ subst (λ k. c.args.self.now.kept ≡ k_smallest k hashes) (sym k_is) stands) there))

pub returns-then-is_at_home-clause-changed : goal.returns-then-is_at_home-clause-changed
returns-then-is_at_home-clause-changed c =
    let i = c.self.inside in let heap : List ℕ = heap_items i.heap in
    let shown : rising heap ≡ c.args.self.now.kept = ap (λ (s : Sketch). s.kept) c.self.view_is in
    let k_is : i.k ≡ c.args.self.now.k = ap (λ (s : Sketch). s.k) c.self.view_is in
    let there : is_at_home i.table.items c.args.h ≡ true = rw (← c.as_slice.ensures.value) (sym c.is_at_home.ensures ∙ c.if-is_at_home.true) in
    λ hashes stands. (
      λ no. absurd (false≢true no),
      λ other. absurd (other (known_stands c.args.self.now.k c.args.h hashes (home_is_known i.k heap i.table.items c.self.invariant.0 hashes c.args.h (shown ∙ subst (λ k. c.args.self.now.kept ≡ k_smallest k hashes) (sym k_is) stands) there))),
    )
