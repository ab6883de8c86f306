-- What the calls of a sketch of the k smallest leave.
use Rattle.std.proofs.Common.{◌≡◌, ℕ, List, [], ◌++◌, Result, Ok, Err, ap, ◌∙◌}
use Rattle.core.specs.Result.{IfOk}
use Rattle.sk_model.specs.Sketch.{k_smallest}
use Rattle.sk_model.specs.declared.memory.OutOfMemory.{OutOfMemory}
use Rattle.sk_model.proofs.Sketch.{k_smallest-nil}
use Rattle.sk_theta.specs.Kept.{Sketch, StandsFor, IsWhole}
use Rattle.sk_snap.specs.Thetas.{new_theta, taken, stands_for_kept}

-- a sketch of this k that stands for these is known
same_sketch : (s : Sketch) (k : ℕ) (kept : List ℕ) → s.k ≡ k → s.kept ≡ kept → s ≡ record { k = k; kept = kept }
same_sketch s k kept same_k same_kept = λ i. record { k = same_k i; kept = same_kept i }

pub new_is : (k : ℕ) (r : Result Sketch OutOfMemory) → IfOk r (λ s. s.k ≡ k) → IfOk r (λ s. StandsFor s []) → IfOk r (λ s. s ≡ new_theta k)
new_is k (Ok s) same stands = same_sketch s k [] same (stands ∙ k_smallest-nil s.k)
new_is k (Err e) same stands = tt

pub taken_is : (old new : Sketch) (items : List ℕ) → IsWhole old → new.k ≡ old.k → ((hashes : List ℕ) → StandsFor old hashes → StandsFor new (hashes ++ items)) → new ≡ taken old items
taken_is old new items whole same stands =
    same_sketch new old.k (k_smallest old.k (old.kept ++ items)) same
    (stands old.kept (stands_for_kept old whole) ∙ ap (λ (k : ℕ). k_smallest k (old.kept ++ items)) same)
