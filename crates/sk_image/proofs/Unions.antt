-- The k smallest of two lists.
use Rattle.std.proofs.Common.{◌≡◌, ◌<◌, ◌≤◌, ◌*◌, cond, lt-ltb, le-ltb, inl, ℕ, List, [], ◌++◌, length, get_or, sym, ap, ◌∙◌, arith, append-nil}
use Rattle.std.proofs.lemmas.List.Elements.{All-append, All-contains, Contains-get_or}
use Rattle.std.specs.Prelude.{nat_lt, if◌then◌else◌, slice_index, ◌-◌}
use Rattle.std.specs.List.Sorted.{IsStrictlyIncreasing}
use Rattle.sk_model.specs.Sketch.{k_smallest, fraction_to, estimate_to}
use Rattle.sk_model.proofs.Sketch.{a_batch_more, count_within, k_smallest_is, k_smallest_rises, k_smallest_has_members}
use Rattle.sk_image.specs.Images.{IsImage}
use Rattle.sk_image.specs.Versions.{IsHash}

pub kept_again : (k : ℕ) (xs : List ℕ) → k_smallest k (k_smallest k xs) ≡ k_smallest k xs
kept_again k xs = sym (ap (λ (l : List ℕ). k_smallest k l) (append-nil (k_smallest k xs))) ∙ sym (a_batch_more k xs []) ∙ ap (λ (l : List ℕ). k_smallest k l) (append-nil xs)

-- a fraction as the kept hashes give it
abbrev fraction_kept : ℕ → ℕ → List ℕ → ℕ × ℕ
fraction_kept end k kept = fraction_to end k (length kept) (if nat_lt (length kept) k then end else slice_index kept (k - 1))

pub kept_estimates : (end k : ℕ) (xs : List ℕ) → estimate_to end k (k_smallest k xs) ≡ estimate_to end k xs
kept_estimates end k xs = ap (fraction_kept end k) (kept_again k xs)

-- a rising list of at most k is its own k smallest
itself : (k : ℕ) (xs : List ℕ) → IsStrictlyIncreasing xs → length xs ≤ k → k_smallest k xs ≡ xs
itself k xs up most = k_smallest_is k xs xs up most (λ x has. has) (λ x has. inl has)

estimate_of_kept : (end k : ℕ) (xs : List ℕ) → IsStrictlyIncreasing xs → length xs ≤ k → estimate_to end k xs ≡ fraction_kept end k xs
estimate_of_kept end k xs up most = ap (fraction_kept end k) (itself k xs up most)

pub estimate_of_few : (end k : ℕ) (xs : List ℕ) → IsStrictlyIncreasing xs → length xs < k → estimate_to end k xs ≡ (length xs, 1)
estimate_of_few end k xs up few =
    estimate_of_kept end k xs up (omega (arith, few))
    ∙ ap (λ b. cond b (length xs, 1) ((k - 1) * end, cond b end (slice_index xs (k - 1)))) (lt-ltb (length xs) k few)

pub estimate_of_full : (end k : ℕ) (xs : List ℕ) → IsStrictlyIncreasing xs → length xs ≡ k → estimate_to end k xs ≡ ((k - 1) * end, slice_index xs (k - 1))
estimate_of_full end k xs up full =
    estimate_of_kept end k xs up (omega (arith, full))
    ∙ ap (λ b. cond b (length xs, 1) ((k - 1) * end, cond b end (slice_index xs (k - 1)))) (le-ltb (length xs) k (omega (arith, full)))

-- what two images with the same numbers join to is an image
pub joined_is_image : (version k seed : ℕ) (xs ys : List ℕ) → IsImage version k seed xs → IsImage version k seed ys → IsImage version k seed (k_smallest k (xs ++ ys))
joined_is_image version k seed xs ys one other = record {
  version_is = one.version_is;
  least = one.least;
  most = one.most;
  seed_fits = one.seed_fits;
  rises = k_smallest_rises k (xs ++ ys);
  hashes_fit = λ i d inside. All-contains (λ hash. IsHash version hash) (xs ++ ys) (get_or (k_smallest k (xs ++ ys)) i d)
      (All-append (λ hash. IsHash version hash) xs ys one.hashes_fit other.hashes_fit)
      (k_smallest_has_members k (xs ++ ys) (get_or (k_smallest k (xs ++ ys)) i d) (Contains-get_or (k_smallest k (xs ++ ys)) i d inside));
  within = count_within k (xs ++ ys);
}
