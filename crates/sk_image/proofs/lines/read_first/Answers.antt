use Rattle.std.proofs.Common.{◌≡◌, ◌<◌, ◌^◌, ℕ, Some, ap, ◌∙◌, arith}
use Rattle.sk_model.specs.Limits.{least_k, IsFrom}
use Rattle.sk_image.specs.declared.lines.First.{First}
use Rattle.sk_image.specs.Versions.{IsVersion, most_k_of}
use Rattle.sk_image.proofs.Versions.{most_k_within}
use Rattle.sk_image.proofs.lines.read_first.Goals as goal
use Rattle.sk_image.proofs.lines.read_first.Goals.{then-version-lt1-via-then-version-lt1, then-version-lt1-via-else-version-lt1+then-k-lt-LEAST_K}

small : (version : ℕ) → IsVersion version → version < 2 ^ 64
small version is = omega (arith, is.1)

few : (version k : ℕ) → IsFrom least_k (most_k_of version) k → k < 2 ^ 64
few version k within = omega (arith, within.1, most_k_within version)

pub returns-in_err-version-clause-exact : goal.returns-in_err-version-clause-exact
returns-in_err-version-clause-exact c = rw c.from_residual.ensures (λ version k seed is within fits. (
  λ e. absurd cc,
  λ e. absurd ((c.in_err-version.ensures version k seed (small version is) (few version k within)).0 e),
))

pub returns-in_err-version-2-clause-exact : goal.returns-in_err-version-2-clause-exact
returns-in_err-version-2-clause-exact c = rw c.from_residual-in_err-version-2.ensures (λ version k seed is within fits. (
  λ e. absurd cc,
  λ e.
      let texts = (c.in_ok-version.ensures version k seed (small version is) (few version k within)).0 e in
      let read = (c.in_err-version-2.ensures.exact version (omega (arith, is.1))).1 texts.0 in
      absurd cc,
))

-- a first line of this version has it read
pub returns-in_err-k-clause-exact : goal.returns-in_err-k-clause-exact
returns-in_err-k-clause-exact c = rw c.from_residual-in_err-k.ensures (λ version k seed is within fits. (
  λ e. absurd cc,
  λ e.
      let texts = (c.in_ok-version.ensures version k seed (small version is) (few version k within)).0 e in
      let read = (c.in_ok-version-2.ensures.exact version (omega (arith, is.1))).1 texts.0 in
      let same : c.in_ok-version-2.field-0 ≡ version = cc in
      let most : c.most_k_of.result ≡ most_k_of version = c.most_k_of.ensures ∙ ap most_k_of same in
      let none = (c.in_err-k.ensures.exact k (omega (arith, within.1, most, c.from.ensures))).1 texts.1 in
      absurd cc,
))

pub returns-in_err-seed-clause-exact : goal.returns-in_err-seed-clause-exact
returns-in_err-seed-clause-exact c = rw c.from_residual-in_err-seed.ensures (λ version k seed is within fits. (
  λ e. absurd cc,
  λ e.
      let texts = (c.in_ok-version.ensures version k seed (small version is) (few version k within)).0 e in
      let none = (c.in_err-seed.ensures.exact seed fits).1 texts.2 in
      absurd cc,
))

pub returns-then-version-lt1-clause-exact : goal.returns-then-version-lt1-clause-exact
returns-then-version-lt1-clause-exact c = λ version k seed is within fits. (
  λ e. absurd cc,
  λ e.
      let texts = (c.in_ok-version.ensures version k seed (small version is) (few version k within)).0 e in
      let read = (c.in_ok-version-2.ensures.exact version (omega (arith, is.1))).1 texts.0 in
      let same : c.in_ok-version-2.field-0 ≡ version = cc in
      let most : c.most_k_of.result ≡ most_k_of version = c.most_k_of.ensures ∙ ap most_k_of same in
      let k_read = (c.in_ok-k.ensures.exact k (omega (arith, within.1, most, c.from.ensures))).1 texts.1 in
      let same_k : c.in_ok-k.field-0 ≡ k = cc in
      elim c.then-version-lt1.branch [
        | then-version-lt1-via-then-version-lt1 w ↦ absurd (omega (arith, w.if-version-lt1.true, is.0, same))
        | then-version-lt1-via-else-version-lt1+then-k-lt-LEAST_K w ↦ absurd (omega (arith, w.if-k-lt-LEAST_K.true, within.0, same_k))
      ],
)

fields : (a b : First) → Some a ≡ Some b → (a.version ≡ b.version) × (a.k ≡ b.k) × (a.seed ≡ b.seed)
fields a b e = let same : a ≡ b = cc in (ap (λ (f : First). f.version) same, ap (λ (f : First). f.k) same, ap (λ (f : First). f.seed) same)

pub returns-clause-exact : goal.returns-clause-exact
returns-clause-exact c = λ version k seed is within fits.
    let by_texts = c.in_ok-version.ensures version k seed (small version is) (few version k within) in
    let by_version = c.in_ok-version-2.ensures.exact version (omega (arith, is.1)) in
    let by_seed = c.in_ok-seed.ensures.exact seed fits in (
      λ e.
          let are = fields (record { version = c.in_ok-version-2.field-0; k = c.in_ok-k.field-0; seed = c.in_ok-seed.field-0 }) (record { version = version; k = k; seed = seed }) e in
          let same : c.in_ok-version-2.field-0 ≡ version = are.0 in
          let same_k : c.in_ok-k.field-0 ≡ k = are.1 in
          let same_seed : c.in_ok-seed.field-0 ≡ seed = are.2 in
          let most : c.most_k_of.result ≡ most_k_of version = c.most_k_of.ensures ∙ ap most_k_of same in
          let by_k = c.in_ok-k.ensures.exact k (omega (arith, within.1, most, c.from.ensures)) in
          by_texts.1 (by_version.0 (ap (λ (n : ℕ). Some n) same), by_k.0 (ap (λ (n : ℕ). Some n) same_k), by_seed.0 (ap (λ (n : ℕ). Some n) same_seed)),
      λ e.
          let texts = by_texts.0 e in
          let read = by_version.1 texts.0 in
          let same : c.in_ok-version-2.field-0 ≡ version = cc in
          let most : c.most_k_of.result ≡ most_k_of version = c.most_k_of.ensures ∙ ap most_k_of same in
          let k_read = (c.in_ok-k.ensures.exact k (omega (arith, within.1, most, c.from.ensures))).1 texts.1 in
          let same_k : c.in_ok-k.field-0 ≡ k = cc in
          let seed_read = by_seed.1 texts.2 in
          let same_seed : c.in_ok-seed.field-0 ≡ seed = cc in
          cc,
    )
