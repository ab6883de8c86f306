use Rattle.std.proofs.Common.{◌≡◌, ℕ, List, ◌∷◌, ◌++◌, None, Some, codes, decimal, sym, ap, ◌∙◌}
use Rattle.std.proofs.lemmas.Bool.Decides.{Decides-eqb}
use Rattle.std.proofs.lemmas.List.{append_cancel_left}
use Rattle.std.proofs.lemmas.Slice.Eq.{strip_prefix_is}
use Rattle.sk_image.proofs.Grammar.{first_parts, no_blank_in_decimal}
use Rattle.sk_image.proofs.lines.numbers_of.Goals as goal

-- what follows the version, and what follows the k
after_k : ℕ → List ℕ
after_k seed = codes "seed=" ++ decimal seed

after_version : ℕ → ℕ → List ℕ
after_version k seed = codes "k=" ++ (decimal k ++ 32 ∷ after_k seed)

pub returns-in_err-version : goal.returns-in_err-version
unfolding after_version after_k
returns-in_err-version c = rw c.from_residual.ensures (λ version k seed small few. (
  λ e. (c.in_err-version.ensures.exact (decimal version) (after_version k seed) (no_blank_in_decimal version small)).0 (e ∙ first_parts version k seed),
  λ none. absurd none,
))

pub returns-in_err-k : goal.returns-in_err-k
unfolding after_version after_k
returns-in_err-k c = rw c.from_residual-in_err-k.ensures (λ version k seed small few. (
  λ e.
      let rest = (c.in_ok-version.ensures.exact (decimal version) (after_version k seed) (no_blank_in_decimal version small)).0 (e ∙ first_parts version k seed) in
      (c.in_err-k.ensures.exact (decimal k) (after_k seed) (no_blank_in_decimal k few)).0 rest.1,
  λ none. absurd none,
))

pub returns-in_err-seed : goal.returns-in_err-seed
unfolding after_version after_k
returns-in_err-seed c = rw c.from_residual-in_err-seed.ensures (λ version k seed small few. (
  λ e.
      let rest = (c.in_ok-version.ensures.exact (decimal version) (after_version k seed) (no_blank_in_decimal version small)).0 (e ∙ first_parts version k seed) in
      let last = (c.in_ok-k.ensures.exact (decimal k) (after_k seed) (no_blank_in_decimal k few)).0 rest.1 in
      strip_prefix_is Decides-eqb c.in_ok-k.rest.now (codes "seed=") None c.in_err-seed.ensures.cases (decimal seed) last.1,
  λ none. absurd none,
))

pub returns : goal.returns
unfolding after_version after_k
returns c = λ version k seed small few.
    let seed_is = strip_prefix_is Decides-eqb c.in_ok-k.rest.now (codes "seed=") (Some c.in_ok-seed.seed) c.in_ok-seed.ensures.cases in
    let by_k = c.in_ok-k.ensures.exact (decimal k) (after_k seed) (no_blank_in_decimal k few) in
    let by_version = c.in_ok-version.ensures.exact (decimal version) (after_version k seed) (no_blank_in_decimal version small) in (
      λ e.
          let rest = by_version.0 (e ∙ first_parts version k seed) in
          let last = by_k.0 rest.1 in
          (rest.0, last.0, append_cancel_left (codes "seed=") c.in_ok-seed.seed.now (decimal seed) (sym seed_is ∙ last.1)),
      λ texts.
          let last : c.in_ok-k.rest.now ≡ after_k seed = seed_is ∙ ap (λ (l : List ℕ). codes "seed=" ++ l) texts.2 in
          by_version.1 (texts.0, by_k.1 (texts.1, last)) ∙ sym (first_parts version k seed),
    )
