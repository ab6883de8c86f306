use Rattle.std.proofs.Common.{◌≡◌, ◌+◌, ℕ, List, [], ◌∷◌, ◌++◌, length, map, sym, ap, ◌∙◌, subst, arith}
use Rattle.std.proofs.lemmas.Bool.{true≢false}
use Rattle.std.proofs.lemmas.List.{length-map}
use Rattle.sk_image.specs.Images.{first_line, hash_text, last_line}
use Rattle.sk_image.specs.Reading.{BeginAnImage}
use Rattle.sk_image.proofs.Grammar.{with_last, bad_behind_hashes}
use Rattle.sk_image.proofs.Versions.{most_k_within}
use Rattle.sk_image.proofs.part.Part.of_next.Goals as goal

pub returns-then-is_last-clause-ok : goal.returns-then-is_last-clause-ok
returns-then-is_last-clause-ok c = λ lines are.
    let image = c.args.image in
    let items = image.hashes.items in
    let size : c.len.result ≡ length items = omega (arith, c.len.ensures, image.hashes.ok.0) in
    let last : c.args.line.now ≡ last_line (length items) = c.is_last.ensures.0 c.if-is_last.true ∙ ap last_line size in
    ap (λ (ls : List (List ℕ)). ls ++ c.args.line.now ∷ []) are
    ∙ ap (λ (l : List ℕ). (first_line image.version image.k image.seed ∷ map (hash_text image.version) items) ++ l ∷ []) last ∙ with_last image.version image.k image.seed items

pub returns-in-None-clause-bad : goal.returns-in-None-clause-bad
returns-in-None-clause-bad c = λ n e lines are.
    let image = c.args.image in
    let items = image.hashes.items in
    let line : List ℕ = c.args.line.now in
    let size : c.len.result ≡ length items = omega (arith, c.len.ensures, image.hashes.ok.0) in
    let number : c.len-in-None.result + 2 ≡ n = cc in
    let bad = bad_behind_hashes image.version image.k image.seed items line image.whole
    (λ last. true≢false (sym (c.is_last.ensures.1 (last ∙ ap last_line (sym size))) ∙ c.if-is_last.false))
    (λ h is whole. let none = (c.in-None.ensures h).1 (is, whole) in absurd cc) in (
      omega (arith, number, c.len-in-None.ensures, image.hashes.ok.0, ap (λ (l : List (List ℕ)). length l) are, length-map items (hash_text image.version)),
      subst (λ (ls : List (List ℕ)). ¬ BeginAnImage (ls ++ line ∷ [])) (sym are) bad,
    )

pub is_last-requires : goal.is_last-requires
is_last-requires c =
    let whole = c.args.image.whole in
    omega (arith, c.len.ensures, c.args.image.hashes.ok.0, whole.within, whole.most, most_k_within c.args.image.version)
