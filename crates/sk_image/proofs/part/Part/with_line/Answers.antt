use Rattle.std.proofs.Common.{◌≡◌, ℕ, List, [], ◌∷◌, ◌++◌, sym, subst, arith}
use Rattle.sk_image.specs.Images.{lines_of_image}
use Rattle.sk_image.specs.Reading.{BeginAnImage}
use Rattle.sk_image.specs.Inside.{Holds}
use Rattle.sk_image.specs.declared.part.Part.{Part}
use Rattle.sk_image.proofs.Grammar.{bad_first, bad_behind_whole}
use Rattle.sk_image.proofs.part.Part.with_line.Goals as goal

pub returns-in-None-clause-bad : goal.returns-in-None-clause-bad
returns-in-None-clause-bad c = λ n e lines holds.
    let line : List ℕ = c.args.line.now in
    let none : lines ≡ [] = subst (λ (p : Part). Holds p lines) c.in-Nothing.is holds in
    let number : c.next_line-number.result ≡ n = cc in
    let bad = bad_first line (λ version k seed is_version least most fits is. let no = (c.in-None.ensures.exact version k seed is_version (least, most) fits).1 is in absurd cc) in (
      omega (arith, number, c.next_line-number.ensures lines holds),
      subst (λ (ls : List (List ℕ)). ¬ BeginAnImage (ls ++ line ∷ [])) (sym none) bad,
    )

pub returns-in-Whole-clause-bad : goal.returns-in-Whole-clause-bad
returns-in-Whole-clause-bad c = λ n e lines holds.
    let line : List ℕ = c.args.line.now in
    let image = c.in-Whole._image in
    let are : lines ≡ lines_of_image image.version image.k image.seed image.hashes.items = subst (λ (p : Part). Holds p lines) c.in-Whole.is holds in
    let number : c.next_line-number.result ≡ n = cc in
    let bad = bad_behind_whole image.version image.k image.seed image.hashes.items image.whole line in (
      omega (arith, number, c.next_line-number.ensures lines holds),
      subst (λ (ls : List (List ℕ)). ¬ BeginAnImage (ls ++ line ∷ [])) (sym are) bad,
    )
