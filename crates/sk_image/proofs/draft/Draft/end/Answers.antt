use Rattle.std.proofs.Common.{◌≡◌, ℕ, List, [], ◌∷◌, length, map, vec_len, refl, sym, ap, ◌∙◌, subst, arith, eq-eqb}
use Rattle.std.proofs.lemmas.Bool.{true≢false}
use Rattle.sk_image.specs.Images.{first_line, hash_text}
use Rattle.sk_image.specs.Inside.{Holds}
use Rattle.sk_image.specs.declared.part.Part.{Part}
use Rattle.sk_image.proofs.Grammar.{open_is_not_whole, nothing_is_not_whole}
use Rattle.sk_image.proofs.Drafts.{bad_at_end}
use Rattle.sk_image.proofs.draft.Draft.end.Goals as goal

pub returns-in-Whole-2-clause-bad : goal.returns-in-Whole-2-clause-bad
returns-in-Whole-2-clause-bad c = (
  c.next_line-number.result,
  refl,
  λ text has. bad_at_end c.args.self text has c.next_line-number.result (c.next_line-number.ensures has.lines has.holds) (λ version k seed hashes whole none.
      let empty : vec_len c.args.self.line ≡ 0 = omega (arith, c.args.self.line.ok.0, ap (λ (l : List ℕ). length l) none) in
      true≢false (sym (c.is_empty.ensures ∙ eq-eqb (vec_len c.args.self.line) 0 empty) ∙ c.if-is_empty.false)),
)

pub returns-in-Open-clause-bad : goal.returns-in-Open-clause-bad
returns-in-Open-clause-bad c = (
  c.next_line-number.result,
  refl,
  λ text has. bad_at_end c.args.self text has c.next_line-number.result (c.next_line-number.ensures has.lines has.holds) (λ version k seed hashes whole none.
      let image = c.in-Open._image in
      let are : has.lines ≡ first_line image.version image.k image.seed ∷ map (hash_text image.version) image.hashes.items = subst (λ (p : Part). Holds p has.lines) c.in-Open.is has.holds in
      open_is_not_whole image.version image.k image.seed version k seed image.hashes.items hashes (whole ∙ are)),
)

pub returns-clause-bad : goal.returns-clause-bad
returns-clause-bad c = (
  c.next_line-number.result,
  refl,
  λ text has. bad_at_end c.args.self text has c.next_line-number.result (c.next_line-number.ensures has.lines has.holds) (λ version k seed hashes whole none.
      let are : has.lines ≡ [] = subst (λ (p : Part). Holds p has.lines) c.in-Nothing.is has.holds in
      nothing_is_not_whole version k seed hashes (whole ∙ are)),
)
