use Rattle.std.proofs.Common.{◌≡◌, ◌≢◌, ◌↔◌, ℕ, List, ◌∷◌, ◌++◌, Option, None, Some, All, IfSome, IsNone, MatchOption, Bor, refl, sym, ap, ◌∙◌}
use Rattle.std.proofs.lemmas.Bool.Decides.{Decides-eqb}
use Rattle.std.proofs.lemmas.List.{append_cancel_left}
use Rattle.std.proofs.lemmas.Slice.Eq.{strip_prefix_is}
use Rattle.sk_image.proofs.Splits.{cut, no_cut}
use Rattle.sk_image.proofs.lines.word_after.Goals as goal

-- what is found after the name is what the bytes have there
decided : (bytes name rest : List ℕ) (found : Option (Bor (List ℕ) × Bor (List ℕ))) → bytes ≡ name ++ rest →
    IfSome found (λ parts. (rest ≡ parts.0.now ++ 32 ∷ parts.1.now) × All (λ byte. byte ≢ 32) parts.0.now) → (IsNone found → All (λ byte. byte ≢ 32) rest) →
    (word more : List ℕ) → All (λ byte. byte ≢ 32) word → (bytes ≡ name ++ (word ++ 32 ∷ more) ↔ MatchOption found ⊥ (λ parts. (parts.0.now ≡ word) × (parts.1.now ≡ more)))
decided bytes name rest None is some none word more plain = (
  λ e. no_cut 32 word more rest (none refl) (sym (append_cancel_left name rest (word ++ 32 ∷ more) (sym is ∙ e))),
  λ no. absurd no,
)
decided bytes name rest (Some parts) is some none word more plain = (
  λ e. cut 32 parts.0.now word parts.1.now more some.1 plain (sym some.0 ∙ append_cancel_left name rest (word ++ 32 ∷ more) (sym is ∙ e)),
  λ same. is ∙ ap (λ (l : List ℕ). name ++ l) (some.0 ∙ ap (λ (l : List ℕ). l ++ 32 ∷ parts.1.now) same.0 ∙ ap (λ (l : List ℕ). word ++ 32 ∷ l) same.1),
)

pub returns-in_err-rest-clause-exact : goal.returns-in_err-rest-clause-exact
returns-in_err-rest-clause-exact c = rw c.from_residual.ensures (λ word rest plain. (
  λ e. strip_prefix_is Decides-eqb c.args.bytes.now c.args.name.now None c.in_err-rest.ensures.cases (word ++ 32 ∷ rest) e,
  λ none. absurd none,
))

pub returns-clause-exact : goal.returns-clause-exact
returns-clause-exact c = λ word rest plain.
    let name = strip_prefix_is Decides-eqb c.args.bytes.now c.args.name.now (Some c.in_ok-rest.rest) c.in_ok-rest.ensures.cases in
    decided c.args.bytes.now c.args.name.now c.in_ok-rest.rest.now c.split_at_blank.result name c.split_at_blank.ensures.some c.split_at_blank.ensures.none word rest plain
