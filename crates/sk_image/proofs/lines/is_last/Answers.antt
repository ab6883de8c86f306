use Rattle.std.proofs.Common.{◌≡◌, ℕ, List, ◌++◌, Option, None, Some, true, eqb, codes, decimal, sym, ap, ◌∙◌, arith, eqb-true, eq-eqb}
use Rattle.std.specs.Option.{option_eq}
use Rattle.std.proofs.lemmas.Bool.Decides.{Decides-eqb}
use Rattle.std.proofs.lemmas.List.{append_cancel_left}
use Rattle.std.proofs.lemmas.Slice.Eq.{strip_prefix_is}
use Rattle.sk_image.specs.Images.{last_line}
use Rattle.sk_image.proofs.lines.is_last.Goals as goal

same_option : (o : Option ℕ) (n : ℕ) → option_eq eqb o (Some n) ≡ true → o ≡ Some n
same_option None n e = absurd cc
same_option (Some m) n e = ap (λ (x : ℕ). Some x) (eqb-true m n e)

option_same : (o : Option ℕ) (n : ℕ) → o ≡ Some n → option_eq eqb o (Some n) ≡ true
option_same None n e = absurd cc
option_same (Some m) n e = let same : m ≡ n = cc in eq-eqb m n same

pub returns-in-Some : goal.returns-in-Some
unfolding last_line
returns-in-Some c =
    let name = strip_prefix_is Decides-eqb c.args.line.now (codes "end ") (Some c.in-Some.number) c.in-Some.ensures.cases in
    let exact = c.read_plain.ensures.exact c.args.count (omega (arith, c.requires)) in (
      λ yes. name ∙ ap (λ (l : List ℕ). codes "end " ++ l) (exact.0 (same_option c.read_plain.result c.args.count (sym c.eq.ensures ∙ yes))),
      λ e. c.eq.ensures ∙ option_same c.read_plain.result c.args.count (exact.1 (append_cancel_left (codes "end ") c.in-Some.number.now (decimal c.args.count) (sym name ∙ e))),
    )

pub returns-in-None : goal.returns-in-None
unfolding last_line
returns-in-None c = (
  λ no. absurd cc,
  λ e. absurd (strip_prefix_is Decides-eqb c.args.line.now (codes "end ") None c.in-None.ensures.cases (decimal c.args.count) e),
)
