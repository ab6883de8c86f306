use Rattle.std.proofs.Common.{◌≡◌, ◌+◌, ℕ, arith, ap, ◌∙◌}
use Rattle.sk_quant.specs.Ranks.{error_terms}
use Rattle.sk_quant.proofs.Errors.{no_terms, one_term_more, terms_are_few, error_terms_all}
use Rattle.sk_quant.proofs.ranks.error_of.Goals as goal

pub terms-init : goal.terms-init
terms-init c = no_terms c.args.n c.args.k

pub overflow_add-error : goal.overflow_add-error
overflow_add-error c =
    omega (arith, c.terms.invariant, one_term_more c.args.n c.args.k c.terms.l c.from.result c.from.ensures c.requires.few, terms_are_few c.args.n c.args.k (c.terms.l + 1) c.requires.few)

pub terms-preserved : goal.terms-preserved
terms-preserved c =
    omega (arith, c.terms.invariant, one_term_more c.args.n c.args.k c.terms.l c.from.result c.from.ensures c.requires.few)

pub returns : goal.returns
returns c =
    let last : c.terms.l ≡ 48 = omega arith in
    c.terms.invariant ∙ ap (λ (l : ℕ). error_terms c.args.n c.args.k l) last ∙ error_terms_all c.args.n c.args.k 48 (omega arith)
