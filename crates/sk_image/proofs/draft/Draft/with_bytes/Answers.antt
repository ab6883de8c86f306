use Rattle.std.proofs.Common.{◌≡◌, ◌+◌, ℕ, List, [], ◌∷◌, ◌++◌, take, drop, get_or, Err, ap, subst, arith}
use Rattle.std.proofs.lemmas.Result.{err_from_is_err_and}
use Rattle.sk_image.specs.Inside.{IsBadFrom}
use Rattle.sk_image.specs.declared.stop.ReadStop.{ReadStop}
use Rattle.sk_image.specs.declared.stop.ReadStop.TheVariants.{BadImage}
use Rattle.sk_image.proofs.Drafts.{parts_of_piece}
use Rattle.sk_image.proofs.Texts.{bad_more}
use Rattle.sk_image.proofs.draft.Draft.with_bytes.Goals as goal

pub returns-in_err-draft-clause-bad : goal.returns-in_err-draft-clause-bad
returns-in_err-draft-clause-bad c = let p = err_from_is_err_and c.from_residual.result c.from_residual.ensures.1 in rw (p.1, p.2) (λ n e text has.
    let i = c.byte.byte-index in
    let bytes : List ℕ = c.args.bytes.now in
    let same : c.in_err-draft.field-0.0 ≡ BadImage n = cc in
    let bad = c.in_err-draft.ensures.bad n (ap (λ (s : ReadStop). Err s) same) (text ++ take i bytes) (c.byte.invariant text has) in
    subst (IsBadFrom n) (parts_of_piece text bytes i (omega (arith, c.byte-test.true)))
    (bad_more n ((text ++ take i bytes) ++ get_or bytes i 0 ∷ []) (drop (i + 1) bytes) bad))
