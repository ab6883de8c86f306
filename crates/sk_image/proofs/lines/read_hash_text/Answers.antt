use Rattle.std.proofs.Common.{◌≡◌, ◌<◌, ◌^◌, ℕ, sym, ap, ◌∙◌, subst, arith}
use Rattle.sk_lines.specs.Hashes.{hex}
use Rattle.sk_image.specs.Images.{hash_text}
use Rattle.sk_image.specs.Versions.{IsHash, digits_of}
use Rattle.sk_image.proofs.Versions.{digits_suffice}
use Rattle.sk_image.proofs.lines.read_hash_text.Goals as goal
use Rattle.sk_image.proofs.lines.read_hash_text.Goals.{then-hash-least_hash_of-via-then-hash-least_hash_of, then-hash-least_hash_of-via-else-hash-least_hash_of+then-hash-end_of}

room : (version width hash : ℕ) → width ≡ digits_of version → IsHash version hash → hash < 16 ^ width
room version width hash is fits = subst (λ (w : ℕ). hash < 16 ^ w) (sym is) (digits_suffice version hash fits)

text_by : (version width hash : ℕ) → width ≡ digits_of version → hex width hash ≡ hash_text version hash
text_by version width hash is = ap (λ (w : ℕ). hex w hash) is

pub returns-in_err-hash-clause-exact : goal.returns-in_err-hash-clause-exact
returns-in_err-hash-clause-exact c = rw c.from_residual.ensures (λ hash is. (
  λ e. absurd cc,
  λ e.
      let width = c.digits_of.ensures.value in
      let none = (c.in_err-hash.ensures.exact hash (room c.args.version c.digits_of.result hash width is)).1 (e ∙ sym (text_by c.args.version c.digits_of.result hash width)) in
      absurd cc,
))

pub returns-then-hash-least_hash_of-clause-exact : goal.returns-then-hash-least_hash_of-clause-exact
returns-then-hash-least_hash_of-clause-exact c = λ hash is. (
  λ e. absurd cc,
  λ e.
      let width = c.digits_of.ensures.value in
      let read = (c.in_ok-hash.ensures.exact hash (room c.args.version c.digits_of.result hash width is)).1 (e ∙ sym (text_by c.args.version c.digits_of.result hash width)) in
      let same : c.in_ok-hash.hash ≡ hash = cc in
      elim c.then-hash-least_hash_of.branch [
        | then-hash-least_hash_of-via-then-hash-least_hash_of w ↦ absurd (omega (arith, w.if-hash-least_hash_of.true, is.0, same, c.least_hash_of.ensures))
        | then-hash-least_hash_of-via-else-hash-least_hash_of+then-hash-end_of w ↦ absurd (omega (arith, w.if-hash-end_of.true, is.1, same, w.end_of.ensures))
      ],
)

pub returns-clause-exact : goal.returns-clause-exact
returns-clause-exact c = λ hash is.
    let width = c.digits_of.ensures.value in
    let by = c.in_ok-hash.ensures.exact hash (room c.args.version c.digits_of.result hash width is) in (
      λ e. by.0 e ∙ text_by c.args.version c.digits_of.result hash width,
      λ e. by.1 (e ∙ sym (text_by c.args.version c.digits_of.result hash width)),
    )
