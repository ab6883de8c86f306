use Rattle.std.proofs.Common.{◌≡◌, ◌≢◌, Bool, true, false, List, ◌∷◌, codes, None, sym, ap, ◌∙◌, refl}
use Rattle.std.specs.Prelude.{bytes_eq}
use Rattle.std.proofs.lemmas.Slice.Eq.{bytes_eq-Decides}
use Rattle.sk_cli.specs.Command.{request_of}
use Rattle.sk_cli.specs.Options.{texts_of}
use Rattle.sk_cli.specs.Values.{Word}
use Rattle.sk_cli.proofs.command.Request.of.Goals as goal

differs : (word text : Word) → word ≢ text → bytes_eq word text ≡ false
differs word text other = by (bytes_eq word text) refl
  where
    by : (b : Bool) → bytes_eq word text ≡ b → bytes_eq word text ≡ false
    by true is = absurd (other ((bytes_eq-Decides word text).0 is))
    by false is = is

-- a first word that is no command
no_command : (word : Word) (words : List Word) → word ≢ codes "count" → word ≢ codes "hash" → word ≢ codes "image" → word ≢ codes "join" → word ≢ codes "make" → word ≢ codes "quantile" → word ≢ codes "replay" → word ≢ codes "serve" → word ≢ codes "tally" → word ≢ codes "tenants" → word ≢ codes "window" → word ≢ codes "--help" → word ≢ codes "--version" → request_of (word ∷ words) ≡ None
no_command word words count hash image join make quantile replay serve tally tenants window help version =
    let a = differs word (codes "count") count in
    let b = differs word (codes "hash") hash in
    let i = differs word (codes "image") image in
    let j = differs word (codes "join") join in
    let d = differs word (codes "make") make in
    let q = differs word (codes "quantile") quantile in
    let e = differs word (codes "replay") replay in
    let s = differs word (codes "serve") serve in
    let t = differs word (codes "tally") tally in
    let u = differs word (codes "tenants") tenants in
    let w = differs word (codes "window") window in
    let f = differs word (codes "--help") help in
    let g = differs word (codes "--version") version in
    rw (a, b, i, j, d, q, e, s, t, u, w, f, g) refl

pub returns-in_default-clause-value : goal.returns-in_default-clause-value
returns-in_default-clause-value c =
    let other = c.in_default in
    sym (ap (λ words. request_of (texts_of words)) c.in_ok-verb.ensures.cases.0
    ∙ ap (λ (word : Word). request_of (word ∷ texts_of c.in_ok-verb.behind.now)) (sym c.as_str.ensures.value)
    ∙ no_command c.as_str.result.now (texts_of c.in_ok-verb.behind.now) other.not-count other.not-hash other.not-image other.not-join other.not-make other.not-quantile other.not-replay other.not-serve other.not-tally other.not-tenants other.not-window other.not-text other.not-text-2)
