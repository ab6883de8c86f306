use Rattle.std.proofs.Common.{◌≡◌, ◌-◌, ◌*◌, ℕ, length, sym, ap, ap₂, ◌∙◌, arith}
use Rattle.std.proofs.lemmas.List.{get_or_read}
use Rattle.sk_image.proofs.Unions.{estimate_of_few, estimate_of_full}
use Rattle.sk_image.specs.Versions.{end_of}
use Rattle.sk_image.proofs.image.Image.fraction.Goals as goal

pub returns-then-len-k-clause-value : goal.returns-then-len-k-clause-value
returns-then-len-k-clause-value c =
    let image = c.args.self.now in
    let items = image.hashes.items in
    let size : c.len-then-len-k.result ≡ length items = omega (arith, c.len-then-len-k.ensures, image.hashes.ok.0) in
    ap (λ (n : ℕ). (n, 1)) size ∙ sym (estimate_of_few (end_of image.version) image.k items image.whole.rises (omega (arith, c.if-len-k.true, c.len.ensures, image.hashes.ok.0)))

pub returns-clause-value : goal.returns-clause-value
returns-clause-value c =
    let image = c.args.self.now in
    let items = image.hashes.items in
    let full : length items ≡ image.k = omega (arith, c.if-len-k.false, c.len.ensures, image.hashes.ok.0, image.whole.within) in
    let last = get_or_read items (image.k - 1) c.index-theta.result.now (omega (arith, full, image.whole.least)) c.index-theta.ensures 0 in
    ap₂ (λ (n theta : ℕ). (n, theta)) (ap₂ (λ (m end : ℕ). m * end) c.from.ensures (c.from-2.ensures ∙ c.end_of.ensures)) last
    ∙ sym (estimate_of_full (end_of image.version) image.k items image.whole.rises full)
