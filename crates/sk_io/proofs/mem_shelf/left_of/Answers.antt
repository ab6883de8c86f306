use Rattle.std.proofs.Common.{◌≡◌, ℕ, drop, min, length, ◌∙◌, sym, ap, arith}
use Rattle.std.proofs.lemmas.List.{drop_all}
use Rattle.sk_io.proofs.Stored.{bytes_at, bytes_past, drop_within}
use Rattle.sk_io.proofs.mem_shelf.left_of.Goals as goal

pub returns-in-Some-clause-bytes : goal.returns-in-Some-clause-bytes
returns-in-Some-clause-bytes c =
    let at = c.args.file.now.at in
    let bytes = c.deref.result.now in
    let stands = bytes_at c.args.files.now c.args.file.now.number _ c.in-Some.ensures.lookup.3.0 c.in-Some.ensures.lookup.1 in
    let all : c.min.result ≡ min at (length bytes) = omega arith in
    c.split_at.ensures.back ∙ ap (λ (n : ℕ). drop n bytes) all ∙ drop_within at bytes ∙ ap (drop at) (c.deref.ensures.value ∙ sym stands)

pub returns-in-None-clause-bytes : goal.returns-in-None-clause-bytes
returns-in-None-clause-bytes c =
    let at = c.args.file.now.at in
    let past = bytes_past c.args.files.now _ c.in-None.ensures.lookup.3 in
    sym (ap (drop at) past ∙ drop_all at _ (omega arith))
