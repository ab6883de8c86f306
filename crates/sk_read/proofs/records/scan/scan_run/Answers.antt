use Rattle.std.proofs.Common.{◌≡◌, ◌<◌, ℕ, List, length, take, get_or, true, sym, ap, ◌∙◌, subst, arith}
use Rattle.std.proofs.lemmas.List.{take_more}
use Rattle.csv.specs.Machine.{step}
use Rattle.csv.specs.Reading.{default_config}
use Rattle.sk_read.specs.Scan.{state_of, settled, is_inside, IsCut}
use Rattle.sk_read.proofs.Cuts.{cut_before}
use Rattle.sk_read.proofs.Plain.{quote_inside}
use Rattle.sk_read.proofs.records.scan.scan_run.Goals as goal

pub returns-clause-cut : goal.returns-clause-cut
returns-clause-cut c =
    let bytes = c.args.bytes.now in
    let n = c.plain_len-len.result in
    let byte = get_or bytes n 0 in
    let place = c.scan_plain-place.result.0 in
    let below : n < length bytes = omega (arith, c.plain_len-len.ensures.within, c.if-len-bytes.false) in
    let inside : is_inside (state_of c.behind.result) ≡ true =
    ap is_inside c.behind.ensures ∙ ap (λ (b : ℕ). is_inside (settled (step default_config (state_of place) b).0)) (c.plain_len-len.ensures.quote below) ∙ quote_inside place in
    subst (λ (l : List ℕ). IsCut (state_of c.args.start) l (state_of c.behind.result) c.scan_plain-place.result.1) (sym (take_more bytes n 0 below))
    (cut_before (state_of c.args.start) (take n bytes) (state_of place) (state_of c.behind.result) c.scan_plain-place.result.1 byte c.scan_plain-place.ensures.cut c.behind.ensures inside)
