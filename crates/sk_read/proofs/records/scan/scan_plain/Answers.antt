use Rattle.std.proofs.Common.{◌<◌, length, sym, subst, rules}
use Rattle.sk_read.specs.declared.records.scan.ScanState.{ScanState}
use Rattle.sk_read.specs.Scan.{state_of, IsCut}
use Rattle.sk_read.proofs.Plain.{cut_quoted, cut_by_last, cut_empty}
use Rattle.sk_read.proofs.records.scan.scan_plain.Goals as goal

pub returns-in-InQuotes-clause-cut : goal.returns-in-InQuotes-clause-cut
returns-in-InQuotes-clause-cut c =
    subst (λ (p : ScanState). IsCut (state_of p) c.args.bytes.now (state_of p) 0) (sym c.in-InQuotes.is) (cut_quoted c.args.bytes.now c.requires)

pub returns-then-is_empty-clause-cut : goal.returns-then-is_empty-clause-cut
returns-then-is_empty-clause-cut c = cut_empty c.args.start c.args.bytes.now (search rules)

pub returns-clause-cut : goal.returns-clause-cut
returns-clause-cut c =
    let some : 0 < length c.args.bytes.now = search rules in
    cut_by_last c.args.start c.args.bytes.now (state_of c.unquoted.result) c.end_len.result c.in_default.not-InQuotes c.requires some c.unquoted.ensures c.end_len.ensures.within c.end_len.ensures.end c.end_len.ensures.none
