use Rattle.sk_ingest.specs.Ingests.{terms_of}
use Rattle.sk_ingest.proofs.Ingestion.{kept_by_reported, heart_by_reported}
use Rattle.sk_ingest.proofs.laws.reported_windows_are_kept.Goals as goal

pub returns-clause-kept : goal.returns-clause-kept
returns-clause-kept g c = λ plan before windows a b r s has.
    let k = g.C.Composable in let p = g.P.Report in kept_by_reported (terms_of k.keeps_of k.hint_of p.reports p.breaks plan) before windows a b r s has

pub returns-clause-heart : goal.returns-clause-heart
returns-clause-heart g c = λ plan before windows a b r s has.
    let k = g.C.Composable in let p = g.P.Report in heart_by_reported (terms_of k.keeps_of k.hint_of p.reports p.breaks plan) before windows a b r s has
