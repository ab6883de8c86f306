use Rattle.std.proofs.Common.{◌++◌, ◌∷◌, []}
use Rattle.sk_ingest.specs.Ingests.{terms_of}
use Rattle.sk_ingest.proofs.Ingestion.{kept_by_ingest, heart_by_ingest, windows_ingested}
use Rattle.sk_ingest.proofs.laws.ingested_units_are_kept.Goals as goal

pub returns-clause-kept : goal.returns-clause-kept
returns-clause-kept g c = λ plan units a b r s i.
    let k = g.C.Composable in let p = g.P.Report in let t = terms_of k.keeps_of k.hint_of p.reports p.breaks plan in
    (i.goes.windows ++ i.rest ∷ [], windows_ingested t units a b r s i, kept_by_ingest t units a b r s i)

pub returns-clause-heart : goal.returns-clause-heart
returns-clause-heart g c = λ plan units a b r s i.
    let k = g.C.Composable in let p = g.P.Report in heart_by_ingest (terms_of k.keeps_of k.hint_of p.reports p.breaks plan) units a b r s i
