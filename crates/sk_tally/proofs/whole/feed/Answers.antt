use Rattle.std.proofs.Common.{◌≢◌, true, None, refl}
use Rattle.sk_feed.specs.Hubs.{hub_of}
use Rattle.sk_read.specs.declared.fault.Fault.TheVariants as fault
use Rattle.sk_report.proofs.Results.{if_err_is}
use Rattle.sk_tell.specs.Manners.{buffer_size_by}
use Rattle.sk_tell.proofs.OpeningLaws.{are_fresh}
use Rattle.sk_tally.proofs.WholeLaws.{ended_by_intake, fed_by_intake, not_written}
use Rattle.sk_tally.proofs.whole.feed.Goals as goal

pub ingest-requires-clause-fresh : goal.ingest-requires-clause-fresh
ingest-requires-clause-fresh g c κs within = are_fresh c.args.plan.now.updaters (buffer_size_by None c.args.plan.now.size) (hub_of c.args.opened.now) c.requires.opened

pub returns-in_err-ingest-clause-early : goal.returns-in_err-ingest-clause-early
returns-in_err-ingest-clause-early g c =
    if_err_is c.from_residual.result c.in_err-ingest.field-0.0 _ c.from_residual.ensures.1
    (λ written. ended_by_intake c.args.plan.now c.requires.unasked c.args.most (λ hint item. true) (λ hint item. refl) (λ numbers list. 1) _ _ (hub_of c.args.opened.now) _ _ c.intake_of-intake.result c.intake_of-intake.ensures
    _ (g.S.Source.left c.args.source.now) (g.S.Source.left c.ingest.new.source) written c.in_err-ingest.field-0.0 c.in_err-ingest.ensures.refused)

pub returns-in_err-ingest-clause-silent : goal.returns-in_err-ingest-clause-silent
returns-in_err-ingest-clause-silent g c =
    if_err_is c.from_residual.result c.in_err-ingest.field-0.0 (λ f. f ≢ fault.WriteFault) c.from_residual.ensures.1 (not_written c.in_err-ingest.field-0.0 c.in_err-ingest.ensures.writes)

pub returns-clause-fed : goal.returns-clause-fed
returns-clause-fed g c =
    fed_by_intake c.args.plan.now c.requires.unasked c.args.most (λ hint item. true) (λ hint item. refl) (λ numbers list. 1) _ _ (hub_of c.args.opened.now) _ _ c.intake_of-intake.result c.intake_of-intake.ensures
    (buffer_size_by None c.args.plan.now.size) c.requires.opened (g.S.Source.left c.args.source.now) (g.S.Source.left c.ingest.new.source) c.in_ok-ingest.field-0 (hub_of c.ingest.new.opened) c.in_ok-ingest.ensures.ok
