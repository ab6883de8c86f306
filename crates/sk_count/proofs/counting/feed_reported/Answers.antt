use Rattle.std.proofs.Common.{◌≡◌, ℕ, false, Option, is_some, ap, ◌∙◌}
use Rattle.sk_read.specs.declared.items.Intake.{Intake}
use Rattle.sk_feed.specs.Hubs.{hub_of}
use Rattle.sk_count.specs.Reports.{showing}
use Rattle.sk_report.proofs.Results.{if_err_is}
use Rattle.sk_count.proofs.FeedingLaws.{fed_early, fed_whole}
use Rattle.sk_ingest.proofs.QuietLaws.{quiet_early}
use Rattle.sk_count.proofs.counting.feed_reported.Goals as goal

pub returns-in_err-ingest-clause-early : goal.returns-in_err-ingest-clause-early
returns-in_err-ingest-clause-early g c =
    if_err_is c.from_residual.result c.in_err-ingest.field-0.0 _ c.from_residual.ensures.1
    (fed_early c.args.report.now c.ingest.new.report (λ r. showing r.k (g.O.Sink.written r.out.now) (g.B.Seen.places r.board.now)) c.args.plan.now c.args.most (hub_of c.args.opened.now) c.requires.opened c.requires.k
    (g.S.Source.left c.args.source.now) (g.S.Source.left c.ingest.new.source) c.intake_of-intake.result c.intake_of-intake.ensures _ c.in_err-ingest.field-0.0 c.in_err-ingest.ensures.refused)

pub returns-clause-fed : goal.returns-clause-fed
returns-clause-fed g c =
    fed_whole c.args.report.now c.ingest.new.report (λ r. showing r.k (g.O.Sink.written r.out.now) (g.B.Seen.places r.board.now)) c.args.plan.now c.args.most (hub_of c.args.opened.now) c.requires.opened c.requires.k
    (g.S.Source.left c.args.source.now) (g.S.Source.left c.ingest.new.source) c.intake_of-intake.result c.intake_of-intake.ensures c.in_ok-ingest.field-0 (hub_of c.ingest.new.opened) c.in_ok-ingest.ensures.ok

pub returns-in_err-ingest-clause-quiet : goal.returns-in_err-ingest-clause-quiet
returns-in_err-ingest-clause-quiet g c = λ none.
    let silent : c.intake_of-intake.result.interim ≡ false = ap (λ (i : Intake). i.interim) c.intake_of-intake.ensures ∙ ap (λ (w : Option ℕ). is_some w) none in
    if_err_is c.from_residual.result c.in_err-ingest.field-0.0 (λ _. c.ingest.new.report ≡ c.args.report.now) c.from_residual.ensures.1
    (quiet_early _ silent c.args.report.now c.ingest.new.report _ _ _ _ (hub_of c.args.opened.now) c.in_err-ingest.field-0.0 c.in_err-ingest.ensures.refused)
