use Rattle.std.proofs.Common.{◌≡◌, ℕ, false, Option, is_some, ap, ◌∙◌}
use Rattle.sk_read.specs.declared.items.Intake.{Intake}
use Rattle.sk_feed.specs.Hubs.{hub_of}
use Rattle.sk_report.proofs.Results.{if_err_is}
use Rattle.sk_ingest.proofs.QuietLaws.{quiet_early}
use Rattle.sk_tell.specs.Manners.{buffer_size_by}
use Rattle.sk_tell.specs.Reports.{showing}
use Rattle.sk_tell.proofs.Course.{basis_of}
use Rattle.sk_tell.proofs.FeedingLaws.{ended_early, fed_whole, quiet_whole}
use Rattle.sk_tell.proofs.OpeningLaws.{are_fresh}
use Rattle.sk_tell.proofs.telling.feed_reported.Goals as goal

pub ingest-requires-clause-fresh : goal.ingest-requires-clause-fresh
ingest-requires-clause-fresh g c κs within = are_fresh c.args.telling.now.updaters (buffer_size_by c.args.telling.now.window c.args.telling.now.size) (hub_of c.args.opened.now) c.requires.opened

pub returns-in_err-ingest-clause-early : goal.returns-in_err-ingest-clause-early
returns-in_err-ingest-clause-early g c =
    let s = g.S.Sequential in let telling = c.args.telling.now in
    let k = basis_of s.keeps_of s.hint_of c.requires.can.keeps_all (s.numbers (s.opened telling.setup)) g.Q.Line.line g.Q.Line.lower g.Q.Line.upper telling in
    if_err_is c.from_residual.result c.in_err-ingest.field-0.0 _ c.from_residual.ensures.1
    (ended_early k c.args.report.now c.ingest.new.report (λ r. showing r.query.now r.reader.now (g.O.Sink.written r.out.now)) c.args.most (hub_of c.args.opened.now) c.requires.opened c.requires.reader c.requires.query
    (g.I.Source.left c.args.source.now) (g.I.Source.left c.ingest.new.source) c.intake_of-intake.result c.intake_of-intake.ensures _ c.in_err-ingest.field-0.0 c.in_err-ingest.ensures.refused)

pub returns-clause-fed : goal.returns-clause-fed
returns-clause-fed g c =
    let s = g.S.Sequential in let telling = c.args.telling.now in
    let k = basis_of s.keeps_of s.hint_of c.requires.can.keeps_all (s.numbers (s.opened telling.setup)) g.Q.Line.line g.Q.Line.lower g.Q.Line.upper telling in
    fed_whole k c.args.report.now c.ingest.new.report (λ r. showing r.query.now r.reader.now (g.O.Sink.written r.out.now)) c.args.most (hub_of c.args.opened.now) c.requires.opened c.requires.reader c.requires.query
    (g.I.Source.left c.args.source.now) (g.I.Source.left c.ingest.new.source) c.intake_of-intake.result c.intake_of-intake.ensures c.in_ok-ingest.field-0 (hub_of c.ingest.new.opened) c.in_ok-ingest.ensures.ok

pub returns-in_err-ingest-clause-quiet : goal.returns-in_err-ingest-clause-quiet
returns-in_err-ingest-clause-quiet g c = λ none.
    let silent : c.intake_of-intake.result.interim ≡ false = ap (λ (i : Intake). i.interim) c.intake_of-intake.ensures ∙ ap (λ (w : Option ℕ). is_some w) none in
    quiet_early _ silent c.args.report.now c.ingest.new.report _ _ _ _ (hub_of c.args.opened.now) c.in_err-ingest.field-0.0 c.in_err-ingest.ensures.refused

pub returns-clause-quiet : goal.returns-clause-quiet
returns-clause-quiet g c = λ none.
    let silent : c.intake_of-intake.result.interim ≡ false = ap (λ (i : Intake). i.interim) c.intake_of-intake.ensures ∙ ap (λ (w : Option ℕ). is_some w) none in
    let s = g.S.Sequential in let telling = c.args.telling.now in
    let k = basis_of s.keeps_of s.hint_of c.requires.can.keeps_all (s.numbers (s.opened telling.setup)) g.Q.Line.line g.Q.Line.lower g.Q.Line.upper telling in
    quiet_whole k c.args.report.now c.ingest.new.report (λ r. showing r.query.now r.reader.now (g.O.Sink.written r.out.now)) (hub_of c.args.opened.now)
    (g.I.Source.left c.args.source.now) (g.I.Source.left c.ingest.new.source) c.intake_of-intake.result silent c.in_ok-ingest.field-0 (hub_of c.ingest.new.opened) c.in_ok-ingest.ensures.ok
