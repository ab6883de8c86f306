use Rattle.std.proofs.Common.{◌≡◌, List, length, refl, sym, subst, ◌∙◌}
use Rattle.std.specs.Vec.{with_items}
use Rattle.std.proofs.lemmas.List.{with_items_is}
use Rattle.sk_hub.specs.Updaters.{UpdaterState}
use Rattle.sk_feed.specs.Hubs.{Hub, hub_of, IsHub, LeavesHub}
use Rattle.sk_ingest.specs.declared.report.Stop.TheVariants as stop
use Rattle.sk_report.proofs.Results.{on_ok_then, if_err_then}
use Rattle.sk_snap.specs.Versions.{items_in}
use Rattle.sk_learn.specs.Learning.{ReaderGoesOn, LearnsFirst, AreAsked}
use Rattle.sk_tell.proofs.ReportLaws.{report_made, report_broke, still_hub, hub_left}
use Rattle.sk_tell.proofs.interim.InterimReportVersioned.at.Goals as goal

pub returns-clause-reports : goal.returns-clause-reports
returns-clause-reports g c =
    let a : Hub = hub_of c.args.opened.now in let r = c.args.self.now.reader.now in let m = c.learn_all.new.reader in
    let learns : LearnsFirst r a.updaters (length a.updaters) m = subst (λ (l : List UpdaterState). LearnsFirst r l (length l) m) c.as_mut_slice.ensures.value c.learn_all.ensures.learns in
    let goes : ReaderGoesOn m c.read-answer.new.self = record { grows = c.read-answer.ensures.begins; numbers = c.read-answer.ensures.numbers; book = c.read-answer.ensures.name } in
    let gives = c.read-answer.ensures.gives in let query = c.args.self.now.query.now in let items = items_in c.read-answer.new.self.known in
    on_ok_then c.write_or_stop.result c.write_or_stop.result _ _ refl
    (report_made g.Q.Line.line g.Q.Line.lower g.Q.Line.upper query c.args.line r m c.read-answer.new.self _ _ a _ learns goes (g.met.Q.Line.means query m.numbers items c.read-answer.result gives)) (c.write_or_stop.ensures.ok m.numbers items gives)

pub returns-clause-breaks : goal.returns-clause-breaks
returns-clause-breaks g c =
    let a : Hub = hub_of c.args.opened.now in let r = c.args.self.now.reader.now in let m = c.learn_all.new.reader in
    let learns : LearnsFirst r a.updaters (length a.updaters) m = subst (λ (l : List UpdaterState). LearnsFirst r l (length l) m) c.as_mut_slice.ensures.value c.learn_all.ensures.learns in
    let goes : ReaderGoesOn m c.read-answer.new.self = record { grows = c.read-answer.ensures.begins; numbers = c.read-answer.ensures.numbers; book = c.read-answer.ensures.name } in
    let gives = c.read-answer.ensures.gives in let query = c.args.self.now.query.now in let items = items_in c.read-answer.new.self.known in
    if_err_then c.write_or_stop.result c.write_or_stop.result stop.Failed _ _ refl c.write_or_stop.ensures.stop
    (report_broke g.Q.Line.line g.Q.Line.lower g.Q.Line.upper query c.args.line r m c.read-answer.new.self _ _ a _ learns goes (g.met.Q.Line.means query m.numbers items c.read-answer.result gives)) (c.write_or_stop.ensures.part m.numbers items gives)

pub returns-clause-hub : goal.returns-clause-hub
returns-clause-hub g c =
    let a : Hub = hub_of c.args.opened.now in let us = c.learn_all.new.updaters in let v = c.args.opened.now.updaters in
    let asked : AreAsked a.updaters (length a.updaters) us = subst (λ (l : List UpdaterState). AreAsked l (length l) us) c.as_mut_slice.ensures.value c.learn_all.ensures.asked in
    let items : (with_items v us).items ≡ us = with_items_is v us (asked.count ∙ sym v.ok.0) in
    subst (λ (l : List UpdaterState). IsHub (record { heart = a.heart; updaters = l; token = a.token })) (sym items) (still_hub a us c.requires.hub asked)

pub returns-clause-leaves : goal.returns-clause-leaves
returns-clause-leaves g c =
    let a : Hub = hub_of c.args.opened.now in let us = c.learn_all.new.updaters in let v = c.args.opened.now.updaters in
    let asked : AreAsked a.updaters (length a.updaters) us = subst (λ (l : List UpdaterState). AreAsked l (length l) us) c.as_mut_slice.ensures.value c.learn_all.ensures.asked in
    let items : (with_items v us).items ≡ us = with_items_is v us (asked.count ∙ sym v.ok.0) in
    subst (λ (l : List UpdaterState). LeavesHub a (record { heart = a.heart; updaters = l; token = a.token })) (sym items) (hub_left a us asked)
