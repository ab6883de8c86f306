use Rattle.std.proofs.Common.{◌++◌, refl, sym, ap, ◌∙◌, subst, arith}
use Rattle.sk_model.specs.Lines.{lines_of}
use Rattle.sk_lines.specs.Cutter.{Cutter}
use Rattle.sk_lines.specs.Runs.{run_between}
use Rattle.sk_read.specs.Reading.{Reading, HasRead, remaining_of}
use Rattle.sk_read.specs.Inside.{reading_of}
use Rattle.sk_read.proofs.Readings.{read_on, in_time_more, given_run, fewer_by_run}
use Rattle.sk_read.proofs.reader.LineReader.next_run.Goals as goal

pub returns-clause-goes : goal.returns-clause-goes
returns-clause-goes c = λ left given taken read.
    let old = reading_of c.self.inside in
    let new : Reading = record old { cutter = c.next_run.new.self } in
    let before = subst (λ (r : Reading). HasRead r left given taken) (sym c.self.view_is) read in
    let gives = c.next_run.ensures.run in
    let lines = lines_of (run_between old.cutter new.cutter) in
    let has = given_run old new c.next_run.result given taken gives refl (λ over. c.next_run.ensures.after_end (c.self.invariant.ended ∙ over)) before.has in
    subst (λ (r : Reading). HasRead new left (given ++ lines_of (run_between r.cutter new.cutter)) taken) c.self.view_is
    (read_on old new left left given (given ++ lines) taken taken before has before.end (ap (λ (r : Cutter). r.limit) gives.stays) refl before.bound
    (in_time_more _ given lines taken (omega arith) before.in_time))

pub returns-clause-progress : goal.returns-clause-progress
returns-clause-progress c = omega (arith, fewer_by_run c.self.inside.lines c.next_run.new.self c.next_run.result c.next_run.ensures.run, ap remaining_of c.self.view_is)
