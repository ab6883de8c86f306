use Rattle.std.proofs.Common.{◌≡◌, ◌++◌, ℕ, length, take, refl, sym, ap, ◌∙◌, subst, arith}
use Rattle.std.proofs.lemmas.List.{length-take-le}
use Rattle.sk_lines.specs.Cutter.{Cutter}
use Rattle.sk_lines.specs.Spans.{lines_at}
use Rattle.sk_read.specs.Reading.{Reading, HasRead, remaining_of}
use Rattle.sk_read.specs.Inside.{reading_of}
use Rattle.sk_read.proofs.Readings.{read_on, in_time_more, given_more, fewer_left}
use Rattle.sk_read.proofs.reader.LineReader.next_lines.Goals as goal

pub returns-clause-goes : goal.returns-clause-goes
returns-clause-goes c = λ left given taken read.
    let old = reading_of c.self.inside in
    let new : Reading = record old { cutter = c.next_lines.new.self } in
    let spans = take c.next_lines.result c.next_lines.new.spans in
    let before = subst (λ (r : Reading). HasRead r left given taken) (sym c.self.view_is) read in
    let gives = c.next_lines.ensures.lines in
    let has = given_more old new spans given taken gives refl
    (λ over. ap (λ (n : ℕ). take n c.next_lines.new.spans) (c.next_lines.ensures.after_end (c.self.invariant.ended ∙ over))) before.has in
    read_on old new left left given (given ++ lines_at spans new.cutter.front) taken taken before has before.end (ap (λ (r : Cutter). r.limit) gives.stays) refl before.bound
    (in_time_more _ given (lines_at spans new.cutter.front) taken (omega arith) before.in_time)

pub returns-clause-progress : goal.returns-clause-progress
returns-clause-progress c =
    let n = c.next_lines.result in
    let count : length (take n c.next_lines.new.spans) ≡ n = length-take-le n c.next_lines.new.spans (omega (arith, c.next_lines.ensures.few, c.next_lines.array_long)) in
    let fewer = fewer_left c.self.inside.lines c.next_lines.new.self (take n c.next_lines.new.spans) n c.next_lines.ensures.lines count in
    omega (arith, fewer, ap remaining_of c.self.view_is)
