use Rattle.std.proofs.Common.{sym, ap, ◌∙◌, subst}
use Rattle.sk_lines.specs.Cutter.{Cutter}
use Rattle.sk_read.specs.Reading.{Reading, HasRead}
use Rattle.sk_read.specs.Inside.{reading_of}
use Rattle.sk_read.proofs.Readings.{moved, read_moved}
use Rattle.sk_read.proofs.reader.LineReader.swap.Goals as goal

pub returns-clause-goes : goal.returns-clause-goes
returns-clause-goes c = λ left given taken read.
    let is = ap (λ (x : Cutter). record (reading_of c.self.inside) { cutter = x }) c.swap.ensures.stays ∙ ap moved c.self.view_is in
    subst (λ (r : Reading). HasRead r left given taken) (sym is) (read_moved c.args.self.now left given taken read)
