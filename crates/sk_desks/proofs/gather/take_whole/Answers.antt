use Rattle.std.proofs.Common.{◌≡◌, ◌+◌, ◌*◌, ◌<◌, ◌++◌, ℕ, List, All, inl, length, take, slice_index, sym, ap, ◌∙◌, subst, arith, length-append, length-take}
use Rattle.std.proofs.lemmas.List.{get_or-take}
use Rattle.std.proofs.lemmas.List.Elements.{All-append}
use Rattle.sk_model.specs.Lines.{lines_of}
use Rattle.sk_model.proofs.Lines.{after_whole_lines}
use Rattle.sk_lines.specs.Runs.{IsRun, EndEach, GivesRun, run_between}
use Rattle.sk_lines.proofs.EvenRuns.{line_inside}
use Rattle.sk_lines.proofs.WholeLines.{run_more}
use Rattle.sk_read.specs.Reading.{Reading, remaining_of}
use Rattle.sk_fill.specs.Fills.{HasPage}
use Rattle.sk_fill.specs.Pages.{IsEven}
use Rattle.sk_desks.proofs.EvenLaws.{even_page}
use Rattle.sk_desks.specs.Entries.{LabelledState, window_lines}
use Rattle.sk_desks.specs.Gathers.{HasPiece, IsOfTenant}
use Rattle.sk_desks.proofs.GroupLaws.{GivesGroup, none_held, group_held, group_not_held}
use Rattle.sk_desks.proofs.gather.take_whole.Goals.{After-pass_run-count}
use Rattle.sk_desks.proofs.gather.take_whole.Goals as goal

abbrev run : After-pass_run-count → List ℕ
run c = run_between c.args.reader.now.cutter c.pass_run-count.new.self.cutter

abbrev group : After-pass_run-count → List (List ℕ)
group c = lines_of (run c)

gave : (c : After-pass_run-count) → GivesGroup c.args.reader.now c.pass_run-count.new.self (group c)
gave c = record { goes = c.pass_run-count.ensures.goes; most = ap (λ (r : Reading). r.most) c.pass_run-count.ensures.stays; piece = ap (λ (r : Reading). r.last) c.pass_run-count.ensures.stays; fewer = omega (arith, c.pass_run-count.ensures.progress) }

module _ (c : After-pass_run-count) (some : 0 < c.pass_run-count.result) where
  abbrev w : LabelledState
  w = c.args.window.now

  abbrev front : List ℕ
  front = c.args.reader.now.cutter.front

  abbrev gives : GivesRun c.args.reader.now.cutter c.pass_run-count.new.self.cutter c.pass_run-count.result
  gives = c.pass_run-count.ensures.run

  piece : HasPiece w c.args.reader.now c.args.first
  piece = c.requires.piece

  run_is : run c ≡ take c.args.first.bytes c.args.reader.now.cutter.rest
  run_is = (c.pass_run-count.ensures.all some).1

  count_is : c.pass_run-count.result ≡ c.args.first.count
  count_is = (c.pass_run-count.ensures.all some).0

  run_size : length (run c) ≡ c.args.first.bytes
  run_size = omega (arith, ap length run_is, length-take c.args.first.bytes c.args.reader.now.cutter.rest, piece.first.within)

  lines_are : lines_of c.pass_run-count.new.self.cutter.front ≡ w.lines ++ group c
  lines_are = ap lines_of gives.front ∙ after_whole_lines front (run c) piece.run.whole ∙ ap (λ (ls : List (List ℕ)). ls ++ group c) piece.lines

  are : All (IsOfTenant w.names) (group c)
  are = subst (λ (l : List ℕ). All (IsOfTenant w.names) (lines_of l)) (sym run_is) piece.first.fine

  page : HasPage window_lines (1 + c.pass_run-count.result) (c.args.first.len + 1) c.pass_run-count.new.self
  page =
      let n : ℕ = c.pass_run-count.result in
      let len : ℕ = c.args.first.len in
      let alone : IsRun 1 front = subst (λ (k : ℕ). IsRun k front) piece.one piece.run in
      let size : length (run c) ≡ n * (len + 1) = run_size ∙ piece.even.size ∙ ap (λ (k : ℕ). k * (len + 1)) (sym count_is) in
      let ends : EndEach n len (run c) = λ i less.
      let below : i * (len + 1) + len < c.args.first.bytes = omega (arith, line_inside n i (len + 1) less, size, run_size) in
      ap (λ (l : List ℕ). slice_index l (i * (len + 1) + len)) run_is ∙ get_or-take c.args.first.bytes c.args.reader.now.cutter.rest (i * (len + 1) + len) 0 below
      ∙ piece.even.ends i (omega (arith, less, count_is)) in
      record {
        room = omega (arith, count_is, piece.most);
        run = subst (λ (l : List ℕ). IsRun (1 + n) l) (sym gives.front) (run_more 1 n front (run c) alone gives.is);
        even = subst (IsEven (len + 1) (1 + n)) (sym gives.front) (even_page front (run c) n len alone piece.long size ends);
        small = omega (arith, ap length gives.front, length-append front (run c), run_size, piece.small);
        few = omega (arith, ap length gives.rest, length-append (run c) c.pass_run-count.new.self.cutter.rest, run_size, piece.few);
      }

pub returns-then-count-eq0-clause-takes : goal.returns-then-count-eq0-clause-takes
returns-then-count-eq0-clause-takes c =
    let at = (goal.at.returns-then-count-eq0-clause-takes c).After-pass_run-count in
    none_held c.args.window.now.names c.args.window.now.lines (group at) c.args.reader.now c.pass_run-count.new.self (gave at) (c.pass_run-count.ensures.run.is.count ∙ c.if-count-eq0.true)

pub take_front-requires-clause-page : goal.take_front-requires-clause-page
take_front-requires-clause-page c =
    let at = (goal.at.take_front-requires-clause-page c).After-pass_run-count in
    page at (omega (arith, c.if-count-eq0.false))

pub take_front-requires-clause-fine : goal.take_front-requires-clause-fine
take_front-requires-clause-fine c =
    let at = (goal.at.take_front-requires-clause-fine c).After-pass_run-count in
    let some : 0 < c.pass_run-count.result = omega (arith, c.if-count-eq0.false) in
    let names = c.args.window.now.names in
    subst (All (IsOfTenant names)) (sym (lines_are at some)) (All-append (IsOfTenant names) c.args.window.now.lines (group at) c.requires.piece.fine (are at some))

pub returns-in_err-take_front-clause-takes : goal.returns-in_err-take_front-clause-takes
returns-in_err-take_front-clause-takes c =
    let at = (goal.at.returns-in_err-take_front-clause-takes c).After-pass_run-count in
    let names = c.args.window.now.names in
    let gave : GivesGroup c.args.reader.now c.take_front.new.reader (group at) = subst (λ (s : Reading). GivesGroup c.args.reader.now s (group at)) (sym c.in_err-take_front.ensures.kept) (gave at) in
    group_not_held names c.args.window.now.lines (group at) c.args.reader.now c.take_front.new.reader gave c.take_front.new.self.lines c.from_residual.result c.in_err-take_front.field-0.0 c.from_residual.ensures.1
    (inl c.in_err-take_front.ensures.stopped)

pub returns-clause-takes : goal.returns-clause-takes
returns-clause-takes c =
    let at = (goal.at.returns-clause-takes c).After-pass_run-count in
    let names = c.args.window.now.names in let lines = c.args.window.now.lines in
    let some : 0 < c.pass_run-count.result = omega (arith, c.if-count-eq0.false) in
    let gives = c.in_ok-take_front.ensures.gives in
    let gave : GivesGroup c.args.reader.now c.take_front.new.reader (group at) = record {
      goes = λ left given taken has. gives.goes left (given ++ group at) taken ((gave at).goes left given taken has);
      most = ap (λ (r : Reading). r.most) gives.stays ∙ (gave at).most;
      piece = ap (λ (r : Reading). r.last) gives.stays ∙ (gave at).piece;
      fewer = omega (arith, ap remaining_of gives.stays, (gave at).fewer);
    } in
    group_held names lines (group at) c.args.reader.now c.take_front.new.reader gave c.take_front.new.self.lines (c.in_ok-take_front.ensures.lines ∙ lines_are at some) (are at some)
