use Rattle.std.proofs.Common.{◌≤◌, ap, ◌∙◌, length, arith}
use Rattle.sk_model.specs.Lines.{lines_of}
use Rattle.sk_fill.specs.Windows.{WindowState}
use Rattle.sk_fill.proofs.Pages.{window_turned, lines_turned, none_kept}
use Rattle.sk_fill.proofs.window.Window.take_front.Goals as goal

pub invariant_of-self : goal.invariant_of-self
invariant_of-self c =
    let a = c.self.inside in
    let lines = lines_of c.args.reader.now.cutter.front in
    let none = ap (λ (w : WindowState). w.lines) c.self.view_is ∙ c.requires.empty in
    let few : length lines ≤ a.most = omega (arith, c.requires.page.run.count, c.requires.page.room, ap (λ (w : WindowState). w.most) c.self.view_is) in (
      window_turned a.page c.take_front.new.self a.page_bytes a.spans.items a.most a.text.items c.self.invariant.0 none c.take_front.result lines (length c.args.reader.now.cutter.front) few c.requires.page.small
          c.take_front.ensures.lines c.take_front.ensures.size c.take_front.ensures.refused,
      c.self.invariant.1,
    )

pub returns-clause-lines : goal.returns-clause-lines
returns-clause-lines c =
    let a = c.self.inside in
    let none = ap (λ (w : WindowState). w.lines) c.self.view_is ∙ c.requires.empty in
    lines_turned a.page c.take_front.new.self a.page_bytes a.spans.items a.most a.text.items c.self.invariant.0 none c.take_front.result (lines_of c.args.reader.now.cutter.front) c.take_front.ensures.lines

pub returns-clause-none : goal.returns-clause-none
returns-clause-none c =
    let a = c.self.inside in
    let none = ap (λ (w : WindowState). w.lines) c.self.view_is ∙ c.requires.empty in
    none_kept a.page c.take_front.new.self a.page_bytes a.spans.items a.most a.text.items c.self.invariant.0 none c.take_front.result c.take_front.ensures.refused
