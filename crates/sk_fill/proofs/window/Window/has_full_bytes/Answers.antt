use Rattle.std.proofs.Common.{◌≢◌, length, vec_len, sym, ap, ◌∙◌, arith}
use Rattle.std.specs.List.{concat}
use Rattle.std.proofs.lemmas.Bool.{eqb-false, eqb-true, leb-true, leb-false}
use Rattle.sk_fill.specs.Windows.{full_bytes}
use Rattle.sk_fill.proofs.Pages.{bytes_counted, bytes_of_page, no_text}
use Rattle.sk_fill.proofs.window.Window.has_full_bytes.Goals as goal
use Rattle.sk_fill.proofs.window.Window.has_full_bytes.Goals.{then-is_empty, else-is_empty}

pub returns-clause-yes : goal.returns-clause-yes
returns-clause-yes c full =
    let inside = c.self.inside in
    let window = c.self.invariant.0 in
    let small = window.small in
    let reached = leb-true full_bytes _ full in
    let bytes = ap (λ w. length (concat w.lines)) c.self.view_is in
    elim c.if-is_empty.branch [
      | then-is_empty w ↦
          let none = eqb-true (vec_len inside.spans) 0 (sym c.is_empty.ensures ∙ w.if-is_empty.true) in
          absurd (omega (arith, no_text inside.page inside.page_bytes inside.most inside.spans.items inside.text.items window (omega (arith, inside.spans.ok.0)), inside.text.ok.0))
      | else-is_empty w ↦
          let some : vec_len inside.spans ≢ 0 = eqb-false (vec_len inside.spans) 0 (sym c.is_empty.ensures ∙ w.if-is_empty.false) in
          omega (arith, bytes_counted inside.page inside.page_bytes inside.most inside.spans.items inside.text.items window (omega (arith, inside.spans.ok.0)), inside.text.ok.0)
    ]

pub returns-clause-no : goal.returns-clause-no
returns-clause-no c few =
    let inside = c.self.inside in
    let window = c.self.invariant.0 in
    let small = window.small in
    let below = leb-false full_bytes _ few in
    let bytes = ap (λ w. length (concat w.lines)) c.self.view_is in
    elim c.if-is_empty.branch [
      | then-is_empty w ↦
          let none = eqb-true (vec_len inside.spans) 0 (sym c.is_empty.ensures ∙ w.if-is_empty.true) in
          omega (arith, bytes_of_page inside.page inside.page_bytes inside.most inside.spans.items inside.text.items window (omega (arith, inside.spans.ok.0)))
      | else-is_empty w ↦
          let some : vec_len inside.spans ≢ 0 = eqb-false (vec_len inside.spans) 0 (sym c.is_empty.ensures ∙ w.if-is_empty.false) in
          omega (arith, bytes_counted inside.page inside.page_bytes inside.most inside.spans.items inside.text.items window (omega (arith, inside.spans.ok.0)), inside.text.ok.0)
    ]
