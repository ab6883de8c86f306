use Rattle.std.proofs.Common.{◌<◌, ◌+◌, ◌∷◌, ℕ, length, slice_range, arith, sym, ap, ◌∙◌, subst}
use Rattle.sk_model.specs.Lines.{lines_of}
use Rattle.sk_fill.specs.Pages.{PageLinesState, text_from}
use Rattle.sk_fill.proofs.PageText as pages
use Rattle.sk_fill.proofs.page.PageLines.next_line.Goals as goal

pub take_lf-end-requires-clause-some : goal.take_lf-end-requires-clause-some
take_lf-end-requires-clause-some c =
    let a = c.self.inside in
    let way = c.self.invariant in
    let seek = c.seek-scanned.ensures in
    let some = subst (λ (l : PageLinesState). 0 < length l.rest) (sym c.self.view_is) c.requires in
    pages.lf_is_known a.text.now a.at a.scanned a.marks c.seek-scanned.result.0 c.seek-scanned.result.1 way some (seek.known a.at way.known) seek.none

pub take_lf-end-requires-clause-block : goal.take_lf-end-requires-clause-block
take_lf-end-requires-clause-block c =
    let a = c.self.inside in
    let way = c.self.invariant in
    let seek = c.seek-scanned.ensures in
    let some = subst (λ (l : PageLinesState). 0 < length l.rest) (sym c.self.view_is) c.requires in
    seek.block (pages.lf_is_known a.text.now a.at a.scanned a.marks c.seek-scanned.result.0 c.seek-scanned.result.1 way some (seek.known a.at way.known) seek.none)

pub line_len-len-requires-clause-from : goal.line_len-len-requires-clause-from
line_len-len-requires-clause-from c =
    let a = c.self.inside in
    let way = c.self.invariant in
    let f = pages.next_found a.text.now a.at a.scanned a.marks _ _ c.take_lf-end.result.0 c.take_lf-end.result.1 way (c.seek-scanned.ensures.known a.at way.known) c.take_lf-end.ensures in
    f.from

pub line_len-len-requires-clause-within : goal.line_len-len-requires-clause-within
line_len-len-requires-clause-within c =
    let a = c.self.inside in
    let way = c.self.invariant in
    let f = pages.next_found a.text.now a.at a.scanned a.marks _ _ c.take_lf-end.result.0 c.take_lf-end.result.1 way (c.seek-scanned.ensures.known a.at way.known) c.take_lf-end.ensures in
    omega (arith, f.text)

pub overflow_add-self : goal.overflow_add-self
overflow_add-self c =
    let a = c.self.inside in
    let way = c.self.invariant in
    let f = pages.next_found a.text.now a.at a.scanned a.marks _ _ c.take_lf-end.result.0 c.take_lf-end.result.1 way (c.seek-scanned.ensures.known a.at way.known) c.take_lf-end.ensures in
    record { fits = omega (arith, f.text, c.type_inv.self-inside) }

pub invariant_of-self : goal.invariant_of-self
invariant_of-self c =
    let a = c.self.inside in
    let way = c.self.invariant in
    let seek = c.seek-scanned.ensures in
    let f = pages.next_found a.text.now a.at a.scanned a.marks _ _ c.take_lf-end.result.0 c.take_lf-end.result.1 way (seek.known a.at way.known) c.take_lf-end.ensures in
    let some = subst (λ (l : PageLinesState). 0 < length l.rest) (sym c.self.view_is) c.requires in
    let block = seek.block (pages.lf_is_known a.text.now a.at a.scanned a.marks c.seek-scanned.result.0 c.seek-scanned.result.1 way some (seek.known a.at way.known) seek.none) in
    pages.way_on a.text.now a.at a.scanned a.marks _ _ _ way f seek.bound block

pub returns-clause-line : goal.returns-clause-line
returns-clause-line c =
    let a = c.self.inside in
    let way = c.self.invariant in
    let end : ℕ = c.take_lf-end.result.0 in
    let f = pages.next_found a.text.now a.at a.scanned a.marks _ _ end c.take_lf-end.result.1 way (c.seek-scanned.ensures.known a.at way.known) c.take_lf-end.ensures in
    ap (λ (l : PageLinesState). l.rest) (sym c.self.view_is)
    ∙ pages.next_is a.text.now a.at end c.line_len-len.result _ _ f c.line_len-len.ensures
    ∙ ap (λ (l : PageLinesState). slice_range l.text a.at (a.at + c.line_len-len.result) ∷ lines_of (text_from (end + 1) a.text.now)) c.self.view_is
