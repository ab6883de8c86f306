use Rattle.std.proofs.Common.{◌≡◌, ◌<◌, ◌≤◌, ◌+◌, ◌-◌, ◌*◌, [], length, Some, sym, ap, subst, arith, ◌∙◌, get_or, set, slice_range}
use Rattle.std.proofs.lemmas.List.{length-map, get_or-map}
use Rattle.std.proofs.lemmas.Simd.{length-chunk}
use Rattle.sk_lines.specs.Spans.{lines_at}
use Rattle.sk_lines.specs.declared.spans.Span.{Span}
use Rattle.sk_read.specs.Items.{IsGood}
use Rattle.sk_ingest.specs.ItemWindows.{held_of}
use Rattle.sk_ingest.proofs.ItemWindows.{line_held, short_front}
use Rattle.sk_ingest.proofs.item_window.hold_rest.Goals as goal

abbrev no_bytes : Span
no_bytes = record { from = 0; to = 0 }

pub line-preserved : goal.line-preserved
line-preserved c =
    let kind = c.args.kind in let spans = c.args.spans.now in let text = c.args.text.now in let lines = lines_at spans text in let at = c.line.at in
    let span : Span = get_or spans at no_bytes in
    let line = slice_range text span.from span.to in
    let item = c.in-Some.item in
    let inside : at < length lines = omega (arith, length-map spans (λ (span : Span). slice_range text span.from span.to), c.line-test.true) in
    let is : get_or lines at [] ≡ line = get_or-map (λ (span : Span). slice_range text span.from span.to) spans at no_bytes [] c.line-test.true in
    let there = c.requires.within at no_bytes c.line-test.true in
    let size : length line ≡ span.to - span.from = length-chunk span.from (span.to - span.from) text (omega (arith, there)) in
    line_held kind lines c.line.held at c.line.bytes item (span.to - span.from) (c.line.bytes + (span.to - span.from)) c.line.invariant inside (omega (arith, c.line-test.true, c.requires.few, c.told-held)) (subst (IsGood kind) (sym is) c.in-Some.ensures.good)
    (c.in-Some.ensures.held ∙ ap (held_of kind) (sym is)) (sym (ap length is ∙ size)) (omega arith)

pub overflow_add-bytes : goal.overflow_add-bytes
overflow_add-bytes c =
    let spans = c.args.spans.now in let text = c.args.text.now in let lines = lines_at spans text in let at = c.line.at in
    let span : Span = get_or spans at no_bytes in
    let line = slice_range text span.from span.to in
    let inside : at < length lines = omega (arith, length-map spans (λ (span : Span). slice_range text span.from span.to), c.line-test.true) in
    let is : get_or lines at [] ≡ line = get_or-map (λ (span : Span). slice_range text span.from span.to) spans at no_bytes [] c.line-test.true in
    let there = c.requires.within at no_bytes c.line-test.true in
    let size : length line ≡ span.to - span.from = length-chunk span.from (span.to - span.from) text (omega (arith, there)) in
    let short = c.requires.short at [] inside in
    omega (arith, short_front c.args.kind lines c.line.held at c.line.bytes c.requires.short c.line.invariant, short, ap length is, size, c.line-test.true, c.requires.few)
