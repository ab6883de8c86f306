use Rattle.std.proofs.Common.{◌≡◌, ◌<◌, ◌+◌, ◌-◌, ◌*◌, [], length, Some, sym, ap, subst, arith, ◌∙◌, get_or, set, slice_range}
use Rattle.std.proofs.lemmas.List.{length-map, get_or-map}
use Rattle.std.proofs.lemmas.Simd.{length-chunk}
use Rattle.sk_lines.specs.Spans.{lines_at}
use Rattle.sk_lines.specs.declared.spans.Span.{Span}
use Rattle.sk_read.specs.Items.{item_of, IsGood}
use Rattle.sk_fill.proofs.Units.{good_item}
use Rattle.sk_ingest.specs.ItemWindows.{held_of}
use Rattle.sk_ingest.proofs.ItemWindows.{none_held, line_held, item_is_held}
use Rattle.sk_ingest.proofs.item_window.hold_blocks.Goals as goal

abbrev no_bytes : Span
no_bytes = record { from = 0; to = 0 }

pub line-init : goal.line-init
line-init c = none_held c.args.kind (lines_at c.args.spans.now c.args.text.now) c.args.held.now

pub line-preserved : goal.line-preserved
line-preserved c =
    let kind = c.args.kind in let spans = c.args.spans.now in let text = c.args.text.now in let lines = lines_at spans text in let at = c.line.at in
    let span : Span = get_or spans at no_bytes in
    let line = slice_range text span.from span.to in
    let item = c.in-Some.item in
    let inside : at < length lines = omega (arith, length-map spans (λ (span : Span). slice_range text span.from span.to), c.line-test.true) in
    let is : get_or lines at [] ≡ line = get_or-map (λ (span : Span). slice_range text span.from span.to) spans at no_bytes [] c.line-test.true in
    let there = c.requires.within at no_bytes c.line-test.true in
    let size : length line ≡ 16 = omega (arith, length-chunk span.from (span.to - span.from) text (omega (arith, there)), c.if-span-ne-ONE_BLOCK.false) in
    let value : item_of kind line ≡ Some item = sym c.item_at.ensures.value ∙ c.in-Some.is in
    line_held kind lines c.line.held at (16 * at) item 16 (16 * (at + 1)) c.line.invariant inside (omega (arith, c.line-test.true, c.requires.few, c.told-held)) (subst (IsGood kind) (sym is) (good_item kind line item value))
    (item_is_held kind line item (omega (arith, size)) value ∙ ap (held_of kind) (sym is)) (sym (ap length is ∙ size)) (omega arith)
