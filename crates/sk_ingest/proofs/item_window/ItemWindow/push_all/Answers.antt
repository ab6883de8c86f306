use Rattle.std.proofs.Common.{◌≤◌, ◌*◌, length, slice_range, arith}
use Rattle.std.proofs.lemmas.List.{length-map}
use Rattle.sk_lines.specs.Spans.{lines_at}
use Rattle.sk_lines.specs.declared.spans.Span.{Span}
use Rattle.sk_ingest.proofs.ItemWindows.{short_front}
use Rattle.sk_ingest.proofs.item_window.ItemWindow.push_all.Goals as goal

pub has_room_for-requires-clause-short : goal.has_room_for-requires-clause-short
has_room_for-requires-clause-short c =
    let spans = c.args.spans.now in let text = c.args.text.now in let front = c.hold-front in
    omega (arith, short_front c.args.kind (lines_at spans text) front.new.held front.result.lines front.result.bytes c.requires.short front.ensures, front.ensures.within, length-map spans (λ (span : Span). slice_range text span.from span.to), c.requires.few)
