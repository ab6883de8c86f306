use Rattle.std.proofs.Common.{◌≡◌, ◌<◌, ◌+◌, ◌-◌, [], length, take, Some, sym, ap, subst, arith, ◌∙◌, get_or, set, slice_range}
use Rattle.std.specs.Int.{from_bool}
use Rattle.std.proofs.lemmas.List.{length-map, get_or-map}
use Rattle.std.proofs.lemmas.List.Elements.{All-more}
use Rattle.std.proofs.lemmas.Simd.{length-chunk}
use Rattle.sk_lines.specs.Spans.{lines_at}
use Rattle.sk_lines.specs.declared.spans.Span.{Span}
use Rattle.sk_read.specs.Items.{item_of, IsGood}
use Rattle.sk_fill.specs.Windows.{item_in}
use Rattle.sk_fill.proofs.Gathering.{few_counted, item_gathered, nothing_gathered}
use Rattle.sk_fill.proofs.Units.{item_is, good_item}
use Rattle.sk_fill.proofs.gathered.gather_blocks.Goals as goal

abbrev no_bytes : Span
no_bytes = record { from = 0; to = 0 }

pub line-init : goal.line-init
line-init g c = nothing_gathered (g.C.Composable.keeps_of c.args.hint) c.args.kind (lines_at c.args.spans.now c.args.text.now) c.args.kept.now

pub line-preserved : goal.line-preserved
line-preserved g c =
    let kind = c.args.kind in let spans = c.args.spans.now in let text = c.args.text.now in let lines = lines_at spans text in let at = c.line.at in
    let span : Span = get_or spans at no_bytes in
    let line = slice_range text span.from span.to in
    let item = c.in-Some.item in
    let keeps = g.C.Composable.keeps_of c.args.hint in
    let inside : at < length lines = omega (arith, length-map spans (λ (span : Span). slice_range text span.from span.to), c.line-test.true) in
    let is : get_or lines at [] ≡ line = get_or-map (λ (span : Span). slice_range text span.from span.to) spans at no_bytes [] c.line-test.true in
    let there = c.requires.within at no_bytes c.line-test.true in
    let some : 0 < length line = omega (arith, length-chunk span.from (span.to - span.from) text (omega (arith, there)), c.if-span-ne-ONE_BLOCK.false) in
    let value : item_of kind line ≡ Some item = sym c.item_at.ensures.value ∙ c.in-Some.is in
    let next : c.line.count + c.from-count.result ≡ c.line.count + from_bool (keeps item) = ap (λ n. c.line.count + n) (c.from-count.ensures ∙ ap from_bool c.keeps.ensures.value) in
    let room : c.line.count < length c.line.kept = omega (arith, c.line.invariant.few, c.line-test.true, c.requires.few, c.told-kept) in record {
      within = omega (arith, inside);
      few = omega (arith, next, c.line.invariant.few, few_counted (keeps item));
      good = All-more (IsGood kind) lines at [] inside c.line.invariant.good (subst (IsGood kind) (sym is) (good_item kind line item value));
      kept = ap (λ n. take n (set c.line.kept c.line.count item)) next
          ∙ item_gathered keeps kind lines at c.line.count item c.line.kept inside (ap (item_in kind) is ∙ item_is kind line item some value) room c.line.invariant.kept;
    }
