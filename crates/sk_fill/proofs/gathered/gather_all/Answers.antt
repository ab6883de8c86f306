use Rattle.std.proofs.Common.{◌≡◌, ◌<◌, ◌+◌, [], length, take, sym, ap, arith, ◌∙◌, get_or, slice_range}
use Rattle.std.specs.List.{filter}
use Rattle.std.specs.Int.{from_bool}
use Rattle.std.proofs.lemmas.List.{length-map, length-set, get_or-map}
use Rattle.sk_lines.specs.Spans.{lines_at}
use Rattle.sk_lines.specs.declared.spans.Span.{Span}
use Rattle.sk_fill.specs.Windows.{item_in}
use Rattle.sk_fill.proofs.Items.{no_items}
use Rattle.sk_fill.proofs.Gathering.{few_counted, item_gathered, none_gathered}
use Rattle.sk_fill.proofs.gathered.gather_all.Goals as goal
use Rattle.sk_fill.proofs.gathered.gather_all.Goals.{in-Some, in_default}

abbrev no_bytes : Span
no_bytes = record { from = 0; to = 0 }

pub line-init : goal.line-init
line-init g c = record { few = omega arith; kept = sym (ap (filter (g.C.Composable.keeps_of c.args.hint)) (no_items c.args.kind)) }

pub line-preserved : goal.line-preserved
line-preserved g c =
    let kind = c.args.kind in let spans = c.args.spans.now in let text = c.args.text.now in let lines = lines_at spans text in let at = c.line.at in
    let line = slice_range text (get_or spans at no_bytes).from (get_or spans at no_bytes).to in
    let inside : at < length lines = omega (arith, length-map spans (λ (span : Span). slice_range text span.from span.to), c.line-test.true) in
    let is : get_or lines at [] ≡ line = get_or-map (λ (span : Span). slice_range text span.from span.to) spans at no_bytes [] c.line-test.true in
    elim c.match-item_at.branch [
      | in-Some w ↦
          let item = w.in-Some.item in
          let keeps = g.C.Composable.keeps_of c.args.hint in
          let next : c.match-item_at.count ≡ c.line.count + from_bool (keeps item) = w.count-is ∙ ap (λ n. c.line.count + n) (w.from-count.ensures ∙ ap from_bool w.keeps.ensures.value) in
          let room : c.line.count < length c.line.kept = omega (arith, c.line.invariant.few, c.line-test.true, c.requires.few, ap length w.kept-is, length-set c.line.kept c.line.count item, c.match-item_at.array_long) in record {
            few = omega (arith, next, c.line.invariant.few, few_counted (keeps item));
            kept = ap (λ n. take n c.match-item_at.kept) next ∙ ap (λ l. take (c.line.count + from_bool (keeps item)) l) w.kept-is
                ∙ item_gathered keeps kind lines at c.line.count item c.line.kept inside (ap (item_in kind) is ∙ sym c.item_at.ensures.value ∙ w.in-Some.is) room c.line.invariant.kept;
          }
      | in_default w ↦ record {
        few = omega (arith, w.count-is, c.line.invariant.few);
        kept = ap (λ n. take n c.match-item_at.kept) w.count-is ∙ ap (λ l. take c.line.count l) w.kept-is
            ∙ none_gathered (g.C.Composable.keeps_of c.args.hint) kind lines at c.line.count c.line.kept inside (ap (item_in kind) is ∙ sym c.item_at.ensures.value ∙ w.in_default.is) c.line.invariant.kept;
      }
    ]
