use Rattle.std.proofs.Common.{◌≡◌, ◌<◌, ◌+◌, [], length, take, Some, sym, ap, subst, arith, ◌∙◌, get_or, slice_range}
use Rattle.std.specs.Int.{from_bool}
use Rattle.std.proofs.lemmas.List.{length-map, length-set, get_or-map}
use Rattle.std.proofs.lemmas.List.Elements.{All-more}
use Rattle.sk_model.specs.Width.{AreItems}
use Rattle.sk_lines.specs.Spans.{lines_at}
use Rattle.sk_lines.specs.declared.spans.Span.{Span}
use Rattle.sk_read.specs.Items.{item_of, IsGood}
use Rattle.sk_fill.specs.Windows.{item_in}
use Rattle.sk_fill.proofs.Gathering.{few_counted, item_gathered, none_gathered, filtered_below}
use Rattle.sk_fill.proofs.Units.{item_is, empty_is, filled, empty, good_item, good_empty}
use Rattle.sk_fill.proofs.gathered.gather_rest.Goals as goal
use Rattle.sk_fill.proofs.gathered.gather_rest.Goals.{then-not-is_empty+in-Some, else-not-is_empty}

abbrev no_bytes : Span
no_bytes = record { from = 0; to = 0 }

pub returns-in-None-clause-below : goal.returns-in-None-clause-below
returns-in-None-clause-below g c = subst AreItems (sym c.line.invariant.kept) (filtered_below (g.C.Composable.keeps_of c.args.hint) c.args.kind (take c.line.at (lines_at c.args.spans.now c.args.text.now)))

pub line-preserved : goal.line-preserved
line-preserved g c =
    let kind = c.args.kind in let spans = c.args.spans.now in let text = c.args.text.now in let lines = lines_at spans text in let at = c.line.at in
    let line = slice_range text (get_or spans at no_bytes).from (get_or spans at no_bytes).to in
    let inside : at < length lines = omega (arith, length-map spans (λ (span : Span). slice_range text span.from span.to), c.line-test.true) in
    let is : get_or lines at [] ≡ line = get_or-map (λ (span : Span). slice_range text span.from span.to) spans at no_bytes [] c.line-test.true in
    elim c.if-not-is_empty.branch [
      | then-not-is_empty+in-Some w ↦
          let item = w.in-Some.item in
          let some : 0 < length line = filled line c.is_empty.result c.is_empty.ensures w.if-not-is_empty.true in
          let value : item_of kind line ≡ Some item = sym w.item_at.ensures.value ∙ w.in-Some.is in
          let counts : w.from-items.result ≡ from_bool (g.C.Composable.keeps_of c.args.hint item) = w.from-items.ensures ∙ ap from_bool w.keeps.ensures.value in
          let next : c.if-not-is_empty.items ≡ c.line.items + from_bool (g.C.Composable.keeps_of c.args.hint item) = w.items-is ∙ ap (λ n. c.line.items + n) counts in
          let room : c.line.items < length c.line.kept = omega (arith, c.line.invariant.few, c.line-test.true, c.requires.few, ap length w.kept-is, length-set c.line.kept c.line.items item, c.if-not-is_empty.array_long) in record {
            within = omega (arith, inside);
            few = omega (arith, next, c.line.invariant.few, few_counted (g.C.Composable.keeps_of c.args.hint item));
            good = All-more (IsGood kind) lines at [] inside c.line.invariant.good (subst (IsGood kind) (sym is) (good_item kind line item value));
            kept = ap (λ n. take n c.if-not-is_empty.kept) next ∙ ap (λ l. take (c.line.items + from_bool (g.C.Composable.keeps_of c.args.hint item)) l) w.kept-is
                ∙ item_gathered (g.C.Composable.keeps_of c.args.hint) kind lines at c.line.items item c.line.kept inside (ap (item_in kind) is ∙ item_is kind line item some value) room c.line.invariant.kept;
          }
      | else-not-is_empty w ↦
          let none : length line ≡ 0 = empty line c.is_empty.result c.is_empty.ensures w.if-not-is_empty.false in record {
            within = omega (arith, inside);
            few = omega (arith, w.items-is, c.line.invariant.few);
            good = All-more (IsGood kind) lines at [] inside c.line.invariant.good (subst (IsGood kind) (sym is) (good_empty kind line none));
            kept = ap (λ n. take n c.if-not-is_empty.kept) w.items-is ∙ ap (λ l. take c.line.items l) w.kept-is
                ∙ none_gathered (g.C.Composable.keeps_of c.args.hint) kind lines at c.line.items c.line.kept inside (ap (item_in kind) is ∙ empty_is kind line none) c.line.invariant.kept;
          }
    ]

pub returns-clause-below : goal.returns-clause-below
returns-clause-below g c = subst AreItems (sym c.line.invariant.kept) (filtered_below (g.C.Composable.keeps_of c.args.hint) c.args.kind (take c.line.at (lines_at c.args.spans.now c.args.text.now)))
