use Rattle.std.proofs.Common.{◌≡◌, length, take, sym, ap, ◌∙◌, subst, arith, length-take, length-append}
use Rattle.std.specs.List.{filter}
use Rattle.sk_model.specs.Width.{AreItems}
use Rattle.sk_lines.specs.Spans.{lines_at}
use Rattle.sk_fill.specs.Windows.{items_in}
use Rattle.sk_fill.proofs.Gathering.{filtered_below}
use Rattle.sk_fill.proofs.Pages.{count_at}
use Rattle.sk_feed.proofs.OnItsWay.{range_from_start, front_of_rest}
use Rattle.sk_feed.proofs.block_items.BlockItems.gather_next.Goals as goal

pub invariant_of-self : goal.invariant_of-self
invariant_of-self g c =
    let next = c.next_lines-count in let all = c.gather_all-self-inside in
    let spans = take next.result.1 next.new.spans in let lines = lines_at spans next.result.0.now in
    let count = length-take next.result.1 next.new.spans in
    let size = count_at spans next.result.0.now in
    let left = c.self.invariant.2 in (
      omega arith,
      omega (arith, all.ensures.few, count, next.ensures.few),
      omega (arith, left, size, count, next.array_long, next.ensures.few, ap length next.ensures.lines, length-append lines next.new.self.rest),
      subst AreItems (sym (range_from_start all.new.kept all.result ∙ all.ensures.kept)) (filtered_below (g.C.Composable.keeps_of c.args.hint) c.self.inside.kind lines),
    )

pub returns-clause-gathered : goal.returns-clause-gathered
returns-clause-gathered g c =
    let next = c.next_lines-count in let all = c.gather_all-self-inside in let a = c.self.inside in
    let spans = take next.result.1 next.new.spans in let lines = lines_at spans next.result.0.now in
    let count : length lines ≡ next.result.1 = omega (arith, count_at spans next.result.0.now, length-take next.result.1 next.new.spans, next.array_long, next.ensures.few) in (
      lines,
      omega (arith, count, next.ensures.some),
      ap (λ b. b.rest) (sym c.self.view_is) ∙ front_of_rest a.lines.rest lines next.new.self.rest a.left next.result.1 count next.ensures.most next.ensures.lines,
      range_from_start all.new.kept all.result ∙ all.ensures.kept ∙ ap (λ b. filter (g.C.Composable.keeps_of c.args.hint) (items_in b.kind lines)) c.self.view_is,
    )
