use Rattle.std.proofs.Common.{◌≡◌, ◌+◌, ◌-◌, List, ℕ, length, length-take, take, slice_range, sym, subst, ◌∙◌, arith}
use Rattle.std.proofs.lemmas.List.{length-map}
use Rattle.sk_lines.specs.Spans.{lines_at}
use Rattle.sk_lines.specs.declared.spans.Span.{Span}
use Rattle.sk_desks.specs.Feeds.{HasRoom, TakesLines}
use Rattle.sk_desks.proofs.Taking.{takes_more, has_still, room_after}
use Rattle.sk_desks.proofs.BlockLaws.{no_lines, group_rest, group_more}
use Rattle.sk_desks.proofs.feed.feed_lines.Goals as goal

pub group-init : goal.group-init
group-init g c = record {
  low = omega arith;
  high = c.requires.order;
  rest = c.lines_from-lines.ensures;
  took = no_lines c.args.seed c.args.desk.now c.args.window.now.lines c.args.from;
  tenants = c.requires.tenants;
  room = c.requires.room;
}

pub group-preserved : goal.group-preserved
group-preserved g c =
    let lines = c.args.window.now.lines in let at = c.group.at in let from = c.args.from in let inv = c.group.invariant in
    let text = c.next_lines-count.result.0.now in let count = c.next_lines-count.result.1 in
    let spans : List Span = take count c.next_lines-count.new.spans in
    let group = lines_at spans text in
    let rest = c.group.lines.rest in let rest' = c.next_lines-count.new.self.rest in
    let size : length group ≡ count = length-map spans (λ (span : Span). slice_range text span.from span.to) ∙ omega (arith, length-take count c.next_lines-count.new.spans, c.next_lines-count.ensures.few) in
    let took : TakesLines c.args.seed c.group.desk group c.feed_group.new.desk = c.feed_group.ensures in
    let later : ℕ = c.args.to - (at + count) in
    let room : HasRoom (length group + later) c.group.desk = λ t u within. omega (arith, inv.room t u within, size, c.next_lines-count.ensures.most, c.group-test.true) in
    record {
      low = omega (arith, inv.low);
      high = omega (arith, c.next_lines-count.ensures.most, c.group-test.true);
      rest = group_rest lines rest rest' group at count inv.rest c.next_lines-count.ensures.lines size;
      took = subst (λ (ls : List (List ℕ)). TakesLines c.args.seed c.args.desk.now ls c.feed_group.new.desk) (sym (group_more lines rest rest' group at count inv.rest c.next_lines-count.ensures.lines size from inv.low))
          (takes_more c.args.seed c.args.desk.now c.group.desk c.feed_group.new.desk (slice_range lines from at) group inv.took took);
      tenants = has_still c.args.seed c.group.desk c.feed_group.new.desk group took inv.tenants;
      room = room_after c.args.seed c.group.desk c.feed_group.new.desk group later inv.tenants took room;
    }

pub returns : goal.returns
returns g c =
    let inv = c.group.invariant in
    let end : c.group.at ≡ c.args.to = omega (arith, inv.high, c.group-test.false) in
    subst (λ (n : ℕ). TakesLines c.args.seed c.args.desk.now (slice_range c.args.window.now.lines c.args.from n) c.group.desk) end inv.took
