use Rattle.std.proofs.Common.{◌≡◌, ◌+◌, ◌-◌, ◌∷◌, [], List, ℕ, length, get_or, take, slice_range, sym, subst, arith}
use Rattle.std.proofs.lemmas.List.{take_all}
use Rattle.sk_lines.specs.Spans.{lines_at}
use Rattle.sk_lines.specs.declared.spans.Span.{Span}
use Rattle.sk_desks.specs.Feeds.{HasRoom, TakesLines}
use Rattle.sk_desks.proofs.Taking.{takes_no_line, takes_more, has_still, room_after}
use Rattle.sk_desks.proofs.WindowLaws.{no_bytes, lines_more}
use Rattle.sk_desks.proofs.feed.feed_group.Goals as goal

pub line-init : goal.line-init
line-init g c = record {
  took = takes_no_line c.args.seed c.args.desk.now;
  tenants = c.requires.tenants;
  room = λ t u within. omega (arith, c.requires.room t u within);
}

pub give_like-label-requires-clause-room : goal.give_like-label-requires-clause-room
give_like-label-requires-clause-room g c = λ t u within. omega (arith, c.line.invariant.room t u within, c.line-test.true)

pub line-preserved : goal.line-preserved
line-preserved g c =
    let text = c.args.text.now in let spans = c.args.spans.now in let i = c.line.i in let inv = c.line.invariant in
    let span = get_or spans i no_bytes in
    let line : List ℕ = slice_range text span.from span.to in
    let took = c.give_like-label.ensures in
    let count : length spans - i ≡ length (line ∷ []) + (length spans - (i + 1)) = omega (arith, c.line-test.true) in
    let room : HasRoom (length (line ∷ []) + (length spans - (i + 1))) c.line.desk = subst (λ (n : ℕ). HasRoom n c.line.desk) count inv.room in
    record {
      took = subst (λ (ls : List (List ℕ)). TakesLines c.args.seed c.args.desk.now ls c.give_like-label.new.desk) (sym (lines_more text spans i no_bytes c.line-test.true))
          (takes_more c.args.seed c.args.desk.now c.line.desk c.give_like-label.new.desk (lines_at (take i spans) text) (line ∷ []) inv.took took);
      tenants = has_still c.args.seed c.line.desk c.give_like-label.new.desk (line ∷ []) took inv.tenants;
      room = room_after c.args.seed c.line.desk c.give_like-label.new.desk (line ∷ []) (length spans - (i + 1)) inv.tenants took room;
    }

pub returns : goal.returns
returns g c =
    let spans = c.args.spans.now in
    subst (λ (ss : List Span). TakesLines c.args.seed c.args.desk.now (lines_at ss c.args.text.now) c.line.desk) (take_all c.line.i spans (omega (arith, c.line-test.false))) c.line.invariant.took
