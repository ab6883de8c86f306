use Rattle.std.proofs.Common.{◌≡◌, ◌+◌, ◌<◌, ◌++◌, ◌∷◌, [], ℕ, List, length, take, drop, slice_index, ap, ◌∙◌, subst, arith, append_assoc}
use Rattle.std.proofs.lemmas.List.{drop_more, length-set}
use Rattle.csv.specs.Reading.{default_config, records}
use Rattle.sk_model.specs.Limits.{most_kept}
use Rattle.sk_read.specs.Records.{Row, field_of}
use Rattle.sk_read.specs.Groups.{HasSeen}
use Rattle.sk_read.specs.Scan.{IsEnd}
use Rattle.sk_read.proofs.ColumnLaws.{one_more_row}
use Rattle.sk_read.proofs.FieldGroups.{cut_room, lines_stay, behind_stay, one_more_place, one_more_within}
use Rattle.sk_read.proofs.PlainLaws.{room_more}
use Rattle.sk_read.proofs.Runs.{records_led}
use Rattle.sk_read.proofs.records.column.ColumnReader.read_group.Goals as goal

pub read_row-requires-clause-room : goal.read_row-requires-clause-room
read_row-requires-clause-room c =
    let inv = c.row.invariant in
    let before = c.requires.room in
    let all = records default_config (drop c.args.start c.args.text.now) in
    (before.0 ++ inv.some, cut_room before.0 inv.some all (records default_config (drop c.row.next.start c.args.text.now)) before.1 inv.split, inv.has before.0 before.1 before.2)

pub row-preserved-then-is_line_end : goal.row-preserved-then-is_line_end
row-preserved-then-is_line_end c =
    let inv = c.row.invariant in
    let text = c.args.text.now in
    let at = c.row.next.start in
    let end : IsEnd (slice_index text at) = c.is_line_end.ensures.0 c.if-is_line_end.true in
    let none : records default_config (drop at text) ≡ records default_config (drop (at + 1) text) =
    ap (records default_config) (drop_more text at 0 c.row-test.true) ∙ records_led (slice_index text at) (drop (at + 1) text) end in
    record {
      some = inv.some;
      split = inv.split ∙ ap (λ (l : List Row). inv.some ++ l) none;
      fields = inv.fields;
      has = inv.has;
      few = inv.few;
      long = inv.long;
      within = inv.within;
      moved = omega (arith, inv.moved);
      column = inv.column;
    }

pub returns-in-Err-clause-cuts : goal.returns-in-Err-clause-cuts
returns-in-Err-clause-cuts c =
    let inv = c.row.invariant in
    let text = c.args.text.now in
    let spans = take c.row.count c.row.spans in
    let all = records default_config (drop c.args.start text) in
    record {
      some = inv.some;
      split = inv.split;
      fields = lines_stay spans c.row.held.items c.read_row.new.held.items inv.within c.read_row.ensures.more ∙ inv.fields;
      has = λ rows few has. c.in-Err.ensures.refused (rows ++ inv.some) (cut_room rows inv.some all (records default_config (drop c.row.next.start text)) few inv.split) (inv.has rows few has);
    }

pub row-preserved : goal.row-preserved
row-preserved c =
    let inv = c.row.invariant in
    let text = c.args.text.now in
    let held = c.row.held.items in
    let later = c.read_row.new.held.items in
    let took = c.in-Ok.ensures.took in
    let field = c.in-Ok.found.0 in
    let end = c.in-Ok.found.1 in
    let count = c.row.count in
    let spans = c.row.spans in
    let column = c.args.self.now.column in
    let all = records default_config (drop c.args.start text) in
    let rest = records default_config (drop end text) in
    let more = one_more_row all inv.some took.row (records default_config (drop c.row.next.start text)) rest inv.split took.split in
    let room : count < length spans = omega (arith, c.if-count-lt-GROUP.true, inv.long) in
    let stay = lines_stay (take count spans) held later inv.within c.read_row.ensures.more in
    record {
      some = inv.some ++ took.row ∷ [];
      split = more;
      fields = one_more_place later spans count field column inv.some took.row room (stay ∙ inv.fields) (took.field ∙ ap (λ (n : ℕ). field_of n took.row) inv.column);
      has = λ rows few has.
          subst (HasSeen c.read_row.new.self) (append_assoc rows inv.some (took.row ∷ []))
          (took.has (rows ++ inv.some) (room_more most_kept rows all inv.some rest took.row few more) (inv.has rows few has));
      few = omega (arith, c.if-count-lt-GROUP.true);
      long = omega (arith, inv.long, length-set spans count field);
      within = one_more_within later spans count field room (behind_stay (take count spans) held later inv.within c.read_row.ensures.more) took.order took.within;
      moved = omega (arith, inv.moved, took.past);
      column = c.read_row.ensures.column ∙ inv.column;
    }
