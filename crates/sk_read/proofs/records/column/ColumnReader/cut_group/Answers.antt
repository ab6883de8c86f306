use Rattle.std.proofs.Common.{◌≡◌, ◌+◌, ◌-◌, ◌<◌, ◌≤◌, ℕ, List, [], ◌∷◌, ◌++◌, length, take, drop, slice_range, set, sym, ap, ◌∙◌, subst, arith, append_assoc, length-drop}
use Rattle.std.proofs.lemmas.List.{length-set, length-take-le}
use Rattle.csv.specs.Reading.{default_config, records}
use Rattle.sk_lines.specs.Spans.{AreBehind, lines_at}
use Rattle.sk_lines.specs.declared.spans.Span.{Span}
use Rattle.sk_model.specs.Limits.{most_kept}
use Rattle.sk_read.specs.declared.records.column.ColumnReader.{ColumnReader}
use Rattle.sk_read.specs.Records.{Row, field_of, AreSoundRows}
use Rattle.sk_read.specs.Groups.{HasSeen, RefusesRow}
use Rattle.sk_read.proofs.ColumnLaws.{one_more_row}
use Rattle.sk_read.proofs.FieldGroups.{one_more_place, one_more_within, refused_next, when_ok}
use Rattle.sk_read.proofs.PlainLaws.{line_records, empty_records, room_more, field_of_line}
use Rattle.sk_read.proofs.records.column.ColumnReader.cut_group.Goals.{then-line-next+in_default, else-line-next}
use Rattle.sk_read.proofs.records.column.ColumnReader.cut_group.Goals as goal

pub admit-requires : goal.admit-requires
admit-requires c =
    let inv = c.line.invariant in
    let text = c.args.text.now in
    let line = c.cut_line-line.result in
    let is = c.cut_line-line.ensures.line in
    let before = c.requires.room in
    let all = records default_config (drop c.args.place.start text) in
    let rest = records default_config (drop (line.end + 1) text) in
    let next = line_records text c.requires.plain c.line.self.column c.line.next.start line is c.if-line-next.true in
    let more = one_more_row all inv.some is.row (records default_config (drop c.line.next.start text)) rest inv.split next in
    record { room = (before.0 ++ inv.some, room_more most_kept before.0 all inv.some rest is.row before.1 more, inv.has before.0 before.1 before.2) }

pub returns-in-Err-clause-cuts : goal.returns-in-Err-clause-cuts
returns-in-Err-clause-cuts c =
    let inv = c.line.invariant in
    let text = c.args.text.now in
    let line = c.cut_line-line.result in
    let is = c.cut_line-line.ensures.line in
    let span = line.fields.field in
    let all = records default_config (drop c.args.place.start text) in
    let rest = records default_config (drop (line.end + 1) text) in
    let next = line_records text c.requires.plain c.line.self.column c.line.next.start line is c.if-line-next.true in
    let more = one_more_row all inv.some is.row (records default_config (drop c.line.next.start text)) rest inv.split next in
    let field = field_of_line c.line.self.column text is.row line.fields is.fields in
    let size : length (slice_range text span.from span.to) ≡ span.to - span.from =
    length-take-le (span.to - span.from) (drop span.from text) (omega (arith, length-drop span.from text, is.fields.within, is.fields.order)) in
    record {
      some = inv.some;
      split = inv.split;
      fields = inv.fields;
      has = λ rows few has.
          let seen = inv.has rows few has in
          let refused = c.in-Err.ensures.goes (rows ++ inv.some) is.row (slice_range text span.from span.to) (room_more most_kept rows all inv.some rest is.row few more) seen field size in
          refused_next c.admit.new.self (rows ++ inv.some) (records default_config (drop c.line.next.start text)) is.row c.in-Err.fault
          (subst (λ (n : ℕ). AreSoundRows n (rows ++ inv.some)) (sym c.admit.ensures.column) seen.sound) (rest, next)
          (subst (λ (n : ℕ). RefusesRow n (rows ++ inv.some) is.row c.in-Err.fault) (sym c.admit.ensures.column) refused);
    }

pub line-preserved : goal.line-preserved
line-preserved c =
    let inv = c.line.invariant in
    let text = c.args.text.now in
    let line = c.cut_line-line.result in
    let is = c.cut_line-line.ensures.line in
    let span : Span = line.fields.field in
    let count = c.line.count in
    let spans = c.line.spans in
    let now = c.if-line-next.spans in
    let all = records default_config (drop c.args.place.start text) in
    let rest = records default_config (drop (line.end + 1) text) in
    elim c.if-line-next.branch [
      | then-line-next+in_default w ↦
          let next = line_records text c.requires.plain c.line.self.column c.line.next.start line is w.if-line-next.true in
          let more = one_more_row all inv.some is.row (records default_config (drop c.line.next.start text)) rest inv.split next in
          let piece = slice_range text span.from span.to in
          let field = field_of_line c.line.self.column text is.row line.fields is.fields in
          let size : length piece ≡ span.to - span.from = length-take-le (span.to - span.from) (drop span.from text) (omega (arith, length-drop span.from text, is.fields.within, is.fields.order)) in
          let taken : (rows : List Row) → length rows + length all ≤ most_kept → HasSeen c.args.self.now rows → HasSeen w.admit.new.self ((rows ++ inv.some) ++ is.row ∷ []) × (piece ≡ field_of c.line.self.column is.row) = λ rows few has.
          when_ok w.admit.result _ (HasSeen w.admit.new.self ((rows ++ inv.some) ++ is.row ∷ []) × (piece ≡ field_of c.line.self.column is.row)) (RefusesRow c.line.self.column (rows ++ inv.some) is.row)
          (w.admit.ensures.goes (rows ++ inv.some) is.row piece (room_more most_kept rows all inv.some rest is.row few more) (inv.has rows few has) field size) w.in_default.is in
          let here : piece ≡ field_of c.args.self.now.column is.row = (taken c.requires.room.0 c.requires.room.1 c.requires.room.2).1 ∙ ap (λ (n : ℕ). field_of n is.row) inv.column in
          let room : count < length spans = omega (arith, c.if-count-lt-GROUP.true, c.if-line-next.array_long, ap length w.spans-is, length-set spans count span) in
          let put : take c.if-line-next.count now ≡ take (count + 1) (set spans count span) = ap (λ (n : ℕ). take n now) w.count-is ∙ ap (λ (l : List Span). take (count + 1) l) w.spans-is in
          record {
            some = inv.some ++ is.row ∷ [];
            split = more;
            fields = ap (λ (l : List Span). lines_at l text) put ∙ one_more_place text spans count span c.args.self.now.column inv.some is.row room inv.fields here;
            has = λ rows few has.
                subst (λ (t : ColumnReader). HasSeen t (rows ++ (inv.some ++ is.row ∷ []))) (sym w.self-is)
                (subst (HasSeen w.admit.new.self) (append_assoc rows inv.some (is.row ∷ [])) (taken rows few has).0);
            known = λ inside. c.cut_line-line.ensures.known (omega (arith, inside));
            few = omega (arith, w.count-is, c.if-count-lt-GROUP.true);
            within = subst (λ (l : List Span). AreBehind 0 l text) (sym put) (one_more_within text spans count span room inv.within is.fields.order is.fields.within);
            moved = omega (arith, w.count-is, inv.moved, is.from);
            column = ap (λ (t : ColumnReader). t.column) w.self-is ∙ w.admit.ensures.column ∙ inv.column;
          }
      | else-line-next w ↦
          let kept : take c.if-line-next.count now ≡ take count spans = ap (λ (n : ℕ). take n now) w.count-is ∙ ap (λ (l : List Span). take count l) w.spans-is in
          record {
            some = inv.some;
            split = inv.split ∙ ap (λ (l : List Row). inv.some ++ l) (empty_records text c.requires.plain c.line.self.column c.line.next.start line is c.line-test.true w.if-line-next.false);
            fields = ap (λ (l : List Span). lines_at l text) kept ∙ inv.fields;
            has = λ rows few has. subst (λ (t : ColumnReader). HasSeen t (rows ++ inv.some)) (sym w.self-is) (inv.has rows few has);
            known = λ inside. c.cut_line-line.ensures.known (omega (arith, inside));
            few = omega (arith, w.count-is, inv.few);
            within = subst (λ (l : List Span). AreBehind 0 l text) (sym kept) inv.within;
            moved = omega (arith, w.count-is, inv.moved, is.from);
            column = ap (λ (t : ColumnReader). t.column) w.self-is ∙ inv.column;
          }
    ]
