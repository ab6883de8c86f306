use Rattle.std.proofs.Common.{◌≢◌, ◌<◌, ◌++◌, ◌∷◌, [], ℕ, List, length, slice_index, refl, sym, ap, ◌∙◌, arith, append-nil, length-append}
use Rattle.std.proofs.lemmas.Bool.{false≢true}
use Rattle.sk_read.specs.Records.{field_of}
use Rattle.sk_read.proofs.QuotedRecords.{begins_as_field, over_at, no_field, kept_ended, held_more}
use Rattle.sk_read.proofs.records.quoted.read_record.Goals as goal

pub field-init : goal.field-init
field-init c = record {
  row = [];
  read = begins_as_field c.args.text.now c.args.start c.requires.inside c.requires.begins;
  width = refl;
  held = sym (append-nil c.args.held.now.items) ∙ ap (λ (l : List ℕ). c.args.held.now.items ++ l) (sym (no_field c.args.column));
  from = omega arith;
  within = omega (arith, c.requires.inside);
  few = omega arith;
}

pub returns-then-not-is_comma-clause-read : goal.returns-then-not-is_comma-clause-read
returns-then-not-is_comma-clause-read c =
    let inv = c.field.invariant in
    let text = c.args.text.now in
    let end = c.in_ok-end.end in
    let read = c.in_ok-end.ensures.read in
    let other : end < length text → slice_index text end ≢ 44 = λ inside is. false≢true (sym c.if-not-is_comma.true ∙ c.is_comma.ensures.1 (inside, is)) in (
      field_of c.args.column (inv.row ++ read.0 ∷ []),
      held_more c.args.column inv.row read.0 c.args.held.now.items c.field.held.items c.read_field.new.held.items c.is_in_column.result (λ is. sym inv.width ∙ c.is_in_column.ensures.0 is) (λ is. c.is_in_column.ensures.1 (inv.width ∙ is)) inv.held read.1,
      record {
        row = inv.row ++ read.0 ∷ [];
        split = inv.read ∙ read.2.ends other inv.row;
        width = omega (arith, inv.width, length-append inv.row (read.0 ∷ []));
        kept = refl;
        past = omega (arith, inv.from, read.2.from);
      },
    )

pub field-preserved : goal.field-preserved
field-preserved c =
    let inv = c.field.invariant in
    let read = c.in_ok-end.ensures.read in
    let comma = c.is_comma.ensures.0 c.if-not-is_comma.false in
    record {
      row = inv.row ++ read.0 ∷ [];
      read = inv.read ∙ read.2.goes comma.0 comma.1 inv.row;
      width = omega (arith, inv.width, length-append inv.row (read.0 ∷ []));
      held = held_more c.args.column inv.row read.0 c.args.held.now.items c.field.held.items c.read_field.new.held.items c.is_in_column.result (λ is. sym inv.width ∙ c.is_in_column.ensures.0 is) (λ is. c.is_in_column.ensures.1 (inv.width ∙ is)) inv.held read.1;
      from = omega (arith, inv.from, read.2.from);
      within = omega (arith, comma.0);
      few = omega (arith, inv.few, read.2.from);
    }

pub returns-clause-read : goal.returns-clause-read
returns-clause-read c =
    let inv = c.field.invariant in (
      field_of c.args.column inv.row,
      inv.held,
      record {
        row = inv.row ++ [] ∷ [];
        split = inv.read ∙ over_at c.args.text.now c.field.at inv.row c.field-test.false;
        width = omega (arith, inv.width, length-append inv.row ([] ∷ []));
        kept = sym (kept_ended c.args.column inv.row);
        past = omega (arith, c.requires.inside, c.field-test.false);
      },
    )
