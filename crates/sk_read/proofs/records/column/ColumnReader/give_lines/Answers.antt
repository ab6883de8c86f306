use Rattle.std.proofs.Common.{◌≡◌, ℕ, List, ◌++◌, take, sym, ap, ◌∙◌, subst, append-nil}
use Rattle.csv.specs.Reading.{default_config, records}
use Rattle.sk_read.specs.declared.fault.Fault.{Fault}
use Rattle.sk_read.specs.Records.{Row}
use Rattle.sk_read.specs.Columns.{HasRows, Breaks}
use Rattle.sk_read.proofs.FieldGroups.{group_short, group_room, group_stops, group_ends, group_given, group_split}
use Rattle.sk_read.proofs.PartLaws.{at_err}
use Rattle.sk_read.proofs.PlainLaws.{none_behind}
use Rattle.sk_read.proofs.records.column.ColumnReader.give_lines.Goals as goal

pub take_all-requires-clause-short : goal.take_all-requires-clause-short
take_all-requires-clause-short g c =
    let inv = c.group.invariant in
    let text = c.args.text.now in
    let group = c.cut_group-group in
    let before = c.requires.room in
    group_short c.group.self group.new.self text text c.group.place.start group.result.next.start (take group.result.count group.new.spans) group.result.refused group.ensures.cuts group.ensures.column
    (g.T.UnitTaker.went before.0 c.group.taker) before.1 inv.given (records default_config text) before.2 inv.split (inv.has before.0 before.1 before.2 before.3)

pub take_all-requires-clause-room : goal.take_all-requires-clause-room
take_all-requires-clause-room g c =
    let inv = c.group.invariant in
    let text = c.args.text.now in
    let group = c.cut_group-group in
    let before = c.requires.room in
    group_room c.group.self group.new.self text text c.group.place.start group.result.next.start (take group.result.count group.new.spans) group.result.refused group.ensures.cuts group.ensures.column
    (g.T.UnitTaker.went before.0 c.group.taker) before.1 inv.given (records default_config text) before.2 inv.split (inv.has before.0 before.1 before.2 before.3)

pub returns-in_err-take_all-clause-goes : goal.returns-in_err-take_all-clause-goes
returns-in_err-take_all-clause-goes g c = λ start rows few has.
    let inv = c.group.invariant in
    let text = c.args.text.now in
    let group = c.cut_group-group in
    let all = records default_config text in
    let P = g.T.UnitTaker.went start c.take_all.new.self in
    let Q = g.T.UnitTaker.stopped start c.take_all.new.self in
    let f = c.in_err-take_all.field-0.0 in
    let stops = group_stops c.group.self group.new.self text text c.group.place.start group.result.next.start (take group.result.count group.new.spans) group.result.refused group.ensures.cuts group.ensures.column
    (g.T.UnitTaker.went start c.group.taker) rows inv.given all few inv.split (inv.has start rows few has) P Q f (c.in_err-take_all.ensures.stopped start) in
    at_err c.from_residual.result f _ (λ (x : Fault). Breaks c.args.self.now.column P Q rows all x) c.from_residual.ensures.1 (subst (λ (n : ℕ). Breaks n P Q rows all f) inv.column stops)

pub returns-in-Some-clause-goes : goal.returns-in-Some-clause-goes
returns-in-Some-clause-goes g c = λ start rows few has.
    let inv = c.group.invariant in
    let text = c.args.text.now in
    let group = c.cut_group-group in
    let all = records default_config text in
    let P = g.T.UnitTaker.went start c.take_all.new.self in
    let Q = g.T.UnitTaker.stopped start c.take_all.new.self in
    let f = c.in-Some.fault in
    let ends = group_ends c.group.self group.new.self text text c.group.place.start group.result.next.start (take group.result.count group.new.spans) group.result.refused group.ensures.cuts group.ensures.column
    (g.T.UnitTaker.went start c.group.taker) rows inv.given all few inv.split (inv.has start rows few has) P (c.in_ok-take_all.ensures.went start) Q f c.in-Some.is in
    subst (λ (n : ℕ). Breaks n P Q rows all f) inv.column ends

pub group-preserved : goal.group-preserved
group-preserved g c =
    let inv = c.group.invariant in
    let text = c.args.text.now in
    let group = c.cut_group-group in
    let spans = take group.result.count group.new.spans in
    let before = c.requires.room in
    let all = records default_config text in
    record {
      given = inv.given ++ group.ensures.cuts.some;
      split = group_split c.group.self group.new.self text text c.group.place.start group.result.next.start spans group.result.refused group.ensures.cuts group.ensures.column
          (g.T.UnitTaker.went before.0 c.group.taker) before.1 inv.given all before.2 inv.split (inv.has before.0 before.1 before.2 before.3);
      known = group.ensures.known;
      has = λ start rows few has.
          group_given c.group.self group.new.self text text c.group.place.start group.result.next.start spans group.result.refused group.ensures.cuts group.ensures.column
          (g.T.UnitTaker.went start c.group.taker) rows inv.given all few inv.split (inv.has start rows few has) (g.T.UnitTaker.went start c.take_all.new.self) (c.in_ok-take_all.ensures.went start) c.in_default.is;
      column = group.ensures.column ∙ inv.column;
      standing = c.in_ok-take_all.ensures.stays ∙ inv.standing;
    }

pub returns-clause-goes : goal.returns-clause-goes
returns-clause-goes g c = λ start rows few has.
    let inv = c.group.invariant in
    let whole : inv.given ≡ records default_config c.args.text.now =
    sym (inv.split ∙ ap (λ (l : List Row). inv.given ++ l) (none_behind c.args.text.now c.group.place.start c.group-test.false) ∙ append-nil inv.given) in
    subst (λ (l : List Row). HasRows c.group.self (g.T.UnitTaker.went start c.group.taker) (rows ++ l)) whole (inv.has start rows few has)
