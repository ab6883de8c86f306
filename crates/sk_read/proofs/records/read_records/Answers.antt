use Rattle.std.proofs.Common.{◌≡◌, ◌+◌, ◌≤◌, ℕ, List, [], ◌++◌, length, take, Ok, refl, sym, ap, ◌∙◌, subst, arith}
use Rattle.std.specs.Io.KnownBytes.{Consumes}
use Rattle.std.proofs.KnownBytes.{Consumes-trans}
use Rattle.csv.specs.Reading.{default_config, records}
use Rattle.sk_model.specs.Limits.{most_kept}
use Rattle.sk_read.specs.declared.fault.Fault.{Fault}
use Rattle.sk_read.specs.declared.units.Units.TheVariants.{Column}
use Rattle.sk_read.specs.Parts.{Lacks, Refills}
use Rattle.sk_read.specs.Records.{records_of, fields_in, AreSoundRows}
use Rattle.sk_read.specs.Columns.{HasRows, Breaks}
use Rattle.sk_read.proofs.CauseLaws.{steady_ok}
use Rattle.sk_read.proofs.FaultLaws.{given_fault}
use Rattle.sk_read.proofs.LineEnds.{ends_read}
use Rattle.sk_read.proofs.ColumnLaws.{none_sound, length_fields}
use Rattle.sk_read.proofs.RecordEnds.{held_by, over_by, cut_by, held_on, no_row, broke, whole_settled, rest_settled, room_whole, room_rest, rest_is}
use Rattle.sk_read.proofs.records.read_records.Given.{Over}
use Rattle.sk_read.proofs.records.read_records.Goals.{In_ok-refill}
use Rattle.sk_read.proofs.records.read_records.Goals as goal

pub returns-in_err-parts-clause-read : goal.returns-in_err-parts-clause-read
returns-in_err-parts-clause-read g c =
    let Gave = g.T.UnitTaker.went c.args.taker.now c.args.taker.now in
    let Stopped = g.T.UnitTaker.stopped c.args.taker.now c.args.taker.now in
    let starts = c.in_err-parts.ensures.starts in
    let last = g.S.Source.last c.start.new.source in
    ends_read Gave Stopped c.args.most last last (Column c.args.column) _ _ c.in_err-parts.field-0.0 c.from_residual.result c.from_residual.ensures.1 (omega arith)
    (no_row Gave Stopped last c.args.column c.args.most _ _ starts.0 starts.1 [] c.in_err-parts.field-0.0 (none_sound c.args.column) c.requires.start starts.2)

pub part-init : goal.part-init
part-init g c =
    let start = c.in_ok-parts.ensures.starts in
    record {
      rows = [];
      taken = start.0;
      held = start.2;
      consumed = start.1;
      table = record {
        number = c.new-table.ensures.none.0;
        width = c.new-table.ensures.none.1;
        sound = none_sound c.new-table.result.column;
        gave = c.requires.start;
      };
      column = c.new-table.ensures.column;
      most = start.3;
      piece = start.4;
      steady = steady_ok _ _ _ _ _ c.start.ensures.cause c.in_ok-parts.was;
      stays = c.start.ensures.stays;
      standing = refl;
    }

pub refill-requires : goal.refill-requires
refill-requires g c = (c.part.invariant.rows, c.part.invariant.taken, c.part.invariant.held)

-- the records and the bytes after a refill
filled : (g : Over) (c : In_ok-refill g) → (more : List ℕ) × Consumes (g.S.Source.left c.part.source) (g.S.Source.left c.refill.new.source) more
    × Refills c.refill.new.self (g.S.Source.left c.refill.new.source) c.part.invariant.rows (c.part.invariant.taken ++ more) (Ok c.in_ok-refill.field-0)
filled g c =
    let inv = c.part.invariant in
    let at = c.refill.ensures.goes inv.rows inv.taken inv.held in
    (at.0, at.1, subst (Refills c.refill.new.self (g.S.Source.left c.refill.new.source) inv.rows (inv.taken ++ at.0)) c.in_ok-refill.was at.2)

pub returns-in_err-refill-clause-read : goal.returns-in_err-refill-clause-read
returns-in_err-refill-clause-read g c =
    let inv = c.part.invariant in
    let Gave = g.T.UnitTaker.went c.args.taker.now c.part.taker in
    let Stopped = g.T.UnitTaker.stopped c.args.taker.now c.part.taker in
    let at = c.refill.ensures.goes inv.rows inv.taken inv.held in
    let f = c.in_err-refill.field-0.0 in
    let last = c.refill.new.self.last in
    let lacks : Lacks last c.refill.new.self.most inv.rows (inv.taken ++ at.0) f = subst (Refills c.refill.new.self (g.S.Source.left c.refill.new.source) inv.rows (inv.taken ++ at.0)) c.in_err-refill.was at.2 in
    ends_read Gave Stopped c.args.most last _ (Column c.args.column) _ _ f c.from_residual-in_err-refill.result c.from_residual-in_err-refill.ensures.1 (c.refill.ensures.piece inv.piece)
    (no_row Gave Stopped last c.args.column c.args.most _ _ (inv.taken ++ at.0) (Consumes-trans _ _ _ _ _ inv.consumed at.1) inv.rows f
    (subst (λ (n : ℕ). AreSoundRows n inv.rows) inv.column inv.table.sound)
    (subst (λ (n : ℕ). Gave (fields_in n inv.rows)) inv.column inv.table.gave)
    (subst (λ (m : ℕ). Lacks last m inv.rows (inv.taken ++ at.0) f) (c.refill.ensures.most ∙ inv.most) lacks))

pub whole-requires : goal.whole-requires
whole-requires g c =
    let at = filled g (goal.at.whole-requires g c).In_ok-refill in
    (c.part.invariant.rows, c.part.invariant.taken ++ at.0, (held_by c.refill.new.self _ c.part.invariant.rows (c.part.invariant.taken ++ at.0) c.in_ok-refill.field-0 at.2).has)

pub drop_whole-requires : goal.drop_whole-requires
drop_whole-requires g c =
    let at = filled g (goal.at.drop_whole-requires g c).In_ok-refill in
    (c.part.invariant.rows, c.part.invariant.taken ++ at.0, (held_by c.refill.new.self _ c.part.invariant.rows (c.part.invariant.taken ++ at.0) c.in_ok-refill.field-0 at.2).has)

pub rest-requires : goal.rest-requires
rest-requires g c =
    let at = filled g (goal.at.rest-requires g c).In_ok-refill in
    (c.part.invariant.rows, c.part.invariant.taken ++ at.0, (held_by c.refill.new.self _ c.part.invariant.rows (c.part.invariant.taken ++ at.0) c.in_ok-refill.field-0 at.2).has)

pub give-requires : goal.give-requires
give-requires g c =
    let inv = c.part.invariant in
    let at = filled g (goal.at.give-requires g c).In_ok-refill in
    let held = held_by c.refill.new.self _ inv.rows (inv.taken ++ at.0) c.in_ok-refill.field-0 at.2 in
    record { room = (c.args.taker.now, inv.rows, subst (λ (l : List ℕ). length inv.rows + length (records default_config l) ≤ most_kept) (sym c.whole.ensures.bytes) (room_whole c.refill.new.self inv.rows (inv.taken ++ at.0) held.has), inv.table) }

pub give-requires-2 : goal.give-requires-2
give-requires-2 g c =
    let inv = c.part.invariant in
    let at = filled g (goal.at.give-requires-2 g c).In_ok-refill in
    let held = held_by c.refill.new.self _ inv.rows (inv.taken ++ at.0) c.in_ok-refill.field-0 at.2 in
    record { room = (c.args.taker.now, inv.rows, subst (λ (l : List ℕ). length inv.rows + length (records default_config l) ≤ most_kept) (sym c.rest.ensures.bytes) (room_rest c.refill.new.self inv.rows (inv.taken ++ at.0) held.has), inv.table) }

pub returns-in_err-give-clause-read : goal.returns-in_err-give-clause-read
returns-in_err-give-clause-read g c =
    let inv = c.part.invariant in
    let column = c.args.column in
    let Gave = g.T.UnitTaker.went c.args.taker.now c.give.new.taker in
    let Stopped = g.T.UnitTaker.stopped c.args.taker.now c.give.new.taker in
    let at = filled g (goal.at.returns-in_err-give-clause-read g c).In_ok-refill in
    let now = inv.taken ++ at.0 in
    let parts = c.refill.new.self in
    let held = held_by parts _ inv.rows now c.in_ok-refill.field-0 at.2 in
    let f = c.in_err-give.field-0.0 in
    let room : length inv.rows + length (records default_config c.whole.result.now) ≤ most_kept =
    subst (λ (l : List ℕ). length inv.rows + length (records default_config l) ≤ most_kept) (sym c.whole.ensures.bytes) (room_whole parts inv.rows now held.has) in
    let breaks : Breaks column Gave Stopped inv.rows (records default_config (take parts.cut parts.bytes.items)) f =
    subst (λ (l : List ℕ). Breaks column Gave Stopped inv.rows (records default_config l) f) c.whole.ensures.bytes
    (subst (λ (n : ℕ). Breaks n Gave Stopped inv.rows (records default_config c.whole.result.now) f) inv.column (c.in_err-give.ensures.goes c.args.taker.now inv.rows room inv.table)) in
    ends_read Gave Stopped c.args.most parts.last _ (Column column) _ _ f c.from_residual-in_err-give.result c.from_residual-in_err-give.ensures.1 (c.refill.ensures.piece inv.piece)
    (broke Gave Stopped parts.last column c.args.most _ _ now (Consumes-trans _ _ _ _ _ inv.consumed at.1) inv.rows _ f (omega (arith, held.has.count, held.has.bound, c.refill.ensures.most, inv.most)) held.in_time
    (subst (λ (n : ℕ). AreSoundRows n inv.rows) inv.column inv.table.sound) (whole_settled parts _ inv.rows now held) breaks)

pub returns-in_err-give-2-clause-read : goal.returns-in_err-give-2-clause-read
returns-in_err-give-2-clause-read g c =
    let inv = c.part.invariant in
    let column = c.args.column in
    let Gave = g.T.UnitTaker.went c.args.taker.now c.give-2.new.taker in
    let Stopped = g.T.UnitTaker.stopped c.args.taker.now c.give-2.new.taker in
    let at = filled g (goal.at.returns-in_err-give-2-clause-read g c).In_ok-refill in
    let now = inv.taken ++ at.0 in
    let parts = c.refill.new.self in
    let over = over_by parts _ inv.rows now c.in_ok-refill.field-0 c.if-branch.false at.2 in
    let held = over.0 in
    let f = c.in_err-give-2.field-0.0 in
    let room : length inv.rows + length (records default_config c.rest.result.now) ≤ most_kept =
    subst (λ (l : List ℕ). length inv.rows + length (records default_config l) ≤ most_kept) (sym c.rest.ensures.bytes) (room_rest parts inv.rows now held.has) in
    let breaks : Breaks column Gave Stopped inv.rows (records default_config (parts.bytes.items)) f =
    subst (λ (l : List ℕ). Breaks column Gave Stopped inv.rows (records default_config l) f) c.rest.ensures.bytes
    (subst (λ (n : ℕ). Breaks n Gave Stopped inv.rows (records default_config c.rest.result.now) f) inv.column (c.in_err-give-2.ensures.goes c.args.taker.now inv.rows room inv.table)) in
    ends_read Gave Stopped c.args.most parts.last _ (Column column) _ _ f c.from_residual-in_err-give-2.result c.from_residual-in_err-give-2.ensures.1 (c.refill.ensures.piece inv.piece)
    (broke Gave Stopped parts.last column c.args.most _ _ now (Consumes-trans _ _ _ _ _ inv.consumed at.1) inv.rows _ f (omega (arith, held.has.count, held.has.bound, c.refill.ensures.most, inv.most)) held.in_time
    (subst (λ (n : ℕ). AreSoundRows n inv.rows) inv.column inv.table.sound) (rest_settled parts _ inv.rows now held over.1) breaks)

pub returns-in_err-give-clause-cause : goal.returns-in_err-give-clause-cause
returns-in_err-give-clause-cause g c =
    let inv = c.part.invariant in
    let at = filled g (goal.at.returns-in_err-give-clause-cause g c).In_ok-refill in
    let held = held_by c.refill.new.self _ inv.rows (inv.taken ++ at.0) c.in_ok-refill.field-0 at.2 in
    let room : length inv.rows + length (records default_config c.whole.result.now) ≤ most_kept =
    subst (λ (l : List ℕ). length inv.rows + length (records default_config l) ≤ most_kept) (sym c.whole.ensures.bytes) (room_whole c.refill.new.self inv.rows (inv.taken ++ at.0) held.has) in
    record {
      steady = λ _. steady_ok _ _ _ _ _ c.refill.ensures.cause c.in_ok-refill.was ∙ inv.steady;
      failed = λ is. absurd ((subst (λ (f : Fault). Breaks c.part.table.column (g.T.UnitTaker.went c.args.taker.now c.give.new.taker) (g.T.UnitTaker.stopped c.args.taker.now c.give.new.taker) inv.rows (records default_config c.whole.result.now) f)
          (given_fault _ c.in_err-give.field-0.0 _ c.from_residual-in_err-give.ensures.1 is) (c.in_err-give.ensures.goes c.args.taker.now inv.rows room inv.table)).refused);
    }

pub returns-in_err-give-2-clause-cause : goal.returns-in_err-give-2-clause-cause
returns-in_err-give-2-clause-cause g c =
    let inv = c.part.invariant in
    let at = filled g (goal.at.returns-in_err-give-2-clause-cause g c).In_ok-refill in
    let held = held_by c.refill.new.self _ inv.rows (inv.taken ++ at.0) c.in_ok-refill.field-0 at.2 in
    let room : length inv.rows + length (records default_config c.rest.result.now) ≤ most_kept =
    subst (λ (l : List ℕ). length inv.rows + length (records default_config l) ≤ most_kept) (sym c.rest.ensures.bytes) (room_rest c.refill.new.self inv.rows (inv.taken ++ at.0) held.has) in
    record {
      steady = λ _. steady_ok _ _ _ _ _ c.refill.ensures.cause c.in_ok-refill.was ∙ inv.steady;
      failed = λ is. absurd ((subst (λ (f : Fault). Breaks c.part.table.column (g.T.UnitTaker.went c.args.taker.now c.give-2.new.taker) (g.T.UnitTaker.stopped c.args.taker.now c.give-2.new.taker) inv.rows (records default_config c.rest.result.now) f)
          (given_fault _ c.in_err-give-2.field-0.0 _ c.from_residual-in_err-give-2.ensures.1 is) (c.in_err-give-2.ensures.goes c.args.taker.now inv.rows room inv.table)).refused);
    }

pub part-smaller : goal.part-smaller
part-smaller g c =
    let inv = c.part.invariant in
    let at = filled g (goal.at.part-smaller g c).In_ok-refill in
    let less = c.drop_whole.ensures.less (cut_by c.refill.new.self _ inv.rows (inv.taken ++ at.0) c.in_ok-refill.field-0 c.if-branch.true at.2) in
    omega (arith, less, c.in_ok-refill.ensures.remaining)

pub part-preserved : goal.part-preserved
part-preserved g c =
    let inv = c.part.invariant in
    let at = filled g (goal.at.part-preserved g c).In_ok-refill in
    let now = inv.taken ++ at.0 in
    let parts = c.refill.new.self in
    let left = g.S.Source.left c.refill.new.source in
    let held = held_by parts left inv.rows now c.in_ok-refill.field-0 at.2 in
    let part = take parts.cut parts.bytes.items in
    let rows = inv.rows ++ records default_config part in
    let room : length inv.rows + length (records default_config c.whole.result.now) ≤ most_kept =
    subst (λ (l : List ℕ). length inv.rows + length (records default_config l) ≤ most_kept) (sym c.whole.ensures.bytes) (room_whole parts inv.rows now held.has) in
    record {
      rows = rows;
      taken = now;
      held = held_on parts c.drop_whole.new.self left inv.rows (records default_config part) now held (c.drop_whole.ensures.given inv.rows now held.has)
          c.drop_whole.ensures.same.0 c.drop_whole.ensures.same.1 c.drop_whole.ensures.same.2 c.drop_whole.ensures.piece;
      consumed = Consumes-trans _ _ _ _ _ inv.consumed at.1;
      table = subst (λ (l : List ℕ). HasRows c.give.new.self (g.T.UnitTaker.went c.args.taker.now c.give.new.taker) (inv.rows ++ records default_config l)) c.whole.ensures.bytes (c.in_ok-give.ensures.goes c.args.taker.now inv.rows room inv.table);
      column = c.give.ensures.column ∙ inv.column;
      most = c.drop_whole.ensures.same.0 ∙ c.refill.ensures.most ∙ inv.most;
      piece = omega (arith, c.drop_whole.ensures.piece, c.refill.ensures.piece inv.piece);
      steady = steady_ok _ _ _ _ _ c.refill.ensures.cause c.in_ok-refill.was ∙ inv.steady;
      stays = c.in_ok-refill.ensures.stays ∙ inv.stays;
      standing = c.give.ensures.taker ∙ inv.standing;
    }

pub returns-clause-read : goal.returns-clause-read
returns-clause-read g c =
    let inv = c.part.invariant in
    let column = c.args.column in
    let Gave = g.T.UnitTaker.went c.args.taker.now c.give-2.new.taker in
    let Stopped = g.T.UnitTaker.stopped c.args.taker.now c.give-2.new.taker in
    let at = filled g (goal.at.returns-clause-read g c).In_ok-refill in
    let now = inv.taken ++ at.0 in
    let parts = c.refill.new.self in
    let left = g.S.Source.left c.refill.new.source in
    let over = over_by parts left inv.rows now c.in_ok-refill.field-0 c.if-branch.false at.2 in
    let held = over.0 in
    let end = held.end over.1 in
    let room : length inv.rows + length (records default_config c.rest.result.now) ≤ most_kept =
    subst (λ (l : List ℕ). length inv.rows + length (records default_config l) ≤ most_kept) (sym c.rest.ensures.bytes) (room_rest parts inv.rows now held.has) in
    let whole : inv.rows ++ records default_config c.rest.result.now ≡ records_of now =
    ap (λ (l : List ℕ). inv.rows ++ records default_config l) c.rest.ensures.bytes ∙ sym (rest_is parts left inv.rows now held) in
    let table : HasRows c.give-2.new.self Gave (records_of now) = subst (HasRows c.give-2.new.self Gave) whole (c.in_ok-give-2.ensures.goes c.args.taker.now inv.rows room inv.table) in
    record {
      taken = now;
      consumed = Consumes-trans _ _ _ _ _ inv.consumed at.1;
      end = end.0;
      size = omega (arith, end.1, held.has.count, c.refill.ensures.most, inv.most);
      sound = subst (λ (n : ℕ). AreSoundRows n (records_of now)) (c.give-2.ensures.column ∙ inv.column) table.sound;
      number = omega (arith, c.number.ensures, table.number, length_fields column (records_of now));
      gave = subst (λ (n : ℕ). Gave (fields_in n (records_of now))) (c.give-2.ensures.column ∙ inv.column) table.gave;
    }
