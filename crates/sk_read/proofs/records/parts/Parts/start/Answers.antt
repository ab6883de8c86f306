use Rattle.std.proofs.Common.{◌≡◌, ℕ, List, [], ◌∷◌, ◌++◌, true, refl, sym, ap, ◌∙◌, arith, rules, length-append}
use Rattle.std.proofs.KnownBytes.{Consumes-nil, Consumes-trans}
use Rattle.sk_read.specs.declared.fault.Fault.TheVariants as fault
use Rattle.sk_read.specs.Parts.{is_mark_front, HasStarted}
use Rattle.sk_read.specs.Records.{records_of}
use Rattle.sk_read.proofs.CauseLaws.{steady_ok}
use Rattle.sk_read.proofs.PartLaws.{at_err, lacks_mark, none_in_time, rows_within, mark_in_time, mark_small, behind_is}
use Rattle.sk_read.proofs.records.parts.Parts.start.Goals as goal

pub returns-in_err-extend_from_slice-clause-starts : goal.returns-in_err-extend_from_slice-clause-starts
returns-in_err-extend_from_slice-clause-starts g c = at_err c.from_residual.result fault.OutOfMemory _ _ c.from_residual.ensures.1
    ([], Consumes-nil (g.S.Source.left c.args.source.now), (omega arith, none_in_time (g.S.Source.last c.args.source.now), λ later. (records_of later, refl)))

pub mark-init : goal.mark-init
mark-init g c = record {
  taken = [];
  consumed = Consumes-nil (g.S.Source.left c.args.source.now);
  bytes = search rules;
  small = omega arith;
  in_time = none_in_time 0;
  piece = omega arith;
  count = refl;
  bound = omega arith;
  cut = refl;
  most = refl;
  end = search rules;
  steady = refl;
  stays = refl;
}

pub mark-preserved : goal.mark-preserved
mark-preserved g c =
    let inv = c.mark.invariant in
    let fed = c.in_ok-read_more.ensures.holds in
    let more = fed.0 in
    let holds = fed.2 in
    let rest = behind_is 1 c.deref.result.now (10 ∷ []) inv.taken refl (c.deref.ensures.value ∙ inv.bytes) in
    let front : is_mark_front inv.taken ≡ true = ap is_mark_front (sym rest) ∙ sym c.may_be_mark.ensures ∙ c.if-may_be_mark.true in
    record {
      taken = inv.taken ++ more;
      consumed = Consumes-trans _ _ _ _ _ inv.consumed fed.1;
      bytes = holds.bytes ∙ ap (λ (l : List ℕ). l ++ more) inv.bytes;
      small = omega (arith, length-append inv.taken more, fed.3, mark_small inv.taken front);
      in_time = mark_in_time c.read_more.new.self.last inv.taken more front holds.last fed.3;
      piece = c.read_more.ensures.piece inv.piece;
      count = omega (arith, length-append inv.taken more, inv.count, holds.taken);
      bound = holds.bound;
      cut = holds.cut ∙ inv.cut;
      most = holds.most ∙ inv.most;
      end = λ over. (c.in_ok-read_more.ensures.end over, (holds.end over).1);
      steady = steady_ok _ _ _ _ _ c.read_more.ensures.cause c.in_ok-read_more.was ∙ inv.steady;
      stays = c.in_ok-read_more.ensures.stays ∙ inv.stays;
    }

pub returns-in_err-read_more-clause-starts : goal.returns-in_err-read_more-clause-starts
returns-in_err-read_more-clause-starts g c =
    let inv = c.mark.invariant in
    let lacks = c.in_err-read_more.ensures.lacks in
    let rest = behind_is 1 c.deref.result.now (10 ∷ []) inv.taken refl (c.deref.ensures.value ∙ inv.bytes) in
    let front : is_mark_front inv.taken ≡ true = ap is_mark_front (sym rest) ∙ sym c.may_be_mark.ensures ∙ c.if-may_be_mark.true in
    at_err c.from_residual-in_err-read_more.result c.in_err-read_more.field-0.0 _ _ c.from_residual-in_err-read_more.ensures.1 (
      inv.taken ++ lacks.0,
      Consumes-trans _ _ _ _ _ inv.consumed lacks.1,
      lacks_mark (g.S.Source.last c.read_more.new.source) c.mark.parts inv.taken lacks.0 c.args.most c.in_err-read_more.field-0.0 front inv.small inv.count (sym inv.most) lacks.2 (omega (arith, lacks.3, c.in_err-read_more.ensures.piece inv.piece)) lacks.4,
    )

pub returns-clause-starts : goal.returns-clause-starts
returns-clause-starts g c =
    let inv = c.mark.invariant in
    let started : HasStarted c.mark.parts inv.taken = search rules in (
      inv.taken,
      inv.consumed,
      record {
        has = c.settle.ensures.takes inv.taken started;
        end = λ over. let at = inv.end (sym c.settle.ensures.same.2 ∙ over) in (at.0, omega (arith, at.1, c.settle.ensures.same.0, c.settle.ensures.same.1));
        in_time = rows_within c.mark.parts.last c.settle.new.self.last [] inv.taken (omega (arith, c.settle.ensures.piece)) inv.in_time;
      },
      c.settle.ensures.same.0 ∙ inv.most,
      omega (arith, c.settle.ensures.piece, inv.piece),
    )
