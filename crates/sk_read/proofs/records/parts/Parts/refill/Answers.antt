use Rattle.std.proofs.Common.{◌≡◌, ◌+◌, ℕ, List, [], ◌++◌, length, refl, ap, ◌∙◌, subst, arith, length-append, append_assoc}
use Rattle.std.proofs.KnownBytes.{Consumes-nil, Consumes-trans}
use Rattle.sk_read.specs.Scan.{state_of, IsCut}
use Rattle.sk_read.specs.Parts.{HasHeld, Lacks}
use Rattle.sk_read.specs.declared.records.parts.Parts.{Parts}
use Rattle.sk_read.specs.declared.records.scan.ScanState.{ScanState}
use Rattle.sk_read.proofs.CauseLaws.{steady_ok}
use Rattle.sk_read.proofs.PartLaws.{held_more, lacks_row, refilled_err, held_still, behind_is}
use Rattle.sk_read.proofs.records.parts.Parts.refill.Goals as goal

pub piece-init : goal.piece-init
piece-init g c = record {
  goes = λ rows taken held. ([], Consumes-nil (g.S.Source.left c.args.source.now), held_still c.args.self.now (g.S.Source.left c.args.source.now) rows taken held);
  most = refl;
  piece = λ within. within;
  remaining = refl;
  steady = refl;
  stays = refl;
}

pub read_more-requires-clause-bound : goal.read_more-requires-clause-bound
read_more-requires-clause-bound g c = (c.piece.invariant.goes c.requires.0 c.requires.1 c.requires.2).2.has.bound

pub read_more-requires-clause-few : goal.read_more-requires-clause-few
read_more-requires-clause-few g c = (c.piece.invariant.goes c.requires.0 c.requires.1 c.requires.2).2.has.few

pub returns-in_err-read_more-clause-goes : goal.returns-in_err-read_more-clause-goes
returns-in_err-read_more-clause-goes g c = λ rows taken held.
    let before = c.piece.invariant.goes rows taken held in
    let lacks = c.in_err-read_more.ensures.lacks in (
      before.0 ++ lacks.0,
      Consumes-trans _ _ _ _ _ before.1 lacks.1,
      refilled_err c.read_more.new.self _ rows (taken ++ (before.0 ++ lacks.0)) c.in_err-read_more.field-0.0 c.from_residual.result c.from_residual.ensures.1
          (subst (λ (l : List ℕ). Lacks c.read_more.new.self.last c.read_more.new.self.most rows l c.in_err-read_more.field-0.0) (append_assoc taken before.0 lacks.0)
          (lacks_row c.read_more.new.self.last c.piece.self _ rows (taken ++ before.0) lacks.0 c.read_more.new.self.most c.in_err-read_more.field-0.0 before.2 c.piece-test.true c.if-self.false c.in_err-read_more.ensures.most lacks.2 lacks.3 lacks.4)),
    )

pub returns-then-self-clause-goes : goal.returns-then-self-clause-goes
returns-then-self-clause-goes g c = λ rows taken held.
    let before = c.piece.invariant.goes rows taken held in
    (before.0, before.1, (before.2, c.if-self.true))

pub returns-clause-goes : goal.returns-clause-goes
returns-clause-goes g c = λ rows taken held.
    let before = c.piece.invariant.goes rows taken held in
    (before.0, before.1, (before.2, omega (arith, before.2.has.some, c.piece-test.false)))

pub piece-preserved : goal.piece-preserved
piece-preserved g c =
    let inv = c.piece.invariant in
    let fed = c.in_ok-read_more.ensures.holds in
    let more = fed.0 in
    let holds = fed.2 in
    let place : c.len-len.result ≡ length c.piece.self.bytes.items = omega (arith, c.len-len.ensures, c.piece.self.bytes.ok.0) in
    let joined : c.deref.result.now ≡ c.piece.self.bytes.items ++ more = c.deref.ensures.value ∙ holds.bytes in
    let cut : IsCut (state_of c.piece.self.place) more (state_of c.scan-place.result.0) c.scan-place.result.1 =
    subst (λ (p : ScanState). IsCut (state_of p) more (state_of c.scan-place.result.0) c.scan-place.result.1) holds.place
    (subst (λ (l : List ℕ). IsCut (state_of c.read_more.new.self.place) l (state_of c.scan-place.result.0) c.scan-place.result.1) (behind_is c.len-len.result c.deref.result.now c.piece.self.bytes.items more place joined) c.scan-place.ensures.cut) in
    let new : Parts = record {
      bytes = c.read_more.new.self.bytes;
      cut = c.cut_behind-self.result;
      place = c.scan-place.result.0;
      piece = c.read_more.new.self.piece;
      taken = c.read_more.new.self.taken;
      last = c.read_more.new.self.last;
      most = c.read_more.new.self.most;
      ended = c.read_more.new.self.ended;
    } in
    record {
      goes = λ rows taken held.
          let before = inv.goes rows taken held in (
            before.0 ++ more,
            Consumes-trans _ _ _ _ _ before.1 fed.1,
            subst (HasHeld new (g.S.Source.left c.read_more.new.source) rows) (append_assoc taken before.0 more)
                (held_more c.piece.self c.read_more.new.self new _ _ rows (taken ++ before.0) more c.scan-place.result.1 before.2 c.piece-test.true c.if-self.false holds fed.3 refl c.in_ok-read_more.ensures.end cut refl refl refl refl
                (λ none. c.cut_behind-self.ensures.stays none ∙ holds.cut) (λ some. c.cut_behind-self.ensures.later some ∙ ap (λ (n : ℕ). n + c.scan-place.result.1) place)),
          );
      most = holds.most ∙ inv.most;
      piece = λ within. c.read_more.ensures.piece (inv.piece within);
      remaining = omega (arith, ap length holds.bytes, length-append c.piece.self.bytes.items more, holds.taken, holds.bound, holds.most, inv.remaining);
      steady = steady_ok _ _ _ _ _ c.read_more.ensures.cause c.in_ok-read_more.was ∙ inv.steady;
      stays = c.in_ok-read_more.ensures.stays ∙ inv.stays;
    }
