use Rattle.std.proofs.Common.{◌≡◌, ◌≤◌, ℕ, [], ◌∷◌, length, Bool, true, false, Result, Ok, Err, Some, refl, ap, ◌∙◌, subst, arith, length-append}
use Rattle.sk_io.proofs.Links.{exchanges_none}
use Rattle.sk_read.specs.Reading.{Reading, HasRead, remaining_of}
use Rattle.sk_line.specs.Courses.{Proceeds}
use Rattle.sk_line.specs.Sessions.{session_state, ComesTo}
use Rattle.sk_line.specs.declared.sessions.End.{End}
use Rattle.sk_line.proofs.Answering.{takes_none}
use Rattle.sk_line.proofs.sessions.serve_each.Goals as goal

-- a reader that has read nothing may give as many bytes as it may take
fresh : (r : Reading) → HasRead r (Some (1 ∷ [])) [] [] → remaining_of r ≤ r.most
fresh r read = go r.ended refl
  where
    go : (b : Bool) → r.ended ≡ b → remaining_of r ≤ r.most
    go true ended = absurd (let none : 1 ∷ [] ≡ [] = read.end ended in cc)
    go false going = let f = read.has.follows going in omega (arith, ap length f.joined, length-append f.front r.cutter.rest)

pub request-init : goal.request-init
request-init g c = record {
  answered = [];
  taken = [];
  stands = record { exchanges = exchanges_none (g.L.Link.traffic c.args.link.now); takes = takes_none c.args.shape.now c.args.u.now; pumped = omega arith; read = c.requires.fresh _ };
  k = c.requires.k;
  room = omega (arith, fresh c.args.reader.now (c.requires.fresh (Some (1 ∷ []))), c.requires.room);
  most = refl;
  steady = refl;
  stays = refl;
}

no_fault : {T : Type 0} (r : Result T End) (v : T) (e : End) → r ≡ Ok v → r ≡ Err e → ⊥
no_fault r v e ok err = cc

pub request-preserved : goal.request-preserved
request-preserved g c =
    let inv = c.request.invariant in
    let a = session_state (g.L.Link.traffic c.args.link.now) c.args.u.now (g.P.Pump.pumps c.args.pump.now) in
    let b = session_state (g.L.Link.traffic c.serve_next.new.link) c.serve_next.new.u (g.P.Pump.pumps c.serve_next.new.pump) in
    let next : Proceeds c.args.shape.now a c.serve_next.new.reader b (Ok c.in-Ok.field-0) = subst (Proceeds c.args.shape.now a c.serve_next.new.reader b) c.in-Ok.is (c.serve_next.ensures.goes a inv.answered inv.taken inv.stands) in
    record {
      answered = next.0;
      taken = next.1;
      stands = next.2;
      k = c.in-Ok.ensures.advances.k;
      room = omega (arith, inv.room, c.in-Ok.ensures.advances.room);
      most = c.serve_next.ensures.most ∙ inv.most;
      steady = c.serve_next.ensures.cause.steady (no_fault c.serve_next.result c.in-Ok.field-0 _ c.in-Ok.is) ∙ inv.steady;
      stays = c.serve_next.ensures.stays ∙ inv.stays;
    }

pub returns-in-Err-clause-comes : goal.returns-in-Err-clause-comes
returns-in-Err-clause-comes g c =
    let inv = c.request.invariant in
    let a = session_state (g.L.Link.traffic c.args.link.now) c.args.u.now (g.P.Pump.pumps c.args.pump.now) in
    let b = session_state (g.L.Link.traffic c.serve_next.new.link) c.serve_next.new.u (g.P.Pump.pumps c.serve_next.new.pump) in
    let ended : ComesTo c.args.shape.now c.serve_next.new.reader.most a b c.in-Err.end = subst (Proceeds c.args.shape.now a c.serve_next.new.reader b) c.in-Err.is (c.serve_next.ensures.goes a inv.answered inv.taken inv.stands) in
    subst (λ (m : ℕ). ComesTo c.args.shape.now m a b c.in-Err.end) (c.serve_next.ensures.most ∙ inv.most) ended
