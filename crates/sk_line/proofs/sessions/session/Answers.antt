use Rattle.std.proofs.Common.{◌≡◌, ◌⊎◌, inl, inr, Option, sym, subst}
use Rattle.sk_io.specs.Traffic.{Traffic}
use Rattle.sk_line.specs.Sessions.{session_state, ComesTo}
use Rattle.sk_line.specs.declared.sessions.End.{End}
use Rattle.sk_line.specs.declared.sessions.End.TheVariants as end
use Rattle.sk_line.proofs.sessions.session.Goals as goal

told_so : (due e : End) → ¬ (due ≡ end.OutOfMemory) → (e ≡ due) ⊎ (e ≡ end.LinkFault) → (e ≡ due) ⊎ (¬ (due ≡ end.OutOfMemory) × (e ≡ end.LinkFault))
told_so due e memory (inl is) = inl is
told_so due e memory (inr is) = inr (memory, is)

pub returns-clause-ends : goal.returns-clause-ends
returns-clause-ends g c =
    let a = session_state (g.L.Link.traffic c.args.link.now) c.args.u.now (g.P.Pump.pumps c.args.pump.now) in
    let due = c.serve_each-due.result in record {
      due = due;
      comes = subst (λ (t : Option Traffic). ComesTo c.args.shape.now c.args.most a (session_state t c.serve_each-due.new.u (g.P.Pump.pumps c.serve_each-due.new.pump)) due) (sym c.finish.ensures.traffic)
          (subst (λ m. ComesTo c.args.shape.now m a (session_state (g.L.Link.traffic c.serve_each-due.new.link) c.serve_each-due.new.u (g.P.Pump.pumps c.serve_each-due.new.pump)) due) c.in-Ok.ensures.most c.serve_each-due.ensures.comes);
      told = told_so due c.finish.result c.serve_each-due.ensures.memory c.finish.ensures.told;
    }
