use Rattle.std.proofs.Common.{subst}
use Rattle.sk_hub.specs.Rounds.{TriesToServe}
use Rattle.sk_hub.proofs.Leaves.{tries_serve, tries_elsewhere}
use Rattle.sk_hub.proofs.heart.Heart.serve_for.Goals as goal

pub returns-in-Nothing-clause-tries : goal.returns-in-Nothing-clause-tries
returns-in-Nothing-clause-tries g c = let v = c.args.self.now.view in let w = c.serve.new.self.view in let s = c.serve.ensures.nothing c.in-Nothing.is in
    subst (λ u. TriesToServe u.number v w) c.u.view_is (tries_serve c.u.inside.number v w s.0 0 s.1)

pub returns-in-Served-clause-tries : goal.returns-in-Served-clause-tries
returns-in-Served-clause-tries g c = let v = c.args.self.now.view in let w = c.serve.new.self.view in let s = c.serve.ensures.served c.in-Served.field-0 c.in-Served.is in
    subst (λ u. TriesToServe u.number v w) c.u.view_is (tries_serve c.u.inside.number v w s.0 s.1 s.4)

pub returns-in-Elsewhere-clause-tries : goal.returns-in-Elsewhere-clause-tries
returns-in-Elsewhere-clause-tries g c = let v = c.args.self.now.view in let w = c.serve.new.self.view in
    subst (λ u. TriesToServe u.number v w) c.u.view_is (tries_elsewhere c.u.inside.number v w c.in-Elsewhere.field-0 (c.serve.ensures.elsewhere c.in-Elsewhere.field-0 c.in-Elsewhere.is))
