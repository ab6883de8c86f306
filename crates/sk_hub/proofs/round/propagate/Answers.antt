use Rattle.std.proofs.Common.{ap, refl, [], inl, ◌∙◌}
use Rattle.sk_hub.proofs.Steps.{serves_all, refuses_found, serves_knows, refuses_knows, serves_turns, refuses_turns, ok_fact, err_fact, advances_none, takes_turn}
use Rattle.sk_hub.proofs.round.propagate.Goals as goal

pub returns-in-Ok-serve_each-clause-serves : goal.returns-in-Ok-serve_each-clause-serves
returns-in-Ok-serve_each-clause-serves g c =
    serves_all c.args.seat.now.view c.turn.new.self.view c.lift-trunk.new.self.view c.finish_held.new.seat.view c.serve_each.new.seat.view c.lay-in-Ok-serve_each.new.self.view _ c.args.from c.args.updaters c.in-Ok.held c.in-Ok-serve_each.found
    c.requires.free.duty (ok_fact c.turn.result c.turn.ensures.ok c.in_default.not-Err) (ap (λ s. s.view) c.lift-trunk.ensures.seat) c.in-Ok.ensures.steps c.in-Ok-serve_each.ensures.steps (ap (λ s. s.view) c.lay-in-Ok-serve_each.ensures.seat) c.yield_turn-in-Ok-serve_each.ensures.told

pub returns-in-Err-serve_each-clause-refused : goal.returns-in-Err-serve_each-clause-refused
returns-in-Err-serve_each-clause-refused g c _ =
    refuses_found c.args.seat.now.view c.turn.new.self.view c.lift-trunk.new.self.view c.finish_held.new.seat.view c.serve_each.new.seat.view c.lay-in-Err-serve_each.new.self.view c.leave.new.self.view _ c.args.from c.args.updaters c.in-Ok.held c.in-Err-serve_each.i
    c.requires.free.duty (ok_fact c.turn.result c.turn.ensures.ok c.in_default.not-Err) (ap (λ s. s.view) c.lift-trunk.ensures.seat) c.in-Ok.ensures.steps c.in-Err-serve_each.ensures.found (ap (λ s. s.view) c.lay-in-Err-serve_each.ensures.seat) c.leave.ensures.told c.yield_turn-in-Err-serve_each.ensures.told

pub returns-in-Ok-serve_each-clause-knows : goal.returns-in-Ok-serve_each-clause-knows
returns-in-Ok-serve_each-clause-knows g c = serves_knows _ _ _ _ _ _ (returns-in-Ok-serve_each-clause-serves g c)

pub returns-in-Err-serve_each-clause-knows : goal.returns-in-Err-serve_each-clause-knows
returns-in-Err-serve_each-clause-knows g c = refuses_knows _ _ c.args.from c.args.updaters (returns-in-Err-serve_each-clause-refused g c refl)

pub returns-in-Ok-serve_each-clause-turn : goal.returns-in-Ok-serve_each-clause-turn
returns-in-Ok-serve_each-clause-turn g c = serves_turns _ _ _ _ _ _ (returns-in-Ok-serve_each-clause-serves g c)

pub returns-in-Err-serve_each-clause-turn : goal.returns-in-Err-serve_each-clause-turn
returns-in-Err-serve_each-clause-turn g c = refuses_turns _ _ c.args.from c.args.updaters (returns-in-Err-serve_each-clause-refused g c refl)

pub returns-in_default-finish_held-clause-turn : goal.returns-in_default-finish_held-clause-turn
returns-in_default-finish_held-clause-turn g c =
    let v = c.args.seat.now.view in let lifted = c.lift-trunk.new.self.view in
    let laid = ap (λ s. s.view) c.lay.ensures.seat ∙ ap (λ s. s.view) (err_fact c.finish_held.result c.finish_held.ensures.refused c.in_default-finish_held.not-Ok) in
    inl ([], takes_turn v c.turn.new.self.view lifted lifted c.lay.new.self.view c.yield_turn.new.self.view [] c.requires.free.duty (ok_fact c.turn.result c.turn.ensures.ok c.in_default.not-Err) (ap (λ s. s.view) c.lift-trunk.ensures.seat) (advances_none lifted) laid c.yield_turn.ensures.told)
