use Rattle.std.proofs.Common.{◌≡◌, ◌<◌, ◌≤◌, ◌++◌, suc, [], length, refl, sym, ap, subst, ◌∙◌, arith, length-append}
use Rattle.sk_serve.specs.Doors.{door_of}
use Rattle.sk_serve.specs.Served.{links_of}
use Rattle.sk_serve.proofs.Admitting.{is_new, can_go_on}
use Rattle.sk_serve.proofs.Closed.{closed_none, through_more, through_closed, where_err}
use Rattle.sk_serve.proofs.Waving.{none_served, stops_first, wave_more, wave_ends, next_wave}
use Rattle.sk_serve.proofs.waves.serve_waves.Goals as goal

pub returns-in_err-ends-clause-stops : goal.returns-in_err-ends-clause-stops
returns-in_err-ends-clause-stops g c =
    let door = door_of g.D.Door c.args.door.now in let h = c.args.heart.now in
    where_err c.from_residual.result _ (stops_first c.args.plan.now c.args.most h door c.requires.can.within (is_new c.args.plan.now h door c.requires.can c.requires.drained))

pub returns-in_err-ends-clause-closed : goal.returns-in_err-ends-clause-closed
returns-in_err-ends-clause-closed g c = where_err c.from_residual.result _ (closed_none _ _ _ _ refl refl)

pub wave-init : goal.wave-init
wave-init g c =
    let empty : length c.in_ok-ends.ends.items ≡ 0 = ap length c.in_ok-ends.ensures.items in record {
      within = omega (arith, empty);
      sessions = [];
      as_many = sym empty;
      waves = 0;
      in_waves = omega arith;
      some = none_served c.args.plan.now c.args.most c.args.heart.now (door_of g.D.Door c.args.door.now) c.in_ok-ends.ends.items c.in_ok-ends.ensures.items (is_new c.args.plan.now c.args.heart.now (door_of g.D.Door c.args.door.now) c.requires.can c.requires.drained);
      reserved = omega (arith, c.in_ok-ends.ensures.capacity);
      faults = refl;
    }

pub serve_wave-requires-clause-can : goal.serve_wave-requires-clause-can
serve_wave-requires-clause-can g c =
    let i = c.wave.invariant in let door = door_of g.D.Door in let plan = c.args.plan.now in
    λ _ _. can_go_on plan c.args.most c.args.heart.now c.wave.heart (door c.args.door.now) (door c.wave.door) c.wave.ends.items i.sessions c.requires.can i.some (omega (arith, i.as_many, i.within))

pub serve_wave-requires-clause-some : goal.serve_wave-requires-clause-some
serve_wave-requires-clause-some g c = let i = c.wave.invariant in omega (arith, i.some.heart.admitted, i.as_many, c.wave-test.true)

pub serve_wave-requires-clause-reserved : goal.serve_wave-requires-clause-reserved
serve_wave-requires-clause-reserved g c = let i = c.wave.invariant in omega (arith, i.some.heart.admitted, i.as_many, i.reserved, c.wave-test.true)

pub wave-preserved : goal.wave-preserved
wave-preserved g c =
    let i = c.wave.invariant in let plan = c.args.plan.now in let door = door_of g.D.Door in let w = c.in_ok-serve_wave.ensures.serves in
    let few : length i.sessions < plan.sessions = omega (arith, i.as_many, c.wave-test.true) in
    let more = length-append i.sessions w.sessions in
    let ended = wave_ends plan c.args.most c.wave.heart c.serve_wave.new.heart (door c.wave.door) (door c.serve_wave.new.door) c.wave.ends.items c.serve_wave.new.ends.items w in
    let next = next_wave i.waves plan.wave (length i.sessions) plan.sessions (length w.sessions) i.in_waves few (omega (arith, w.as_many, i.some.heart.admitted)) in
    record {
      within = omega (arith, ended, w.as_many, i.some.heart.admitted, i.as_many, few);
      sessions = i.sessions ++ w.sessions;
      as_many = omega (arith, more, ended, i.as_many);
      waves = suc i.waves;
      in_waves = more ∙ next;
      some = wave_more plan c.args.most c.args.heart.now c.wave.heart c.serve_wave.new.heart (door c.args.door.now) (door c.wave.door) (door c.serve_wave.new.door) c.wave.ends.items c.serve_wave.new.ends.items i.sessions i.some w;
      reserved = subst (λ n. plan.sessions ≤ n) (sym c.in_ok-serve_wave.ensures.reserved) i.reserved;
      faults = c.in_ok-serve_wave.ensures.net.cause.steady (λ no. cc) ∙ i.faults;
    }

pub returns-in_err-serve_wave-clause-stops : goal.returns-in_err-serve_wave-clause-stops
returns-in_err-serve_wave-clause-stops g c =
    let i = c.wave.invariant in
    where_err c.from_residual-in_err-serve_wave.result _ (record {
      sessions = i.sessions;
      ends = c.wave.ends.items;
      last = c.wave.heart;
      between = door_of g.D.Door c.wave.door;
      some = i.some;
      left = omega (arith, i.as_many, c.wave-test.true);
      waves = i.waves;
      whole = i.in_waves;
      short = c.in_err-serve_wave.ensures.short;
      heart = c.in_err-serve_wave.ensures.admits;
    })

pub returns-in_err-serve_wave-clause-closed : goal.returns-in_err-serve_wave-clause-closed
returns-in_err-serve_wave-clause-closed g c =
    let i = c.wave.invariant in let door = door_of g.D.Door in let short = c.in_err-serve_wave.ensures.short in
    where_err c.from_residual-in_err-serve_wave.result _ (through_closed (links_of i.sessions ++ short.unread) (door c.args.door.now) (door c.serve_wave.new.door)
    (through_more (links_of i.sessions) short.unread (door c.args.door.now) (door c.wave.door) (door c.serve_wave.new.door) i.some.through short.through))
