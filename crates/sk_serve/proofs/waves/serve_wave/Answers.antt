use Rattle.std.proofs.Common.{◌≡◌, ◌+◌, length, is_some, sym, ap, subst, ◌∙◌, arith}
use Rattle.sk_serve.specs.Doors.{door_of}
use Rattle.sk_serve.specs.Waves.{AreOfHub, visit_of, texts_by, next_count}
use Rattle.sk_serve.proofs.Admitting.{can_next}
use Rattle.sk_serve.proofs.Waving.{a_wave, stops_at_once}
use Rattle.sk_serve.proofs.Closed.{where_err}
use Rattle.sk_serve.proofs.waves.serve_wave.Goals as goal

pub accept_wave-requires : goal.accept_wave-requires
accept_wave-requires g c = record { can = can_next c.args.plan.now c.args.heart.now (door_of g.D.Door c.args.door.now) c.min-count.result (omega (arith, c.min-count.ensures, c.admitted.ensures.value)) c.requires.can }

pub close_links-requires-clause-told : goal.close_links-requires-clause-told
close_links-requires-clause-told g c = λ k d within.
    let h = c.args.heart.now in
    ap (λ o. is_some o) (c.run_wave-jobs.ensures.run h.table h.admitted c.in_ok-jobs.ensures.ready k d within).told_is

pub drain_each-requires : goal.drain_each-requires
drain_each-requires g c =
    let h = c.args.heart.now in let h1 = c.accept_wave.new.heart in
    let table : h1.table ≡ h.table = ap (λ z. z.table) c.in_ok-jobs.ensures.heart in
    let closed = c.close_links.ensures.closes c.args.plan.now c.args.most h.table h.admitted (c.run_wave-jobs.ensures.run h.table h.admitted c.in_ok-jobs.ensures.ready) in
    record { table = λ k d within. closed.of_hub.tables k d within ∙ sym table }

pub returns-clause-serves : goal.returns-clause-serves
returns-clause-serves g c =
    let door = door_of g.D.Door in let visit = visit_of g.D.Link.Link in let plan = c.args.plan.now in let h = c.args.heart.now in let h1 = c.accept_wave.new.heart in let h2 = c.drain_each.new.heart in
    let us = c.close_links.new.updaters.items in
    let table : h1.table ≡ h.table = ap (λ z. z.table) c.in_ok-jobs.ensures.heart in
    let count : c.min-count.result ≡ next_count plan h = omega (arith, c.min-count.ensures, c.admitted.ensures.value) in
    let closed = c.close_links.ensures.closes plan c.args.most h.table h.admitted (c.run_wave-jobs.ensures.run h.table h.admitted c.in_ok-jobs.ensures.ready) in
    a_wave plan c.args.most (length c.run_wave-jobs.result.items) h h1 h2 (door c.args.door.now) (door c.accept_wave.new.door) (door c.close_links.new.door)
    (texts_by visit c.in_ok-jobs.jobs.items) (texts_by visit c.run_wave-jobs.result.items) c.args.ends.now.items c.close_links.new.ends.items us
    (c.run_wave-jobs.ensures.count ∙ c.in_ok-jobs.ensures.count ∙ count) c.in_ok-jobs.ensures.accepts c.run_wave-jobs.ensures.texts
    (c.in_ok-jobs.ensures.heart ∙ ap (λ n. record h { admitted = h.admitted + n }) count) closed
    (c.drain_each.ensures.drained h.admitted (subst (λ t. AreOfHub t h.admitted us) (sym table) closed.of_hub))

pub returns-in_err-updaters-clause-short : goal.returns-in_err-updaters-clause-short
returns-in_err-updaters-clause-short g c =
    let plan = c.args.plan.now in let h = c.args.heart.now in
    where_err c.from_residual.result _ (stops_at_once (next_count plan h) (door_of g.D.Door c.args.door.now) (omega (arith, c.requires.some, c.requires.can.within.wave)))

pub returns-clause-net : goal.returns-clause-net
returns-clause-net g c =
    let h = c.args.heart.now in
    let closed = c.close_links.ensures.closes c.args.plan.now c.args.most h.table h.admitted (c.run_wave-jobs.ensures.run h.table h.admitted c.in_ok-jobs.ensures.ready) in
    record { cause = record { steady = λ _. closed.closes.faults ∙ c.in_ok-jobs.ensures.net.cause.steady (λ no. cc); failed = λ no. absurd (cc) }; no_write = tt }
