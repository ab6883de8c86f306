use Rattle.std.proofs.Common.{◌≤◌, ◌+◌, ◌∷◌, [], length, sym, ap, subst, ◌∙◌, arith, length-append}
use Rattle.std.proofs.lemmas.List.{map-append, length-map}
use Rattle.sk_io.specs.Traffic.{text_of}
use Rattle.sk_serve.specs.Doors.{door_of, LetsIn}
use Rattle.sk_serve.specs.Waves.{visit_of, texts_by}
use Rattle.sk_serve.specs.declared.fault.ServeFault.TheVariants as fault
use Rattle.sk_serve.proofs.Admitting.{admits_then, admitted_more, ready_more, still_can, cause_of_err}
use Rattle.sk_serve.proofs.Waving.{stops_short}
use Rattle.sk_serve.proofs.Closed.{accepts_more}
use Rattle.sk_serve.proofs.accepting.accept_wave.Goals as goal

pub accept_one-requires : goal.accept_one-requires
accept_one-requires g c =
    let i = c.link.invariant in let door = door_of g.D.Door in
    record { can = still_can c.args.plan.now c.args.count c.link.counter c.args.heart.now c.link.heart (door c.args.door.now) (door c.link.door) _ (omega (arith, c.link-test.true)) i.heart i.accepts c.requires.can }

pub link-preserved : goal.link-preserved
link-preserved g c =
    let i = c.link.invariant in let visit = visit_of g.D.Link.Link in let job = c.in-Ok.job in let h = c.args.heart.now in let door = door_of g.D.Door in
    let more = c.push_reserved.ensures.items in record {
      count = ap length more ∙ length-append c.link.jobs.items (job ∷ []) ∙ ap (λ n. n + 1) i.count;
      place = subst (λ n. c.args.count ≤ n) (sym c.push_reserved.ensures.capacity) i.place;
      ready = ready_more c.args.plan.now h c.link.heart c.link.counter visit c.link.jobs.items c.push_reserved.new.self.items job i.heart i.count more i.ready c.in-Ok.ensures.ready;
      heart = admitted_more h c.link.heart c.accept_one.new.heart c.link.counter i.heart c.in-Ok.ensures.heart;
      accepts = subst (λ t. LetsIn t (door c.args.door.now) (door c.accept_one.new.door)) (sym (ap (λ l. texts_by visit l) more ∙ map-append (λ j. text_of (visit j).link.traffic) c.link.jobs.items (job ∷ [])))
          (accepts_more (texts_by visit c.link.jobs.items) _ (door c.args.door.now) (door c.link.door) (door c.accept_one.new.door) i.accepts c.in-Ok.ensures.accepts);
      faults = c.in-Ok.ensures.net.cause.steady (λ no. cc) ∙ i.faults;
    }

pub returns-in-Err-clause-short : goal.returns-in-Err-clause-short
returns-in-Err-clause-short g c =
    let i = c.link.invariant in let visit = visit_of g.D.Link.Link in let door = door_of g.D.Door in
    stops_short c.args.count c.link.counter (texts_by visit c.link.jobs.items) (door c.args.door.now) (door c.link.door) (door c.accept_one.new.door) (door c.close_unread.new.door) i.accepts c.in-Err.ensures.none
    (length-map c.link.jobs.items _ ∙ i.count) c.link-test.true c.close_unread.ensures.closes

pub returns-in-Err-clause-net : goal.returns-in-Err-clause-net
returns-in-Err-clause-net g c = record {
  cause = cause_of_err fault.NetFault c.in-Err.fault _ _ _ _ c.link.invariant.faults c.close_unread.ensures.closes.closes.faults c.in-Err.ensures.net.cause;
  no_write = c.in-Err.ensures.net.no_write;
}

pub returns-in-Err-clause-admits : goal.returns-in-Err-clause-admits
returns-in-Err-clause-admits g c = admits_then c.args.heart.now c.link.heart c.accept_one.new.heart _ c.link.invariant.heart c.in-Err.ensures.admits
