use Rattle.std.proofs.Common.{◌≢◌, List, All, Result, Ok, Err, IfErr, refl, ap, subst, ◌∙◌}
use Rattle.sk_line.specs.declared.sessions.End.{End}
use Rattle.sk_line.specs.declared.sessions.End.TheVariants.{OutOfMemory}
use Rattle.sk_report.proofs.Results.{if_err_is}
use Rattle.sk_serve.specs.declared.fault.ServeFault.TheVariants as fault
use Rattle.sk_serve.specs.Doors.{door_of}
use Rattle.sk_serve.specs.Served.{StopsServing, links_of}
use Rattle.sk_serve.proofs.Admitting.{can_begin}
use Rattle.sk_serve.proofs.Closed.{closed_none, closed_from, through_closed}
use Rattle.sk_serve.proofs.Showing.{all_served, served_from, share_list, word_is}
use Rattle.sk_serve.proofs.Waving.{none_accepted, stops, stops_after_all, stops_from}
use Rattle.sk_serve.proofs.serving.serve_all.Goals as goal

on_any : {T E : Type 0} (r : Result T E) (Q : E → Type 0) → ((e : E) → Q e) → IfErr r Q
on_any (Ok x) Q so = tt
on_any (Err e) Q so = so e

pub serve_waves-served-requires-clause-can : goal.serve_waves-served-requires-clause-can
serve_waves-served-requires-clause-can g c =
    λ _ _. can_begin c.args.plan.now c.args.heart.now (door_of g.D.Door c.listen.new.self) c.requires.within c.requires.hub (ap (λ d. d.port) c.in_ok-listen.ensures.listens) c.in_ok-listen.ensures.room

pub returns-in_err-listen-clause-stops : goal.returns-in_err-listen-clause-stops
returns-in_err-listen-clause-stops g c =
    let before = g.D.Door.doorway c.args.door.now in let now = g.D.Door.doorway c.listen.new.self in let same = c.in_err-listen.ensures.err.0 in
    on_any c.from_residual.result (StopsServing c.args.plan.now c.args.most before now)
    (λ f. none_accepted c.args.plan.now c.args.most f before now c.requires.within (ap (λ d. d.coming) same) (ap (λ d. d.closed) same))

pub returns-in_err-listen-clause-closed : goal.returns-in_err-listen-clause-closed
returns-in_err-listen-clause-closed g c = closed_none _ _ _ _ c.listen.ensures.accepted (ap (λ d. d.closed) c.in_err-listen.ensures.err.0)

pub returns-in_err-ends-clause-stops : goal.returns-in_err-ends-clause-stops
returns-in_err-ends-clause-stops g c =
    let door = door_of g.D.Door in let doorway = g.D.Door.doorway in let listens = c.in_ok-listen.ensures.listens in let f = c.in_err-ends.field-0.0 in let s = c.in_err-ends.ensures.stops in
    let plan = c.args.plan.now in let most = c.args.most in let h = c.serve_waves-served.new.heart in let asked = c.ask-word.ensures in
    if_err_is c.from_residual-in_err-ends.result f (StopsServing plan most (doorway c.args.door.now) (doorway c.serve_waves-served.new.door)) c.from_residual-in_err-ends.ensures.1
    (stops_from plan most f (doorway c.args.door.now) (doorway c.listen.new.self) (doorway c.serve_waves-served.new.door) (ap (λ d. d.coming) listens) (ap (λ d. d.closed) listens)
    (stops plan most f c.args.heart.now h (door c.listen.new.self) (door c.serve_waves-served.new.door) (ap (λ d. d.port) listens) s
    (share_list plan most s.last h c.ask-word.new.self s.sessions c.ask-word.result s.some.served s.some.heart s.heart c.admitted-admitted.ensures.whole s.some.hub asked.reply asked.drained)))

pub returns-in_err-ends-clause-closed : goal.returns-in_err-ends-clause-closed
returns-in_err-ends-clause-closed g c = closed_from _ _ _ _ _ _ c.listen.ensures.accepted (ap (λ d. d.closed) c.in_ok-listen.ensures.listens) c.in_err-ends.ensures.closed

pub returns-in_err-had_memory-clause-stops : goal.returns-in_err-had_memory-clause-stops
returns-in_err-had_memory-clause-stops g c =
    let door = door_of g.D.Door in let doorway = g.D.Door.doorway in let listens = c.in_ok-listen.ensures.listens in let s = c.in_ok-ends.ensures.serves in let h = c.serve_waves-served.new.heart in
    if_err_is c.from_residual-in_err-had_memory.result fault.OutOfMemory (StopsServing c.args.plan.now c.args.most (doorway c.args.door.now) (doorway c.serve_waves-served.new.door)) c.from_residual-in_err-had_memory.ensures.1
    (stops_from c.args.plan.now c.args.most fault.OutOfMemory (doorway c.args.door.now) (doorway c.listen.new.self) (doorway c.serve_waves-served.new.door) (ap (λ d. d.coming) listens) (ap (λ d. d.closed) listens)
    (stops_after_all c.args.plan.now c.args.most fault.OutOfMemory c.args.heart.now c.serve_waves-served.new.heart (door c.listen.new.self) (door c.serve_waves-served.new.door) c.in_ok-ends.ends.items s.0 c.requires.within (ap (λ d. d.port) listens) (λ no. cc) s.2 s.1
    (share_list c.args.plan.now c.args.most h h c.ask-word.new.self s.0 c.ask-word.result s.2.served s.2.heart refl c.admitted-admitted.ensures.whole s.2.hub c.ask-word.ensures.reply c.ask-word.ensures.drained)))

pub returns-in_err-had_memory-clause-closed : goal.returns-in_err-had_memory-clause-closed
returns-in_err-had_memory-clause-closed g c =
    let door = door_of g.D.Door in let s = c.in_ok-ends.ensures.serves in
    closed_from _ _ _ _ _ _ c.listen.ensures.accepted (ap (λ d. d.closed) c.in_ok-listen.ensures.listens) (through_closed (links_of s.0) (door c.listen.new.self) (door c.serve_waves-served.new.door) s.2.through)

pub returns-clause-closed : goal.returns-clause-closed
returns-clause-closed g c =
    let door = door_of g.D.Door in let s = c.in_ok-ends.ensures.serves in
    closed_from _ _ _ _ _ _ c.listen.ensures.accepted (ap (λ d. d.closed) c.in_ok-listen.ensures.listens) (through_closed (links_of s.0) (door c.listen.new.self) (door c.serve_waves-served.new.door) s.2.through)

pub returns-clause-serves : goal.returns-clause-serves
returns-clause-serves g c =
    let door = door_of g.D.Door in let doorway = g.D.Door.doorway in let listens = c.in_ok-listen.ensures.listens in let s = c.in_ok-ends.ensures.serves in let plan = c.args.plan.now in let h = c.serve_waves-served.new.heart in
    let memory : All (λ (e : End). e ≢ OutOfMemory) c.in_ok-ends.ends.items = subst (λ (l : List End). All (λ e. e ≢ OutOfMemory) l) c.as_slice.ensures.value c.in_ok-had_memory.ensures in record {
      sessions = s.0;
      serves = served_from plan c.args.most (doorway c.args.door.now) (doorway c.listen.new.self) (doorway c.serve_waves-served.new.door) s.0 c.ask-word.new.self (ap (λ d. d.coming) listens) (ap (λ d. d.closed) listens)
          (all_served plan c.args.most c.args.heart.now h c.ask-word.new.self (door c.listen.new.self) (door c.serve_waves-served.new.door) c.in_ok-ends.ends.items s.0 c.ask-word.result (ap (λ d. d.port) listens) s.1 s.2 memory c.admitted-admitted.ensures.whole c.ask-word.ensures.reply c.ask-word.ensures.drained);
      ended = s.2.ended;
      word_is = word_is plan h c.ask-word.new.self c.ask-word.result s.2.hub c.ask-word.ensures.reply;
      table = ap (λ z. z.table) c.ask-word.ensures.stays ∙ s.2.table;
    }
