use Rattle.std.proofs.Common.{◌++◌, ◌∷◌, [], sym, ap, subst, ◌∙◌, append_assoc}
use Rattle.std.proofs.lemmas.List.{map-append}
use Rattle.sk_io.specs.Traffic.{text_of}
use Rattle.sk_serve.specs.Doors.{door_of}
use Rattle.sk_serve.specs.Served.{IsUnread}
use Rattle.sk_serve.specs.Waves.{visit_of, texts_by, ClosesUnread}
use Rattle.sk_serve.proofs.Each.{each_next, nothing_left}
use Rattle.sk_serve.proofs.Waving.{unread_more, unread_room}
use Rattle.sk_serve.proofs.accepting.close_unread.Goals as goal

pub close-requires : goal.close-requires
close-requires g c =
    let i = c.job.invariant in let door = door_of g.D.Door in
    let all = ap (λ l. c.job.yielded ++ l) (sym c.in-Some.ensures.steps.0) ∙ i.all in
    unread_room (visit_of g.D.Link.Link) c.args.jobs.items c.job.yielded c.in-Some.job c.next.new.self.rest.items (door c.args.door.now) (door c.job.door) all i.closes c.requires.room

pub job-preserved-in-Some : goal.job-preserved-in-Some
job-preserved-in-Some g c =
    let i = c.job.invariant in let door = door_of g.D.Door in let visit = visit_of g.D.Link.Link in let job = c.in-Some.job in
    let all = ap (λ l. c.job.yielded ++ l) (sym c.in-Some.ensures.steps.0) ∙ i.all in
    let unread = each_next (λ _ j. IsUnread (visit j).link) 0 c.args.jobs.items c.job.yielded c.next.new.self.rest.items job all c.requires.unread in
    record {
      all = append_assoc c.job.yielded (job ∷ []) c.next.new.self.rest.items ∙ all;
      closes = subst (λ t. ClosesUnread t (door c.args.door.now) (door c.close.new.self)) (sym (map-append (λ j. text_of (visit j).link.traffic) c.job.yielded (job ∷ [])))
          (unread_more (texts_by visit c.job.yielded) (door c.args.door.now) (door c.job.door) (door c.close.new.self) (visit job).link i.closes unread c.close.ensures.closed c.close.ensures.accepted c.close.ensures.room c.close.ensures.faults);
    }

pub returns : goal.returns
returns g c =
    let door = door_of g.D.Door in record {
      closes = subst (λ l. ClosesUnread (texts_by (visit_of g.D.Link.Link) l) (door c.args.door.now) (door c.job.door))
          (nothing_left c.job.yielded c.job.job-iterator.rest.items c.args.jobs.items c.job.invariant.all (sym c.job.job-iterator.rest.ok.0 ∙ c.in-None.ensures.steps.0)) c.job.invariant.closes;
    }
