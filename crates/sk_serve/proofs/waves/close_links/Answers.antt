use Rattle.std.proofs.Common.{◌≡◌, ◌+◌, ◌++◌, ◌∷◌, [], length, true, false, is_some, sym, ap, subst, refl, ◌∙◌, arith, append_assoc, length-append}
use Rattle.std.proofs.lemmas.List.{map-append}
use Rattle.sk_io.specs.Traffic.{text_of}
use Rattle.sk_serve.specs.Doors.{door_of}
use Rattle.sk_serve.specs.Waves.{visit_of, texts_by, WasRun, ClosesLinks}
use Rattle.sk_serve.proofs.Closed.{closes_more}
use Rattle.sk_serve.proofs.Each.{each_next, nothing_left}
use Rattle.sk_serve.proofs.Sessions.{none_closed, one_closed}
use Rattle.sk_serve.proofs.waves.close_links.Goals as goal

pub job-init : goal.job-init
job-init g c = record {
  all = c.into_iter-job-iterator.ensures.into_iter_gives.0;
  closes = λ plan most table from run. none_closed plan most table from (door_of g.D.Door c.args.door.now) c.args.ends.now.items c.args.updaters.now.items c.requires.none;
  room = omega arith;
  ends = omega arith;
  updaters = ap length c.requires.none;
  reserved = refl;
  place = refl;
}

pub unreachable-requires : goal.unreachable-requires
unreachable-requires g c =
    let all = ap (λ l. c.job.yielded ++ l) (sym c.in-Some.ensures.steps.0) ∙ c.job.invariant.all in
    let told : is_some c.in-Some.job.end ≡ true = each_next (λ _ job. is_some job.end ≡ true) 0 c.args.jobs.items c.job.yielded c.next.new.self.rest.items c.in-Some.job all c.requires.told in
    let no : false ≡ true = ap (λ o. is_some o) (sym c.in_default.is) ∙ told in
    cc

pub job-preserved : goal.job-preserved
job-preserved g c =
    let i = c.job.invariant in let door = door_of g.D.Door in let visit = visit_of g.D.Link.Link in let job = c.in-Some.job in let e = c.in-Some-end.end in
    let before = c.job.yielded in let rest = c.next.new.self.rest.items in
    let all = ap (λ l. before ++ l) (sym c.in-Some.ensures.steps.0) ∙ i.all in
    let count : length before + 1 ≡ length (before ++ job ∷ []) = omega (arith, length-append before (job ∷ [])) in
    let ended : length c.push_reserved.new.self.items ≡ length (c.job.ends.items ++ e ∷ []) = ap length c.push_reserved.ensures.items in
    let kept : length c.push_reserved-in-job.new.self.items ≡ length (c.job.updaters.items ++ job.updater ∷ []) = ap length c.push_reserved-in-job.ensures.items in
    record {
      all = append_assoc before (job ∷ []) rest ∙ all;
      closes = λ plan most table from run.
          subst (λ l. ClosesLinks plan most table from (length (before ++ job ∷ [])) l (door c.args.door.now) (door c.close.new.self) c.args.ends.now.items c.push_reserved.new.self.items c.push_reserved-in-job.new.self.items)
          (sym (map-append (λ j. text_of (visit j).link.traffic) before (job ∷ [])))
          (subst (λ n. ClosesLinks plan most table from n (texts_by visit before ++ text_of (visit job).link.traffic ∷ []) (door c.args.door.now) (door c.close.new.self) c.args.ends.now.items c.push_reserved.new.self.items c.push_reserved-in-job.new.self.items) count
          (one_closed plan most table from (length before) (texts_by visit before) (door c.args.door.now) (door c.job.door) (door c.close.new.self) c.args.ends.now.items c.job.ends.items c.push_reserved.new.self.items c.job.updaters.items c.push_reserved-in-job.new.self.items
          (visit job) e (i.closes plan most table from run)
          (each_next (λ n j. WasRun plan most table n (visit j)) from c.args.jobs.items before rest job all run)
          c.in-Some-end.is
          (λ links closed. closes_more (texts_by visit before) links (door c.args.door.now) (door c.job.door) (door c.close.new.self) (visit job).link closed c.close.ensures.closed c.close.ensures.accepted c.close.ensures.room c.close.ensures.faults)
          c.push_reserved.ensures.items c.push_reserved-in-job.ensures.items));
      room = let r = c.close.ensures.room in omega (arith, r, i.room, count);
      ends = omega (arith, ended, length-append c.job.ends.items (e ∷ []), i.ends, count);
      updaters = omega (arith, kept, length-append c.job.updaters.items (job.updater ∷ []), i.updaters, count);
      reserved = c.push_reserved.ensures.capacity ∙ i.reserved;
      place = c.push_reserved-in-job.ensures.capacity ∙ i.place;
    }

pub returns-clause-closes : goal.returns-clause-closes
returns-clause-closes g c = λ plan most table from run.
    let door = door_of g.D.Door in
    subst (λ l. ClosesLinks plan most table from (length l) (texts_by (visit_of g.D.Link.Link) l) (door c.args.door.now) (door c.job.door) c.args.ends.now.items c.job.ends.items c.job.updaters.items)
    (nothing_left c.job.yielded c.job.job-iterator.rest.items c.args.jobs.items c.job.invariant.all (sym c.job.job-iterator.rest.ok.0 ∙ c.in-None.ensures.steps.0))
    (c.job.invariant.closes plan most table from run)
