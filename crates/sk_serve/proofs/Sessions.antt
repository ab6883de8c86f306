-- A session from its accept to its close.
use Rattle.std.proofs.Common.{◌≡◌, ℕ, ◌+◌, ◌-◌, ◌^◌, ◌<◌, min, All, get_or, unwrap_or, inl, inr, List, [], ◌∷◌, ◌++◌, length, map, Option, Some, refl, sym, ap, subst, ◌∙◌, arith, append-nil, append_assoc, length-append}
use Rattle.std.proofs.lemmas.List.{map-append, length-map}
use Rattle.atomic_table.specs.Seated.{TableId}
use Rattle.sk_model.specs.Causes.{Rose}
use Rattle.sk_io.specs.Traffic.{Traffic, Ended, text_of}
use Rattle.sk_io.proofs.Links.{text_kept}
use Rattle.sk_theta.specs.Sizes.{Sizes}
use Rattle.sk_hub.specs.Updaters.{UpdaterState}
use Rattle.sk_hub.specs.Calls.{GoesOn}
use Rattle.sk_line.specs.Jobs.{IsJobDone}
use Rattle.sk_line.specs.Sessions.{SessionState, session_state, ComesTo, SessionEnds}
use Rattle.sk_line.specs.declared.sessions.End.{End}
use Rattle.sk_line.specs.declared.sessions.End.TheVariants as end
use Rattle.sk_line.proofs.Added.{answers_keep}
use Rattle.sk_hub.proofs.Calls.{goes_trans}
use Rattle.sk_serve.specs.declared.plan.ServePlan.{ServePlan}
use Rattle.sk_serve.specs.Doors.{DoorView, LetsOut}
use Rattle.sk_serve.specs.Plans.{shape_of}
use Rattle.sk_serve.specs.Served.{Served, IsServed, links_of, ends_of, answered_in}
use Rattle.sk_serve.specs.Waves.{Visit, IsReady, WasRun, ClosesLinks}
use Rattle.sk_serve.proofs.Closed.{closes_none}
use Rattle.sk_serve.proofs.Each.{each_none, each_last}
use Rattle.sk_serve.proofs.Going.{answers_of}

pub session_goes : (shape : Sizes) (most pumps pumps' : ℕ) (link link' : Option Traffic) (u v : UpdaterState) (e : End) → SessionEnds shape most (session_state link u pumps) (session_state link' v pumps') e → GoesOn u v
session_goes shape most pumps pumps' link link' u v e ends =
    let a = answers_of shape most (session_state link u pumps) (session_state link' v pumps') ends.due ends.comes in
    goes_trans u a.last v (answers_keep shape u _ a.last a.takes).0 a.then.goes

-- ---- its link

came_over : (shape : Sizes) (most : ℕ) (a b : SessionState) (e : End) → ComesTo shape most a b e → text_of b.traffic ≡ text_of a.traffic
came_over shape most a b end.Quit went = text_kept a.traffic b.traffic _ _ went.went.exchanges
came_over shape most a b end.Closed went = text_kept a.traffic b.traffic _ _ went.went.exchanges
came_over shape most a b end.LinkFault (inl went) = text_kept a.traffic b.traffic _ _ went.went.exchanges
came_over shape most a b end.LinkFault (inr went) = text_kept went.before b.traffic _ _ went.part.2 ∙ text_kept a.traffic went.before _ _ went.exchanges
came_over shape most a b (end.Long n) went = text_kept a.traffic b.traffic _ _ went.went.exchanges
came_over shape most a b end.TooMuch went = text_kept a.traffic b.traffic _ _ went.went.exchanges
came_over shape most a b end.OutOfMemory same = ap (λ s. text_of s.traffic) same

-- a session changes nothing of what comes over its link
pub same_text : (shape : Sizes) (most pumps pumps' : ℕ) (link link' : Option Traffic) (u v : UpdaterState) (before now waiting : ℕ) (told : Option End) → IsJobDone shape most (session_state link u pumps) (session_state link' v pumps') before now waiting told → text_of link' ≡ text_of link
same_text shape most pumps pumps' link link' u v before now waiting told done = came_over shape most (session_state link u pumps) (session_state link' v pumps') done.ends.due done.ends.comes

-- ---- a session that was run

pub ready_run : (plan : ServePlan) (shape : Sizes) (most : ℕ) (table : TableId) (i : ℕ) (v v' : Visit) → shape ≡ shape_of plan → IsReady plan table i v
    → IsJobDone shape most (session_state v.link.traffic v.updater v.pumps) (session_state v'.link.traffic v'.updater v'.pumps) v.link.faults v'.link.faults v'.link.waiting v'.told → WasRun plan most table i v'
ready_run plan shape most table i v v' shape_is ready done =
    let ends : SessionEnds (shape_of plan) most (session_state v.link.traffic v.updater 0) (session_state v'.link.traffic v'.updater v'.pumps) done.end =
    subst (λ n. SessionEnds (shape_of plan) most (session_state v.link.traffic v.updater n) (session_state v'.link.traffic v'.updater v'.pumps) done.end) ready.pumps_none
    (subst (λ s. SessionEnds s most (session_state v.link.traffic v.updater v.pumps) (session_state v'.link.traffic v'.updater v'.pumps) done.end) shape_is done.ends) in
    let goes = session_goes (shape_of plan) most 0 v'.pumps v.link.traffic v'.link.traffic v.updater v'.updater done.end ends in
    record {
      session = record { end = done.end; ended = v'.link; updater = v'.updater; answered = answered_in (shape_of plan) most (session_state v.link.traffic v.updater 0) (session_state v'.link.traffic v'.updater v'.pumps) ends.due ends.comes };
      served = record {
        link = v.link.traffic;
        untouched = ready.unread.untouched;
        before = v.updater;
        fresh = ready.fresh;
        pumps = v'.pumps;
        ends = ends;
        answers = refl;
        fault = λ is. rose_once v.link.faults v'.link.faults ready.unread.faults (done.fault is);
        steady = λ isnt. done.steady isnt ∙ ready.unread.faults;
        sent = done.sent;
      };
      link_is = refl;
      updater_is = refl;
      told_is = done.is;
      number_is = goes.number ∙ ready.fresh.number_is;
      table_is = goes.table ∙ ready.table_is;
    }
  where
    rose_once : (before now : ℕ) → before ≡ 0 → Rose before now → now ≡ 1
    rose_once before now none rose = rose ∙ ap (λ n. min (n + 1) (2 ^ 64 - 1)) none

-- ---- links that are closed

pub none_closed : (plan : ServePlan) (most : ℕ) (table : TableId) (from : ℕ) (door : DoorView) (ends : List End) (us : List UpdaterState) → us ≡ [] → ClosesLinks plan most table from 0 [] door door ends ends us
none_closed plan most table from door ends us none = record {
  sessions = [];
  as_many = refl;
  served = each_none (IsServed plan most) from;
  closes = closes_none door;
  ended = sym (append-nil ends);
  updaters = none;
  of_hub = record { tables = λ i d within. absurd (let no : ⊥ = omega (arith, within, ap length none) in no); numbers = λ i d within. absurd (let no : ⊥ = omega (arith, within, ap length none) in no) };
}

pub one_closed : (plan : ServePlan) (most : ℕ) (table : TableId) (from n : ℕ) (texts : List (Option (List ℕ))) (old mid new : DoorView) (ends ends1 ends2 : List End) (us us2 : List UpdaterState) (v : Visit) (e : End)
    → ClosesLinks plan most table from n texts old mid ends ends1 us → WasRun plan most table (from + n) v → v.told ≡ Some e → ((links : List Ended) → LetsOut texts links old mid → LetsOut (texts ++ text_of v.link.traffic ∷ []) (links ++ v.link ∷ []) old new) → ends2 ≡ ends1 ++ e ∷ [] → us2 ≡ us ++ v.updater ∷ [] → ClosesLinks plan most table from (n + 1) (texts ++ text_of v.link.traffic ∷ []) old new ends ends2 us2
one_closed plan most table from n texts old mid new ends ends1 ends2 us us2 v e c run told closed ended updaters =
    let s = run.session in
    let same : e ≡ s.end = ap (λ (o : Option End). unwrap_or o e) (sym told ∙ run.told_is) in
    let links : links_of (c.sessions ++ s ∷ []) ≡ links_of c.sessions ++ v.link ∷ [] = map-append (λ (z : Served). z.ended) c.sessions (s ∷ []) ∙ ap (λ x. links_of c.sessions ++ x ∷ []) (sym run.link_is) in
    let count : length us ≡ n = ap length c.updaters ∙ length-map c.sessions (λ (z : Served). z.updater) ∙ c.as_many in
    record {
      sessions = c.sessions ++ s ∷ [];
      as_many = length-append c.sessions (s ∷ []) ∙ ap (λ m. m + 1) c.as_many;
      served = each_last (IsServed plan most) from c.sessions s c.served (subst (λ m. IsServed plan most (from + m) s) (sym c.as_many) run.served);
      closes = subst (λ l. LetsOut (texts ++ text_of v.link.traffic ∷ []) l old new) (sym links) (closed (links_of c.sessions) c.closes);
      ended = ended ∙ ap (λ l. l ++ e ∷ []) c.ended ∙ append_assoc ends (ends_of c.sessions) (e ∷ []) ∙ ap (λ l. ends ++ l) (ap (λ x. ends_of c.sessions ++ x ∷ []) same ∙ sym (map-append (λ (z : Served). z.end) c.sessions (s ∷ [])));
      updaters = updaters ∙ ap (λ l. l ++ v.updater ∷ []) c.updaters ∙ ap (λ x. map (λ z. z.updater) c.sessions ++ x ∷ []) run.updater_is ∙ sym (map-append (λ (z : Served). z.updater) c.sessions (s ∷ []));
      of_hub = record {
        tables = subst (λ l. All (λ u. u.table ≡ table) l) (sym updaters) (each_last (λ _ u. u.table ≡ table) 0 us v.updater c.of_hub.tables run.table_is);
        numbers = subst (λ l. (i : ℕ) (d : UpdaterState) → i < length l → (get_or l i d).number ≡ from + i) (sym updaters)
            (each_last (λ i u. u.number ≡ i) from us v.updater c.of_hub.numbers (run.number_is ∙ ap (λ m. from + m) (sym count)));
      };
    }
