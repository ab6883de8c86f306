-- What an interval's reader knows when its updaters are taken in.
use Rattle.std.proofs.Common.{◌≡◌, ◌≤◌, ℕ, ◌+◌, ◌∷◌, ◌++◌, [], List, length, drop, get_or, All, Result, Ok, Err, OnOk, OnErr, sym, ap, subst, ◌∙◌, arith, length-append}
use Rattle.std.proofs.lemmas.List.{length-drop}
use Rattle.std.proofs.lemmas.List.Elements.{All-append, All-push}
use Rattle.std.proofs.lemmas.List.Sums.{sum_by-append}
use Rattle.sk_model.specs.Entries.{entries_by}
use Rattle.sk_model.specs.Missing.{Begins}
use Rattle.sk_model.proofs.Missing.{begins_trans}
use Rattle.sk_machine.proofs.Coarse.{entries_by_begins}
use Rattle.sk_theta.specs.Kept.{Sketch}
use Rattle.sk_theta.specs.Sizes.{Sizes}
use Rattle.sk_theta.specs.declared.reply.Reply.{Reply}
use Rattle.sk_window.specs.Intervals.{StandForEach, IsReplyOf, all_items, with_closed}
use Rattle.sk_hub.specs.Updaters.{UpdaterState, kept_of}
use Rattle.sk_snap.specs.History.{entries_in, name_of}
use Rattle.sk_snap.specs.Versions.{Learnt, items_in}
use Rattle.sk_learn.specs.Learning.{ReaderGoesOn}
use Rattle.sk_learn.specs.Closing.{AreApart, HasExactly, TakesInAll, StopsEarly, items_kept, counted}
use Rattle.sk_learn.proofs.Lists.{at_least, exactly}
use Rattle.sk_window.specs.Panes.{PanesState, IsPanes, HasTaken, Closes, StopsAtDrain}
use Rattle.sk_window.proofs.Standing.{all_rest}

-- what follows from two facts of a success, or from one of an error
pub both_ok : {T E : Type 0} (o : Result T E) (P Q S : Type 0) → (P → Q → S) → OnOk o P → OnOk o Q → OnOk o S
both_ok (Ok x) P Q S follows p q = follows p q
both_ok (Err e) P Q S follows p q = tt

pub on_err : {T E : Type 0} (o : Result T E) (P Q : Type 0) → (P → Q) → OnErr o P → OnErr o Q
on_err (Ok x) P Q follows p = tt
on_err (Err e) P Q follows p = follows p

module _ (p : PanesState) (before : List UpdaterState) (has : HasTaken p before) where
  -- what was learnt of those before is still known, beside what is known of these
  both : (us : List UpdaterState) (s : Learnt) → ReaderGoesOn p.learnt s → All (λ u. Begins (kept_of u) (entries_by u.number (entries_in s.known))) us
      → All (λ u. Begins (kept_of u) (entries_by u.number (entries_in s.known))) (before ++ us)
  both us s goes all = All-append (λ (u : UpdaterState). Begins (kept_of u) (entries_by u.number (entries_in s.known))) before us
      (λ i d within. begins_trans _ _ _ (has.learnt_all i d within) (entries_by_begins (get_or before i d).number (entries_in p.learnt.known) (entries_in s.known) goes.grows))
      all

  counted_both : (us : List UpdaterState) (n : ℕ) → n ≡ counted p.taken us → n ≡ counted 0 (before ++ us)
  counted_both us n is = omega (arith, is, has.count, sum_by-append (λ (u : UpdaterState). length (kept_of u)) before us)

  pub stops : (us us' : List UpdaterState) (q : PanesState) → q ≡ record p { heart = q.heart; learnt = q.learnt; taken = q.taken } → StopsEarly p.heart us p.learnt p.taken q.heart us' q.learnt q.taken → StopsAtDrain p before us us' q
  stops us us' q stays early = record {
    stays = stays;
    early = early;
    so_far = record { learnt_all = both early.taken q.learnt early.takes.goes early.takes.learnt; count = counted_both early.taken q.taken early.count };
  }

  pub takes_all : (us : List UpdaterState) (q : PanesState) → TakesInAll p.heart us p.learnt q.heart q.learnt → q.taken ≡ counted p.taken us → HasTaken q (before ++ us)
  takes_all us q takes count = record { learnt_all = both us q.learnt takes.goes takes.learnt; count = counted_both us q.taken count }

  -- a later list of as many entries as they kept has exactly these
  pub exactly_these : (s : Learnt) → AreApart before → ReaderGoesOn p.learnt s → length (entries_in s.known) ≡ p.taken → HasExactly (entries_in s.known) before
  exactly_these s apart goes whole =
      let all : All (λ (u : UpdaterState). Begins (kept_of u) (entries_by u.number (entries_in s.known))) before =
      λ i d within. begins_trans _ _ _ (has.learnt_all i d within) (entries_by_begins (get_or before i d).number (entries_in p.learnt.known) (entries_in s.known) goes.grows) in
      let many : length (entries_in s.known) ≡ items_kept before = omega (arith, whole, has.count, at_least before (entries_in s.known) apart all) in
      exactly before (entries_in s.known) apart all many

-- the sketch of a closed interval took the place of the oldest one
pub pushed_count : (ss : List Sketch) (s : Sketch) (last : ℕ) → length ss + 1 ≡ last → 2 ≤ last → length (drop 1 ss ++ s ∷ []) ≡ length ss
pushed_count ss s last count least = omega (arith, count, least, length-append (drop 1 ss) (s ∷ []), length-drop 1 ss)

pub pushed_panes : (p : PanesState) (s : Learnt) (closed : List Sketch) (sketch : Sketch) → IsPanes p → ReaderGoesOn p.learnt s → sketch.k ≡ p.shape.k → closed ≡ drop 1 p.closed ++ sketch ∷ []
    → IsPanes (record p { learnt = s; closed = closed })
pushed_panes p s closed sketch inv goes k put = record {
  frame_is = inv.frame_is;
  name = inv.name ∙ ap name_of (sym goes.book);
  numbers = goes.numbers ∙ inv.numbers;
  count = ap (λ (ss : List Sketch). length ss + 1) put ∙ ap (λ (n : ℕ). n + 1) (pushed_count p.closed sketch p.frame.last inv.count inv.frame_is.least) ∙ inv.count;
  same_k = subst (All (λ (z : Sketch). z.k ≡ p.shape.k)) (sym put) (All-push (λ (z : Sketch). z.k ≡ p.shape.k) (drop 1 p.closed) sketch (all_rest p.shape.k p.closed inv.same_k) k);
}

-- taking updaters in changes neither the shape nor what is closed
pub closes_before : (p q : PanesState) (us : List UpdaterState) (lists : List (List ℕ)) (reply : Reply) (after : PanesState) → q.shape ≡ p.shape → q.closed ≡ p.closed
    → StandForEach p.shape.k p.closed lists → (StandForEach q.shape.k q.closed lists → Closes q us lists reply after) → Closes p us lists reply after
closes_before p q us lists reply after shape closed each closes =
    let k : q.shape.k ≡ p.shape.k = ap (λ (s : Sizes). s.k) shape in
    let its : StandForEach q.shape.k q.closed lists = subst (λ (n : ℕ). StandForEach n q.closed lists) (sym k) (subst (λ (ss : List Sketch). StandForEach p.shape.k ss lists) (sym closed) each) in
    let done = closes its in
    record {
      exactly = done.exactly;
      reply_is = subst (λ (n : ℕ). IsReplyOf n (all_items lists ++ items_in after.learnt.known) reply) k done.reply_is;
      stand = subst (λ (n : ℕ). StandForEach n after.closed (with_closed lists (items_in after.learnt.known))) k done.stand;
    }
