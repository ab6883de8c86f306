-- Windows of a source that are fed a stretch at a time.
use Rattle.std.proofs.Common.{◌≡◌, inl, inr, ℕ, ◌+◌, ◌≤◌, Bool, true, false, List, [], ◌∷◌, ◌++◌, length, All, Option, Result, Ok, Err, IsErrAnd, IsErrOf, sym, ap, refl, ◌∙◌, subst, arith, append_assoc, length-append}
use Rattle.std.specs.Io.KnownBytes.{Consumes}
use Rattle.std.proofs.KnownBytes.{Consumes-nil, Consumes-trans}
use Rattle.std.proofs.lemmas.Grind.{flat_map-append}
use Rattle.std.proofs.lemmas.List.Elements.{All-nil, All-append}
use Rattle.sk_model.specs.Causes.{HasCauseIn, Rose}
use Rattle.sk_model.specs.Entries.{Entry}
use Rattle.sk_read.specs.Items.{IsGood}
use Rattle.sk_read.specs.Reading.{Reading, HasRead}
use Rattle.sk_read.specs.Reads.{Ends, ReadsAll}
use Rattle.sk_read.specs.declared.fault.Fault.{Fault}
use Rattle.sk_read.specs.declared.fault.Fault.TheVariants as fault
use Rattle.sk_read.specs.declared.items.Intake.{Intake}
use Rattle.sk_read.specs.declared.units.Units.{Units}
use Rattle.sk_read.specs.declared.units.Units.TheVariants.{Lines}
use Rattle.sk_read.proofs.LineEnds as lineends
use Rattle.sk_fill.specs.Windows.{IsFullWindow, all_lines}
use Rattle.sk_feed.specs.Rounds.{HaveFew, HaveRoomFor}
use Rattle.sk_feed.specs.Hubs.{Hub, IsHub, FeedsWindows}
use Rattle.sk_ingest.specs.Ingests.{Terms, GoesSoFar, Ingests, StopsAtUnit, EndsEarly}
use Rattle.sk_ingest.specs.Takers.{unreported}
use Rattle.sk_fill.specs.Stretches.{StretchState, StretchGoes, EndUnfilled, GoOnInWindows, RefusesBehind, ReadsStretch}
use Rattle.sk_ingest.specs.FedAndRead.{FeedsAndReads}
use Rattle.sk_fill.proofs.Cutting.{all_lines_more}
use Rattle.sk_fill.proofs.Filled.{read_few, read_number}
use Rattle.sk_feed.proofs.HubLaws.{hub_took}
use Rattle.sk_feed.proofs.Rooms.{few_took, room_for}
use Rattle.sk_feed.proofs.Between.{none_fed, fed_on}
use Rattle.sk_ingest.proofs.Unreported.{cut_so_far, ingests_all}
use Rattle.sk_fill.proofs.Readings.{ends_by}
use Rattle.sk_fill.proofs.StretchLaws.{on_ok_at, on_err_at, not_both, failed, answer, ok_is}

-- ---- stretch after stretch

-- windows of lines were fed, and those of a stretch wait: these are full, or the source ended in the last of them
pub record StretchesWent (keeps : ℕ → ℕ → Bool) (hint_of : List ℕ → List Entry → ℕ) (plan : Intake) (waiting : List (List (List ℕ))) (before : ℕ) (more : Bool) (a b : Hub) (r : Reading) (old new : Option (List ℕ)) : Type 0 where
  pub fed : List (List (List ℕ))
  -- how many lines these are
  pub count : before ≡ length (all_lines fed)
  pub taken : List ℕ
  pub consumed : Consumes old new taken
  pub read : HasRead r new (all_lines fed ++ all_lines waiting) taken
  pub full : All (IsFullWindow plan.window) fed
  pub waits : more ≡ true → All (IsFullWindow plan.window) waiting
  pub unfilled : more ≡ false → EndUnfilled plan.window waiting
  pub ended : more ≡ false → r.ended ≡ true
  pub good : All (IsGood plan.kind) (all_lines fed ++ all_lines waiting)
  pub feeds : FeedsWindows plan.propagator keeps hint_of plan.kind fed a b
  pub most : r.most ≡ plan.most

-- before the first stretch
pub none_went : (keeps : ℕ → ℕ → Bool) (hint_of : List ℕ → List Entry → ℕ) (plan : Intake) (a : Hub) (r : Reading) (left : Option (List ℕ)) → r.most ≡ plan.most → HasRead r left [] [] → StretchesWent keeps hint_of plan [] 0 true a a r left left
none_went keeps hint_of plan a r left most has = record {
  fed = [];
  count = refl;
  taken = [];
  consumed = Consumes-nil left;
  read = has;
  full = All-nil (IsFullWindow plan.window);
  waits = λ is. All-nil (IsFullWindow plan.window);
  unfilled = λ is. absurd (not_both (answer true) refl (ok_is true false is));
  ended = λ is. absurd (not_both (answer true) refl (ok_is true false is));
  good = All-nil (IsGood plan.kind);
  feeds = none_fed plan.propagator keeps hint_of plan.kind a;
  most = most;
}

pub both_joined : (fed waiting : List (List (List ℕ))) → all_lines (fed ++ waiting) ≡ all_lines fed ++ all_lines waiting
both_joined fed waiting = flat_map-append (λ lines. lines) fed waiting

module _ (keeps : ℕ → ℕ → Bool) (hint_of : List ℕ → List Entry → ℕ) (plan : Intake) (waiting : List (List (List ℕ))) (before : ℕ) (more : Bool) (a b : Hub) (r : Reading) (old mid : Option (List ℕ)) (went : StretchesWent keeps hint_of plan waiting before more a b r old mid) where
  -- its windows are fed, and a further one is read
  pub stretches_go : (windows : List (List (List ℕ))) (behind : ℕ) (result : Result Bool Fault) (further : Bool) (c : Hub) (r' : Reading) (new : Option (List ℕ)) → more ≡ true → FeedsWindows plan.propagator keeps hint_of plan.kind waiting b c → ReadsStretch plan.kind plan.window windows r r' mid new result → result ≡ Ok further → behind ≡ r.cutter.number
      → StretchesWent keeps hint_of plan windows behind further a c r' old new
  stretches_go windows behind result further c r' new is fed stretch was first =
      let given = all_lines went.fed ++ all_lines waiting in
      let now = on_ok_at result further _ was stretch.read given went.taken went.read in record {
        fed = went.fed ++ waiting;
        count = first ∙ read_number r mid given went.taken went.read ∙ ap length (sym (both_joined went.fed waiting));
        taken = went.taken ++ now.0;
        consumed = Consumes-trans _ _ _ _ _ went.consumed now.1;
        read = subst (λ l. HasRead r' new (l ++ all_lines windows) (went.taken ++ now.0)) (sym (both_joined went.fed waiting)) now.2;
        full = All-append (IsFullWindow plan.window) went.fed waiting went.full (went.waits is);
        waits = λ to. stretch.full (was ∙ ok_is further true to);
        unfilled = λ to. stretch.unfilled (was ∙ ok_is further false to);
        ended = λ to. stretch.end (was ∙ ok_is further false to);
        good = subst (λ l. All (IsGood plan.kind) (l ++ all_lines windows)) (sym (both_joined went.fed waiting)) (All-append (IsGood plan.kind) given (all_lines windows) went.good (on_ok_at result further _ was stretch.good));
        feeds = fed_on plan.propagator keeps hint_of plan.kind went.fed waiting a b c went.feeds fed;
        most = stretch.bound ∙ went.most;
      }

  -- further ones are read after them
  pub stretches_wait : (further : List (List (List ℕ))) (q : Reading) (new : Option (List ℕ)) → more ≡ true → StretchGoes plan.kind plan.window further r q mid new → StretchesWent keeps hint_of plan (waiting ++ further) before true a b q old new
  stretches_wait further q new is goes =
      let given = all_lines went.fed ++ all_lines waiting in
      let now = goes.read given went.taken went.read in
      let joined : given ++ all_lines further ≡ all_lines went.fed ++ all_lines (waiting ++ further) = append_assoc (all_lines went.fed) (all_lines waiting) (all_lines further) ∙ ap (λ l. all_lines went.fed ++ l) (sym (both_joined waiting further)) in record {
        fed = went.fed;
        count = went.count;
        taken = went.taken ++ now.0;
        consumed = Consumes-trans _ _ _ _ _ went.consumed now.1;
        read = subst (λ l. HasRead q new l (went.taken ++ now.0)) joined now.2;
        full = went.full;
        waits = λ to. All-append (IsFullWindow plan.window) waiting further (went.waits is) goes.full;
        unfilled = λ to. absurd (not_both (answer true) refl (ok_is true false to));
        ended = λ to. absurd (not_both (answer true) refl (ok_is true false to));
        good = subst (All (IsGood plan.kind)) joined (All-append (IsGood plan.kind) given (all_lines further) went.good goes.good);
        feeds = went.feeds;
        most = goes.bound ∙ went.most;
      }

  -- how many lines an updater has kept at most
  pub stretches_few : HaveFew 0 [] a.updaters → HaveFew before [] b.updaters
  stretches_few few = subst (λ n. HaveFew n [] b.updaters) (sym went.count) (few_took keeps hint_of plan.kind went.fed a.updaters b.updaters few went.feeds.updaters)

  -- how many lines were read
  pub stretches_lines : length (all_lines went.fed ++ all_lines waiting) ≡ before + length (all_lines waiting)
  stretches_lines = length-append (all_lines went.fed) (all_lines waiting) ∙ ap (λ n. n + length (all_lines waiting)) (sym went.count)

  pub stretches_hub : IsHub a → IsHub b
  stretches_hub hub = hub_took plan.propagator keeps hint_of plan.kind went.fed a b hub went.feeds

  pub stretches_room : HaveFew 0 [] a.updaters → HaveRoomFor waiting b.updaters
  stretches_room few =
      room_for waiting (length (all_lines went.fed)) b.updaters (few_took keeps hint_of plan.kind went.fed a.updaters b.updaters few went.feeds.updaters)
      (omega (arith, read_few r mid (all_lines went.fed ++ all_lines waiting) went.taken went.read, length-append (all_lines went.fed) (all_lines waiting)))

  -- a fault of the reading of a further one
  pub stretches_fail : (windows : List (List (List ℕ))) (why : Fault) (failed : Result Bool Fault) (r' : Reading) (new : Option (List ℕ)) → 1 ≤ plan.window → plan.interim ≡ false → more ≡ true → ReadsStretch plan.kind plan.window windows r r' mid new failed → failed ≡ Err why
      → EndsEarly (unreported keeps hint_of plan) r'.last Lines old new a tt tt why
  stretches_fail windows why failed r' new least off is stretch was =
      inl (subst (λ m. Ends r'.last Lines m (GoesSoFar t a tt tt) (StopsAtUnit t a tt tt) old new why) went.most
      (ends_by _ Lines r.most (GoOnInWindows plan.kind plan.window given) (GoesSoFar t a tt tt) (RefusesBehind plan.kind plan.window given) (StopsAtUnit t a tt tt) old new why so_far stops
      (on_err_at failed why _ was stretch.stopped old given went.taken went.consumed went.read)))
    where
      t : Terms (Unit {0})
      t = unreported keeps hint_of plan

      given : List (List ℕ)
      given = all_lines went.fed ++ all_lines waiting

      so_far : (units : List (List ℕ)) → GoOnInWindows plan.kind plan.window given units → GoesSoFar t a tt tt units
      so_far units on = cut_so_far t units ((went.fed ++ waiting) ++ on.windows) on.rest a tt off (record {
        joined = on.joined ∙ ap (λ l. given ++ l) on.cut.joined ∙ sym (append_assoc given (all_lines on.windows) on.rest) ∙ ap (λ l. l ++ on.rest) (ap (λ l. l ++ all_lines on.windows) (sym (both_joined went.fed waiting)) ∙ sym (both_joined (went.fed ++ waiting) on.windows));
        full = All-append (IsFullWindow plan.window) (went.fed ++ waiting) on.windows (All-append (IsFullWindow plan.window) went.fed waiting went.full (went.waits is)) on.cut.full;
        unfilled = on.cut.unfilled;
      }) (subst (All (IsGood plan.kind)) (sym on.joined) (All-append (IsGood plan.kind) given on.more went.good on.good))

      stops : (why : Fault) (units : List (List ℕ)) (line : List ℕ) → RefusesBehind plan.kind plan.window given why units line → StopsAtUnit t a tt tt why units line
      stops (fault.BadItem n) units line bad = (so_far units bad.0, bad.1.1, bad.1.2)
      stops fault.OutOfMemory units line bad = inl (so_far units bad.0)
      stops fault.WriteFault units line none = absurd none.1
      stops fault.ReadFault units line none = absurd none.1
      stops fault.TooMuch units line none = absurd none.1
      stops (fault.LongLine n) units line none = absurd none.1
      stops (fault.BadCsv n) units line none = absurd none.1

  -- all windows, the last of which is not full
  all_windows : more ≡ false → EndUnfilled plan.window (went.fed ++ waiting)
  all_windows is =
      let ends = went.unfilled is in record {
        before = went.fed ++ ends.before;
        last = ends.last;
        joined = ap (λ l. went.fed ++ l) ends.joined ∙ sym (append_assoc went.fed ends.before (ends.last ∷ []));
        full = All-append (IsFullWindow plan.window) went.fed ends.before went.full ends.full;
        unfilled = ends.unfilled;
      }

  pub all_read : (Gave : List (List ℕ) → Type 0) (n : ℕ) → more ≡ false → n ≡ r.cutter.number → Gave (all_lines (went.fed ++ waiting)) → ReadsAll Lines plan.most n Gave old mid
  all_read Gave n is number gave =
      lineends.all_lines Gave (λ why units line. ⊥) plan.most r old mid (all_lines went.fed ++ all_lines waiting) went.taken n went.most went.consumed
      (subst Gave (both_joined went.fed waiting) gave) (went.read, went.ended is) number

  -- these are fed, too
  pub stretches_end : (n : ℕ) (c : Hub) → plan.interim ≡ false → more ≡ false → n ≡ r.cutter.number → IsHub a → FeedsWindows plan.propagator keeps hint_of plan.kind waiting b c → ReadsAll Lines plan.most n (λ units. Ingests (unreported keeps hint_of plan) units a tt c tt) old mid
  stretches_end n c off is number hub fed =
      all_read (λ units. Ingests (unreported keeps hint_of plan) units a tt c tt) n is number
      (ingests_all (unreported keeps hint_of plan) (went.fed ++ waiting) (all_windows is) a c tt off (subst (All (IsGood plan.kind)) (sym (both_joined went.fed waiting)) went.good) hub
      (fed_on plan.propagator keeps hint_of plan.kind went.fed waiting a b c went.feeds fed))

  -- no memory was found for that
  pub stretches_out : (last : ℕ) → plan.interim ≡ false → more ≡ false → EndsEarly (unreported keeps hint_of plan) last Lines old mid a tt tt fault.OutOfMemory
  stretches_out last off is =
      let ends = all_windows is in
      inr (
        refl,
        (
          r.cutter.number,
          all_read (GoesSoFar (unreported keeps hint_of plan) a tt tt) r.cutter.number is refl
              (cut_so_far (unreported keeps hint_of plan) (all_lines (went.fed ++ waiting)) ends.before ends.last a tt off
              (record { joined = ap (λ l. all_lines l) ends.joined ∙ all_lines_more ends.before ends.last; full = ends.full; unfilled = ends.unfilled })
              (subst (All (IsGood plan.kind)) (sym (both_joined went.fed waiting)) went.good)),
        ),
      )

-- ---- a stretch and those after it were fed, and one more was read

module _ (keeps : ℕ → ℕ → Bool) (hint_of : List ℕ → List Entry → ℕ) (plan : Intake) (s next : StretchState) (a b c : Hub) (r r' : Reading) (old mid new : Option (List ℕ)) (result : Result Bool Fault) (went : StretchesWent keeps hint_of plan s.windows s.first true a b r old mid) (on : FeedsAndReads (λ windows. FeedsWindows plan.propagator keeps hint_of plan.kind windows b c) plan.kind plan.window s next r r' mid new result) where
  waited : StretchesWent keeps hint_of plan (s.windows ++ on.more) s.first true a b on.between old on.mid
  waited = stretches_wait keeps hint_of plan s.windows s.first true a b r old mid went on.more on.between on.mid refl on.goes

  pub feeds_on : (further : Bool) → result ≡ Ok further → StretchesWent keeps hint_of plan next.windows next.first further a c r' old new
  feeds_on further was =
      subst (λ l. StretchesWent keeps hint_of plan l next.first further a c r' old new) (on_ok_at result further _ was on.is)
      (stretches_go keeps hint_of plan (s.windows ++ on.more) s.first true a b on.between old on.mid waited on.last next.first result further c r' new refl (on_ok_at result further _ was on.fed) on.reads was (on_ok_at result further _ was on.first))

  -- a fault came
  pub feeds_fail : (why : Fault) → 1 ≤ plan.window → plan.interim ≡ false → result ≡ Err why → EndsEarly (unreported keeps hint_of plan) r'.last Lines old new a tt tt why
  feeds_fail why least off was = stretches_fail keeps hint_of plan (s.windows ++ on.more) s.first true a b on.between old on.mid waited on.last why result r' new least off refl on.reads was

-- with a read of more bytes it ended so too
pub early_within : {R : Type 0} (t : Terms R) (x y : ℕ) (units : Units) (old new : Option (List ℕ)) (a : Hub) (r s : R) (why : Fault) → x ≤ y → EndsEarly t x units old new a r s why → EndsEarly t y units old new a r s why
early_within t x y units old new a r s why within (inl ends) = inl (lineends.ends_within (GoesSoFar t a r s) (StopsAtUnit t a r s) t.plan.most x y units old new why within ends)
early_within t x y units old new a r s why within (inr out) = inr out

-- ---- what a call says of the count of faults

err_is : (A : Type 0) (e f : Fault) → IsErrOf {T = A} (Err e) f → e ≡ f
err_is A e f is = cc

is_err : (A : Type 0) (e f : Fault) → e ≡ f → IsErrOf {T = A} (Err e) f
is_err A e f is = ap (λ x. Err x) is

no_read_fault : (e : Fault) → e ≡ fault.OutOfMemory → e ≡ fault.ReadFault → ⊥
no_read_fault e memory read = cc

pub cause_passed : {T : Type 0} (before start now : ℕ) (why : Fault) (read : Result Bool Fault) (result : Result T Fault) → HasCauseIn fault.ReadFault before now read → read ≡ Err why → IsErrAnd result (λ x. x ≡ why) → before ≡ start → HasCauseIn fault.ReadFault start now result
cause_passed before start now why read (Ok n) cause was is same = absurd is
cause_passed {T} before start now why read (Err e) cause was is same =
    let so : HasCauseIn fault.ReadFault before now (failed e) = subst (HasCauseIn fault.ReadFault before now) (was ∙ ap failed (sym is)) cause in record {
      steady = λ other. so.steady (λ of. other (is_err T e fault.ReadFault (err_is Bool e fault.ReadFault of))) ∙ same;
      failed = λ of. subst (λ x. Rose x now) same (so.failed (is_err Bool e fault.ReadFault (err_is T e fault.ReadFault of)));
    }

-- if memory ran out no read failed
pub none_caused : {T : Type 0} (before now : ℕ) (result : Result T Fault) → now ≡ before → IsErrAnd result (λ x. x ≡ fault.OutOfMemory) → HasCauseIn fault.ReadFault before now result
none_caused before now (Ok n) same is = absurd is
none_caused {T} before now (Err e) same is = record { steady = λ other. same; failed = λ of. absurd (no_read_fault e is (err_is T e fault.ReadFault of)) }
