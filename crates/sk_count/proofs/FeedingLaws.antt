-- What a count concludes of the units that were fed.
use Rattle.std.proofs.Common.{◌≡◌, inl, inr, ℕ, Bool, true, false, List, [], ◌∷◌, ◌++◌, length, get_or, Option, is_some, refl, sym, ap, subst, ◌∙◌, append-nil}
use Rattle.sk_model.specs.Missing.{Begins}
use Rattle.sk_model.proofs.Missing.{begins_nil}
use Rattle.sk_compose.specs.Numbers.{k_of}
use Rattle.sk_hub.specs.Updaters.{kept_of}
use Rattle.sk_fill.specs.Windows.{all_lines}
use Rattle.sk_feed.specs.Hubs.{Hub}
use Rattle.sk_read.specs.Reads.{ReadsAll}
use Rattle.sk_read.specs.Units.{units_by}
use Rattle.sk_read.specs.declared.fault.Fault.{Fault}
use Rattle.sk_read.specs.declared.fault.Fault.TheVariants as fault
use Rattle.sk_read.specs.declared.items.Intake.{Intake}
use Rattle.sk_ingest.specs.Ingests.{GoesThrough, Ingests, StopsAtReport, GoesSoFar, StopsAtUnit, EndsEarly}
use Rattle.sk_ingest.specs.declared.report.Stop.TheVariants as stop
use Rattle.sk_count.specs.declared.plan.Plan.{Plan}
use Rattle.sk_count.proofs.MomentLaws.{start, are_moments, no_moments}
use Rattle.sk_count.specs.Reports.{Showing, showing, Breaks}
use Rattle.sk_count.specs.Steps.{intake_with, intake_by, Stands, PassesUnits}
use Rattle.sk_count.specs.Opened.{IsOpened, FeedsAll, FeedsSome, FeedsPart, FeedStops, FeedsEarly}
use Rattle.sk_count.proofs.Course.{took_none, has_handed, terms_at, terms_with, reported, waited, broke}
use Rattle.sk_ingest.proofs.Endings.{ends_so, all_so}

-- before the first window
pub stands_start : (plan : Plan) (a : Hub) (r : Showing) → IsOpened plan a → r.k ≡ plan.k → Stands plan [] start a r
stands_start plan a r opened k = record {
  took = record {
    count = opened.count;
    each = λ i d within. took_none plan i (get_or a.updaters i d) (opened.kept i d within) (opened.size i d within) (ap k_of ((opened.whole.updaters i d within).numbers ∙ opened.numbers));
  };
  token = ap k_of (opened.whole.numbers ∙ opened.numbers);
  k = k;
  seen = begins_nil a.token.view.seen;
  kept = λ i d within. begins_nil (kept_of (get_or a.updaters i d));
  heard = λ i d within. subst (λ l. Begins l (get_or a.updaters i d).view.seen) (sym opened.seen) (begins_nil (get_or a.updaters i d).view.seen);
}

module _ {R : Type 0} (shown : R → Showing) (plan : Plan) (most : ℕ) (a : Hub) (r : R) (opened : IsOpened plan a) (k : (shown r).k ≡ plan.k) where
  stands : Stands plan [] start a (shown r)
  stands = stands_start plan a (shown r) opened k

  pub passed : (interim : Bool) → is_some plan.window ≡ interim → (units rest : List (List ℕ)) (b : Hub) (s : R) → GoesThrough (terms_with shown plan most interim) units a r rest b s → PassesUnits plan units a (shown r) rest b (shown s)
  passed true is units rest b s goes =
      let went = reported shown plan most goes.windows [] goes.windows 0 start a r b s refl refl stands goes.reported in
      record { windows = goes.windows; cut = goes.cut; good = goes.good; passes = went.0; asks = are_moments plan goes.windows went.0.moments is went.1 }
  passed false is units rest b s goes =
      let went = waited shown plan most goes.windows [] goes.windows 0 start a r b s refl stands goes.reported in
      record { windows = goes.windows; cut = goes.cut; good = goes.good; passes = went.0; asks = no_moments plan goes.windows went.0.moments is went.1 }

  pub fed_all : (interim : Bool) → is_some plan.window ≡ interim → (units : List (List ℕ)) (b : Hub) (s : R) → Ingests (terms_with shown plan most interim) units a r b s → FeedsAll plan units a (shown r) b (shown s)
  fed_all interim is units b s ingests = record {
    rest = ingests.rest;
    between = ingests.between;
    passes = passed interim is units ingests.rest ingests.between s ingests.goes;
    last = ingests.last;
    hub = ingests.hub;
  }

  pub fed_part : (interim : Bool) → is_some plan.window ≡ interim → (units : List (List ℕ)) (s : R) → StopsAtReport (terms_with shown plan most interim) stop.Failed units a r s → FeedsPart plan units (shown r) (shown s)
  fed_part false is units s stops = let never : false ≡ true = stops.interim in absurd (cc)
  fed_part true is units s stops =
      let whole : length units ≡ length (all_lines ([] ++ (stops.windows ++ stops.lines ∷ []))) = ap length (stops.cut.joined ∙ append-nil (all_lines (stops.windows ++ stops.lines ∷ []))) in
      let handed = has_handed plan (intake_with plan most true) stops.fed refl stops.ready in
      let went = broke shown plan most stops.windows [] 0 start stops.lines a r stops.before stops.report stops.fed stops.left s refl stands stops.reported stops.feeds handed (subst (λ n. Breaks (shown stops.report) n stops.fed stops.left (shown s)) whole stops.stops) in
      record {
        windows = stops.windows ++ stops.lines ∷ [];
        earlier = went.0;
        last = went.1;
        cut = stops.cut;
        good = stops.good;
        are = are_moments plan (stops.windows ++ stops.lines ∷ []) (went.0 ++ went.1 ∷ []) is went.2;
        written = went.3;
        places = went.4;
      }

-- ---- a source that was read

module _ {R : Type 0} (r s : R) (shown : R → Showing) (plan : Plan) (most : ℕ) (a : Hub) (opened : IsOpened plan a) (k : (shown r).k ≡ plan.k) (left left' : Option (List ℕ)) (intake : Intake) (is : intake ≡ intake_by plan most) where
  first : Showing
  first = showing plan.k (shown r).written (shown r).places

  last : Showing
  last = showing plan.k (shown s).written (shown s).places

  from : shown r ≡ showing plan.k (shown r).written (shown r).places
  from = ap (λ z. showing z (shown r).written (shown r).places) k

  some_fed : (units : List (List ℕ)) → GoesSoFar (terms_at shown (intake_by plan most)) a r s units → FeedsSome plan a (showing plan.k (shown r).written (shown r).places) (showing plan.k (shown s).written (shown s).places) units
  some_fed units (rest, b, goes) =
      let p = passed shown plan most a r opened k (is_some plan.window) refl units rest b s goes in
      let p1 = subst (λ z. PassesUnits plan units a z rest b (shown s)) from p in
      (rest, b, subst (λ z. PassesUnits plan units a (showing plan.k (shown r).written (shown r).places) rest b (showing z (shown s).written (shown s).places)) p.passes.stands.k p1)

  stopped : (f : Fault) (units : List (List ℕ)) (unit : List ℕ) → StopsAtUnit (terms_at shown (intake_by plan most)) a r s f units unit → FeedStops plan a (showing plan.k (shown r).written (shown r).places) (showing plan.k (shown s).written (shown s).places) f units unit
  stopped (fault.BadItem n) units unit t = (some_fed units t.0, t.1, t.2)
  stopped fault.WriteFault units unit t =
      let p = fed_part shown plan most a r opened k (is_some plan.window) refl (units ++ unit ∷ []) s t in
      record { windows = p.windows; earlier = p.earlier; last = p.last; cut = p.cut; good = p.good; are = p.are; written = p.written; places = p.places }
  stopped fault.OutOfMemory units unit (inl t) = some_fed units t
  stopped fault.OutOfMemory units unit (inr t) = absurd t.stops
  stopped fault.ReadFault units unit t = absurd t
  stopped fault.TooMuch units unit t = absurd t
  stopped (fault.LongLine n) units unit t = absurd t
  stopped (fault.BadCsv n) units unit t = absurd t

  pub fed_early : (last : ℕ) (f : Fault) → EndsEarly (terms_at shown intake) last (units_by intake.column) left left' a r s f → FeedsEarly plan last most a (showing plan.k (shown r).written (shown r).places) (showing plan.k (shown s).written (shown s).places) left left' f
  fed_early last f early = by_cases (subst (λ i. EndsEarly (terms_at shown i) last (units_by i.column) left left' a r s f) is early)
    where
      by_cases : EndsEarly (terms_at shown (intake_by plan most)) last (units_by plan.column) left left' a r s f → FeedsEarly plan last most a (showing plan.k (shown r).written (shown r).places) (showing plan.k (shown s).written (shown s).places) left left' f
      by_cases (inl ends) = inl (ends_so (units_by plan.column) most _ _ _ _ some_fed stopped _ left left' f ends)
      by_cases (inr (none, (n, reads))) = inr (none, (n, all_so (units_by plan.column) most _ _ _ _ some_fed stopped n left left' reads))

  pub fed_whole : (n : ℕ) (b : Hub) → ReadsAll (units_by intake.column) intake.most n (λ units. Ingests (terms_at shown intake) units a r b s) left left'
      → (m : ℕ) × ReadsAll (units_by plan.column) most m (λ units. FeedsAll plan units a (showing plan.k (shown r).written (shown r).places) b (showing plan.k (shown s).written (shown s).places)) left left'
  fed_whole n b reads = (
    n,
    all_so (units_by plan.column) most (λ units. Ingests (terms_at shown (intake_by plan most)) units a r b s) _ (λ f units unit. ⊥) (λ f units unit. ⊥) whole (λ f units unit no. no) n left left'
        (subst (λ i. ReadsAll (units_by i.column) i.most n (λ units. Ingests (terms_at shown i) units a r b s) left left') is reads),
  )
    where
      whole : (units : List (List ℕ)) → Ingests (terms_at shown (intake_by plan most)) units a r b s → FeedsAll plan units a (showing plan.k (shown r).written (shown r).places) b (showing plan.k (shown s).written (shown s).places)
      whole units i =
          let p = fed_all shown plan most a r opened k (is_some plan.window) refl units b s i in
          let p1 = subst (λ z. FeedsAll plan units a z b (shown s)) from p in
          subst (λ z. FeedsAll plan units a (showing plan.k (shown r).written (shown r).places) b (showing z (shown s).written (shown s).places)) p.passes.passes.stands.k p1
