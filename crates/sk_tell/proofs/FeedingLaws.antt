-- What a telling concludes of the lines that were fed.
use Rattle.std.proofs.Common.{◌≡◌, inl, inr, ℕ, ◌-◌, Bool, true, false, if◌then◌else◌, List, [], ◌∷◌, ◌++◌, length, take, get_or, All, Option, is_some, refl, sym, ap, subst, ◌∙◌, arith, append-nil}
use Rattle.std.specs.Io.KnownBytes.{Appends}
use Rattle.std.proofs.KnownBytes.{Appends-nil}
use Rattle.std.proofs.lemmas.List.{take_all}
use Rattle.std.proofs.lemmas.List.Elements.{All-nil}
use Rattle.sk_model.specs.Entries.{entries_by}
use Rattle.sk_model.specs.Missing.{Begins}
use Rattle.sk_model.proofs.Missing.{begins_nil}
use Rattle.sk_hub.specs.Updaters.{UpdaterState, handed_of, kept_of, earlier_of}
use Rattle.sk_read.specs.Items.{IsGood}
use Rattle.sk_read.specs.Reads.{ReadsAll}
use Rattle.sk_read.specs.Units.{units_by}
use Rattle.sk_read.specs.declared.fault.Fault.{Fault}
use Rattle.sk_read.specs.declared.fault.Fault.TheVariants as fault
use Rattle.sk_read.specs.declared.items.Intake.{Intake}
use Rattle.sk_fill.specs.Windows.{all_lines}
use Rattle.sk_feed.specs.Hubs.{Hub}
use Rattle.sk_ingest.specs.Ingests.{GoesThrough, Ingests, StopsAtReport, GoesSoFar, StopsAtUnit, EndsEarly}
use Rattle.sk_ingest.specs.declared.report.Stop.TheVariants as stop
use Rattle.sk_fill.proofs.Cutting.{no_units}
use Rattle.sk_ingest.proofs.Ingestion.{heart_by_ingest}
use Rattle.sk_fill.proofs.Readings.{nothing_came}
use Rattle.sk_feed.proofs.Shares.{share_none}
use Rattle.sk_ingest.proofs.Endings.{ends_so, all_so}
use Rattle.sk_ingest.proofs.QuietLaws.{quiet_early}
use Rattle.sk_snap.specs.History.{entries_in, name_of}
use Rattle.sk_model.specs.Limits.{IsFrom}
use Rattle.sk_fill.specs.Windows.{most_lines}
use Rattle.sk_tell.specs.Manners.{Manner, lines_of_window, intake_by, buffer_size_by, share_of}
use Rattle.sk_tell.specs.Moments.{Moment, AreMoments}
use Rattle.sk_tell.proofs.MomentLaws.{are_moments, no_moments}
use Rattle.sk_tell.specs.Reports.{Showing, Breaks}
use Rattle.sk_tell.specs.Texts.{interim_text}
use Rattle.sk_tell.specs.Feeding.{IsOpened, IsNewReader, Course, Fed}
use Rattle.sk_tell.specs.Endings.{Setting, setting, ReadsUnits, TellsSoFar, TellsPart, StopsFor, EndsBefore, EndsAfter, EndsAt}
use Rattle.sk_tell.proofs.Course.{Basis, manner_of, StandsBy, PassesBy, terms_at, terms_with, reported, waited, broke, stands_fed}

nothing_before : (u : UpdaterState) → kept_of u ≡ [] → earlier_of u ≡ []
nothing_before u none = go (handed_of u) none
  where
    go : (l : List ℕ) → l ++ u.fill ≡ [] → take (length l - u.last) l ≡ []
    go [] is = take_all (0 - u.last) [] (omega arith)
    go (x ∷ l) is = let no : length (x ∷ (l ++ u.fill)) ≡ 0 = ap length is in absurd (omega arith)

-- before the first window
pub stands_start : {A Q : Type 0} (k : Basis A Q) (a : Hub) (r : Showing Q) → IsOpened k.telling.updaters (buffer_size_by k.telling.window k.telling.size) a → IsNewReader k.numbers a.heart.view.name r.reader → r.query ≡ k.telling.query → StandsBy k [] [] a r
stands_start k a r opened new query = record {
  count = opened.count;
  took = λ i d within. let idle = opened.idle i d within in record {
    number = (opened.whole.updaters i d within).number;
    kept = idle.kept ∙ sym (share_none k.telling.kind k.telling.updaters i);
    size = idle.size_is;
    knows = λ _. subst (λ l. Begins l (entries_by i (entries_in r.reader.known))) (sym (nothing_before (get_or a.updaters i d) idle.kept)) (begins_nil (entries_by i (entries_in r.reader.known)));
  };
  query_is = query;
  numbers = new.numbers_are;
  began = begins_nil (entries_in r.reader.known);
}

-- ---- a source that was read

module _ {A Q R : Type 0} (k : Basis A Q) (r s : R) (shown : R → Showing Q) (most : ℕ) (a : Hub) (opened : IsOpened k.telling.updaters (buffer_size_by k.telling.window k.telling.size) a) (new : IsNewReader k.numbers a.heart.view.name (shown r).reader) (query : (shown r).query ≡ k.telling.query) (left left' : Option (List ℕ)) where
  abbrev manner : Manner
  manner = manner_of k

  abbrev intake : Intake
  intake = intake_by k.telling most

  abbrev old : Setting
  old = setting left (shown r).written

  abbrev new_one : Setting
  new_one = setting left' (shown s).written

  stands : StandsBy k [] [] a (shown r)
  stands = stands_start k a (shown r) opened new query

  passed : (interim : Bool) → is_some k.telling.window ≡ interim → (units rest : List (List ℕ)) (b : Hub) → GoesThrough (terms_with k shown most interim) units a r rest b s
      → (windows : List (List (List ℕ))) × (p : PassesBy k windows (shown r) b (shown s)) × (c : Course manner units) × (c.windows ≡ windows) × (c.rest ≡ rest) × (c.moments ≡ p.moments)
  passed true is units rest b goes =
      let went = reported k shown most goes.windows [] goes.windows 0 [] a r b s refl refl stands goes.reported in
      (goes.windows, went.0, record { windows = goes.windows; rest = rest; moments = went.0.moments; good = goes.good; cut = goes.cut; asks = are_moments manner goes.windows went.0.moments is went.1 }, refl, refl, refl)
  passed false is units rest b goes =
      let went = waited k shown most goes.windows [] goes.windows 0 [] a r b s refl stands goes.reported in
      (goes.windows, went.0, record { windows = goes.windows; rest = rest; moments = went.0.moments; good = goes.good; cut = goes.cut; asks = no_moments manner goes.windows went.0.moments is went.1 }, refl, refl, refl)

  so_far : (units : List (List ℕ)) → GoesSoFar (terms_at k shown intake) a r s units → TellsSoFar manner old new_one units
  so_far units (rest, b, goes) =
      let (windows, p, course, is, same, told) = passed (is_some k.telling.window) refl units rest b goes in
      record { course = course; written = subst (λ m. Appends (shown r).written (shown s).written (interim_text manner m)) (sym told) p.written }

  part : (interim : Bool) → is_some k.telling.window ≡ interim → (units : List (List ℕ)) → StopsAtReport (terms_with k shown most interim) stop.Failed units a r s → TellsPart manner old new_one units
  part false is units stops = let never : false ≡ true = stops.interim in absurd (cc)
  part true is units stops =
      let whole : length units ≡ length (all_lines ([] ++ (stops.windows ++ stops.lines ∷ []))) = ap length (stops.cut.joined ∙ append-nil (all_lines (stops.windows ++ stops.lines ∷ []))) in
      let went = broke k shown most stops.windows [] 0 [] stops.lines a r stops.before stops.report stops.fed stops.left s refl stands stops.reported stops.feeds (subst (λ n. Breaks k.line k.lower k.upper (shown stops.report) n stops.fed stops.left (shown s)) whole stops.stops) in
      record {
        course = record { windows = stops.windows ++ stops.lines ∷ []; rest = []; moments = went.0 ++ went.1 ∷ []; good = stops.good; cut = stops.cut; asks = are_moments manner (stops.windows ++ stops.lines ∷ []) (went.0 ++ went.1 ∷ []) is went.2 };
        full = refl;
        earlier = went.0;
        last = went.1;
        moments = refl;
        written = went.3;
      }

  stopped : (f : Fault) (units : List (List ℕ)) (unit : List ℕ) → StopsAtUnit (terms_at k shown intake) a r s f units unit → StopsFor manner old new_one f units unit
  stopped (fault.BadItem n) units unit t = (so_far units t.0, t.1, t.2)
  stopped fault.WriteFault units unit t = part (is_some k.telling.window) refl (units ++ unit ∷ []) t
  stopped fault.OutOfMemory units unit (inl t) = so_far units t
  stopped fault.OutOfMemory units unit (inr t) = absurd t.stops
  stopped fault.ReadFault units unit t = absurd t
  stopped fault.TooMuch units unit t = absurd t
  stopped (fault.LongLine n) units unit t = absurd t
  stopped (fault.BadCsv n) units unit t = absurd t

  module _ (plan : Intake) (is : plan ≡ intake_by k.telling most) where
    pub ended_early : (last : ℕ) (f : Fault) → EndsEarly (terms_at k shown plan) last (units_by plan.column) left left' a r s f → EndsAt manner last most old new_one f
    ended_early last f early = by_cases (subst (λ i. EndsEarly (terms_at k shown i) last (units_by i.column) left left' a r s f) is early)
      where
        by_cases : EndsEarly (terms_at k shown intake) last (units_by k.telling.column) left left' a r s f → EndsAt manner last most old new_one f
        by_cases (inl ends) = inl (ends_so (units_by k.telling.column) most _ _ _ _ so_far stopped _ left left' f ends)
        by_cases (inr (none, (n, reads))) = inr (subst (EndsAfter manner most old new_one) (sym none) (n, all_so (units_by k.telling.column) most _ _ _ _ so_far stopped n left left' reads))

    all_fed : (b : Hub) (units : List (List ℕ)) → Ingests (terms_at k shown intake) units a r b s → Fed manner (shown r).written (shown s).written b (shown s).reader units
    all_fed b units i =
        let (windows, p, course, w, rest, told) = passed (is_some k.telling.window) refl units i.rest i.between i.goes in
        let at_end = stands_fed k windows p.last i.rest i.between b (shown s) p.stands i.last in
        let heart = heart_by_ingest (terms_at k shown intake) units a b r s i in
        record {
          course = course;
          written = subst (λ m. Appends (shown r).written (shown s).written (interim_text manner m)) (sym told) p.written;
          seen = subst (λ m. All (λ z. Begins z.list (entries_in (shown s).reader.known)) m) (sym told) p.seen;
          count = at_end.count;
          kept = λ j d within. subst (λ ws. kept_of (get_or b.updaters j d) ≡ share_of manner ws j) (λ e. sym w e ++ sym rest e ∷ []) (at_end.took j d within).kept;
          drained = ap (λ v. v.drained) heart.knows.view ∙ opened.drained;
          whole = i.hub;
          name = ap (λ v. v.name) heart.knows.view ∙ new.name_is ∙ ap name_of (sym p.goes.book);
          numbers = at_end.numbers;
        }

    pub fed_whole : (n : ℕ) (b : Hub) → ReadsAll (units_by plan.column) plan.most n (λ units. Ingests (terms_at k shown plan) units a r b s) left left'
        → ReadsUnits k.telling.column most (Fed manner (shown r).written (shown s).written b (shown s).reader) left left'
    fed_whole n b reads = (
      n,
      all_so (units_by k.telling.column) most (λ units. Ingests (terms_at k shown intake) units a r b s) _ (λ f units unit. ⊥) (λ f units unit. ⊥) (all_fed b) (λ f units unit no. no) n left left'
          (subst (λ i. ReadsAll (units_by i.column) i.most n (λ units. Ingests (terms_at k shown i) units a r b s) left left') is reads),
    )

-- where no window is asked for the report stays as it was
pub quiet_whole : {A Q R : Type 0} (k : Basis A Q) (r s : R) (shown : R → Showing Q) (a : Hub) (left left' : Option (List ℕ)) (intake : Intake) → intake.interim ≡ false → (n : ℕ) (b : Hub)
    → ReadsAll (units_by intake.column) intake.most n (λ units. Ingests (terms_at k shown intake) units a r b s) left left' → s ≡ r
quiet_whole k r s shown a left left' intake silent n b reads =
    quiet_early (terms_at k shown intake) silent r s 0 (units_by intake.column) left left' a fault.OutOfMemory
    (inr (refl, (n, all_so (units_by intake.column) intake.most (λ units. Ingests (terms_at k shown intake) units a r b s) (GoesSoFar (terms_at k shown intake) a r s) (λ f units unit. ⊥) (λ f units unit. ⊥) (λ units i. (i.rest, i.between, i.goes)) (λ f units unit no. no) n left left' reads)))

-- ---- before the first line

none : List Moment
none = []

-- nor is a moment due before the first window
none_due : (manner : Manner) → AreMoments manner [] none
unfolding none
none_due manner = record {
  count = as_few (is_some manner.window);
  grows = λ i j d less within. absurd (omega arith);
  each = λ j d within. absurd (omega arith);
}
  where
    as_few : (b : Bool) → ◌≡◌ {A = ℕ} 0 (if b then 0 else 0)
    as_few true = refl
    as_few false = refl

nothing_told : (manner : Manner) (left w : Option (List ℕ)) → IsFrom 1 most_lines (lines_of_window manner) → TellsSoFar manner (setting left w) (setting left w) []
unfolding interim_text none
nothing_told manner left w within = record {
  course = record { windows = []; rest = []; moments = []; good = All-nil (IsGood manner.kind); cut = no_units (lines_of_window manner) within.0; asks = none_due manner };
  written = Appends-nil w;
}

pub nothing_read : (last : ℕ) (manner : Manner) (most : ℕ) (left w : Option (List ℕ)) → IsFrom 1 most_lines (lines_of_window manner) → EndsBefore manner last most (setting left w) (setting left w) fault.OutOfMemory
nothing_read last manner most left w within =
    nothing_came _ (TellsSoFar manner (setting left w) (setting left w)) (StopsFor manner (setting left w) (setting left w)) (units_by manner.column) most left (nothing_told manner left w within)
