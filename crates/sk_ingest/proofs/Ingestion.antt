-- Units that are fed to a hub, one after another.
use Rattle.std.proofs.Common.{◌≡◌, inl, inr, ⊎_elim, ℕ, ◌+◌, ◌≤◌, Bool, true, false, List, [], ◌∷◌, ◌++◌, length, get_or, take, Option, Result, Ok, Err, IfErr, IsErrAnd, sym, ap, refl, ◌∙◌, subst, arith, length-append}
use Rattle.std.proofs.lemmas.Bool.{MatchBool-at_true, MatchBool-at_false, cases_Bool}
use Rattle.std.proofs.lemmas.List.{take_all}
use Rattle.std.proofs.lemmas.List.Elements.{All-nil, All-push}
use Rattle.sk_model.specs.Entries.{Entry}
use Rattle.sk_read.specs.Items.{IsGood}
use Rattle.sk_read.specs.Reads.{Reads}
use Rattle.sk_read.specs.declared.fault.Fault.{Fault}
use Rattle.sk_read.specs.declared.fault.Fault.TheVariants as fault
use Rattle.sk_read.specs.declared.items.Intake.{Intake}
use Rattle.sk_read.specs.declared.units.Units.{Units}
use Rattle.sk_model.specs.Limits.{most_kept}
use Rattle.sk_read.specs.declared.kind.Kind.{Kind}
use Rattle.sk_hub.specs.Updaters.{UpdaterState}
use Rattle.sk_fill.specs.Windows.{fills, AreWindows, all_lines}
use Rattle.sk_feed.specs.Rounds.{HaveFew}
use Rattle.sk_feed.specs.Hubs.{Hub, IsHub, HeartGoesOn, LeavesHub, IsLeft}
use Rattle.sk_feed.specs.Shares.{KeepsMore, KeepShares}
use Rattle.sk_ingest.specs.Ingests.{Terms, terms_of, Feeds, IsReady, IsReported, Reported, GoesThrough, Ingests, StopsAtReport, StopsAtUnit}
use Rattle.sk_ingest.specs.Takers.{WindowsWent, StopsPassing}
use Rattle.sk_ingest.specs.Stops.{fault_by}
use Rattle.sk_ingest.specs.declared.report.Stop.{Stop}
use Rattle.sk_ingest.specs.declared.report.Stop.TheVariants as stop
use Rattle.sk_fill.proofs.Readings.{reads_by}
use Rattle.sk_fill.proofs.Cutting.{no_units, unit_left, unit_fills, all_lines_more}
use Rattle.sk_feed.proofs.HubLaws.{heart_waits, heart_goes, hub_fed, kept_left, few_left, few_fed, few_stay}
use Rattle.sk_feed.proofs.Shares.{share_none, shares_kept, no_shares_kept, kept_add_up, keeps_left}

-- ---- one window more

pub no_windows : {R : Type 0} (t : Terms R) (before : ℕ) (a : Hub) (r : R) → Reported t before [] a r a r
unfolding Reported
no_windows t before a r = (refl, refl)

pub reported_next : {R : Type 0} (t : Terms R) (before : ℕ) (windows : List (List (List ℕ))) (lines : List (List ℕ)) (a b x y : Hub) (r s p : R) → Reported t before windows a r b s → Feeds t lines b x → IsReported t (before + (length (all_lines windows) + length lines)) x s y p → Reported t before (windows ++ lines ∷ []) a r y p
unfolding Reported
reported_next {R} t before [] lines a b x y r s p none fed told =
    let place : before + (0 + length lines) ≡ before + length lines = omega arith in
    (x, y, p, subst (λ h. Feeds t lines h x) none.0 fed, subst (λ (z : R). IsReported t (before + length lines) x z y p) none.1 (subst (λ n. IsReported t n x s y p) place told), (refl, refl))
reported_next {R} t before (first ∷ more) lines a b x y r s p has fed told =
    (has.0, has.1, has.2, has.3, has.4, reported_next t (before + length first) more lines has.1 b x y has.2 s p has.5 fed (subst (λ n. IsReported t n x s y p) place told))
  where
    place : before + (length (all_lines (first ∷ more)) + length lines) ≡ before + length first + (length (all_lines more) + length lines)
    place = omega (arith, length-append first (all_lines more))

-- ---- one unit more

pub windows_start : {R : Type 0} (t : Terms R) (a : Hub) (r : R) → 1 ≤ t.plan.window → IsHub a → HaveFew 0 [] a.updaters → WindowsWent t [] a r [] a r
windows_start t a r least hub few = record {
  goes = record { windows = []; cut = no_units t.plan.window least; good = All-nil (IsGood t.plan.kind); reported = no_windows t 0 a r };
  hub = hub;
  small = omega arith;
  few = few;
}

pub one_unit_more : (units : List (List ℕ)) (unit : List ℕ) → length (units ++ unit ∷ []) ≡ length units + 1
one_unit_more units unit = omega (arith, length-append units (unit ∷ []))

-- it goes to the rest
pub unit_waits : {R : Type 0} (t : Terms R) (units : List (List ℕ)) (unit : List ℕ) (a b : Hub) (r s : R) (rest : List (List ℕ)) → WindowsWent t units a r rest b s → length units + 1 ≤ most_kept → IsGood t.plan.kind unit → fills t.plan.window (rest ++ unit ∷ []) ≡ false → WindowsWent t (units ++ unit ∷ []) a r (rest ++ unit ∷ []) b s
unit_waits t units unit a b r s rest went small good still = record {
  goes = record {
    windows = went.goes.windows;
    cut = unit_left t.plan.window units unit went.goes.windows rest went.goes.cut still;
    good = All-push (IsGood t.plan.kind) units unit went.goes.good good;
    reported = went.goes.reported;
  };
  hub = went.hub;
  small = omega (arith, small, one_unit_more units unit);
  few = subst (λ n. HaveFew n (rest ++ unit ∷ []) b.updaters) (sym (one_unit_more units unit)) (few_left (length units) rest unit b.updaters went.few);
}

-- if a unit fills a window, that window ends after it
pub place_is : (most : ℕ) (units : List (List ℕ)) (unit : List ℕ) (windows : List (List (List ℕ))) (rest : List (List ℕ)) → AreWindows most units windows rest → length (units ++ unit ∷ []) ≡ 0 + (length (all_lines windows) + length (rest ++ unit ∷ []))
place_is most units unit windows rest cut =
    omega (arith, ap length cut.joined, length-append units (unit ∷ []), length-append (all_lines windows) rest, length-append rest (unit ∷ []))

-- whether the hub was reported or not
by_report : {R Q : Type 0} (t : Terms R) (line : ℕ) (x : Hub) (s : R) (y : Hub) (p : R) → IsReported t line x s y p → (IsReady t.plan x × LeavesHub x y × IsHub y × t.reports s line x y p → Q) → ((y ≡ x) × (p ≡ s) → Q) → Q
by_report t line x s y p told reported still = ⊎_elim (λ wanted. reported (MatchBool-at_true _ _ wanted told)) (λ silent. still (MatchBool-at_false _ _ silent told)) (cases_Bool t.plan.interim)

-- what a report leaves if it went well
reported_hub : {R : Type 0} (t : Terms R) (line count : ℕ) (x y : Hub) (s p : R) → IsHub x → HaveFew count [] x.updaters → IsReported t line x s y p → IsHub y × HaveFew count [] y.updaters
reported_hub t line count x y s p hub few told = by_report t line x s y p told
    (λ reported. (reported.2, few_stay count x y few reported.1))
    (λ same. (subst IsHub (sym same.0) hub, subst (λ h. HaveFew count [] h.updaters) (sym same.0) few))

-- it fills the window, which is fed and reported
pub unit_goes : {R : Type 0} (t : Terms R) (units : List (List ℕ)) (unit : List ℕ) (a b x y : Hub) (r s p : R) (rest : List (List ℕ)) → WindowsWent t units a r rest b s → length units + 1 ≤ most_kept → IsGood t.plan.kind unit → 1 ≤ t.plan.window → fills t.plan.window (rest ++ unit ∷ []) ≡ true
    → Feeds t (rest ++ unit ∷ []) b x → IsReported t (length units + 1) x s y p → WindowsWent t (units ++ unit ∷ []) a r [] y p
unit_goes t units unit a b x y r s p rest went small good least full fed told = record {
  goes = record {
    windows = went.goes.windows ++ (rest ++ unit ∷ []) ∷ [];
    cut = unit_fills t.plan.window units unit went.goes.windows rest least went.goes.cut full;
    good = All-push (IsGood t.plan.kind) units unit went.goes.good good;
    reported = reported_next t 0 went.goes.windows (rest ++ unit ∷ []) a b x y r s p went.goes.reported fed
        (subst (λ n. IsReported t n x s y p) (sym (one_unit_more units unit) ∙ place_is t.plan.window units unit went.goes.windows rest went.goes.cut) told);
  };
  hub = left.0;
  small = omega (arith, small, one_unit_more units unit);
  few = left.1;
}
  where
    few : HaveFew (length (units ++ unit ∷ [])) [] x.updaters
    few = few_fed t.keeps t.hint_of t.plan.kind (length (units ++ unit ∷ [])) (rest ++ unit ∷ []) b.updaters x.updaters
        (subst (λ n. HaveFew n (rest ++ unit ∷ []) b.updaters) (sym (one_unit_more units unit)) (few_left (length units) rest unit b.updaters went.few)) fed.updaters

    left : IsHub y × HaveFew (length (units ++ unit ∷ [])) [] y.updaters
    left = reported_hub t (length units + 1) (length (units ++ unit ∷ [])) x y s p (hub_fed t.plan.propagator t.keeps t.hint_of t.plan.kind (rest ++ unit ∷ []) b x went.hub fed) few told

-- and where its report stopped
pub report_stops : {R : Type 0} (t : Terms R) (how : Stop) (units : List (List ℕ)) (unit : List ℕ) (a b x y : Hub) (r s p : R) (rest : List (List ℕ)) → WindowsWent t units a r rest b s → IsGood t.plan.kind unit → 1 ≤ t.plan.window → fills t.plan.window (rest ++ unit ∷ []) ≡ true
    → Feeds t (rest ++ unit ∷ []) b x → IsReady t.plan x → t.plan.interim ≡ true → t.breaks s how (length units + 1) x y p → StopsAtReport t how (units ++ unit ∷ []) a r p
report_stops t how units unit a b x y r s p rest went good least full fed ready interim stops = record {
  windows = went.goes.windows;
  lines = rest ++ unit ∷ [];
  cut = unit_fills t.plan.window units unit went.goes.windows rest least went.goes.cut full;
  good = All-push (IsGood t.plan.kind) units unit went.goes.good good;
  interim = interim;
  before = b;
  report = s;
  reported = went.goes.reported;
  fed = x;
  feeds = fed;
  ready = ready;
  left = y;
  stops = subst (λ n. t.breaks s how n x y p) (sym (one_unit_more units unit)) stops;
}

-- why a window whose report stopped was not passed on
pub passing_stops : {R : Type 0} (t : Terms R) (lines : List (List ℕ)) (line : ℕ) (a x y : Hub) (r s : R) (how : Stop) (result : Result (Unit {0}) Fault)
    → IsErrAnd result (λ why. why ≡ fault_by how) → Feeds t lines a x → IsReady t.plan x → t.plan.interim ≡ true → t.breaks r how line x y s → IfErr result (StopsPassing t lines line a r s)
passing_stops t lines line a x y r s how (Ok none) is fed ready interim stops = tt
passing_stops t lines line a x y r s stop.Failed (Err why) is fed ready interim stops = subst (λ (f : Fault). StopsPassing t lines line a r s f) (sym is) (x, y, fed, ready, interim, stops)
passing_stops t lines line a x y r s stop.OutOfMemory (Err why) is fed ready interim stops = subst (λ (f : Fault). StopsPassing t lines line a r s f) (sym is) (inr (x, y, fed, ready, interim, stops))

-- so it stops if a full window is not passed on
pub pass_stops : {R : Type 0} (t : Terms R) (units : List (List ℕ)) (unit : List ℕ) (a b : Hub) (r s p : R) (rest : List (List ℕ)) (why : Fault) → WindowsWent t units a r rest b s → IsGood t.plan.kind unit → 1 ≤ t.plan.window → fills t.plan.window (rest ++ unit ∷ []) ≡ true
    → StopsPassing t (rest ++ unit ∷ []) (length units + 1) b s p why → StopsAtUnit t a r p why units unit
pass_stops {R} t units unit a b r s p rest fault.OutOfMemory went good least full (inl same) = inl (rest, b, subst (λ (z : R). GoesThrough t units a r rest b z) (sym same) went.goes)
pass_stops t units unit a b r s p rest fault.OutOfMemory went good least full (inr stops) = inr (report_stops t stop.OutOfMemory units unit a b stops.0 stops.1 r s p rest went good least full stops.2 stops.3 stops.4 stops.5)
pass_stops t units unit a b r s p rest fault.WriteFault went good least full stops = report_stops t stop.Failed units unit a b stops.0 stops.1 r s p rest went good least full stops.2 stops.3 stops.4 stops.5
pass_stops t units unit a b r s p rest fault.ReadFault went good least full stops = absurd stops
pass_stops t units unit a b r s p rest fault.TooMuch went good least full stops = absurd stops
pass_stops t units unit a b r s p rest (fault.LongLine n) went good least full stops = absurd stops
pass_stops t units unit a b r s p rest (fault.BadItem n) went good least full stops = absurd stops
pass_stops t units unit a b r s p rest (fault.BadCsv n) went good least full stops = absurd stops

-- a window that takes a further line is not full
pub not_full : (most own : ℕ) (units : List (List ℕ)) (windows : List (List (List ℕ))) (rest : List (List ℕ)) → own ≡ most → AreWindows most units windows rest → fills own rest ≡ false
not_full most own units windows rest is cut =
    let all : take (length rest) rest ≡ rest = take_all (length rest) rest (omega arith) in
    ap (λ m. fills m rest) is ∙ sym (ap (fills most) all) ∙ cut.unfilled (length rest) (omega arith)

-- whether a window with one line more is full
pub full_is : (most own own' : ℕ) (lines lines' : List (List ℕ)) (line : List ℕ) (tells full : Bool) → own' ≡ own → own ≡ most → lines' ≡ lines ++ line ∷ [] → tells ≡ fills own' lines' → tells ≡ full → fills most (lines ++ line ∷ []) ≡ full
full_is most own own' lines lines' line tells full same is more told answer =
    ap (λ m. fills m (lines ++ line ∷ [])) (sym (same ∙ is)) ∙ ap (fills own') (sym more) ∙ sym told ∙ answer

-- ---- the rest

pub rest_fed : {R : Type 0} (t : Terms R) (units : List (List ℕ)) (a b x : Hub) (r s : R) (rest : List (List ℕ)) → WindowsWent t units a r rest b s → Feeds t rest b x → Ingests t units a r x s
rest_fed t units a b x r s rest went fed = record {
  rest = rest;
  between = b;
  goes = went.goes;
  last = fed;
  hub = hub_fed t.plan.propagator t.keeps t.hint_of t.plan.kind rest b x went.hub fed;
}

-- ---- what was kept on the way

heart_told : {R : Type 0} (t : Terms R) (line : ℕ) (x y : Hub) (s p : R) → IsReported t line x s y p → HeartGoesOn x.heart y.heart
heart_told t line x y s p told = by_report t line x s y p told (λ reported. reported.1.heart) (λ same. subst (λ h. HeartGoesOn x.heart h.heart) (sym same.0) (heart_waits x.heart))

pub heart_by_reported : {R : Type 0} (t : Terms R) (before : ℕ) (windows : List (List (List ℕ))) (a b : Hub) (r s : R) → Reported t before windows a r b s → HeartGoesOn a.heart b.heart
unfolding Reported
heart_by_reported t before [] a b r s has = subst (λ h. HeartGoesOn a.heart h.heart) (sym has.0) (heart_waits a.heart)
heart_by_reported t before (lines ∷ more) a b r s has =
    heart_goes a.heart has.0.heart b.heart has.3.heart.goes
    (heart_goes has.0.heart has.1.heart b.heart (heart_told t (before + length lines) has.0 has.1 r has.2 has.4) (heart_by_reported t (before + length lines) more has.1 b has.2 s has.5))

left_kept : (keeps : ℕ → ℕ → Bool) (hint_of : List ℕ → List Entry → ℕ) (u u' : UpdaterState) → IsLeft u u' → KeepsMore keeps hint_of u [] u'
left_kept keeps hint_of u u' left = keeps_left keeps hint_of u u' (ap (λ z. z.number) left.stays) (ap (λ z. z.size) left.stays) (ap (λ z. z.table) left.stays) left.numbers left.base (kept_left u u' left)

kept_left_hub : (keeps : ℕ → ℕ → Bool) (hint_of : List ℕ → List Entry → ℕ) (kind : Kind) (x y : Hub) → LeavesHub x y → KeepShares keeps hint_of kind [] x.updaters y.updaters
kept_left_hub keeps hint_of kind x y leaves = record {
  count = leaves.count;
  each = λ i d within. subst (λ l. KeepsMore keeps hint_of (get_or x.updaters i d) l (get_or y.updaters i d)) (sym (share_none kind (length x.updaters) i)) (left_kept keeps hint_of (get_or x.updaters i d) (get_or y.updaters i d) (leaves.updaters i d within));
}

kept_told : {R : Type 0} (t : Terms R) (line : ℕ) (x y : Hub) (s p : R) → IsReported t line x s y p → KeepShares t.keeps t.hint_of t.plan.kind [] x.updaters y.updaters
kept_told t line x y s p told = by_report t line x s y p told
    (λ reported. kept_left_hub t.keeps t.hint_of t.plan.kind x y reported.1)
    (λ same. subst (λ h. KeepShares t.keeps t.hint_of t.plan.kind [] x.updaters h.updaters) (sym same.0) (no_shares_kept t.keeps t.hint_of t.plan.kind x.updaters))

-- each updater has kept of its share of all windows what is not filtered
pub kept_by_reported : {R : Type 0} (t : Terms R) (before : ℕ) (windows : List (List (List ℕ))) (a b : Hub) (r s : R) → Reported t before windows a r b s → KeepShares t.keeps t.hint_of t.plan.kind windows a.updaters b.updaters
unfolding Reported
kept_by_reported t before [] a b r s has = subst (λ h. KeepShares t.keeps t.hint_of t.plan.kind [] a.updaters h.updaters) (sym has.0) (no_shares_kept t.keeps t.hint_of t.plan.kind a.updaters)
kept_by_reported t before (lines ∷ more) a b r s has =
    kept_add_up t.keeps t.hint_of t.plan.kind (lines ∷ []) more a.updaters has.1.updaters b.updaters
    (kept_add_up t.keeps t.hint_of t.plan.kind (lines ∷ []) [] a.updaters has.0.updaters has.1.updaters (shares_kept t.keeps t.hint_of t.plan.kind (lines ∷ []) a.updaters has.0.updaters has.3.updaters)
    (kept_told t (before + length lines) has.0 has.1 r has.2 has.4))
    (kept_by_reported t (before + length lines) more has.1 b has.2 s has.5)

-- and so with the rest
pub kept_by_ingest : {R : Type 0} (t : Terms R) (units : List (List ℕ)) (a b : Hub) (r s : R) (i : Ingests t units a r b s) → KeepShares t.keeps t.hint_of t.plan.kind (i.goes.windows ++ i.rest ∷ []) a.updaters b.updaters
kept_by_ingest t units a b r s i =
    kept_add_up t.keeps t.hint_of t.plan.kind i.goes.windows (i.rest ∷ []) a.updaters i.between.updaters b.updaters (kept_by_reported t 0 i.goes.windows a i.between r s i.goes.reported)
    (shares_kept t.keeps t.hint_of t.plan.kind (i.rest ∷ []) i.between.updaters b.updaters i.last.updaters)

pub heart_by_ingest : {R : Type 0} (t : Terms R) (units : List (List ℕ)) (a b : Hub) (r s : R) → Ingests t units a r b s → HeartGoesOn a.heart b.heart
heart_by_ingest t units a b r s i = heart_goes a.heart i.between.heart b.heart (heart_by_reported t 0 i.goes.windows a i.between r s i.goes.reported) i.last.heart.goes

-- these windows have all units
pub windows_ingested : {R : Type 0} (t : Terms R) (units : List (List ℕ)) (a b : Hub) (r s : R) (i : Ingests t units a r b s) → all_lines (i.goes.windows ++ i.rest ∷ []) ≡ units
windows_ingested t units a b r s i = all_lines_more i.goes.windows i.rest ∙ sym i.goes.cut.joined

-- ---- takers

-- the reading of a taker of windows, at the hub and the report that it left
pub windows_read : {R : Type 0} (last : ℕ) (keeps : ℕ → ℕ → Bool) (hint_of : List ℕ → List Entry → ℕ) (reports : R → ℕ → Hub → Hub → R → Type 0) (breaks : R → Stop → ℕ → Hub → Hub → R → Type 0) (Q : Type 0) (Q' : Fault → Type 0) (plan own : Intake) (units u : Units) (most : ℕ) (a x b : Hub) (r y s : R) (lines rest : List (List ℕ)) (S : Type 0) (old new : Option (List ℕ)) (result : Result ℕ Fault)
    → u ≡ units → x ≡ b → y ≡ s → lines ≡ rest
    → Reads last u most (λ l. (own ≡ plan) × S × WindowsWent (terms_of keeps hint_of reports breaks own) l a r lines x y × Q) (λ why l unit. (own ≡ plan) × StopsAtUnit (terms_of keeps hint_of reports breaks own) a r y why l unit × Q' why) old new result
    → Reads last units most (λ l. WindowsWent (terms_of keeps hint_of reports breaks plan) l a r rest b s) (StopsAtUnit (terms_of keeps hint_of reports breaks plan) a r s) old new result
windows_read {R} last keeps hint_of reports breaks Q Q' plan own units u most a x b r y s lines rest S old new result unit_is hub_is report_is lines_are reads =
    subst (λ v. Reads last v most (λ l. WindowsWent (terms_of keeps hint_of reports breaks plan) l a r rest b s) (StopsAtUnit (terms_of keeps hint_of reports breaks plan) a r s) old new result) unit_is
    (reads_by _ u most Went (λ l. WindowsWent (terms_of keeps hint_of reports breaks plan) l a r rest b s) Stops (StopsAtUnit (terms_of keeps hint_of reports breaks plan) a r s) old new result
    (λ (given : List (List ℕ)) (went : Went given). subst (λ p. WindowsWent (terms_of keeps hint_of reports breaks p) given a r rest b s) went.0
    (subst (λ h. WindowsWent (terms_of keeps hint_of reports breaks own) given a r rest h s) hub_is
    (subst (λ (z : R). WindowsWent (terms_of keeps hint_of reports breaks own) given a r rest x z) report_is
    (subst (λ l. WindowsWent (terms_of keeps hint_of reports breaks own) given a r l x y) lines_are went.2))))
    (λ (why : Fault) (given : List (List ℕ)) (unit : List ℕ) (stops : Stops why given unit). subst (λ p. StopsAtUnit (terms_of keeps hint_of reports breaks p) a r s why given unit) stops.0
    (subst (λ (z : R). StopsAtUnit (terms_of keeps hint_of reports breaks own) a r z why given unit) report_is stops.1))
    reads)
  where
    Went : List (List ℕ) → Type 0
    Went = λ l. (own ≡ plan) × S × WindowsWent (terms_of keeps hint_of reports breaks own) l a r lines x y × Q

    Stops : Fault → List (List ℕ) → List ℕ → Type 0
    Stops = λ why l unit. (own ≡ plan) × StopsAtUnit (terms_of keeps hint_of reports breaks own) a r y why l unit × Q' why
