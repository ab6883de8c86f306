-- Units that go to one updater, one by one.
use Rattle.std.proofs.Common.{◌≡◌, inl, inr, ℕ, ◌+◌, ◌<◌, ◌≤◌, Bool, true, false, List, [], ◌∷◌, ◌++◌, length, get_or, set, take, drop, Option, Some, Result, All, sym, ap, refl, ◌∙◌, subst, arith, append-nil, append_assoc}
use Rattle.std.specs.List.{filter}
use Rattle.std.proofs.lemmas.Bool.{false≢true}
use Rattle.std.proofs.lemmas.List.{get_or_default, get_or-set_same, get_or_read, length-set, length-take-le, take_more, take-append-drop}
use Rattle.std.proofs.lemmas.List.Elements.{All-nil, All-push, All-head, All-tail}
use Rattle.sk_model.specs.Entries.{Entry}
use Rattle.sk_model.specs.Missing.{Begins}
use Rattle.sk_hub.specs.Hearts.{HeartState}
use Rattle.sk_hub.specs.Updaters.{UpdaterState, base_of}
use Rattle.sk_read.specs.declared.kind.Kind.{Kind}
use Rattle.sk_read.specs.declared.items.Intake.{Intake}
use Rattle.sk_read.specs.Items.{item_of, IsGood}
use Rattle.sk_read.specs.Reads.{Reads, StopsAmong}
use Rattle.sk_read.specs.declared.units.Units.{Units}
use Rattle.sk_read.specs.declared.fault.Fault.{Fault}
use Rattle.sk_read.specs.declared.fault.Fault.TheVariants as fault
use Rattle.sk_fill.specs.Windows.{fills, all_lines, items_in, IsBad}
use Rattle.sk_hub.specs.Calls.{Takes}
use Rattle.sk_fill.specs.Blocks.{block_of}
use Rattle.sk_feed.specs.Rounds.{HaveFew}
use Rattle.sk_feed.specs.Shares.{share, TakeShares}
use Rattle.sk_feed.specs.Hubs.{Hub, IsHub, FeedsWindow, HeartMayGoOn}
use Rattle.sk_ingest.specs.Ingests.{Terms, Feeds, IsReported, Reported, GoesThrough, Ingests, GoesSoFar, StopsAtUnit, EndsEarly}
use Rattle.sk_ingest.specs.Takers.{UnitsWent, IsAlone, unreported}
use Rattle.sk_fill.proofs.Units.{item_is}
use Rattle.sk_fill.proofs.Joined.{blocks_joined}
use Rattle.sk_fill.proofs.Items.{items_append, one_item, no_item}
use Rattle.sk_feed.proofs.Filtered.{takes_all}
use Rattle.sk_feed.proofs.Shares.{share_one}
use Rattle.sk_hub.proofs.Calls.{none_refl, takes_none, takes_trans}
use Rattle.sk_feed.proofs.Between.{parts_taken}
use Rattle.sk_fill.proofs.Cutting.{no_units, unit_left, unit_fills}
use Rattle.sk_feed.proofs.HubLaws.{may_wait, may_go, hub_fed, few_left, few_fed, no_window}
use Rattle.sk_fill.proofs.Readings.{reads_by, ends_by, all_by}
use Rattle.sk_ingest.proofs.Ingestion.{one_unit_more, no_windows, reported_next}
use Rattle.sk_ingest.proofs.Unreported.{unreported_hub, quiet_so}

-- ---- one updater

-- the one block is all lines
one_block : (lines : List (List ℕ)) → block_of lines 0 1 ≡ lines
one_block lines = sym (append-nil (block_of lines 0 1)) ∙ blocks_joined lines 1 (omega arith)

lone_share : (kind : Kind) (lines : List (List ℕ)) → share kind (lines ∷ []) 1 0 ≡ items_in kind lines
lone_share kind lines = share_one kind lines 1 0 ∙ ap (items_in kind) (one_block lines)

-- it took its share, and then the items of more lines
lone_more : (keeps : ℕ → ℕ → Bool) (hint_of : List ℕ → List Entry → ℕ) (kind : Kind) (lines more : List (List ℕ)) (us vs ws : List UpdaterState) → length us ≡ 1 → length ws ≡ length vs → TakeShares keeps hint_of kind (lines ∷ []) us vs
    → ((d : UpdaterState) → Takes keeps hint_of (get_or vs 0 d) (items_in kind more) (get_or ws 0 d)) → TakeShares keeps hint_of kind ((lines ++ more) ∷ []) us ws
lone_more keeps hint_of kind lines more us vs ws one same taken took = record {
  count = same ∙ taken.count;
  each = λ i d within.
      let first : 0 ≡ i = omega arith in
      let was : Takes keeps hint_of (get_or us 0 d) (items_in kind lines) (get_or vs 0 d)
      = subst (λ l. Takes keeps hint_of (get_or us 0 d) l (get_or vs 0 d)) (ap (λ n. share kind (lines ∷ []) n 0) one ∙ lone_share kind lines) (taken.each 0 d (omega arith)) in
      let all : items_in kind lines ++ items_in kind more ≡ share kind ((lines ++ more) ∷ []) (length us) 0
      = sym (ap (λ n. share kind ((lines ++ more) ∷ []) n 0) one ∙ lone_share kind (lines ++ more) ∙ items_append kind lines more) in
      subst (λ j. Takes keeps hint_of (get_or us j d) (share kind ((lines ++ more) ∷ []) (length us) j) (get_or ws j d)) first
      (subst (λ l. Takes keeps hint_of (get_or us 0 d) l (get_or ws 0 d)) all (takes_trans keeps hint_of (get_or us 0 d) (get_or vs 0 d) (get_or ws 0 d) (items_in kind lines) (items_in kind more) was (took d)));
}

-- ---- units

pub alone_start : {R : Type 0} (t : Terms R) (a : Hub) (r : R) → 1 ≤ t.plan.window → IsHub a → HaveFew 0 [] a.updaters → UnitsWent t [] a r a r
alone_start t a r least hub few = record {
  ingests = record {
    rest = [];
    between = a;
    goes = record { windows = []; cut = no_units t.plan.window least; good = All-nil (IsGood t.plan.kind); reported = no_windows t 0 a r };
    last = no_window t.plan.propagator t.keeps t.hint_of t.plan.kind a;
    hub = hub;
  };
  few = few;
}

-- one unit more: its item, if it has one, was taken
pub unit_by_itself : {R : Type 0} (t : Terms R) (units : List (List ℕ)) (unit : List ℕ) (a b x : Hub) (r s : R) → UnitsWent t units a r b s → IsGood t.plan.kind unit → 1 ≤ t.plan.window → t.plan.interim ≡ false → length b.updaters ≡ 1
    → HeartMayGoOn t.plan.propagator b.heart x.heart → x.token ≡ b.token → length x.updaters ≡ length b.updaters → ((d : UpdaterState) → Takes t.keeps t.hint_of (get_or b.updaters 0 d) (items_in t.plan.kind (unit ∷ [])) (get_or x.updaters 0 d))
    → UnitsWent t (units ++ unit ∷ []) a r x s
unit_by_itself {R} t units unit a b x r s went good least unreported one heart token same taken = go (fills t.plan.window (went.ingests.rest ++ unit ∷ [])) refl
  where
    rest : List (List ℕ)
    rest = went.ingests.rest

    goes : GoesThrough t units a r rest went.ingests.between s
    goes = went.ingests.goes

    fed : Feeds t (rest ++ unit ∷ []) went.ingests.between x
    fed =
        let between : length went.ingests.between.updaters ≡ 1 = omega (arith, one, went.ingests.last.updaters.count) in record {
          heart = may_go t.plan.propagator went.ingests.between.heart b.heart x.heart went.ingests.last.heart heart;
          updaters = lone_more t.keeps t.hint_of t.plan.kind rest (unit ∷ []) went.ingests.between.updaters b.updaters x.updaters between same went.ingests.last.updaters taken;
          token = token ∙ went.ingests.last.token;
        }

    step : FeedsWindow t.plan.propagator t.keeps t.hint_of t.plan.kind (unit ∷ []) b x
    step = record {
      heart = heart;
      updaters = lone_more t.keeps t.hint_of t.plan.kind [] (unit ∷ []) b.updaters b.updaters x.updaters one same (no_window t.plan.propagator t.keeps t.hint_of t.plan.kind b).updaters taken;
      token = token;
    }

    hub : IsHub x
    hub = hub_fed t.plan.propagator t.keeps t.hint_of t.plan.kind (unit ∷ []) b x went.ingests.hub step

    few : HaveFew (length (units ++ unit ∷ [])) [] x.updaters
    few = few_fed t.keeps t.hint_of t.plan.kind (length (units ++ unit ∷ [])) (unit ∷ []) b.updaters x.updaters
        (subst (λ n. HaveFew n (unit ∷ []) b.updaters) (sym (one_unit_more units unit)) (few_left (length units) [] unit b.updaters went.few)) step.updaters

    all_good : All (IsGood t.plan.kind) (units ++ unit ∷ [])
    all_good = All-push (IsGood t.plan.kind) units unit goes.good good

    go : (full : Bool) → fills t.plan.window (rest ++ unit ∷ []) ≡ full → UnitsWent t (units ++ unit ∷ []) a r x s
    go false still = record {
      ingests = record {
        rest = rest ++ unit ∷ [];
        between = went.ingests.between;
        goes = record { windows = goes.windows; cut = unit_left t.plan.window units unit goes.windows rest goes.cut still; good = all_good; reported = goes.reported };
        last = fed;
        hub = hub;
      };
      few = few;
    }
    go true full = record {
      ingests = record {
        rest = [];
        between = x;
        goes = record {
          windows = goes.windows ++ (rest ++ unit ∷ []) ∷ [];
          cut = unit_fills t.plan.window units unit goes.windows rest least goes.cut full;
          good = all_good;
          reported = reported_next t 0 goes.windows (rest ++ unit ∷ []) a went.ingests.between x x r s s goes.reported fed
              (quiet_so t (0 + (length (all_lines goes.windows) + length (rest ++ unit ∷ []))) x s unreported);
        };
        last = no_window t.plan.propagator t.keeps t.hint_of t.plan.kind x;
        hub = hub;
      };
      few = few;
    }

-- ---- many units

-- no unit more: the one updater has taken nothing
idle_alone : {R : Type 0} (t : Terms R) (units : List (List ℕ)) (a b x : Hub) (r s : R) → UnitsWent t units a r b s → length b.updaters ≡ 1 → HeartMayGoOn t.plan.propagator b.heart x.heart → x.token ≡ b.token → length x.updaters ≡ length b.updaters
    → ((d : UpdaterState) → Takes t.keeps t.hint_of (get_or b.updaters 0 d) (items_in t.plan.kind []) (get_or x.updaters 0 d)) → UnitsWent t units a r x s
idle_alone {R} t units a b x r s went one heart token same taken = record {
  ingests = record {
    rest = went.ingests.rest;
    between = went.ingests.between;
    goes = went.ingests.goes;
    last = fed;
    hub = hub_fed t.plan.propagator t.keeps t.hint_of t.plan.kind [] b x went.ingests.hub step;
  };
  few = few_fed t.keeps t.hint_of t.plan.kind (length units) [] b.updaters x.updaters went.few step.updaters;
}
  where
    fed : Feeds t went.ingests.rest went.ingests.between x
    fed =
        let between : length went.ingests.between.updaters ≡ 1 = omega (arith, one, went.ingests.last.updaters.count) in record {
          heart = may_go t.plan.propagator went.ingests.between.heart b.heart x.heart went.ingests.last.heart heart;
          updaters = subst (λ l. TakeShares t.keeps t.hint_of t.plan.kind (l ∷ []) went.ingests.between.updaters x.updaters) (append-nil went.ingests.rest)
              (lone_more t.keeps t.hint_of t.plan.kind went.ingests.rest [] went.ingests.between.updaters b.updaters x.updaters between same went.ingests.last.updaters taken);
          token = token ∙ went.ingests.last.token;
        }

    step : FeedsWindow t.plan.propagator t.keeps t.hint_of t.plan.kind [] b x
    step = record {
      heart = heart;
      updaters = lone_more t.keeps t.hint_of t.plan.kind [] [] b.updaters b.updaters x.updaters one same (no_window t.plan.propagator t.keeps t.hint_of t.plan.kind b).updaters taken;
      token = token;
    }

-- lines more: their items were taken
pub lines_one_by_one : {R : Type 0} (t : Terms R) (units lines : List (List ℕ)) (a b x : Hub) (r s : R) (e : UpdaterState) → UnitsWent t units a r b s → All (IsGood t.plan.kind) lines → 1 ≤ t.plan.window → t.plan.interim ≡ false → length b.updaters ≡ 1
    → HeartMayGoOn t.plan.propagator b.heart x.heart → x.token ≡ b.token → length x.updaters ≡ length b.updaters → ((d : UpdaterState) → Takes t.keeps t.hint_of (get_or b.updaters 0 d) (items_in t.plan.kind lines) (get_or x.updaters 0 d))
    → UnitsWent t (units ++ lines) a r x s
lines_one_by_one t units [] a b x r s e went good least off one heart token same taken =
    subst (λ l. UnitsWent t l a r x s) (sym (append-nil units)) (idle_alone t units a b x r s went one heart token same taken)
lines_one_by_one {R} t units (line ∷ lines) a b x r s e went good least off one heart token same taken =
    subst (λ l. UnitsWent t l a r x s) (append_assoc units (line ∷ []) lines)
    (lines_one_by_one t (units ++ line ∷ []) lines a y x r s e first (All-tail (IsGood t.plan.kind) line lines good) least off refl (may_wait t.plan.propagator x.heart) token (same ∙ one)
    (λ d. subst (Takes t.keeps t.hint_of parts.0 (items_in t.plan.kind lines)) (get_or_default x.updaters 0 e d (omega (arith, same, one))) parts.2))
  where
    parts : (v : UpdaterState) × Takes t.keeps t.hint_of (get_or b.updaters 0 e) (items_in t.plan.kind (line ∷ [])) v × Takes t.keeps t.hint_of v (items_in t.plan.kind lines) (get_or x.updaters 0 e)
    parts = parts_taken t.keeps t.hint_of (get_or b.updaters 0 e) (get_or x.updaters 0 e) (items_in t.plan.kind (line ∷ [])) (items_in t.plan.kind lines)
        (subst (λ l. Takes t.keeps t.hint_of (get_or b.updaters 0 e) l (get_or x.updaters 0 e)) (items_append t.plan.kind (line ∷ []) lines) (taken e))

    y : Hub
    y = record { heart = x.heart; updaters = parts.0 ∷ []; token = b.token }

    first : UnitsWent t (units ++ line ∷ []) a r y s
    first = unit_by_itself t units line a b y r s went (All-head (IsGood t.plan.kind) line lines good) least off one heart refl (sym one)
        (λ d. subst (λ z. Takes t.keeps t.hint_of z (items_in t.plan.kind (line ∷ [])) parts.0) (get_or_default b.updaters 0 e d (omega (arith, one))) parts.1)

-- ---- an item

-- the one updater took items
lone_took : (keeps : ℕ → ℕ → Bool) (hint_of : List ℕ → List Entry → ℕ) (items : List ℕ) (us : List UpdaterState) (u u' : UpdaterState) → length us ≡ 1 → u ≡ get_or us 0 u → Takes keeps hint_of u items u'
    → (d : UpdaterState) → Takes keeps hint_of (get_or us 0 d) items (get_or (set us 0 u') 0 d)
lone_took keeps hint_of items us u u' one read taken = λ d.
    let inside : 0 < length us = omega arith in
    subst (Takes keeps hint_of (get_or us 0 d) items) (sym (get_or-set_same us 0 u' d inside)) (subst (λ z. Takes keeps hint_of z items u') (get_or_read us 0 u inside read d) taken)

-- the one updater took the unit's item
pub one_took : (keeps : ℕ → ℕ → Bool) (hint_of : List ℕ → List Entry → ℕ) (kind : Kind) (unit : List ℕ) (item : ℕ) (us : List UpdaterState) (u u' : UpdaterState) → length us ≡ 1 → u ≡ get_or us 0 u → 0 < length unit → item_of kind unit ≡ Some item → Takes keeps hint_of u (item ∷ []) u'
    → (d : UpdaterState) → Takes keeps hint_of (get_or us 0 d) (items_in kind (unit ∷ [])) (get_or (set us 0 u') 0 d)
one_took keeps hint_of kind unit item us u u' one read some is taken = λ d.
    subst (λ l. Takes keeps hint_of (get_or us 0 d) l (get_or (set us 0 u') 0 d)) (sym (one_item kind unit item (item_is kind unit item some is))) (lone_took keeps hint_of (item ∷ []) us u u' one read taken d)

-- an empty unit has none
pub none_took : (keeps : ℕ → ℕ → Bool) (hint_of : List ℕ → List Entry → ℕ) (kind : Kind) (unit : List ℕ) (us : List UpdaterState) → length unit ≡ 0 → (d : UpdaterState) → Takes keeps hint_of (get_or us 0 d) (items_in kind (unit ∷ [])) (get_or us 0 d)
none_took keeps hint_of kind [] us none = λ d. let u = get_or us 0 d in subst (λ l. Takes keeps hint_of u l u) (sym (no_item kind [] refl)) (takes_none keeps hint_of u u (none_refl u))
none_took keeps hint_of kind (byte ∷ rest) us none = let no : ⊥ = omega arith in absurd no

-- ---- lines of whose items those were left out that the hint of the updater filters

-- these were fed to it
pub lines_taken : (keeps : ℕ → ℕ → Bool) (hint_of : List ℕ → List Entry → ℕ) (plan : Intake) (units lines : List (List ℕ)) (kept : List ℕ) (hint : ℕ) (a b : Hub) (heart : HeartState) (u u' : UpdaterState) → UnitsWent (unreported keeps hint_of plan) units a tt b tt → IsAlone plan b
    → All (IsGood plan.kind) lines → HeartMayGoOn plan.propagator b.heart heart → u ≡ get_or b.updaters 0 u → hint ≡ hint_of u.view.numbers (base_of u) → kept ≡ filter (keeps hint) (items_in plan.kind lines) → Takes keeps hint_of u kept u'
    → UnitsWent (unreported keeps hint_of plan) (units ++ lines) a tt (record { heart = heart; updaters = set b.updaters 0 u'; token = b.token }) tt
lines_taken keeps hint_of plan units lines kept hint a b heart u u' went alone good goes read is those taken =
    lines_one_by_one (unreported keeps hint_of plan) units lines a b (record { heart = heart; updaters = set b.updaters 0 u'; token = b.token }) tt tt u went good alone.least alone.unreported alone.one goes refl (length-set b.updaters 0 u')
    (lone_took keeps hint_of (items_in plan.kind lines) b.updaters u u' alone.one read (takes_all keeps hint_of u u' hint (items_in plan.kind lines) is (subst (λ l. Takes keeps hint_of u l u') those taken)))

-- a line after those before it
line_begins : (lines : List (List ℕ)) (n : ℕ) → n < length lines → Begins (take n lines ++ get_or lines n [] ∷ []) lines
line_begins lines n within = (drop (n + 1) lines, sym (take-append-drop (n + 1) lines) ∙ ap (λ l. l ++ drop (n + 1) lines) (take_more lines n [] within))

-- it is no item
pub stops_at_bad : {R : Type 0} (t : Terms R) (units lines : List (List ℕ)) (before n : ℕ) (a b : Hub) (r s : R) → length units ≡ before → n < length lines → IsBad t.plan.kind (get_or lines n []) → UnitsWent t (units ++ take n lines) a r b s
    → StopsAmong (StopsAtUnit t a r s) (fault.BadItem (before + n + 1)) units lines
stops_at_bad t units lines before n a b r s count within bad went = record {
  front = take n lines;
  unit = get_or lines n [];
  begins = line_begins lines n within;
  stopped = ((went.ingests.rest, went.ingests.between, went.ingests.goes), bad.0, bad.1);
  fault = omega (arith, count, length-take-le n lines (omega arith));
}

-- no memory was found for its item
pub stops_for_memory : {R : Type 0} (t : Terms R) (units lines : List (List ℕ)) (a b : Hub) (r s : R) → 0 < length lines → UnitsWent t units a r b s → StopsAmong (StopsAtUnit t a r s) fault.OutOfMemory units lines
stops_for_memory t units lines a b r s some went = record {
  front = [];
  unit = get_or lines 0 [];
  begins = line_begins lines 0 some;
  stopped = inl (subst (GoesSoFar t a r s) (sym (append-nil units)) (went.ingests.rest, went.ingests.between, went.ingests.goes));
  fault = tt;
}

-- ---- a run that makes no report is one without a report

reported_quietly : {R : Type 0} (t : Terms R) (before : ℕ) (windows : List (List (List ℕ))) (a b : Hub) (x y : Unit {0}) (r : R) → t.plan.interim ≡ false → Reported (unreported t.keeps t.hint_of t.plan) before windows a x b y → Reported t before windows a r b r
unfolding Reported
reported_quietly t before [] a b x y r off has = (has.0, refl)
reported_quietly t before (lines ∷ more) a b x y r off has =
    let same = unreported_hub (unreported t.keeps t.hint_of t.plan) (before + length lines) has.0 x has.1 has.2 off has.4 in
    (has.0, has.1, r, has.3, subst (λ h. IsReported t (before + length lines) has.0 r h r) (sym same.0) (quiet_so t (before + length lines) has.0 r off), reported_quietly t (before + length lines) more has.1 b has.2 y r off has.5)

goes_quietly : {R : Type 0} (t : Terms R) (units : List (List ℕ)) (a b : Hub) (rest : List (List ℕ)) (x y : Unit {0}) (r : R) → t.plan.interim ≡ false → GoesThrough (unreported t.keeps t.hint_of t.plan) units a x rest b y → GoesThrough t units a r rest b r
goes_quietly t units a b rest x y r off goes = record { windows = goes.windows; cut = goes.cut; good = goes.good; reported = reported_quietly t 0 goes.windows a b x y r off goes.reported }

pub ingests_quietly : {R : Type 0} (t : Terms R) (units : List (List ℕ)) (a b : Hub) (x y : Unit {0}) (r : R) → t.plan.interim ≡ false → Ingests (unreported t.keeps t.hint_of t.plan) units a x b y → Ingests t units a r b r
ingests_quietly t units a b x y r off i = record { rest = i.rest; between = i.between; goes = goes_quietly t units a i.between i.rest x y r off i.goes; last = i.last; hub = i.hub }

so_far_quietly : {R : Type 0} (t : Terms R) (units : List (List ℕ)) (a : Hub) (x y : Unit {0}) (r : R) → t.plan.interim ≡ false → GoesSoFar (unreported t.keeps t.hint_of t.plan) a x y units → GoesSoFar t a r r units
so_far_quietly t units a x y r off goes = (goes.0, goes.1, goes_quietly t units a goes.1 goes.0 x y r off goes.2)

pub went_so_far : {R : Type 0} (t : Terms R) (units : List (List ℕ)) (a b : Hub) (x y : Unit {0}) (r : R) → t.plan.interim ≡ false → UnitsWent (unreported t.keeps t.hint_of t.plan) units a x b y → GoesSoFar t a r r units
went_so_far t units a b x y r off went = (went.ingests.rest, went.ingests.between, goes_quietly t units a went.ingests.between went.ingests.rest x y r off went.ingests.goes)

pub stops_quietly : {R : Type 0} (t : Terms R) (units : List (List ℕ)) (unit : List ℕ) (a : Hub) (x y : Unit {0}) (r : R) (why : Fault) → t.plan.interim ≡ false → StopsAtUnit (unreported t.keeps t.hint_of t.plan) a x y why units unit → StopsAtUnit t a r r why units unit
stops_quietly t units unit a x y r (fault.BadItem n) off stops = (so_far_quietly t units a x y r off stops.0, stops.1, stops.2)
stops_quietly t units unit a x y r fault.WriteFault off stops = absurd (false≢true (sym off ∙ stops.interim))
stops_quietly t units unit a x y r fault.OutOfMemory off (inl goes) = inl (so_far_quietly t units a x y r off goes)
stops_quietly t units unit a x y r fault.OutOfMemory off (inr stops) = absurd (false≢true (sym off ∙ stops.interim))
stops_quietly t units unit a x y r fault.ReadFault off stops = absurd stops
stops_quietly t units unit a x y r fault.TooMuch off stops = absurd stops
stops_quietly t units unit a x y r (fault.LongLine n) off stops = absurd stops
stops_quietly t units unit a x y r (fault.BadCsv n) off stops = absurd stops

pub early_quietly : {R : Type 0} (t : Terms R) (last : ℕ) (units : Units) (old new : Option (List ℕ)) (a : Hub) (x y : Unit {0}) (r : R) (why : Fault) → t.plan.interim ≡ false → EndsEarly (unreported t.keeps t.hint_of t.plan) last units old new a x y why → EndsEarly t last units old new a r r why
early_quietly t last units old new a x y r why off (inl ends) =
    let u = unreported t.keeps t.hint_of t.plan in
    inl (ends_by _ units t.plan.most (GoesSoFar u a x y) (GoesSoFar t a r r) (StopsAtUnit u a x y) (StopsAtUnit t a r r) old new why
    (λ given goes. so_far_quietly t given a x y r off goes) (λ q given unit stops. stops_quietly t given unit a x y r q off stops) ends)
early_quietly t last units old new a x y r why off (inr out) =
    inr (out.0, (out.1.0, all_by units t.plan.most out.1.0 (GoesSoFar (unreported t.keeps t.hint_of t.plan) a x y) (GoesSoFar t a r r) old new (λ given goes. so_far_quietly t given a x y r off goes) out.1.1))

-- ---- its reading

-- at the hub that it left
pub alone_read : (last : ℕ) (keeps : ℕ → ℕ → Bool) (hint_of : List ℕ → List Entry → ℕ) (plan own : Intake) (units u : Units) (most : ℕ) (a x b : Hub) (old new : Option (List ℕ)) (result : Result ℕ Fault) → u ≡ units → x ≡ b
    → Reads last u most (λ l. (own ≡ plan) × IsAlone own x × UnitsWent (unreported keeps hint_of own) l a tt x tt) (λ why l unit. (own ≡ plan) × StopsAtUnit (unreported keeps hint_of own) a tt tt why l unit) old new result
    → Reads last units most (λ l. UnitsWent (unreported keeps hint_of plan) l a tt b tt) (StopsAtUnit (unreported keeps hint_of plan) a tt tt) old new result
alone_read last keeps hint_of plan own units u most a x b old new result unit_is hub_is reads =
    subst (λ v. Reads last v most (λ l. UnitsWent (unreported keeps hint_of plan) l a tt b tt) (StopsAtUnit (unreported keeps hint_of plan) a tt tt) old new result) unit_is
    (reads_by _ u most Went (λ l. UnitsWent (unreported keeps hint_of plan) l a tt b tt) Stops (StopsAtUnit (unreported keeps hint_of plan) a tt tt) old new result
    (λ (given : List (List ℕ)) (went : Went given). subst (λ p. UnitsWent (unreported keeps hint_of p) given a tt b tt) went.0 (subst (λ h. UnitsWent (unreported keeps hint_of own) given a tt h tt) hub_is went.2))
    (λ (why : Fault) (given : List (List ℕ)) (unit : List ℕ) (stops : Stops why given unit). subst (λ p. StopsAtUnit (unreported keeps hint_of p) a tt tt why given unit) stops.0 stops.1)
    reads)
  where
    Went : List (List ℕ) → Type 0
    Went = λ l. (own ≡ plan) × IsAlone own x × UnitsWent (unreported keeps hint_of own) l a tt x tt

    Stops : Fault → List (List ℕ) → List ℕ → Type 0
    Stops = λ why l unit. (own ≡ plan) × StopsAtUnit (unreported keeps hint_of own) a tt tt why l unit
