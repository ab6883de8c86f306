-- A tally that nobody asks for before its end, from the hub that was fed to its line.
use Rattle.std.proofs.Common.{◌≡◌, ◌≢◌, inl, inr, ℕ, suc, ◌+◌, ◌-◌, ◌^◌, min, ◌<◌, Bool, true, false, Result, Ok, Err, IsErrAnd, OnOk, OnErr, IfErr, List, [], ◌∷◌, ◌++◌, length, get_or, flat_map, All, Option, None, is_some, refl, sym, ap, subst, ◌∙◌, arith}
use Rattle.std.specs.List.{range_with_len}
use Rattle.std.specs.Io.KnownBytes.{Appends}
use Rattle.std.proofs.KnownBytes.{Appends-nil}
use Rattle.std.proofs.lemmas.List.Elements.{All-nil}
use Rattle.std.proofs.lemmas.List.Sorted.{length_permutation}
use Rattle.sk_model.specs.Causes.{AppendsPart, HasCauseIn}
use Rattle.sk_model.specs.Entries.{Entry, items_of_entries, entries_by}
use Rattle.sk_model.specs.Missing.{Begins}
use Rattle.sk_cms.specs.Estimate.{least_of}
use Rattle.sk_cms.specs.ItemCounts.{item_numbers, item_of}
use Rattle.sk_cms.specs.Tallies.{rows_of, width_of}
use Rattle.sk_cms.proofs.Estimates.{times_least}
use Rattle.sk_hub.specs.Updaters.{UpdaterState, kept_of}
use Rattle.sk_read.specs.Items.{items_by}
use Rattle.sk_read.specs.Reads.{ReadsAll}
use Rattle.sk_read.specs.Units.{units_by}
use Rattle.sk_read.specs.declared.items.Intake.{Intake}
use Rattle.sk_read.specs.declared.fault.Fault.{Fault}
use Rattle.sk_read.specs.declared.fault.Fault.TheVariants as fault
use Rattle.sk_feed.specs.Hubs.{Hub}
use Rattle.sk_feed.specs.Shares.{share, HasAllOf}
use Rattle.sk_ingest.specs.Ingests.{Terms, terms_of, GoesThrough, Ingests, StopsAtReport, GoesSoFar, StopsAtUnit, EndsEarly}
use Rattle.sk_ingest.specs.declared.report.Stop.{Stop}
use Rattle.sk_ingest.proofs.Endings.{ends_so, all_so}
use Rattle.sk_ingest.proofs.Ingestion.{kept_by_ingest, heart_by_ingest}
use Rattle.sk_report.proofs.Fronts.{part_of_next}
use Rattle.sk_snap.proofs.Versions.{as_many}
use Rattle.sk_tell.specs.Moments.{Moment}
use Rattle.sk_tell.specs.Texts.{interim_text}
use Rattle.sk_tell.specs.Feeding.{IsOpened, Course}
use Rattle.sk_tell.specs.Headline.{IsListOf, Goes}
use Rattle.sk_tell.specs.Endings.{Setting, setting, ReadsUnits, TellsSoFar, TellsPartOfAll, StopsFor, EndsAfter, EndsAt}
use Rattle.sk_tell.proofs.Course.{all_kept}
use Rattle.sk_tell.proofs.Finishing.{reads_so}
use Rattle.sk_tell.proofs.MomentLaws.{no_moments}
use Rattle.sk_tell.proofs.Orders.{of_each}
use Rattle.sk_tally.specs.declared.plan.Plan.{Plan}
use Rattle.sk_tally.specs.Plans.{tally_manner, tally_line}
use Rattle.sk_tally.specs.Headline.{WritesTally, Tallies}
use Rattle.sk_tally.specs.Texts.{count_line}
use Rattle.sk_tally.specs.Whole.{tally_intake, FedWhole, TalliesHub}
use Rattle.sk_tally.proofs.Totals.{of_all, no_text}

at_some : {A P : Type 0} (xs : List A) (i : ℕ) → i < length xs → (A → P) → P
at_some [] i within f = let none : ⊥ = omega arith in absurd none
at_some (x ∷ xs) i within f = f x

-- ---- how many items a list has

-- lists one after another, by their places
by_places : (f : UpdaterState → List ℕ) (us : List UpdaterState) (g : ℕ → List ℕ) (from : ℕ) → ((i : ℕ) (d : UpdaterState) → i < length us → g (from + i) ≡ f (get_or us i d)) → flat_map g (range_with_len from (length us)) ≡ flat_map f us
by_places f [] g from same = refl
by_places f (u ∷ us) g from same =
    let here : from + 0 ≡ from = omega arith in
    let first : g from ≡ f u = ap g (sym here) ∙ same 0 u (omega arith) in
    let rest : flat_map g (range_with_len (from + 1) (length us)) ≡ flat_map f us =
    by_places f us g (from + 1) (λ i d within. let next : from + 1 + i ≡ from + suc i = omega arith in ap g next ∙ same (suc i) d (omega (arith, within))) in
    ap (λ (l : List ℕ). l ++ flat_map g (range_with_len (from + 1) (length us))) first ∙ ap (λ (l : List ℕ). f u ++ l) rest

-- a list that has exactly what updaters kept has as many entries
pub as_many_kept : (list : List Entry) (us : List UpdaterState) → HasAllOf list us → length list ≡ length (flat_map (λ u. kept_of u) us)
as_many_kept list us has =
    let each : flat_map (λ i. entries_by i list) (range_with_len 0 (length us)) ≡ flat_map (λ u. kept_of u) us = by_places (λ u. kept_of u) us (λ i. entries_by i list) 0 (λ i d within. let is : 0 + i ≡ i = omega arith in ap (λ (k : ℕ). entries_by k list) is ∙ has.kept i d within) in
    sym (as_many list)
    ∙ sym (length_permutation (items_of_entries list) (flat_map (λ i. entries_by i list) (range_with_len 0 (length us))) (of_each (length us) list has.only))
    ∙ ap length each

-- ---- a source that was read

not_both : (b : Bool) → b ≡ false → b ≡ true → ⊥
not_both b is_false is_true = cc

-- that there is no moment
abbrev nothing : List Moment
nothing = []

module _ {R : Type 0} (plan : Plan) (none : plan.window ≡ None) (most : ℕ) (keeps : ℕ → ℕ → Bool) (always : (hint item : ℕ) → keeps hint item ≡ true) (hint_of : List ℕ → List Entry → ℕ) (reports : R → ℕ → Hub → Hub → R → Type 0) (breaks : R → Stop → ℕ → Hub → Hub → R → Type 0) (a : Hub) (r s : R) where
  abbrev terms : Terms R
  terms = terms_of keeps hint_of reports breaks (tally_intake plan most)

  silent : is_some plan.window ≡ false
  silent = ap (λ (w : Option ℕ). is_some w) none

  abbrev course_of : (units rest : List (List ℕ)) (b : Hub) → GoesThrough terms units a r rest b s → Course (tally_manner plan) units
  course_of units rest b goes = record { windows = goes.windows; rest = rest; moments = nothing; good = goes.good; cut = goes.cut; asks = no_moments (tally_manner plan) goes.windows nothing silent refl }

  so_far : (left left' w : Option (List ℕ)) (units : List (List ℕ)) → GoesSoFar terms a r s units → TellsSoFar (tally_manner plan) (setting left w) (setting left' w) units
  unfolding interim_text
  so_far left left' w units (rest, b, goes) = record { course = course_of units rest b goes; written = Appends-nil w }

  never : (how : Stop) (units : List (List ℕ)) → StopsAtReport terms how units a r s → ⊥
  never how units stops = not_both (is_some plan.window) silent stops.interim

  stopped : (left left' w : Option (List ℕ)) (f : Fault) (units : List (List ℕ)) (unit : List ℕ) → StopsAtUnit terms a r s f units unit → StopsFor (tally_manner plan) (setting left w) (setting left' w) f units unit
  stopped left left' w (fault.BadItem n) units unit t = (so_far left left' w units t.0, t.1, t.2)
  stopped left left' w fault.WriteFault units unit t = absurd (never _ (units ++ unit ∷ []) t)
  stopped left left' w fault.OutOfMemory units unit (inl t) = so_far left left' w units t
  stopped left left' w fault.OutOfMemory units unit (inr t) = absurd (never _ (units ++ unit ∷ []) t)
  stopped left left' w fault.ReadFault units unit t = absurd t
  stopped left left' w fault.TooMuch units unit t = absurd t
  stopped left left' w (fault.LongLine n) units unit t = absurd t
  stopped left left' w (fault.BadCsv n) units unit t = absurd t

  pub ended_early : (last : ℕ) (left left' w : Option (List ℕ)) (f : Fault) → EndsEarly terms last (units_by plan.column) left left' a r s f → EndsAt (tally_manner plan) last most (setting left w) (setting left' w) f
  ended_early last left left' w f (inl ends) =
      inl (ends_so (units_by plan.column) most (GoesSoFar terms a r s) (TellsSoFar (tally_manner plan) (setting left w) (setting left' w)) (StopsAtUnit terms a r s) (StopsFor (tally_manner plan) (setting left w) (setting left' w)) (so_far left left' w) (stopped left left' w) last left left' f ends)
  ended_early last left left' w f (inr (is, (n, reads))) =
      inr (subst (EndsAfter (tally_manner plan) most (setting left w) (setting left' w)) (sym is)
      (n, all_so (units_by plan.column) most (GoesSoFar terms a r s) (TellsSoFar (tally_manner plan) (setting left w) (setting left' w)) (StopsAtUnit terms a r s) (StopsFor (tally_manner plan) (setting left w) (setting left' w)) (so_far left left' w) (stopped left left' w) n left left' reads))

  all_fed : (size : ℕ) → IsOpened plan.updaters size a → (b : Hub) (units : List (List ℕ)) → Ingests terms units a r b s → FedWhole plan a b units
  all_fed size opened b units i =
      let shares = kept_by_ingest terms units a b r s i in
      let heart = heart_by_ingest terms units a b r s i in
      let windows : List (List (List ℕ)) = i.goes.windows ++ i.rest ∷ [] in
      record {
        course = course_of units i.rest i.between i.goes;
        none = refl;
        count = shares.count ∙ opened.count;
        kept = λ j d within. let within' : j < length a.updaters = omega (arith, within, shares.count) in
            let more = shares.each j d within' in
            more.kept
            ∙ ap (λ (l : List ℕ). l ++ more.more) (opened.idle j d within').kept
            ∙ all_kept keeps always _ _ _ more.more more.of_items
            ∙ ap (λ (n : ℕ). share (tally_manner plan).kind windows n j) opened.count;
        whole = i.hub;
        numbers = ap (λ v. v.numbers) heart.knows.view;
      }

  pub fed_whole : (size : ℕ) → IsOpened plan.updaters size a → (left left' : Option (List ℕ)) (n : ℕ) (b : Hub) → ReadsAll (units_by plan.column) most n (λ units. Ingests terms units a r b s) left left' → ReadsUnits plan.column most (FedWhole plan a b) left left'
  fed_whole size opened left left' n b reads =
      (n, all_so (units_by plan.column) most (λ units. Ingests terms units a r b s) (FedWhole plan a b) (λ f units unit. ⊥) (λ f units unit. ⊥) (all_fed size opened b) (λ f units unit no. no) n left left' reads)

  module _ (intake : Intake) (is : intake ≡ tally_intake plan most) where
    pub ended_by_intake : (last : ℕ) (left left' w : Option (List ℕ)) (f : Fault) → EndsEarly (terms_of keeps hint_of reports breaks intake) last (units_by intake.column) left left' a r s f → EndsAt (tally_manner plan) last most (setting left w) (setting left' w) f
    ended_by_intake last left left' w f early = ended_early _ left left' w f (subst (λ (i : Intake). EndsEarly (terms_of keeps hint_of reports breaks i) last (units_by i.column) left left' a r s f) is early)

    pub fed_by_intake : (size : ℕ) → IsOpened plan.updaters size a → (left left' : Option (List ℕ)) (n : ℕ) (b : Hub) → ReadsAll (units_by intake.column) intake.most n (λ units. Ingests (terms_of keeps hint_of reports breaks intake) units a r b s) left left' → ReadsUnits plan.column most (FedWhole plan a b) left left'
    fed_by_intake size opened left left' n b reads = fed_whole size opened left left' n b (subst (λ (i : Intake). ReadsAll (units_by i.column) i.most n (λ units. Ingests (terms_of keeps hint_of reports breaks i) units a r b s) left left') is reads)

-- what never fails did not fail
pub not_written : {T : Type 0} (f : Fault) → HasCauseIn {T = T} fault.WriteFault 0 0 (Err f) → f ≢ fault.WriteFault
not_written f cause is = let rose : 0 ≡ min (0 + 1) (2 ^ 64 - 1) = cause.failed (λ e. Err (is e)) in absurd (omega (arith, rose))

-- ---- the end

-- no moment was due, and no text
module _ (plan : Plan) (a b : Hub) (units : List (List ℕ)) (fed : FedWhole plan a b units) where
  no_moment : interim_text (tally_manner plan) fed.course.moments ≡ []
  no_moment = no_text plan fed.course.moments (ap (λ (l : List Moment). length l) fed.none)

  ran_out : (left left' w : Option (List ℕ)) → TellsSoFar (tally_manner plan) (setting left w) (setting left' w) units
  ran_out left left' w = record { course = fed.course; written = subst (Appends w w) (sym no_moment) (Appends-nil w) }

module _ (plan : Plan) (some : 0 < plan.updaters) (a b : Hub) (numbers : a.heart.view.numbers ≡ item_numbers plan.rows plan.width plan.item) (n least : ℕ) (is : TalliesHub b n least) (units : List (List ℕ)) (fed : FedWhole plan a b units) where
  list_is : IsListOf (tally_manner plan) (fed.course.windows ++ fed.course.rest ∷ []) is.list
  list_is = record {
    only = subst (λ (n : ℕ). All (λ (entry : Entry). entry.0 < n) is.list) fed.count is.has_all.only;
    each = λ i within. let within' : i < length b.updaters = omega (arith, within, fed.count) in at_some b.updaters i within' (λ d. is.has_all.kept i d within' ∙ fed.kept i d within');
  }

  line_is : count_line n least ≡ tally_line plan (items_of_entries is.list)
  line_is =
      let count : n ≡ length (items_of_entries is.list) = is.count ∙ sym (as_many is.list) in
      let value : least ≡ least_of plan.rows plan.width plan.item (items_of_entries is.list) =
      is.value ∙ ap (λ (ns : List ℕ). least_of (rows_of ns) (width_of ns) (item_of ns) (items_of_entries is.list)) (fed.numbers ∙ numbers) in
      λ e. count_line (count e) (value e)

  goes : Goes fed.course.moments is.list
  goes = subst (λ (ms : List Moment). Goes ms is.list) (sym fed.none) (All-nil (λ (m : Moment). Begins m.list is.list))

  wrote : (left left' w w' : Option (List ℕ)) → Appends w w' (count_line n least) → WritesTally plan (setting left w) (setting left' w') units
  wrote left left' w w' written = record {
    text = count_line n least;
    written = written;
    tallies = record {
      course = fed.course;
      list = is.list;
      has_all = list_is;
      goes = goes;
      written = line_is ∙ of_all plan units fed.course is.list some list_is ∙ sym (ap (λ (l : List ℕ). l ++ tally_line plan (items_by (tally_manner plan).kind units)) (no_moment plan a b units fed));
    };
  }

  broke_off : (left left' w w' : Option (List ℕ)) → AppendsPart w w' (count_line n least) → TellsPartOfAll (tally_manner plan) (setting left w) (setting left' w') units
  broke_off left left' w w' part = record {
    course = fed.course;
    whole = is.list;
    list = list_is;
    goes = goes;
    holds = times_least plan.rows plan.width plan.item (items_of_entries is.list);
    written = part_of_next w w w' (interim_text (tally_manner plan) fed.course.moments) (tally_line plan (items_of_entries is.list)) (subst (Appends w w) (sym (no_moment plan a b units fed)) (Appends-nil w)) (subst (AppendsPart w w') line_is part);
  }

-- ---- how it ends

pub ended_with : (last : ℕ) (plan : Plan) (most : ℕ) (old new : Setting) (r : Result (Unit {0}) Fault) (f : Fault) → IsErrAnd r (λ e. e ≡ f) → EndsAt (tally_manner plan) last most old new f → Tallies plan last most old new r
ended_with last plan most old new (Ok x) f is ends = absurd is
ended_with last plan most old new (Err e) f is ends = subst (EndsAt (tally_manner plan) last most old new) (sym is) ends

-- memory ran out once all was read
pub out_of_memory : (last : ℕ) (plan : Plan) (most : ℕ) (a b : Hub) (left left' w : Option (List ℕ)) → ReadsUnits plan.column most (FedWhole plan a b) left left' → EndsAt (tally_manner plan) last most (setting left w) (setting left' w) fault.OutOfMemory
out_of_memory last plan most a b left left' w reads = inr (reads_so plan.column most (FedWhole plan a b) (TellsSoFar (tally_manner plan) (setting left w) (setting left' w)) left left' (λ units fed. ran_out plan a b units fed left left' w) reads)

-- the line was written, or a part of it
pub went : (last : ℕ) (plan : Plan) (some : 0 < plan.updaters) (most : ℕ) (a b : Hub) (numbers : a.heart.view.numbers ≡ item_numbers plan.rows plan.width plan.item) (n least : ℕ) (is : TalliesHub b n least) (left left' w w' : Option (List ℕ)) → ReadsUnits plan.column most (FedWhole plan a b) left left'
    → (r : Result (Unit {0}) Fault) → OnOk r (Appends w w' (count_line n least)) → OnErr r (AppendsPart w w' (count_line n least)) → IfErr r (λ f. f ≡ fault.WriteFault) → Tallies plan last most (setting left w) (setting left' w') r
went last plan some most a b numbers n least is left left' w w' reads (Ok x) ok part only =
    reads_so plan.column most (FedWhole plan a b) (WritesTally plan (setting left w) (setting left' w')) left left' (λ units fed. wrote plan some a b numbers n least is units fed left left' w w' ok) reads
went last plan some most a b numbers n least is left left' w w' reads (Err f) ok part only =
    subst (EndsAt (tally_manner plan) last most (setting left w) (setting left' w')) (sym only)
    (inr (reads_so plan.column most (FedWhole plan a b) (TellsPartOfAll (tally_manner plan) (setting left w) (setting left' w')) left left' (λ units fed. broke_off plan some a b numbers n least is units fed left left' w w' part) reads))
