-- Where a count ends, concluded from where its feeding ended.
use Rattle.std.proofs.Common.{◌≡◌, ◌⊎◌, inl, inr, ℕ, ◌+◌, ◌<◌, List, [], ◌∷◌, ◌++◌, length, get_or, flat_map, All, Option, refl, sym, ap, subst, ◌∙◌, arith}
use Rattle.std.specs.List.{range_with_len}
use Rattle.std.specs.Io.KnownBytes.{Appends}
use Rattle.std.proofs.lemmas.List.Elements.{All-nil, All-append}
use Rattle.sk_model.specs.Entries.{Entry, items_of_entries}
use Rattle.sk_model.specs.Missing.{Begins}
use Rattle.sk_model.specs.Sketch.{theta_of, packed_of, unpacked, count_of, estimate_of, fraction_of}
use Rattle.sk_model.specs.Width.{IsItem, AreItems}
use Rattle.sk_model.proofs.Missing.{begins_trans}
use Rattle.sk_model.proofs.Sketch.{packed_reads_back, k_smallest_of_members}
use Rattle.sk_compose.specs.Numbers.{k_of}
use Rattle.sk_compose.proofs.Kept.{kept_longer}
use Rattle.sk_compose.proofs.Smallest.{smallest_of_all, same_word}
use Rattle.sk_machine.specs.declared.views.Move.TheVariants.{Ask}
use Rattle.sk_gate.specs.Hands.{TokenState}
use Rattle.sk_hub.specs.Hearts.{HeartState}
use Rattle.sk_hub.specs.Updaters.{UpdaterState, base_of, kept_of}
use Rattle.sk_read.specs.Items.{items_by}
use Rattle.sk_read.specs.Units.{units_by}
use Rattle.sk_ingest.proofs.Endings.{all_so, ends_so}
use Rattle.sk_read.specs.declared.units.Units.{Units}
use Rattle.sk_read.specs.declared.fault.Fault.{Fault}
use Rattle.sk_read.specs.declared.fault.Fault.TheVariants as fault
use Rattle.sk_read.specs.declared.kind.Kind.{Kind}
use Rattle.sk_watch.specs.Places.{Place}
use Rattle.sk_fill.specs.Windows.{items_in, all_lines}
use Rattle.sk_fill.specs.Blocks.{block_of}
use Rattle.sk_feed.specs.Shares.{share, HasAllOf}
use Rattle.sk_feed.specs.Hubs.{Hub}
use Rattle.sk_feed.proofs.Drained.{known_at}
use Rattle.sk_fill.proofs.Items.{items_below, good_items}
use Rattle.sk_feed.proofs.Shares.{all_items}
use Rattle.sk_count.specs.declared.plan.Plan.{Plan}
use Rattle.sk_count.specs.Moments.{kept_by, AreKeptOver}
use Rattle.sk_report.specs.Parts.{AppendsPartAfter}
use Rattle.sk_report.specs.Texts.{armed_with}
use Rattle.sk_count.specs.Texts.{interim_text, places_after}
use Rattle.sk_count.specs.Hubs.{ShowsAll, ShowsMoments, HasSizes, HaveSeen}
use Rattle.sk_count.specs.Reports.{Showing, showing}
use Rattle.sk_count.specs.Steps.{keeps, TookAll, PassesUnits}
use Rattle.sk_count.specs.Opened.{IsOpened, FeedsAll, FeedsSome, FeedsPart, FeedStops, FeedsEarly, DrainsAndAsks}
use Rattle.sk_count.specs.Counts.{Setting, setting, Course, TellsSoFar, TellsPart, StopsFor, EndsBefore, EndsBehind}
use Rattle.sk_fill.proofs.Cutting.{all_lines_more}
use Rattle.sk_count.proofs.Course.{took_fed, keeps_more, kept_fed, heard_fed}

-- ---- the course of a count

abbrev course_of : (plan : Plan) (units rest : List (List ℕ)) (a b : Hub) (r s : Showing) → PassesUnits plan units a r rest b s → Course plan units
course_of plan units rest a b r s p = record { windows = p.windows; rest = rest; moments = p.passes.moments; good = p.good; cut = p.cut; asks = p.asks }

module _ (plan : Plan) (a : Hub) (left left' w w' : Option (List ℕ)) (places armed places' : List Place) (is_armed : armed ≡ armed_with plan.k plan.alarms places) where
  old : Setting
  old = setting left w places

  new : Setting
  new = setting left' w' places'

  r : Showing
  r = showing plan.k w armed

  s : Showing
  s = showing plan.k w' places'

  pub so_far : (units : List (List ℕ)) → FeedsSome plan a (showing plan.k w armed) (showing plan.k w' places') units → TellsSoFar plan (setting left w places) (setting left' w' places') units
  so_far units (rest, b, p) = record {
    course = course_of plan units rest a b (showing plan.k w armed) (showing plan.k w' places') p;
    written = subst (λ z. Appends w w' (interim_text plan.k z p.passes.moments)) is_armed p.passes.written;
    places = p.passes.places ∙ ap (λ z. places_after plan.k z p.passes.moments) is_armed;
  }

  pub part : (units : List (List ℕ)) → FeedsPart plan units (showing plan.k w armed) (showing plan.k w' places') → TellsPart plan (setting left w places) (setting left' w' places') units
  part units f = record {
    course = record { windows = f.windows; rest = []; moments = f.earlier ++ f.last ∷ []; good = f.good; cut = f.cut; asks = f.are };
    full = refl;
    earlier = f.earlier;
    last = f.last;
    moments = refl;
    written = subst (λ z. AppendsPartAfter (interim_text plan.k z f.earlier) w w' (interim_text plan.k z (f.earlier ++ f.last ∷ []))) is_armed f.written;
    places = f.places ∙ ap (λ z. places_after plan.k z (f.earlier ++ f.last ∷ [])) is_armed;
  }

  stops : (f : Fault) (units : List (List ℕ)) (unit : List ℕ) → FeedStops plan a (showing plan.k w armed) (showing plan.k w' places') f units unit → StopsFor plan (setting left w places) (setting left' w' places') f units unit
  stops (fault.BadItem n) units unit t = (so_far units t.0, t.1, t.2)
  stops fault.WriteFault units unit t = part (units ++ unit ∷ []) t
  stops fault.OutOfMemory units unit t = so_far units t
  stops fault.ReadFault units unit t = absurd t
  stops fault.TooMuch units unit t = absurd t
  stops (fault.LongLine n) units unit t = absurd t
  stops (fault.BadCsv n) units unit t = absurd t

  pub early : (last : ℕ) (most : ℕ) (f : Fault) → FeedsEarly plan last most a (showing plan.k w armed) (showing plan.k w' places') left left' f → EndsBefore plan last most (setting left w places) (setting left' w' places') f ⊎ EndsBehind plan most (setting left w places) (setting left' w' places') f
  early last most f (inl ends) = inl (ends_so (units_by plan.column) most _ _ _ _ so_far stops _ left left' f ends)
  early last most f (inr (is, (n, reads))) = inr (subst (EndsBehind plan most (setting left w places) (setting left' w' places')) (sym is) (n, all_so (units_by plan.column) most _ _ _ _ so_far stops n left left' reads))

-- ---- all items

share_below : (kind : Kind) (windows : List (List (List ℕ))) (n i : ℕ) → AreItems (share kind windows n i)
unfolding share
share_below kind [] n i = All-nil IsItem
share_below kind (lines ∷ windows) n i = All-append IsItem (items_in kind (block_of lines i n)) (share kind windows n i) (items_below kind (block_of lines i n)) (share_below kind windows n i)

at_some : {A P : Type 0} (xs : List A) (i : ℕ) → i < length xs → (A → P) → P
at_some [] i within f = absurd (omega arith)
at_some (x ∷ xs) i within f = f x

-- what updaters kept of windows has the word of all their items
word_of_all : (plan : Plan) (windows : List (List (List ℕ))) (us : List UpdaterState) (list : List Entry) → 0 < plan.updaters → TookAll plan windows us → HasAllOf list us → packed_of plan.k (items_of_entries list) ≡ packed_of plan.k (items_in plan.kind (all_lines windows))
word_of_all plan windows us list some took has = same_word plan.k (items_of_entries list) (items_in plan.kind (all_lines windows))
    (smallest_of_all plan.k keeps (λ front. theta_of plan.k (items_of_entries front)) list plan.updaters (λ i. share plan.kind windows plan.updaters i) (λ h item. refl) (λ l. refl)
    (subst (λ n. All (λ entry. entry.0 < n) list) took.count has.only)
    (λ i within. share_below plan.kind windows plan.updaters i)
    (λ i within. let within' : i < length us = omega (arith, took.count) in at_some us i within' (λ d.
    subst (AreKeptOver plan.k list (share plan.kind windows plan.updaters i)) (sym (has.kept i d within'))
    (kept_longer keeps (λ front. theta_of plan.k (items_of_entries front)) (base_of (get_or us i d)) list (share plan.kind windows plan.updaters i) (kept_of (get_or us i d)) (has.bases i d within') (took.each i d within').kept)))
    ∙ k_smallest_of_members plan.k (flat_map (λ i. share plan.kind windows plan.updaters i) (range_with_len 0 plan.updaters)) (items_in plan.kind (all_lines windows))
    (λ z h. (all_items plan.kind windows plan.updaters z some).0 h) (λ z h. (all_items plan.kind windows plan.updaters z some).1 h))

-- ---- a count that ended well

module _ (plan : Plan) (a : Hub) (opened : IsOpened plan a) (some : 0 < plan.updaters) (units : List (List ℕ)) (r s : Showing) (b : Hub) (fed : FeedsAll plan units a r b s) (word : ℕ) (h : HeartState) (d : DrainsAndAsks b.heart b.updaters word h) where
  windows : List (List (List ℕ))
  windows = fed.passes.windows ++ fed.rest ∷ []

  took : TookAll plan (fed.passes.windows ++ fed.rest ∷ []) b.updaters
  took = took_fed plan fed.passes.windows fed.rest fed.between.updaters b.updaters fed.passes.passes.stands.took fed.last.updaters

  lines_are : all_lines (fed.passes.windows ++ fed.rest ∷ []) ≡ units
  lines_are = all_lines_more fed.passes.windows fed.rest ∙ sym fed.passes.cut.joined

  items_are : items_in plan.kind (all_lines (fed.passes.windows ++ fed.rest ∷ [])) ≡ items_by plan.kind units
  items_are = ap (items_in plan.kind) lines_are ∙ good_items plan.kind units fed.passes.good

  numbers : k_of b.heart.view.numbers ≡ plan.k
  numbers = ap k_of (ap (λ v. v.numbers) fed.last.heart.goes.knows.view ∙ fed.passes.passes.heart.numbers ∙ opened.numbers)

  pub the_word : word ≡ packed_of plan.k (items_by plan.kind units)
  the_word = d.word_is ∙ ap (λ k. packed_of k (items_of_entries h.view.seen)) numbers ∙ word_of_all plan (fed.passes.windows ++ fed.rest ∷ []) b.updaters h.view.seen some took d.has ∙ ap (packed_of plan.k) items_are

  pub the_estimate : fraction_of plan.k (unpacked plan.k word).0 (unpacked plan.k word).1 ≡ estimate_of plan.k (items_by plan.kind units)
  the_estimate =
      let items : AreItems (items_by plan.kind units) = subst AreItems items_are (items_below plan.kind (all_lines (fed.passes.windows ++ fed.rest ∷ []))) in
      let is : unpacked plan.k word ≡ (count_of plan.k (items_by plan.kind units), theta_of plan.k (items_by plan.kind units)) = ap (unpacked plan.k) the_word ∙ packed_reads_back plan.k (items_by plan.kind units) items in
      ap (λ z. fraction_of plan.k z.0 z.1) is

  pub shows_all : ShowsAll plan (items_by plan.kind units) (fed.passes.windows ++ fed.rest ∷ []) fed.passes.passes.moments h
  shows_all = record {
    drained = d.drains.drained ∙ ap (λ l. l ++ range_with_len 0 (length b.updaters)) (ap (λ v. v.drained) fed.last.heart.goes.knows.view ∙ fed.passes.passes.heart.drained ∙ opened.drained) ∙ ap (range_with_len 0) took.count;
    kept = λ i within. let within' : i < length b.updaters = omega (arith, took.count) in at_some b.updaters i within' (λ e.
        subst (AreKeptOver plan.k h.view.seen (share plan.kind (fed.passes.windows ++ fed.rest ∷ []) plan.updaters i)) (sym (known_at d.drains i e within'))
        (kept_longer keeps (λ front. theta_of plan.k (items_of_entries front)) (base_of (get_or b.updaters i e)) h.view.seen (share plan.kind (fed.passes.windows ++ fed.rest ∷ []) plan.updaters i) (kept_of (get_or b.updaters i e)) (d.has.bases i e within') (took.each i e within').kept));
    sees = λ i within. let within' : i < length b.updaters = omega (arith, took.count) in at_some b.updaters i within' (λ e. d.has.kept i e within' ∙ sym (known_at d.drains i e within'));
    later = λ j m inside. λ i within. let within' : i < length b.updaters = omega (arith, took.count) in at_some b.updaters i within' (λ e.
        subst (Begins (kept_by (get_or fed.passes.passes.moments j m) i)) (sym (known_at d.drains i e within'))
        (keeps_more fed.between.updaters b.updaters (get_or fed.passes.passes.moments j m) fed.last.updaters.count (fed.passes.passes.kept j m inside) (kept_fed plan.kind fed.rest fed.between.updaters b.updaters fed.last.updaters) i e within'));
    steps = (d.steps.0, d.steps.1 ∙ ap (λ n. d.steps.0 ++ Ask n ∷ []) the_word);
    k = ap k_of d.drains.numbers ∙ numbers;
    updaters = d.drains.updaters ∙ sym fed.hub.count ∙ took.count;
    eager = d.drains.eager ∙ ap (λ z. z.eager) fed.last.heart.goes.stays ∙ fed.passes.passes.heart.eager ∙ opened.eager;
  }

  pub shows_moments : ShowsMoments plan fed.passes.passes.moments b.token
  shows_moments = record {
    steps = (a.token.view.steps, fed.passes.passes.steps.0, ap (λ t. t.view.steps) fed.last.token ∙ fed.passes.passes.steps.1, fed.passes.passes.steps.2);
    seen = λ j m inside. subst (λ t. Begins (get_or fed.passes.passes.moments j m).seen t.view.seen) (sym fed.last.token) (fed.passes.passes.seen j m inside);
    sizes = λ some. subst (λ (t : TokenState). HasSizes plan t) (sym fed.last.token) (met some fed.passes.passes.sizes);
  }
    where
      met : 0 < length fed.passes.passes.moments → ((length fed.passes.passes.moments ≡ 0) × (fed.between.token ≡ a.token)) ⊎ HasSizes plan fed.between.token → HasSizes plan fed.between.token
      met some (inl waits) = absurd (omega (arith, some, waits.0))
      met some (inr has) = has

  -- through the updaters, which had seen all that the token had, and which the heart took in
  pub one_list : Begins b.token.view.seen h.view.seen
  one_list =
      let heard : HaveSeen b.updaters b.token.view.seen = heard_fed plan.propagator plan.kind fed.rest fed.between b fed.passes.passes.stands.heard fed.last in
      let within : 0 < length b.updaters = omega (arith, took.count, some) in
      at_some b.updaters 0 within (λ e. begins_trans _ _ _ (heard 0 e within) (d.drains.taken_in 0 e within).hears)

  pub same_hub : b.token.table ≡ h.table
  same_hub = fed.hub.table ∙ sym d.drains.table
