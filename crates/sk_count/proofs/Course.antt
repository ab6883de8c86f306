-- Windows that were fed and reported, one after another.
use Rattle.std.proofs.Common.{◌≡◌, ◌⊎◌, inl, inr, ℕ, ◌+◌, ◌*◌, ◌<◌, Bool, true, false, List, [], ◌∷◌, ◌++◌, length, map, get_or, All, refl, sym, ap, subst, ◌∙◌, arith, append-nil, append_assoc, length-append}
use Rattle.std.specs.Io.KnownBytes.{Appends}
use Rattle.std.proofs.KnownBytes.{Appends-nil, Appends-trans}
use Rattle.std.proofs.lemmas.List.{get_or-map}
use Rattle.std.proofs.lemmas.List.Elements.{All-nil, All-cons, All-map}
use Rattle.sk_model.specs.Entries.{Entry, items_of_entries, entries_by}
use Rattle.sk_model.specs.Causes.{AppendsPart}
use Rattle.sk_model.specs.Missing.{Begins, LacksAtMost}
use Rattle.sk_model.specs.Sketch.{theta_of, packed_of, unpacked, count_of, fraction_of}
use Rattle.sk_model.specs.Width.{IsItem, AreItems}
use Rattle.sk_model.proofs.Missing.{begins_refl, begins_trans}
use Rattle.sk_model.proofs.Sketch.{packed_reads_back}
use Rattle.sk_compose.specs.Numbers.{k_of}
use Rattle.sk_compose.specs.Kept.{AreKept}
use Rattle.sk_compose.proofs.Kept.{kept_append, kept_longer}
use Rattle.sk_machine.specs.Coarse.{IsEntry}
use Rattle.sk_machine.proofs.Coarse.{entries_by_begins}
use Rattle.sk_machine.specs.declared.views.Move.{Move}
use Rattle.sk_hub.specs.Hearts.{HeartState}
use Rattle.sk_hub.specs.Updaters.{UpdaterState, base_of, handed_of, kept_of}
use Rattle.sk_watch.specs.Masks.{mask_of}
use Rattle.sk_watch.specs.Places.{answers_at, told}
use Rattle.sk_read.specs.declared.kind.Kind.{Kind}
use Rattle.sk_read.specs.declared.items.Intake.{Intake}
use Rattle.sk_fill.specs.Windows.{items_in, all_lines}
use Rattle.sk_hub.specs.Calls.{Takes}
use Rattle.sk_feed.specs.Shares.{share, TakeShares}
use Rattle.sk_gate.specs.Hands.{TokenState}
use Rattle.sk_feed.specs.Hubs.{Hub, FeedsWindow, LeavesHub, IsLeft, HeartGoesOn}
use Rattle.sk_ingest.specs.Ingests.{Terms, IsReady, Reported}
use Rattle.sk_count.specs.declared.plan.Plan.{Plan}
use Rattle.sk_report.specs.Sizes.{size_at}
use Rattle.sk_count.specs.Moments.{Moment, kept_by, AreKeptOver, buffers_of, IsMoment, Follows}
use Rattle.sk_report.specs.Texts.{interim_line, alarm_lines, reply_of}
use Rattle.sk_count.specs.Texts.{moment_text, places_behind, interim_text, places_after}
use Rattle.sk_count.specs.Hubs.{MeetsAndAsks, AsksAtEach, AsksHub, HasSizes, HaveSeen}
use Rattle.sk_count.specs.Reports.{Showing, Reports, Breaks, BreaksBy, reply_in, reply_text}
use Rattle.sk_report.specs.Parts.{AppendsPartAfter}
use Rattle.sk_report.proofs.Fronts.{part_alone, part_after_behind}
use Rattle.sk_count.proofs.MomentLaws.{MomentsFrom, lacks_one, lacks_last}
use Rattle.sk_fill.proofs.Cutting.{all_lines_more}
use Rattle.sk_feed.proofs.Shares.{share_none, share_append}
use Rattle.sk_count.specs.Steps.{intake_with, keeps, hint_of, Took, TookAll, HeartStays, KeptAll, KeepsAll, Stands, Passes}

at_some : {A P : Type 0} (xs : List A) (i : ℕ) → i < length xs → (A → P) → P
at_some [] i within f = absurd (omega arith)
at_some (x ∷ xs) i within f = f x

-- ---- updaters

pub took_none : (plan : Plan) (i : ℕ) (u : UpdaterState) → kept_of u ≡ [] → u.size ≡ size_at plan.sizes i → k_of u.view.numbers ≡ plan.k → Took plan [] i u
unfolding AreKept
took_none plan i u none size k = record {
  kept = subst (λ l. AreKeptOver plan.k (base_of u) l (kept_of u)) (sym (share_none plan.kind plan.updaters i)) none;
  size = size;
  k = k;
}

pub took_more : (plan : Plan) (windows : List (List (List ℕ))) (lines : List (List ℕ)) (i : ℕ) (u u' : UpdaterState) → Took plan windows i u → Takes keeps hint_of u (share plan.kind (lines ∷ []) plan.updaters i) u' → Took plan (windows ++ lines ∷ []) i u'
took_more plan windows lines i u u' took takes = record {
  kept = subst (λ l. AreKeptOver plan.k (base_of u') l (kept_of u')) (sym (share_append plan.kind windows (lines ∷ []) plan.updaters i))
      (subst (λ l. AreKeptOver plan.k (base_of u') (share plan.kind windows plan.updaters i ++ share plan.kind (lines ∷ []) plan.updaters i) l) (sym takes.kept)
      (kept_append keeps theta (base_of u') (share plan.kind windows plan.updaters i) (share plan.kind (lines ∷ []) plan.updaters i) (kept_of u) takes.more
      (kept_longer keeps theta (base_of u) (base_of u') (share plan.kind windows plan.updaters i) (kept_of u) takes.goes.base took.kept)
      (subst (λ k. AreKept keeps (λ front. theta_of k (items_of_entries front)) (base_of u') (share plan.kind (lines ∷ []) plan.updaters i) takes.more) took.k takes.of_items)));
  size = takes.goes.size ∙ took.size;
  k = ap k_of takes.goes.numbers ∙ took.k;
}
  where
    theta : List Entry → ℕ
    theta front = theta_of plan.k (items_of_entries front)

pub kept_left : (u u' : UpdaterState) → IsLeft u u' → kept_of u' ≡ kept_of u
kept_left u u' left = ap (λ l. l ++ u'.fill) left.handed ∙ ap (λ l. handed_of u ++ l) (ap (λ z. z.fill) left.stays)

pub took_left : (plan : Plan) (windows : List (List (List ℕ))) (i : ℕ) (u u' : UpdaterState) → Took plan windows i u → IsLeft u u' → Took plan windows i u'
took_left plan windows i u u' took left = record {
  kept = subst (λ l. AreKeptOver plan.k (base_of u') (share plan.kind windows plan.updaters i) l) (sym (kept_left u u' left))
      (subst (λ l. AreKeptOver plan.k l (share plan.kind windows plan.updaters i) (kept_of u)) (sym left.base) took.kept);
  size = ap (λ z. z.size) left.stays ∙ took.size;
  k = ap k_of left.numbers ∙ took.k;
}

pub took_fed : (plan : Plan) (windows : List (List (List ℕ))) (lines : List (List ℕ)) (us us' : List UpdaterState) → TookAll plan windows us → TakeShares keeps hint_of plan.kind (lines ∷ []) us us' → TookAll plan (windows ++ lines ∷ []) us'
took_fed plan windows lines us us' took taken = record {
  count = taken.count ∙ took.count;
  each = λ i d within.
      let within' : i < length us = omega (arith, taken.count) in
      took_more plan windows lines i (get_or us i d) (get_or us' i d) (took.each i d within')
      (subst (λ n. Takes keeps hint_of (get_or us i d) (share plan.kind (lines ∷ []) n i) (get_or us' i d)) took.count (taken.each i d within'));
}

pub took_reported : (plan : Plan) (windows : List (List (List ℕ))) (a b : Hub) → TookAll plan windows a.updaters → LeavesHub a b → TookAll plan windows b.updaters
took_reported plan windows a b took leaves = record {
  count = leaves.count ∙ took.count;
  each = λ i d within. let within' : i < length a.updaters = omega (arith, leaves.count) in took_left plan windows i (get_or a.updaters i d) (get_or b.updaters i d) (took.each i d within') (leaves.updaters i d within');
}

-- what was kept goes on
pub kept_fed : (kind : Kind) (lines : List (List ℕ)) (us us' : List UpdaterState) → TakeShares keeps hint_of kind (lines ∷ []) us us' → KeptAll us us'
kept_fed kind lines us us' taken i d within = let t = taken.each i d within in (t.more, t.kept)

pub kept_reported : (a b : Hub) → LeavesHub a b → KeptAll a.updaters b.updaters
kept_reported a b leaves i d within = ([], kept_left (get_or a.updaters i d) (get_or b.updaters i d) (leaves.updaters i d within) ∙ sym (append-nil (kept_of (get_or a.updaters i d))))

pub kept_trans : (us vs ws : List UpdaterState) → length vs ≡ length us → KeptAll us vs → KeptAll vs ws → KeptAll us ws
kept_trans us vs ws count a b i d within = begins_trans _ _ _ (a i d within) (b i d (omega (arith, count)))

pub keeps_more : (us vs : List UpdaterState) (m : Moment) → length vs ≡ length us → KeepsAll us m → KeptAll us vs → KeepsAll vs m
keeps_more us vs m count a b i d within = let within' : i < length us = omega (arith, count) in begins_trans _ _ _ (a i d within') (b i d within')

pub heart_same : (h h' : HeartState) → HeartGoesOn h h' → HeartStays h h'
heart_same h h' goes = record { table = ap (λ z. z.table) goes.stays; drained = ap (λ v. v.drained) goes.knows.view; numbers = ap (λ v. v.numbers) goes.knows.view; eager = ap (λ z. z.eager) goes.stays }

pub stays_refl : (h : HeartState) → HeartStays h h
stays_refl h = record { table = refl; drained = refl; numbers = refl; eager = refl }

pub stays_trans : (h h1 h2 : HeartState) → HeartStays h h1 → HeartStays h1 h2 → HeartStays h h2
stays_trans h h1 h2 a b = record { table = b.table ∙ a.table; drained = b.drained ∙ a.drained; numbers = b.numbers ∙ a.numbers; eager = b.eager ∙ a.eager }

-- what each updater has seen goes on with it
pub heard_fed : (propagates : Bool) (kind : Kind) (lines : List (List ℕ)) (a x : Hub) → HaveSeen a.updaters a.token.view.seen → FeedsWindow propagates keeps hint_of kind lines a x → HaveSeen x.updaters x.token.view.seen
heard_fed propagates kind lines a x heard fed i d within =
    let within' : i < length a.updaters = omega (arith, fed.updaters.count) in
    subst (λ t. Begins t.view.seen (get_or x.updaters i d).view.seen) (sym fed.token) (begins_trans _ _ _ (heard i d within') (fed.updaters.each i d within').goes.seen)

-- ---- a window that was fed

pub stands_fed : (plan : Plan) (before : List (List (List ℕ))) (last : Moment) (lines : List (List ℕ)) (a x : Hub) (r : Showing) → Stands plan before last a r → FeedsWindow plan.propagator keeps hint_of plan.kind lines a x → Stands plan (before ++ lines ∷ []) last x r
stands_fed plan before last lines a x r stands fed = record {
  took = took_fed plan before lines a.updaters x.updaters stands.took fed.updaters;
  token = ap (λ t. k_of t.view.numbers) fed.token ∙ stands.token;
  k = stands.k;
  seen = subst (λ t. Begins last.seen t.view.seen) (sym fed.token) stands.seen;
  kept = keeps_more a.updaters x.updaters last fed.updaters.count stands.kept (kept_fed plan.kind lines a.updaters x.updaters fed.updaters);
  heard = heard_fed plan.propagator plan.kind lines a x stands.heard fed;
}

-- ---- the reply of an ask

items_of : (n : ℕ) (l : List Entry) → All (IsEntry n) l → AreItems (items_of_entries l)
unfolding items_of_entries
items_of n l all = All-map IsItem (λ (e : Entry). e.1) l (λ i d inside. (all i d inside).1)

-- the word that was loaded is that of the list that was seen
pub word_asked : (plan : Plan) (x y : Hub) (word : ℕ) → k_of x.token.view.numbers ≡ plan.k → AsksHub x word y → word ≡ packed_of plan.k (items_of_entries y.token.view.seen)
word_asked plan x y word k asks = asks.word_is ∙ ap (λ m. packed_of m (items_of_entries y.token.view.seen)) k

pub reply_asked : (plan : Plan) (r : Showing) (x y : Hub) (word : ℕ) → r.k ≡ plan.k → k_of x.token.view.numbers ≡ plan.k → AsksHub x word y → reply_in r.k word ≡ reply_of plan.k y.token.view.seen
reply_asked plan r x y word shows k asks =
    let is : unpacked plan.k word ≡ (count_of plan.k (items_of_entries y.token.view.seen), theta_of plan.k (items_of_entries y.token.view.seen)) =
    ap (unpacked plan.k) (word_asked plan x y word k asks) ∙ packed_reads_back plan.k (items_of_entries y.token.view.seen) (items_of (length x.updaters) y.token.view.seen asks.entries) in
    subst (λ m. reply_in m word ≡ reply_of plan.k y.token.view.seen) (sym shows) (λ i. record { count = (is i).0; theta = (is i).1 })

-- the moment at which a hub was asked
abbrev pub moment_at : ℕ → Hub → Hub → Moment
moment_at lines x y = record { lines = lines; seen = y.token.view.seen; kept = map kept_of x.updaters }

pub kept_at : (lines : ℕ) (x y : Hub) (i : ℕ) (d : UpdaterState) → i < length x.updaters → kept_by (moment_at lines x y) i ≡ kept_of (get_or x.updaters i d)
kept_at lines x y i d within = get_or-map kept_of x.updaters i d [] within

-- what is due for it
pub text_asked : (plan : Plan) (r : Showing) (lines : ℕ) (x y : Hub) (word : ℕ) → r.k ≡ plan.k → k_of x.token.view.numbers ≡ plan.k → AsksHub x word y → reply_text r lines (reply_in r.k word) ≡ moment_text plan.k r.places (moment_at lines x y)
text_asked plan r lines x y word shows k asks =
    ap (λ reply. reply_text r lines reply) (reply_asked plan r x y word shows k asks)
    ∙ ap (λ m. interim_line lines (fraction_of m (count_of plan.k (items_of_entries y.token.view.seen)) (theta_of plan.k (items_of_entries y.token.view.seen)))
    ++ alarm_lines (mask_of (map (answers_at (reply_of plan.k y.token.view.seen)) r.places))) shows

-- with a propagator the base of each updater has all that it handed over
abbrev pub HasHanded : Plan → Hub → Type 0
HasHanded plan x = plan.propagator ≡ true → (i : ℕ) (d : UpdaterState) → i < length x.updaters → entries_by i (base_of (get_or x.updaters i d)) ≡ handed_of (get_or x.updaters i d)

pub has_handed : (plan : Plan) (intake : Intake) (x : Hub) → intake.propagator ≡ plan.propagator → IsReady intake x → HasHanded plan x
has_handed plan intake x same ready with_one i d within =
    subst (λ n. entries_by n (base_of (get_or x.updaters i d)) ≡ handed_of (get_or x.updaters i d)) (ready.hub.updaters i d within).number (ready.settled (same ∙ with_one) i d within)

-- then a list that was asked for lacks at most the fill buffer of each
lacks_so : (plan : Plan) (x y : Hub) (word : ℕ) → HasHanded plan x → AsksHub x word y → (i : ℕ) (d : UpdaterState) → i < length x.updaters
    → LacksAtMost (kept_of (get_or x.updaters i d)) (entries_by i y.token.view.seen) (buffers_of plan * (get_or x.updaters i d).size)
lacks_so plan x y word handed asks i d within =
    let u = get_or x.updaters i d in
    let seen = entries_by i y.token.view.seen in
    lacks_last plan.propagator plan.propagator u.size (kept_of u) seen refl (asks.lacks i d within)
    (λ with_one. lacks_one (handed_of u) u.fill seen u.size
    (subst (λ l. Begins l seen) (handed with_one i d within) (entries_by_begins i (base_of u) y.token.view.seen (asks.bases i d within))) (asks.fills i d within))

pub is_moment : (plan : Plan) (windows : List (List (List ℕ))) (lines : ℕ) (x y : Hub) (word : ℕ) → lines ≡ length (all_lines windows) → TookAll plan windows x.updaters → HasHanded plan x → AsksHub x word y → IsMoment plan windows (moment_at lines x y)
is_moment plan windows lines x y word count took handed asks = record {
  lines = count;
  entries = subst (λ n. All (IsEntry n) y.token.view.seen) took.count asks.entries;
  kept = λ i within. let within' : i < length x.updaters = omega (arith, took.count) in
      at_some x.updaters i within' (λ d. subst (AreKeptOver plan.k y.token.view.seen (share plan.kind windows plan.updaters i)) (sym (kept_at lines x y i d within'))
      (kept_longer keeps (λ front. theta_of plan.k (items_of_entries front)) (base_of (get_or x.updaters i d)) y.token.view.seen (share plan.kind windows plan.updaters i) (kept_of (get_or x.updaters i d))
      (asks.bases i d within') (took.each i d within').kept));
  own = λ i within. let within' : i < length x.updaters = omega (arith, took.count) in
      at_some x.updaters i within' (λ d. subst (Begins (entries_by i y.token.view.seen)) (sym (kept_at lines x y i d within')) (asks.own i d within'));
  lacks = λ i within. let within' : i < length x.updaters = omega (arith, took.count) in
      at_some x.updaters i within' (λ d. subst (λ l. LacksAtMost l (entries_by i y.token.view.seen) (buffers_of plan * size_at plan.sizes i)) (sym (kept_at lines x y i d within'))
      (subst (λ size. LacksAtMost (kept_of (get_or x.updaters i d)) (entries_by i y.token.view.seen) (buffers_of plan * size)) (took.each i d within').size (lacks_so plan x y word handed asks i d within')));
}

pub follows : (plan : Plan) (windows : List (List (List ℕ))) (last : Moment) (lines : ℕ) (x y : Hub) (r : Showing) (word : ℕ) → Stands plan windows last x r → AsksHub x word y → Follows plan.updaters last (moment_at lines x y)
follows plan windows last lines x y r word stands asks = record {
  seen = begins_trans _ _ _ stands.seen asks.grows;
  kept = λ i within. let within' : i < length x.updaters = omega (arith, stands.took.count) in
      at_some x.updaters i within' (λ d. subst (Begins (kept_by last i)) (sym (kept_at lines x y i d within')) (stands.kept i d within'));
}

-- no less is kept after the report
pub keeps_asked : (lines : ℕ) (x y : Hub) → LeavesHub x y → KeepsAll y.updaters (moment_at lines x y)
keeps_asked lines x y leaves i d within =
    let within' : i < length x.updaters = omega (arith, leaves.count) in
    subst (λ l. Begins l (kept_of (get_or y.updaters i d))) (sym (kept_at lines x y i d within')) (kept_reported x y leaves i d within')

pub stands_reported : (plan : Plan) (windows : List (List (List ℕ))) (last : Moment) (lines : ℕ) (x y : Hub) (r s : Showing) → Stands plan windows last x r → LeavesHub x y → HaveSeen y.updaters y.token.view.seen → s.k ≡ r.k → Stands plan windows (moment_at lines x y) y s
stands_reported plan windows last lines x y r s stands leaves heard same = record {
  took = took_reported plan windows x y stands.took leaves;
  token = ap k_of leaves.token.numbers ∙ stands.token;
  k = same ∙ stands.k;
  seen = begins_refl y.token.view.seen;
  kept = keeps_asked lines x y leaves;
  heard = heard;
}

-- ---- windows, one after another

pub passes_none : (plan : Plan) (all before : List (List (List ℕ))) (last : Moment) (a : Hub) (r : Showing) (b : Hub) (s : Showing) → before ≡ all → b ≡ a → s ≡ r → Stands plan before last a r → Passes plan all a r b s
unfolding interim_text places_after AsksAtEach
passes_none plan all before last a r b s is same_hub same_report stands = record {
  moments = [];
  written = subst (λ z. Appends r.written z.written []) (sym same_report) (Appends-nil r.written);
  places = ap (λ z. z.places) same_report;
  steps = ([], ap (λ z. z.token.view.steps) same_hub ∙ sym (append-nil a.token.view.steps), refl);
  grows = subst (λ z. Begins a.token.view.seen z.token.view.seen) (sym same_hub) (begins_refl a.token.view.seen);
  seen = All-nil (λ (m : Moment). Begins m.seen b.token.view.seen);
  more = subst (λ z. KeptAll a.updaters z.updaters) (sym same_hub) (λ i d within. begins_refl (kept_of (get_or a.updaters i d)));
  kept = All-nil (KeepsAll b.updaters);
  heart = subst (λ z. HeartStays a.heart z.heart) (sym same_hub) (stays_refl a.heart);
  table = ap (λ z. z.token.table) same_hub;
  sizes = inl (refl, ap (λ z. z.token) same_hub);
  last = last;
  stands = subst (λ z. Stands plan all last z s) (sym same_hub) (subst (λ z. Stands plan all last a z) (sym same_report) (subst (λ l. Stands plan l last a r) is stands));
}

-- one window was fed and reported, and then others
module _ (plan : Plan) (before : List (List (List ℕ))) (count : ℕ) (last : Moment) (lines : List (List ℕ)) (a x y : Hub) (r p : Showing) (is : count ≡ length (all_lines before))
    (stands : Stands plan before last a r) (fed : FeedsWindow plan.propagator keeps hint_of plan.kind lines a x) where
  at_x : Stands plan (before ++ lines ∷ []) last x r
  at_x = stands_fed plan before last lines a x r stands fed

  pub counted : count + length lines ≡ length (all_lines (before ++ lines ∷ []))
  counted = omega (arith, is, length-append (all_lines before) lines, ap length (all_lines_more before lines))

  pub is_next : (word : ℕ) → HasHanded plan x → AsksHub x word y → IsMoment plan (before ++ lines ∷ []) (moment_at (count + length lines) x y) × Follows plan.updaters last (moment_at (count + length lines) x y)
  is_next word handed asks = (
    is_moment plan (before ++ lines ∷ []) (count + length lines) x y word counted at_x.took handed asks,
    follows plan (before ++ lines ∷ []) last (count + length lines) x y r word at_x asks,
  )

  module _ (windows : List (List (List ℕ))) (b : Hub) (s : Showing) (leaves : LeavesHub x y) (report : Reports r (count + length lines) x y p) (rest : Passes plan windows y p b s) where
    m : Moment
    m = moment_at (count + length lines) x y

    placed : p.places ≡ places_behind plan.k r.places (moment_at (count + length lines) x y)
    placed = report.places ∙ ap (λ reply. map (told reply) r.places) (reply_asked plan r x y report.word stands.k at_x.token report.asks)

    pub passes_more : Passes plan windows a r b s
    unfolding interim_text places_after AsksAtEach m
    passes_more = record {
      moments = m ∷ rest.moments;
      written = Appends-trans r.written p.written s.written (moment_text plan.k r.places m) (interim_text plan.k (places_behind plan.k r.places m) rest.moments)
          (subst (Appends r.written p.written) (text_asked plan r (count + length lines) x y report.word stands.k at_x.token report.asks) report.written)
          (subst (λ places. Appends p.written s.written (interim_text plan.k places rest.moments)) placed rest.written);
      places = rest.places ∙ ap (λ places. places_after plan.k places rest.moments) placed;
      steps = (
        report.asks.steps.0 ++ rest.steps.0,
        rest.steps.1 ∙ ap (λ l. l ++ rest.steps.0) (report.asks.steps.2 ∙ ap (λ t. t.view.steps ++ report.asks.steps.0) fed.token) ∙ append_assoc a.token.view.steps report.asks.steps.0 rest.steps.0,
        (report.asks.steps.0, rest.steps.0, refl, met, rest.steps.2),
      );
      grows = begins_trans _ _ _ grown rest.grows;
      seen = All-cons (λ (z : Moment). Begins z.seen b.token.view.seen) m rest.moments rest.grows rest.seen;
      more = kept_trans a.updaters y.updaters b.updaters (leaves.count ∙ fed.updaters.count)
          (kept_trans a.updaters x.updaters y.updaters fed.updaters.count (kept_fed plan.kind lines a.updaters x.updaters fed.updaters) (kept_reported x y leaves)) rest.more;
      kept = All-cons (KeepsAll b.updaters) m rest.moments (keeps_more y.updaters b.updaters m same_count (keeps_asked (count + length lines) x y leaves) rest.more) rest.kept;
      heart = stays_trans a.heart x.heart b.heart (heart_same a.heart x.heart fed.heart.goes) (stays_trans x.heart y.heart b.heart (heart_same x.heart y.heart leaves.heart) rest.heart);
      table = rest.table ∙ leaves.token.table ∙ ap (λ t. t.table) fed.token;
      sizes = inr (has_sizes rest.sizes);
      last = rest.last;
      stands = rest.stands;
    }
      where
        met : MeetsAndAsks plan.updaters (packed_of plan.k (items_of_entries m.seen)) report.asks.steps.0
        met = subst (λ n. MeetsAndAsks n (packed_of plan.k (items_of_entries m.seen)) report.asks.steps.0) at_x.took.count
            (subst (λ word. MeetsAndAsks (length x.updaters) word report.asks.steps.0) (word_asked plan x y report.word at_x.token report.asks) report.asks.steps.1)

        grown : Begins a.token.view.seen y.token.view.seen
        grown = subst (λ t. Begins t.view.seen y.token.view.seen) fed.token report.asks.grows

        same_count : length b.updaters ≡ length y.updaters
        same_count = rest.stands.took.count ∙ sym (leaves.count ∙ at_x.took.count)

        sizes_at_y : HasSizes plan y.token
        sizes_at_y i within =
            let within' : i < length x.updaters = omega (arith, at_x.took.count) in
            at_some x.updaters i within' (λ d. report.asks.sizes i d within' ∙ (at_x.took.each i d within').size)

        has_sizes : ((length rest.moments ≡ 0) × (b.token ≡ y.token)) ⊎ HasSizes plan b.token → HasSizes plan b.token
        has_sizes (inl waits) = subst (λ (t : TokenState). HasSizes plan t) (sym waits.1) sizes_at_y
        has_sizes (inr has) = has

-- what the report of a count goes by
abbrev pub terms_at : {R : Type 0} → (R → Showing) → Intake → Terms R
terms_at shown intake = record {
  keeps = keeps;
  hint_of = hint_of;
  reports = λ r line a b s. Reports (shown r) line a b (shown s);
  breaks = λ r stop line a b s. BreaksBy (shown r) stop line a b (shown s);
  plan = intake;
}

module _ {R : Type 0} (shown : R → Showing) (plan : Plan) (most : ℕ) where
  -- with reports or without
  abbrev pub terms_with : Bool → Terms R
  terms_with interim = terms_at shown (intake_with plan most interim)

  pub reported : (windows before all : List (List (List ℕ))) (count : ℕ) (last : Moment) (a : Hub) (r : R) (b : Hub) (s : R) → before ++ windows ≡ all → count ≡ length (all_lines before) → Stands plan before last a (shown r)
      → Reported (terms_with true) count windows a r b s → (p : Passes plan all a (shown r) b (shown s)) × MomentsFrom plan before last windows p.moments
  unfolding Reported MomentsFrom passes_none passes_more m
  reported [] before all count last a r b s joined is stands done =
      (passes_none plan all before last a (shown r) b (shown s) (sym (append-nil before) ∙ joined) done.0 (ap shown done.1) stands, tt)
  reported (lines ∷ windows) before all count last a r b s joined is stands (x, y, p, fed, (ready, leaves, still, report), later) =
      let at = stands_fed plan before last lines a x (shown r) stands fed in
      let at_y = stands_reported plan (before ++ lines ∷ []) last (count + length lines) x y (shown r) (shown p) at leaves report.asks.heard report.k in
      let rest = reported windows (before ++ lines ∷ []) all (count + length lines) (moment_at (count + length lines) x y) y p b s (append_assoc before (lines ∷ []) windows ∙ joined)
      (counted plan before count last lines a x y (shown r) (shown p) is stands fed) at_y later in
      let next = is_next plan before count last lines a x y (shown r) (shown p) is stands fed report.word (has_handed plan (intake_with plan most true) x refl ready) report.asks in
      (passes_more plan before count last lines a x y (shown r) (shown p) is stands fed all b (shown s) leaves report rest.0, (next.0, next.1, rest.1))

  -- without reports the token waits
  pub waited : (windows before all : List (List (List ℕ))) (count : ℕ) (last : Moment) (a : Hub) (r : R) (b : Hub) (s : R) → before ++ windows ≡ all → Stands plan before last a (shown r)
      → Reported (terms_with false) count windows a r b s → (p : Passes plan all a (shown r) b (shown s)) × (p.moments ≡ [])
  unfolding Reported interim_text places_after AsksAtEach passes_none
  waited [] before all count last a r b s joined stands done =
      (passes_none plan all before last a (shown r) b (shown s) (sym (append-nil before) ∙ joined) done.0 (ap shown done.1) stands, refl)
  waited (lines ∷ windows) before all count last a r b s joined stands (x, y, p, fed, (same_hub, same_report), later) =
      let at : Stands plan (before ++ lines ∷ []) last y (shown p) =
      subst (λ z. Stands plan (before ++ lines ∷ []) last z (shown p)) (sym same_hub) (subst (λ z. Stands plan (before ++ lines ∷ []) last x (shown z)) (sym same_report) (stands_fed plan before last lines a x (shown r) stands fed)) in
      let rest = waited windows (before ++ lines ∷ []) all (count + length lines) last y p b s (append_assoc before (lines ∷ []) windows ∙ joined) at later in
      let none = rest.1 in
      let token : y.token ≡ a.token = ap (λ z. z.token) same_hub ∙ fed.token in
      let report : shown p ≡ shown r = ap shown same_report in
      let same_count : length y.updaters ≡ length a.updaters = ap (λ z. length z.updaters) same_hub ∙ fed.updaters.count in (
        record {
          moments = [];
          written = subst (λ z. Appends z.written (shown s).written []) report (subst (λ l. Appends (shown p).written (shown s).written (interim_text plan.k (shown p).places l)) none rest.0.written);
          places = rest.0.places ∙ ap (λ l. places_after plan.k (shown p).places l) none ∙ ap (λ z. z.places) report;
          steps = ([], rest.0.steps.1 ∙ ap (λ t. t.view.steps ++ rest.0.steps.0) token ∙ ap (λ l. a.token.view.steps ++ l) (no_asks rest.0.moments rest.0.steps.0 none rest.0.steps.2), refl);
          grows = subst (λ t. Begins t.view.seen b.token.view.seen) token rest.0.grows;
          seen = All-nil (λ (m : Moment). Begins m.seen b.token.view.seen);
          more = kept_trans a.updaters y.updaters b.updaters same_count (subst (λ z. KeptAll a.updaters z.updaters) (sym same_hub) (kept_fed plan.kind lines a.updaters x.updaters fed.updaters)) rest.0.more;
          kept = All-nil (KeepsAll b.updaters);
          heart = stays_trans a.heart y.heart b.heart (subst (λ z. HeartStays a.heart z.heart) (sym same_hub) (heart_same a.heart x.heart fed.heart.goes)) rest.0.heart;
          table = rest.0.table ∙ ap (λ t. t.table) token;
          sizes = still_waits (length rest.0.moments) a.token y.token b.token token rest.0.sizes;
          last = rest.0.last;
          stands = rest.0.stands;
        },
        refl,
      )
    where
      no_asks : (moments : List Moment) (asks : List Move) → moments ≡ [] → AsksAtEach plan.k plan.updaters moments asks → asks ≡ []
      no_asks moments asks none each = subst (λ l. AsksAtEach plan.k plan.updaters l asks) none each

      still_waits : (n : ℕ) (t u v : TokenState) → u ≡ t → ((n ≡ 0) × (v ≡ u)) ⊎ HasSizes plan v → ((◌≡◌ {A = ℕ} 0 0) × (v ≡ t)) ⊎ HasSizes plan v
      still_waits n t u v same (inl waits) = inl (refl, waits.1 ∙ same)
      still_waits n t u v same (inr has) = inr has

  -- the last of these windows was fed, and its report stopped by a failed write
  pub broke : (windows before : List (List (List ℕ))) (count : ℕ) (last : Moment) (lines : List (List ℕ)) (a : Hub) (r : R) (b : Hub) (p : R) (x y : Hub) (s : R) → count ≡ length (all_lines before) → Stands plan before last a (shown r)
      → Reported (terms_with true) count windows a r b p → FeedsWindow plan.propagator keeps hint_of plan.kind lines b x → HasHanded plan x → Breaks (shown p) (length (all_lines (before ++ (windows ++ lines ∷ [])))) x y (shown s)
      → (earlier : List Moment) × (m : Moment) × MomentsFrom plan before last (windows ++ lines ∷ []) (earlier ++ m ∷ [])
      × AppendsPartAfter (interim_text plan.k (shown r).places earlier) (shown r).written (shown s).written (interim_text plan.k (shown r).places (earlier ++ m ∷ []))
      × ((shown s).places ≡ places_after plan.k (shown r).places (earlier ++ m ∷ []))
  unfolding Reported MomentsFrom interim_text places_after
  broke [] before count last lines a r b p x y s is stands done fed handed breaks =
      let feeds : FeedsWindow plan.propagator keeps hint_of plan.kind lines a x = subst (λ z. FeedsWindow plan.propagator keeps hint_of plan.kind lines z x) done.0 fed in
      let at = stands_fed plan before last lines a x (shown r) stands feeds in
      let counted_as : length (all_lines (before ++ lines ∷ [])) ≡ count + length lines = omega (arith, is, length-append (all_lines before) lines, ap length (all_lines_more before lines)) in
      let next = is_next plan before count last lines a x y (shown r) (shown r) is stands feeds breaks.word handed breaks.asks in
      let text = text_asked plan (shown r) (count + length lines) x y breaks.word stands.k at.token breaks.asks in
      let part : AppendsPart (shown r).written (shown s).written (reply_text (shown r) (count + length lines) (reply_in (shown r).k breaks.word)) =
      subst (λ z. AppendsPart (shown z).written (shown s).written (reply_text (shown z) (count + length lines) (reply_in (shown z).k breaks.word))) done.1
      (subst (λ n. AppendsPart (shown p).written (shown s).written (reply_text (shown p) n (reply_in (shown p).k breaks.word))) counted_as breaks.written) in (
        [],
        moment_at (count + length lines) x y,
        (next.0, next.1, tt),
        part_alone (shown r).written (shown s).written (interim_text plan.k (shown r).places (moment_at (count + length lines) x y ∷ []))
            (subst (AppendsPart (shown r).written (shown s).written) (text ∙ sym (append-nil (moment_text plan.k (shown r).places (moment_at (count + length lines) x y)))) part),
        breaks.places ∙ ap (λ z. map (told (reply_in (shown z).k breaks.word)) (shown z).places) done.1 ∙ ap (λ reply. map (told reply) (shown r).places) (reply_asked plan (shown r) x y breaks.word stands.k at.token breaks.asks),
      )
  broke (w ∷ windows) before count last lines a r b p x y s is stands (x1, y1, p1, fed1, (ready, leaves, still, report), later) fed handed breaks =
      let at = stands_fed plan before last w a x1 (shown r) stands fed1 in
      let at_y = stands_reported plan (before ++ w ∷ []) last (count + length w) x1 y1 (shown r) (shown p1) at leaves report.asks.heard report.k in
      let m = moment_at (count + length w) x1 y1 in
      let next = is_next plan before count last w a x1 y1 (shown r) (shown p1) is stands fed1 report.word (has_handed plan (intake_with plan most true) x1 refl ready) report.asks in
      let rest = broke windows (before ++ w ∷ []) (count + length w) m lines y1 p1 b p x y s (counted plan before count last w a x1 y1 (shown r) (shown p1) is stands fed1) at_y later fed handed
      (subst (λ l. Breaks (shown p) (length (all_lines l)) x y (shown s)) (sym (append_assoc before (w ∷ []) (windows ++ lines ∷ []))) breaks) in
      let text = text_asked plan (shown r) (count + length w) x1 y1 report.word stands.k at.token report.asks in
      let placed : (shown p1).places ≡ places_behind plan.k (shown r).places m = report.places ∙ ap (λ reply. map (told reply) (shown r).places) (reply_asked plan (shown r) x1 y1 report.word stands.k at.token report.asks) in (
        m ∷ rest.0,
        rest.1,
        (next.0, next.1, rest.2),
        part_after_behind (shown r).written (shown p1).written (shown s).written (moment_text plan.k (shown r).places m)
            (interim_text plan.k (places_behind plan.k (shown r).places m) rest.0) (interim_text plan.k (places_behind plan.k (shown r).places m) (rest.0 ++ rest.1 ∷ []))
            (subst (Appends (shown r).written (shown p1).written) text report.written)
            (subst (λ places. AppendsPartAfter (interim_text plan.k places rest.0) (shown p1).written (shown s).written (interim_text plan.k places (rest.0 ++ rest.1 ∷ []))) placed rest.3),
        rest.4 ∙ ap (λ places. places_after plan.k places (rest.0 ++ rest.1 ∷ [])) placed,
      )
