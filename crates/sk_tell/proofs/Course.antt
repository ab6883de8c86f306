-- Windows that were fed and reported, one after another.
use Rattle.std.proofs.Common.{◌≡◌, inl, inr, ℕ, ◌+◌, ◌-◌, ◌*◌, ◌<◌, ◌≤◌, Bool, true, false, not, List, [], ◌∷◌, ◌++◌, length, take, get_or, refl, sym, ap, subst, ◌∙◌, arith, append-nil, append_assoc, length-append}
use Rattle.std.specs.Io.KnownBytes.{Appends}
use Rattle.std.proofs.KnownBytes.{Appends-nil, Appends-trans}
use Rattle.std.proofs.lemmas.List.{take-append-le}
use Rattle.std.proofs.lemmas.List.Elements.{All-nil, All-cons}
use Rattle.sk_model.specs.Entries.{Entry, items_of_entries, entries_by}
use Rattle.sk_model.specs.Causes.{AppendsPart}
use Rattle.sk_model.specs.Missing.{Begins, LacksAtMost}
use Rattle.sk_model.proofs.Missing.{begins_refl, begins_trans, begins_nil, begins_take}
use Rattle.sk_compose.specs.Kept.{AreKept}
use Rattle.sk_machine.proofs.Coarse.{entries_by_begins}
use Rattle.sk_gate.specs.Hands.{is_empty}
use Rattle.sk_hub.specs.Updaters.{UpdaterState, handed_of, kept_of, earlier_of, HoldsTold}
use Rattle.sk_read.specs.declared.items.Intake.{Intake}
use Rattle.sk_fill.specs.Windows.{all_lines}
use Rattle.sk_hub.specs.Calls.{Takes}
use Rattle.sk_feed.specs.Hubs.{Hub, FeedsWindow, LeavesHub, IsLeft}
use Rattle.sk_ingest.specs.Ingests.{Terms, Reported}
use Rattle.sk_feed.specs.Shares.{share}
use Rattle.sk_feed.proofs.Shares.{share_append}
use Rattle.sk_fill.proofs.Cutting.{all_lines_more}
use Rattle.sk_report.specs.Parts.{AppendsPartAfter}
use Rattle.sk_report.proofs.Fronts.{part_alone, part_after_behind}
use Rattle.sk_tell.proofs.MomentLaws.{MomentsFrom}
use Rattle.sk_snap.specs.History.{entries_in}
use Rattle.sk_snap.specs.Versions.{Learnt, items_in}
use Rattle.sk_tell.specs.declared.telling.Telling.{Telling}
use Rattle.sk_tell.specs.Manners.{Manner, Holds, manner_by, window_by, buffer_size_by, share_of}
use Rattle.sk_tell.specs.Moments.{Moment, IsMoment}
use Rattle.sk_learn.specs.Learning.{ReaderGoesOn, Knows}
use Rattle.sk_tell.specs.Reports.{Showing, LearnsHub, Reports, Breaks, BreaksBy, due_line}
use Rattle.sk_tell.specs.Steps.{Took, Stands, Passes}
use Rattle.sk_tell.specs.Texts.{interim_line, moment_text, interim_text}
use Rattle.sk_learn.proofs.LearningLaws.{goes_refl, goes_trans}

at_some : {A P : Type 0} (xs : List A) (i : ℕ) → i < length xs → (A → P) → P
at_some [] i within f = let none : ⊥ = omega arith in absurd none
at_some (x ∷ xs) i within f = f x

-- ---- what a telling goes by

-- how its sketch filters, which it never does, and the line of each query
pub record Basis (A Q : Type 0) : Type 0 where
  pub keeps : ℕ → ℕ → Bool
  pub hint_of : List ℕ → List Entry → ℕ
  pub keeps_all : (hint item : ℕ) → keeps hint item ≡ true
  pub numbers : List ℕ
  pub line : Q → List ℕ → List ℕ → List ℕ
  pub lower : Q → List ℕ → List ℕ → ℕ
  pub upper : Q → List ℕ → List ℕ → ℕ
  pub telling : Telling A Q

abbrev pub basis_of : {A Q : Type 0} (keeps : ℕ → ℕ → Bool) (hint_of : List ℕ → List ℕ → ℕ) → ((hint item : ℕ) → keeps hint item ≡ true) → List ℕ → (Q → List ℕ → List ℕ → List ℕ) → (Q → List ℕ → List ℕ → ℕ) → (Q → List ℕ → List ℕ → ℕ) → Telling A Q → Basis A Q
basis_of keeps hint_of always numbers line lower upper telling = record {
  keeps = keeps;
  hint_of = λ numbers list. hint_of numbers (items_of_entries list);
  keeps_all = always;
  numbers = numbers;
  line = line;
  lower = lower;
  upper = upper;
  telling = telling;
}

abbrev pub manner_of : {A Q : Type 0} → Basis A Q → Manner
manner_of k = manner_by k.numbers k.line k.lower k.upper k.telling

-- what an answer says of items, by a sketch with these numbers
abbrev pub HoldsBy : {A Q : Type 0} → Basis A Q → Q → List ℕ → List ℕ → Type 0
HoldsBy k query numbers items = k.lower query numbers items ≤ k.upper query numbers items

abbrev pub StandsBy : {A Q : Type 0} → Basis A Q → List (List (List ℕ)) → List Entry → Hub → Showing Q → Type 0
StandsBy k windows last a r = Stands (manner_of k) k.telling.query windows last a r

abbrev pub PassesBy : {A Q : Type 0} → Basis A Q → List (List (List ℕ)) → Showing Q → Hub → Showing Q → Type 0
PassesBy k windows r b s = Passes (manner_of k) k.telling.query windows r b s

-- ---- updaters

-- where every item is kept
pub all_kept : (keeps : ℕ → ℕ → Bool) → ((hint item : ℕ) → keeps hint item ≡ true) → (hint : List Entry → ℕ) (base : List Entry) (items kept : List ℕ) → AreKept keeps hint base items kept → kept ≡ items
unfolding AreKept
all_kept keeps always hint base [] kept is = is
all_kept keeps always hint base (item ∷ items) kept (inl filtered) =
    let no : true ≡ false = sym (always (hint filtered.0.0) item) ∙ filtered.0.2 in absurd (cc)
all_kept keeps always hint base (item ∷ items) kept (inr (more, is, rest)) = is ∙ ap (λ l. item ∷ l) (all_kept keeps always hint base items more rest)

was_empty : (l : List ℕ) → not (is_empty l) ≡ false → l ≡ []
was_empty [] is = refl
was_empty (x ∷ l) is = absurd (cc)

pub took_more : (keeps : ℕ → ℕ → Bool) (always : (hint item : ℕ) → keeps hint item ≡ true) (hint_of : List ℕ → List Entry → ℕ) (manner : Manner) (windows : List (List (List ℕ))) (lines : List (List ℕ)) (list : List Entry) (i : ℕ) (u u' : UpdaterState)
    → Took manner windows list i u → Takes keeps hint_of u (share_of manner (lines ∷ []) i) u' → Took manner (windows ++ lines ∷ []) list i u'
took_more keeps always hint_of manner windows lines list i u u' took takes = record {
  number = takes.goes.number ∙ took.number;
  kept = takes.kept ∙ ap (λ l. kept_of u ++ l) (all_kept keeps always (hint_of u.view.numbers) _ (share_of manner (lines ∷ []) i) takes.more takes.of_items)
      ∙ ap (λ l. l ++ share_of manner (lines ∷ []) i) took.kept ∙ sym (share_append manner.kind windows (lines ∷ []) manner.updaters i);
  size = takes.goes.size ∙ took.size;
  knows = λ none. known none takes.goes.told;
}
  where
    known : u'.news ≡ false → HoldsTold u u' → Begins (earlier_of u') (entries_by i list)
    known none (inl (news, handed, last)) =
        let same : earlier_of u' ≡ earlier_of u = λ a. take (length (handed a) - last a) (handed a) in
        subst (λ l. Begins l (entries_by i list)) (sym same) (took.knows (sym news ∙ none))
    known none (inr is) = subst (λ l. Begins l (entries_by i list)) (sym (was_empty (earlier_of u') (sym is ∙ none))) (begins_nil (entries_by i list))

kept_left : (u u' : UpdaterState) → IsLeft u u' → kept_of u' ≡ kept_of u
kept_left u u' left = ap (λ l. l ++ u'.fill) left.handed ∙ ap (λ l. handed_of u ++ l) (ap (λ z. z.fill) left.stays)

earlier_left : (u u' : UpdaterState) → IsLeft u u' → earlier_of u' ≡ earlier_of u
earlier_left u u' left = let last : u'.last ≡ u.last = ap (λ z. z.last) left.stays in λ a. take (length (left.handed a) - last a) (left.handed a)

-- after a report the reader knows all but the last hand of each
pub knows_all : (manner : Manner) (windows : List (List (List ℕ))) (r s : Learnt) (i : ℕ) (u : UpdaterState) → Took manner windows (entries_in r.known) i u → ReaderGoesOn r s → Knows s u → Begins (earlier_of u) (entries_by i (entries_in s.known))
knows_all manner windows r s i u took goes knows = by_news u.news refl
  where
    by_news : (news : Bool) → u.news ≡ news → Begins (earlier_of u) (entries_by i (entries_in s.known))
    by_news true is = subst (λ j. Begins (earlier_of u) (entries_by j (entries_in s.known))) took.number (knows.told is)
    by_news false is = begins_trans _ _ _ (took.knows is) (entries_by_begins i (entries_in r.known) (entries_in s.known) goes.grows)

pub took_left : (manner : Manner) (windows : List (List (List ℕ))) (r s : Learnt) (i : ℕ) (u u' : UpdaterState) → Took manner windows (entries_in r.known) i u → ReaderGoesOn r s → Knows s u → IsLeft u u' → Took manner windows (entries_in s.known) i u'
took_left manner windows r s i u u' took goes knows left = record {
  number = ap (λ z. z.number) left.stays ∙ took.number;
  kept = kept_left u u' left ∙ took.kept;
  size = ap (λ z. z.size) left.stays ∙ took.size;
  knows = λ none. subst (λ l. Begins l (entries_by i (entries_in s.known))) (sym (earlier_left u u' left)) (knows_all manner windows r s i u took goes knows);
}

-- a list that has all but the last hand lacks at most two buffers
pub lacks_two : (handed fill ys : List ℕ) (last size : ℕ) → Begins (take (length handed - last) handed) ys → last ≤ size → length fill ≤ size → LacksAtMost (handed ++ fill) ys (2 * size)
lacks_two handed fill ys last size begins few filled =
    let most = length (handed ++ fill) - 2 * size in
    let inside : most ≤ length handed = omega (arith, length-append handed fill) in
    let shorter : most ≤ length handed - last = omega (arith, length-append handed fill) in
    let front : Begins (take most handed) (take (length handed - last) handed) = subst (λ l. Begins (take most handed) (take (length handed - last) l)) (append-nil handed) (begins_take most (length handed - last) handed [] shorter) in
    subst (λ l. Begins l ys) (sym (take-append-le most handed fill inside)) (begins_trans _ _ _ front begins)

-- ---- a window that was fed

pub stands_fed : {A Q : Type 0} (k : Basis A Q) (before : List (List (List ℕ))) (last : List Entry) (lines : List (List ℕ)) (a x : Hub) (r : Showing Q) → StandsBy k before last a r → FeedsWindow k.telling.propagator k.keeps k.hint_of k.telling.kind lines a x → StandsBy k (before ++ lines ∷ []) last x r
stands_fed k before last lines a x r stands fed = record {
  count = fed.updaters.count ∙ stands.count;
  took = λ i d within. let within' : i < length a.updaters = omega (arith, fed.updaters.count) in
      took_more k.keeps k.keeps_all k.hint_of (manner_of k) before lines (entries_in r.reader.known) i (get_or a.updaters i d) (get_or x.updaters i d) (stands.took i d within')
      (subst (λ n. Takes k.keeps k.hint_of (get_or a.updaters i d) (share_at n i) (get_or x.updaters i d)) stands.count (fed.updaters.each i d within'));
  query_is = stands.query_is;
  numbers = stands.numbers;
  began = stands.began;
}
  where
    share_at : ℕ → ℕ → List ℕ
    share_at n i = share k.telling.kind (lines ∷ []) n i

-- ---- a window that was reported

-- the moment at which it was
abbrev pub moment_at : ℕ → Learnt → Moment
moment_at lines s = record { lines = lines; list = entries_in s.known }

-- what is due for it, and what holds of its items, are those of the moment
pub due_is : {A Q : Type 0} (k : Basis A Q) (windows : List (List (List ℕ))) (last : List Entry) (lines : ℕ) (x : Hub) (r : Showing Q) (s : Learnt) → StandsBy k windows last x r → ReaderGoesOn r.reader s → due_line k.line lines r.query s ≡ moment_text (manner_of k) (moment_at lines s)
due_is k windows last lines x r s stands goes =
    let numbers : s.numbers ≡ k.numbers = goes.numbers ∙ stands.numbers in
    λ e. interim_line lines (k.line (stands.query_is e) (numbers e) (items_in s.known))

holds_is : {A Q : Type 0} (k : Basis A Q) (windows : List (List (List ℕ))) (last : List Entry) (x : Hub) (r : Showing Q) (s : Learnt) → StandsBy k windows last x r → ReaderGoesOn r.reader s → HoldsBy k r.query s.numbers (items_in s.known) → Holds (manner_of k) (items_in s.known)
holds_is {A} {Q} k windows last x r s stands goes holds =
    let numbers : s.numbers ≡ k.numbers = goes.numbers ∙ stands.numbers in
    subst (λ (z : Q × List ℕ). HoldsBy k z.0 z.1 (items_in s.known)) (λ e. (stands.query_is e, numbers e)) holds

pub is_moment : {A Q : Type 0} (k : Basis A Q) (windows : List (List (List ℕ))) (last : List Entry) (lines : ℕ) (x : Hub) (r : Showing Q) (s : Learnt) → lines ≡ length (all_lines windows) → StandsBy k windows last x r → LearnsHub r.reader x.updaters s
    → HoldsBy k r.query s.numbers (items_in s.known) → IsMoment (manner_of k) windows (moment_at lines s)
is_moment k windows last lines x r s count stands learns holds = record {
  lines = count;
  lacks = λ i within. let within' : i < length x.updaters = omega (arith, stands.count) in
      at_some x.updaters i within' (λ d.
      let u = get_or x.updaters i d in let took = stands.took i d within' in let knows = learns.knows i d within' in
      subst (λ l. LacksAtMost l (entries_by i (entries_in s.known)) (2 * buffer_size_by k.telling.window k.telling.size)) took.kept
      (subst (λ size. LacksAtMost (kept_of u) (entries_by i (entries_in s.known)) (2 * size)) took.size
      (lacks_two (handed_of u) u.fill (entries_by i (entries_in s.known)) u.last u.size (knows_all (manner_of k) windows r.reader s i u took learns.goes knows) knows.last knows.fill)));
  holds = holds_is k windows last x r s stands learns.goes holds;
}

pub stands_reported : {A Q : Type 0} (k : Basis A Q) (windows : List (List (List ℕ))) (last : List Entry) (x y : Hub) (r s : Showing Q) → StandsBy k windows last x r → LeavesHub x y → LearnsHub r.reader x.updaters s.reader → s.query ≡ r.query → StandsBy k windows (entries_in s.reader.known) y s
stands_reported k windows last x y r s stands leaves learns query = record {
  count = leaves.count ∙ stands.count;
  took = λ i d within. let within' : i < length x.updaters = omega (arith, leaves.count) in
      took_left (manner_of k) windows r.reader s.reader i (get_or x.updaters i d) (get_or y.updaters i d) (stands.took i d within') learns.goes (learns.knows i d within') (leaves.updaters i d within');
  query_is = query ∙ stands.query_is;
  numbers = learns.goes.numbers ∙ stands.numbers;
  began = begins_refl (entries_in s.reader.known);
}

-- ---- windows, one after another

pub passes_none : {A Q : Type 0} (k : Basis A Q) (all before : List (List (List ℕ))) (last : List Entry) (a : Hub) (r : Showing Q) (b : Hub) (s : Showing Q) → before ≡ all → b ≡ a → s ≡ r → StandsBy k before last a r → PassesBy k all r b s
unfolding interim_text
passes_none k all before last a r b s is same_hub same_report stands = record {
  moments = [];
  written = subst (λ z. Appends r.written z.written []) (sym same_report) (Appends-nil r.written);
  goes = subst (λ z. ReaderGoesOn r.reader z.reader) (sym same_report) (goes_refl r.reader);
  seen = All-nil (λ (m : Moment). Begins m.list (entries_in s.reader.known));
  last = last;
  stands = subst (λ z. StandsBy k all last z s) (sym same_hub) (subst (λ z. StandsBy k all last a z) (sym same_report) (subst (λ l. StandsBy k l last a r) is stands));
}

-- one window was fed and reported, and then others
module _ {A Q : Type 0} (k : Basis A Q) (before : List (List (List ℕ))) (count : ℕ) (last : List Entry) (lines : List (List ℕ)) (a x y : Hub) (r p : Showing Q) (is : count ≡ length (all_lines before))
    (stands : StandsBy k before last a r) (fed : FeedsWindow k.telling.propagator k.keeps k.hint_of k.telling.kind lines a x) where
  at_x : StandsBy k (before ++ lines ∷ []) last x r
  at_x = stands_fed k before last lines a x r stands fed

  pub counted : count + length lines ≡ length (all_lines (before ++ lines ∷ []))
  counted = omega (arith, is, length-append (all_lines before) lines, ap length (all_lines_more before lines))

  pub is_next : (s : Learnt) → LearnsHub r.reader x.updaters s → HoldsBy k r.query s.numbers (items_in s.known) → IsMoment (manner_of k) (before ++ lines ∷ []) (moment_at (count + length lines) s) × Begins last (entries_in s.known)
  is_next s learns holds = (
    is_moment k (before ++ lines ∷ []) last (count + length lines) x r s counted at_x learns holds,
    begins_trans _ _ _ stands.began learns.goes.grows,
  )

  module _ (windows : List (List (List ℕ))) (b : Hub) (s : Showing Q) (report : Reports k.line k.lower k.upper r (count + length lines) x y p) (rest : PassesBy k windows p b s) where
    pub passes_more : PassesBy k windows r b s
    unfolding interim_text
    passes_more = record {
      moments = moment_at (count + length lines) p.reader ∷ rest.moments;
      written = Appends-trans r.written p.written s.written (moment_text (manner_of k) (moment_at (count + length lines) p.reader)) (interim_text (manner_of k) rest.moments)
          (subst (Appends r.written p.written) (due_is k (before ++ lines ∷ []) last (count + length lines) x r p.reader at_x report.learns.goes) report.written) rest.written;
      goes = goes_trans r.reader p.reader s.reader report.learns.goes rest.goes;
      seen = All-cons (λ (m : Moment). Begins m.list (entries_in s.reader.known)) (moment_at (count + length lines) p.reader) rest.moments rest.goes.grows rest.seen;
      last = rest.last;
      stands = rest.stands;
    }

-- what its report goes by
abbrev pub terms_at : {A Q R : Type 0} → Basis A Q → (R → Showing Q) → Intake → Terms R
terms_at k shown intake = record {
  keeps = k.keeps;
  hint_of = k.hint_of;
  reports = λ r line a b s. Reports k.line k.lower k.upper (shown r) line a b (shown s);
  breaks = λ r stop line a b s. BreaksBy k.line k.lower k.upper (shown r) stop line a b (shown s);
  plan = intake;
}

-- what is read, with reports or without
abbrev pub intake_with : {A Q : Type 0} → Telling A Q → ℕ → Bool → Intake
intake_with telling most interim = record { kind = telling.kind; column = telling.column; window = window_by telling.window; interim = interim; propagator = telling.propagator; most = most }

module _ {A Q R : Type 0} (k : Basis A Q) (shown : R → Showing Q) (most : ℕ) where
  abbrev pub terms_with : Bool → Terms R
  terms_with interim = terms_at k shown (intake_with k.telling most interim)

  pub reported : (windows before all : List (List (List ℕ))) (count : ℕ) (last : List Entry) (a : Hub) (r : R) (b : Hub) (s : R) → before ++ windows ≡ all → count ≡ length (all_lines before) → StandsBy k before last a (shown r)
      → Reported (terms_with true) count windows a r b s → (p : PassesBy k all (shown r) b (shown s)) × MomentsFrom (manner_of k) before last windows p.moments
  unfolding Reported MomentsFrom passes_none passes_more
  reported [] before all count last a r b s joined is stands done =
      (passes_none k all before last a (shown r) b (shown s) (sym (append-nil before) ∙ joined) done.0 (ap shown done.1) stands, tt)
  reported (lines ∷ windows) before all count last a r b s joined is stands (x, y, p, fed, (hub, leaves, still, report), later) =
      let at = stands_fed k before last lines a x (shown r) stands fed in
      let at_y = stands_reported k (before ++ lines ∷ []) last x y (shown r) (shown p) at leaves report.learns report.query in
      let rest = reported windows (before ++ lines ∷ []) all (count + length lines) (entries_in (shown p).reader.known) y p b s (append_assoc before (lines ∷ []) windows ∙ joined)
      (counted k before count last lines a x y (shown r) (shown p) is stands fed) at_y later in
      let next = is_next k before count last lines a x y (shown r) (shown p) is stands fed (shown p).reader report.learns report.holds in
      (passes_more k before count last lines a x y (shown r) (shown p) is stands fed all b (shown s) report rest.0, (next.0, next.1, rest.1))

  -- without reports nothing is learnt
  pub waited : (windows before all : List (List (List ℕ))) (count : ℕ) (last : List Entry) (a : Hub) (r : R) (b : Hub) (s : R) → before ++ windows ≡ all → StandsBy k before last a (shown r)
      → Reported (terms_with false) count windows a r b s → (p : PassesBy k all (shown r) b (shown s)) × (p.moments ≡ [])
  unfolding Reported passes_none
  waited [] before all count last a r b s joined stands done =
      (passes_none k all before last a (shown r) b (shown s) (sym (append-nil before) ∙ joined) done.0 (ap shown done.1) stands, refl)
  waited (lines ∷ windows) before all count last a r b s joined stands (x, y, p, fed, (same_hub, same_report), later) =
      let at : StandsBy k (before ++ lines ∷ []) last y (shown p) =
      subst (λ z. StandsBy k (before ++ lines ∷ []) last z (shown p)) (sym same_hub) (subst (λ z. StandsBy k (before ++ lines ∷ []) last x (shown z)) (sym same_report) (stands_fed k before last lines a x (shown r) stands fed)) in
      let rest = waited windows (before ++ lines ∷ []) all (count + length lines) last y p b s (append_assoc before (lines ∷ []) windows ∙ joined) at later in
      let report : shown p ≡ shown r = ap shown same_report in (
        record {
          moments = rest.0.moments;
          written = subst (λ z. Appends z.written (shown s).written (interim_text (manner_of k) rest.0.moments)) report rest.0.written;
          goes = subst (λ z. ReaderGoesOn z.reader (shown s).reader) report rest.0.goes;
          seen = rest.0.seen;
          last = rest.0.last;
          stands = rest.0.stands;
        },
        rest.1,
      )

  -- the last of these windows was fed, and its report stopped by a failed write
  pub broke : (windows before : List (List (List ℕ))) (count : ℕ) (last : List Entry) (lines : List (List ℕ)) (a : Hub) (r : R) (b : Hub) (p : R) (x y : Hub) (s : R) → count ≡ length (all_lines before) → StandsBy k before last a (shown r)
      → Reported (terms_with true) count windows a r b p → FeedsWindow k.telling.propagator k.keeps k.hint_of k.telling.kind lines b x → Breaks k.line k.lower k.upper (shown p) (length (all_lines (before ++ (windows ++ lines ∷ [])))) x y (shown s)
      → (earlier : List Moment) × (m : Moment) × MomentsFrom (manner_of k) before last (windows ++ lines ∷ []) (earlier ++ m ∷ [])
      × AppendsPartAfter (interim_text (manner_of k) earlier) (shown r).written (shown s).written (interim_text (manner_of k) (earlier ++ m ∷ []))
  unfolding Reported MomentsFrom interim_text
  broke [] before count last lines a r b p x y s is stands done fed breaks =
      let feeds : FeedsWindow k.telling.propagator k.keeps k.hint_of k.telling.kind lines a x = subst (λ z. FeedsWindow k.telling.propagator k.keeps k.hint_of k.telling.kind lines z x) done.0 fed in
      let at = stands_fed k before last lines a x (shown r) stands feeds in
      let counted_as : length (all_lines (before ++ lines ∷ [])) ≡ count + length lines = omega (arith, is, length-append (all_lines before) lines, ap length (all_lines_more before lines)) in
      let breaks_r : Breaks k.line k.lower k.upper (shown r) (count + length lines) x y (shown s) = subst (λ z. Breaks k.line k.lower k.upper (shown z) (count + length lines) x y (shown s)) done.1 (subst (λ n. Breaks k.line k.lower k.upper (shown p) n x y (shown s)) counted_as breaks) in
      let next = is_next k before count last lines a x y (shown r) (shown r) is stands feeds (shown s).reader breaks_r.learns breaks_r.holds in
      let text = due_is k (before ++ lines ∷ []) last (count + length lines) x (shown r) (shown s).reader at breaks_r.learns.goes in (
        [],
        moment_at (count + length lines) (shown s).reader,
        (next.0, next.1, tt),
        part_alone (shown r).written (shown s).written (interim_text (manner_of k) (moment_at (count + length lines) (shown s).reader ∷ []))
            (subst (AppendsPart (shown r).written (shown s).written) (text ∙ sym (append-nil (moment_text (manner_of k) (moment_at (count + length lines) (shown s).reader)))) breaks_r.written),
      )
  broke (w ∷ windows) before count last lines a r b p x y s is stands (x1, y1, p1, fed1, (hub, leaves, still, report), later) fed breaks =
      let at = stands_fed k before last w a x1 (shown r) stands fed1 in
      let at_y = stands_reported k (before ++ w ∷ []) last x1 y1 (shown r) (shown p1) at leaves report.learns report.query in
      let next = is_next k before count last w a x1 y1 (shown r) (shown p1) is stands fed1 (shown p1).reader report.learns report.holds in
      let rest = broke windows (before ++ w ∷ []) (count + length w) (entries_in (shown p1).reader.known) lines y1 p1 b p x y s (counted k before count last w a x1 y1 (shown r) (shown p1) is stands fed1) at_y later fed
      (subst (λ l. Breaks k.line k.lower k.upper (shown p) (length (all_lines l)) x y (shown s)) (sym (append_assoc before (w ∷ []) (windows ++ lines ∷ []))) breaks) in
      let text = due_is k (before ++ w ∷ []) last (count + length w) x1 (shown r) (shown p1).reader at report.learns.goes in (
        moment_at (count + length w) (shown p1).reader ∷ rest.0,
        rest.1,
        (next.0, next.1, rest.2),
        part_after_behind (shown r).written (shown p1).written (shown s).written (moment_text (manner_of k) (moment_at (count + length w) (shown p1).reader)) (interim_text (manner_of k) rest.0) (interim_text (manner_of k) (rest.0 ++ rest.1 ∷ []))
            (subst (Appends (shown r).written (shown p1).written) text report.written) rest.3,
      )
