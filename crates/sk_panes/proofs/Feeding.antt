-- What the updater of an interval has taken and kept.
use Rattle.std.proofs.Common.{◌≡◌, ◌+◌, ◌*◌, inl, inr, ⊎_elim, ℕ, ◌<◌, ◌≤◌, nat_lt, ◌==◌, if◌then◌else◌, Bool, true, false, List, [], ◌∷◌, ◌++◌, length, map, filter, get_or, slice_set, All, Contains, Result, Ok, Err, OnOk, refl, sym, ap, subst, ◌∙◌, arith, length-append}
use Rattle.std.proofs.Math.ListN.{get_or-append}
use Rattle.std.proofs.lemmas.Bool.Decides.{nat_tests}
use Rattle.std.proofs.lemmas.List.Elements.{All-head, All-tail, All-contains}
use Rattle.sk_model.specs.Entries.{Entry, items_of_entries, entries_by}
use Rattle.sk_model.specs.Limits.{most_k, most_kept}
use Rattle.sk_model.specs.Missing.{Begins}
use Rattle.sk_model.specs.Sketch.{k_smallest, theta_of}
use Rattle.sk_model.specs.Width.{IsItem, AreItems}
use Rattle.sk_model.proofs.Entries.{items_append}
use Rattle.sk_model.proofs.Missing.{begins_trans}
use Rattle.sk_model.proofs.Rising.{Has, Has-from_Contains, Contains-from_Has}
use Rattle.sk_model.proofs.Sketch.{idle_stays, idle_once}
use Rattle.sk_theta.specs.Sizes.{Sizes}
use Rattle.sk_compose.specs.Kept.{IsFiltered}
use Rattle.sk_compose.specs.Numbers.{k_of}
use Rattle.sk_compose.proofs.Smallest.{kept_or_filtered, kept_within, same_smallest}
use Rattle.sk_machine.specs.Coarse.{IsEntry}
use Rattle.sk_machine.proofs.Coarse.{entries_by_begins}
use Rattle.sk_hub.specs.Calls.{Takes}
use Rattle.sk_hub.specs.Hearts.{HeartState}
use Rattle.sk_hub.specs.Updaters.{UpdaterState, kept_of, base_of, handed_of, IsWholeUpdater}
use Rattle.sk_hub.proofs.Calls.{none_refl, takes_none, takes_trans, takes_few}
use Rattle.sk_snap.specs.Versions.{Learnt}
use Rattle.sk_learn.specs.Closing.{HasExactly}
use Rattle.sk_window.specs.Hubs.{IsFresh, IsFreshUpdater}
use Rattle.sk_panes.specs.Candidates.{CandidatesState, HaveSmallest, TakesSmallest}
use Rattle.sk_panes.specs.Running.{keeps, hint_of, HasFed, FeedsOne, FeedsSmallest}
use Rattle.sk_panes.specs.declared.plan.Plan.{Plan}

-- ---- one more item

pub fed_more : (plan : Plan) (heart : HeartState) (items more : List ℕ) (u v : UpdaterState) → HasFed plan heart items u → Takes keeps hint_of u more v → HasFed plan heart (items ++ more) v
fed_more plan heart items more u v fed takes = record {
  table = takes.goes.table ∙ fed.table;
  first = fed.first;
  none = fed.none;
  numbers = fed.numbers;
  alone = fed.alone;
  takes = takes_trans keeps hint_of fed.first u v items more fed.takes takes;
}

pub fed_few : (plan : Plan) (heart : HeartState) (items : List ℕ) (u : UpdaterState) → HasFed plan heart items u → length (kept_of u) ≤ length items
fed_few plan heart items u fed = omega (arith, takes_few keeps hint_of fed.first u items fed.takes, ap (λ (l : List ℕ). length l) fed.none)

pub feeds_more : (plan : Plan) (heart : HeartState) (items more : List ℕ) (us vs : List UpdaterState) (v : UpdaterState) (feeds : FeedsOne plan heart items us) → Takes keeps hint_of feeds.one more v → vs ≡ v ∷ [] → FeedsOne plan heart (items ++ more) vs
feeds_more plan heart items more us vs v feeds takes only = record { one = v; only = only; fed = fed_more plan heart items more feeds.one v feeds.fed takes }

-- the first of a list of one
pub at_first : (us : List UpdaterState) (u v : UpdaterState) → us ≡ v ∷ [] → u ≡ get_or us 0 u → u ≡ v
at_first us u v only is = is ∙ ap (λ (l : List UpdaterState). get_or l 0 u) only

-- the only one has taken what has the k smallest of these items
pub hands_in : (plan : Plan) (heart : HeartState) (items : List ℕ) (held : CandidatesState) (us : List UpdaterState) (u v : UpdaterState) → FeedsOne plan heart [] us → u ≡ get_or us 0 u → held.k ≡ plan.k → HaveSmallest items held
    → TakesSmallest keeps hint_of held.k held.items u v → FeedsSmallest plan heart items (slice_set us 0 v)
hands_in plan heart items held us u v feeds first k have takes =
    let one : u ≡ feeds.one = at_first us u feeds.one feeds.only first in
    let its : Takes keeps hint_of feeds.one takes.taken v = subst (λ (w : UpdaterState). Takes keeps hint_of w takes.taken v) one takes.takes in
    record {
      taken = takes.taken;
      small = takes.small;
      same = subst (λ (n : ℕ). k_smallest n takes.taken ≡ k_smallest n items) k (takes.same ∙ have.same);
      feeds = feeds_more plan heart [] takes.taken us (slice_set us 0 v) v feeds its (ap (λ (l : List UpdaterState). slice_set l 0 v) feeds.only);
    }

-- it has kept nothing, so there is room for all of them
pub has_room : (plan : Plan) (heart : HeartState) (us : List UpdaterState) (u : UpdaterState) → FeedsOne plan heart [] us → u ≡ get_or us 0 u → length (kept_of u) + 2 * most_k ≤ most_kept
has_room plan heart us u feeds first =
    let one : u ≡ feeds.one = at_first us u feeds.one feeds.only first in
    omega (arith, fed_few plan heart [] feeds.one feeds.fed, ap (λ (w : UpdaterState). length (kept_of w)) one)

-- what follows of a success
pub on_ok_then : {T E : Type 0} (o : Result T E) (P Q : Type 0) → (P → Q) → OnOk o P → OnOk o Q
on_ok_then (Ok x) P Q follows p = follows p
on_ok_then (Err e) P Q follows p = tt

-- a list of one
pub only_one : {X : Type 0} (xs : List X) → length xs ≡ 1 → (x : X) × (xs ≡ x ∷ [])
only_one [] count = absurd (omega arith)
only_one (x ∷ []) count = (x, refl)
only_one (x ∷ y ∷ xs) count = absurd (omega arith)

-- ---- a new updater

pub fresh_feeds : (plan : Plan) (shape : Sizes) (heart : HeartState) (us : List UpdaterState) (reader : Learnt) → IsFresh shape heart us reader → shape.n ≡ 1 → shape.k ≡ plan.k → FeedsOne plan heart [] us
fresh_feeds plan shape heart us reader fresh one k =
    let first = only_one us (fresh.count ∙ one) in
    let u = first.0 in
    let its : IsFreshUpdater shape heart reader u = All-head (IsFreshUpdater shape heart reader) u [] (subst (All (IsFreshUpdater shape heart reader)) first.1 fresh.each) in
    record {
      one = u;
      only = first.1;
      fed = record {
        table = its.table;
        first = u;
        none = its.kept;
        numbers = its.numbers ∙ ap (λ n. n ∷ []) k;
        alone = its.sized ∙ one;
        takes = takes_none keeps hint_of u u (none_refl u);
      };
    }

-- ---- what it kept

-- entries that are all of one updater
all_of : (i : ℕ) (list : List Entry) → All (λ entry. entry.0 ≡ i) list → items_of_entries list ≡ entries_by i list
unfolding items_of_entries entries_by
all_of i [] all = refl
all_of i (e ∷ es) all =
    let same : e.0 ≡ i = All-head (λ (entry : Entry). entry.0 ≡ i) e es all in
    let test : (e.0 == i) ≡ true = grind (arith, nat_tests) in
    let rest = filter (λ (entry : Entry). entry.0 == i) es in
    ap (λ (l : List ℕ). e.1 ∷ l) (all_of i es (All-tail (λ (entry : Entry). entry.0 ≡ i) e es all))
    ∙ sym (ap (λ (b : Bool). map (λ (entry : Entry). entry.1) (if b then e ∷ rest else rest)) test)

-- what holds of all of a list holds of all of a beginning
all_begin : {X : Type 0} (P : X → Type 0) (xs ys : List X) → Begins xs ys → All P ys → All P xs
all_begin P xs ys begins all = λ i d within.
    let inside : i < length ys = omega (arith, ap length begins.1, length-append xs begins.0) in
    subst P (ap (λ l. get_or l i d) begins.1 ∙ get_or-append xs begins.0 d i within) (all i d inside)

-- an updater that is alone has number 0, and so have all entries that it has seen: its base is a beginning of what it kept.
-- What else was filtered changes nothing, so what it kept has the k smallest of all items that it took
module _ (plan : Plan) (heart : HeartState) (items : List ℕ) (u : UpdaterState) (hint : List ℕ → List Entry → ℕ) (fed : HasFed plan heart items u) (whole : IsWholeUpdater hint u) (small : AreItems items) where
  base_of_mine : All (λ entry. entry.0 ≡ u.number) (base_of u)
  base_of_mine i d within =
      let seen : All (IsEntry (length u.view.sizes)) (base_of u) = all_begin (IsEntry (length u.view.sizes)) (base_of u) u.view.seen whole.view.based whole.view.entries in
      let alone : length u.view.sizes ≡ 1 = fed.takes.goes.sized ∙ fed.alone in
      omega (arith, (seen i d within).0, alone, whole.within)

  base_kept : Begins (items_of_entries (base_of u)) (kept_of u)
  base_kept =
      let own : Begins (entries_by u.number (base_of u)) (handed_of u) = begins_trans _ _ _ (entries_by_begins u.number (base_of u) u.view.seen whole.view.based) whole.view.own in
      let kept : Begins (entries_by u.number (base_of u)) (kept_of u) = begins_trans _ _ _ own (u.fill, refl) in
      subst (λ (l : List ℕ). Begins l (kept_of u)) (sym (all_of u.number (base_of u) base_of_mine)) kept

  more_is : kept_of u ≡ fed.takes.more
  more_is = fed.takes.kept ∙ ap (λ (l : List ℕ). l ++ fed.takes.more) fed.none

  its_k : k_of fed.first.view.numbers ≡ plan.k
  its_k = ap k_of fed.numbers

  into : (z : ℕ) → Has (kept_of u) z → Has items z
  into z h = kept_within keeps (hint_of fed.first.view.numbers) (base_of u) items fed.takes.more z fed.takes.of_items (subst (λ (l : List ℕ). Has l z) more_is h)

  idle : (z : ℕ) → IsItem z → IsFiltered keeps (hint_of fed.first.view.numbers) (base_of u) z → k_smallest plan.k (kept_of u ++ z ∷ []) ≡ k_smallest plan.k (kept_of u)
  idle z item filtered =
      let prefix = filtered.0 in
      let past : theta_of plan.k (items_of_entries prefix) ≤ z =
      let test : nat_lt z (theta_of plan.k (items_of_entries prefix)) ≡ false = subst (λ (k : ℕ). nat_lt z (theta_of k (items_of_entries prefix)) ≡ false) its_k filtered.2 in
      grind (arith, nat_tests) in
      let first : Begins (items_of_entries prefix) (items_of_entries (base_of u)) = (items_of_entries filtered.1.0, ap items_of_entries filtered.1.1 ∙ items_append prefix filtered.1.0) in
      let all : Begins (items_of_entries prefix) (kept_of u) = begins_trans _ _ _ first base_kept in
      idle_once plan.k z (kept_of u) item (subst (λ (l : List ℕ). theta_of plan.k l ≤ z) (sym all.1) (idle_stays plan.k z (items_of_entries prefix) all.0 item past))

  pub smallest_kept : k_smallest plan.k (kept_of u) ≡ k_smallest plan.k items
  smallest_kept = same_smallest plan.k (kept_of u) items into
      (λ z h. ⊎_elim
      (λ kept. inl (subst (λ (l : List ℕ). Has l z) (sym more_is) kept))
      (λ filtered. inr (idle z (All-contains IsItem items z small (Contains-from_Has items z h)) filtered))
      (kept_or_filtered keeps (hint_of fed.first.view.numbers) (base_of u) items fed.takes.more z fed.takes.of_items h))

-- a list with exactly what it kept
one_member : (i n : ℕ) → Contains (i ∷ []) n → n ≡ i
one_member i n h = ⊎_elim sym absurd (Has-from_Contains (i ∷ []) n h)

pub exactly_kept : (list : List Entry) (u : UpdaterState) → HasExactly list (u ∷ []) → items_of_entries list ≡ kept_of u
exactly_kept list u has =
    let only : All (λ entry. entry.0 ≡ u.number) list = λ i d within. one_member u.number (get_or list i d).0 (has.only i d within) in
    all_of u.number list only ∙ All-head (λ (v : UpdaterState). entries_by v.number list ≡ kept_of v) u [] has.each
