-- Windows that were fed one after another, and the handles between them.
use Rattle.std.proofs.Common.{◌≡◌, inl, inr, ℕ, zero, suc, ◌+◌, ◌<◌, Bool, List, [], ◌∷◌, ◌++◌, length, get_or, take, drop, map, sym, ap, refl, ◌∙◌, subst, arith, append_assoc}
use Rattle.sk_model.specs.Entries.{Entry}
use Rattle.sk_model.specs.Missing.{Begins}
use Rattle.sk_model.proofs.Missing.{begins_refl}
use Rattle.sk_machine.specs.declared.views.Post.TheVariants.{Updater}
use Rattle.sk_gate.specs.Views.{mine_of}
use Rattle.sk_compose.specs.Kept.{AreKept}
use Rattle.sk_hub.specs.Updaters.{UpdaterState, base_of, handed_of, kept_of}
use Rattle.sk_read.specs.declared.kind.Kind.{Kind}
use Rattle.sk_fill.specs.Windows.{WindowState}
use Rattle.sk_hub.specs.Calls.{GoesOn, Takes}
use Rattle.sk_feed.specs.Shares.{share, TakeShares}
use Rattle.sk_feed.specs.Hubs.{Hub, FeedsWindow, FeedsWindows}
use Rattle.std.proofs.lemmas.List.{get_or_default, take-append-drop}
use Rattle.sk_feed.proofs.HubLaws.{may_wait, may_go}
use Rattle.sk_feed.proofs.Rooms.{taken_before}
use Rattle.sk_feed.proofs.Shares.{share_append, no_shares, add_up}

-- ---- one updater

-- what was kept of items in two parts was kept of each
parts_kept : (keeps : ℕ → ℕ → Bool) (hint : List Entry → ℕ) (base : List Entry) (xs ys kept : List ℕ) → AreKept keeps hint base (xs ++ ys) kept
    → (first : List ℕ) × (second : List ℕ) × (kept ≡ first ++ second) × AreKept keeps hint base xs first × AreKept keeps hint base ys second
unfolding AreKept
parts_kept keeps hint base [] ys kept k = ([], kept, refl, refl, k)
parts_kept keeps hint base (x ∷ xs) ys kept (inl d) =
    let parts = parts_kept keeps hint base xs ys kept d.1 in (parts.0, parts.1, parts.2, inl (d.0, parts.3), parts.4)
parts_kept keeps hint base (x ∷ xs) ys kept (inr d) =
    let parts = parts_kept keeps hint base xs ys d.0 d.2 in (x ∷ parts.0, parts.1, d.1 ∙ ap (λ l. x ∷ l) parts.2, inr (parts.0, refl, parts.3), parts.4)

-- all of some items may be kept
all_kept : (keeps : ℕ → ℕ → Bool) (hint : List Entry → ℕ) (base : List Entry) (items : List ℕ) → AreKept keeps hint base items items
unfolding AreKept
all_kept keeps hint base [] = refl
all_kept keeps hint base (item ∷ items) = inr (items, refl, all_kept keeps hint base items)

-- an updater that holds this many items more, and goes by this list
held_more : UpdaterState → List Entry → List ℕ → UpdaterState
held_more u base more = record u { view = record u.view { post = Updater u.number (record (mine_of u.view) { base = base }) }; fill = u.fill ++ more }

goes_held : (u : UpdaterState) (base : List Entry) (more : List ℕ) → Begins (base_of u) base → GoesOn u (held_more u base more)
unfolding held_more
goes_held u base more begins = record { number = refl; size = refl; table = refl; eager = refl; name = refl; numbers = refl; sized = refl; base = begins; handed = begins_refl (handed_of u); seen = begins_refl u.view.seen; steps = begins_refl u.view.steps; told = inl (refl, refl, refl) }

kept_held : (u : UpdaterState) (base : List Entry) (more : List ℕ) → kept_of (held_more u base more) ≡ kept_of u ++ more
unfolding held_more
kept_held u base more = sym (append_assoc (handed_of u) u.fill more)

-- from one that holds what was kept first it goes on as it did
goes_from_held : (u w : UpdaterState) (more : List ℕ) → GoesOn u w → GoesOn (held_more u (base_of w) more) w
unfolding held_more
goes_from_held u w more goes = record { number = goes.number; size = goes.size; table = goes.table; eager = goes.eager; name = goes.name; numbers = goes.numbers; sized = goes.sized; base = begins_refl (base_of w); handed = goes.handed; seen = goes.seen; steps = goes.steps; told = goes.told }

-- who took items in two parts took the first, and then the second
pub parts_taken : (keeps : ℕ → ℕ → Bool) (hint_of : List ℕ → List Entry → ℕ) (u w : UpdaterState) (xs ys : List ℕ) → Takes keeps hint_of u (xs ++ ys) w → (v : UpdaterState) × Takes keeps hint_of u xs v × Takes keeps hint_of v ys w
unfolding held_more
parts_taken keeps hint_of u w xs ys taken =
    let parts = parts_kept keeps (hint_of u.view.numbers) (base_of w) xs ys taken.more taken.of_items in
    let v = held_more u (base_of w) parts.0 in (
      v,
      record { goes = goes_held u (base_of w) parts.0 taken.goes.base; more = parts.0; kept = kept_held u (base_of w) parts.0; of_items = parts.3 },
      record {
        goes = goes_from_held u w parts.0 taken.goes;
        more = parts.1;
        kept = taken.kept ∙ ap (λ l. kept_of u ++ l) parts.2 ∙ sym (append_assoc (kept_of u) parts.0 parts.1) ∙ ap (λ l. l ++ parts.1) (sym (kept_held u (base_of w) parts.0));
        of_items = parts.4;
      },
    )

-- it may take any items
takes_any : (keeps : ℕ → ℕ → Bool) (hint_of : List ℕ → List Entry → ℕ) (u : UpdaterState) (items : List ℕ) → Takes keeps hint_of u items (held_more u (base_of u) items)
unfolding held_more
takes_any keeps hint_of u items = record { goes = goes_held u (base_of u) items (begins_refl (base_of u)); more = items; kept = kept_held u (base_of u) items; of_items = all_kept keeps (hint_of u.view.numbers) (base_of u) items }

-- ---- all updaters

no_updaters : (keeps : ℕ → ℕ → Bool) (hint_of : List ℕ → List Entry → ℕ) (kind : Kind) (windows : List (List (List ℕ))) (ws : List UpdaterState) → length ws ≡ 0 → TakeShares keeps hint_of kind windows [] ws
no_updaters keeps hint_of kind windows ws count = record { count = count; each = λ i d within. let no : ⊥ = omega arith in absurd no }

chosen_at : {A : Type 0} (P : ℕ → A → Type 0) (n : ℕ) (x : A) (xs : List A) → P 0 x → ((i : ℕ) (d : A) → i < n → P (suc i) (get_or xs i d)) → (i : ℕ) (d : A) → i < suc n → P i (get_or (x ∷ xs) i d)
chosen_at P n x xs first rest zero d within = first
chosen_at P n x xs first rest (suc i) d within = rest i d (omega arith)

-- members that there are, place by place, are those of a list
chosen : {A : Type 0} (P : ℕ → A → Type 0) (n : ℕ) → ((i : ℕ) → i < n → (x : A) × P i x) → (xs : List A) × (length xs ≡ n) × ((i : ℕ) (d : A) → i < n → P i (get_or xs i d))
chosen P zero each = ([], refl, λ i d within. let no : ⊥ = omega arith in absurd no)
chosen P (suc n) each =
    let first = each 0 (omega arith) in
    let rest = chosen (λ i. P (suc i)) n (λ i within. each (suc i) (omega arith)) in
    (first.0 ∷ rest.0, omega (arith, rest.1), chosen_at P n first.0 rest.0 first.1 rest.2)

-- who took shares of windows took those of the first one, and then those of the others
first_taken : (keeps : ℕ → ℕ → Bool) (hint_of : List ℕ → List Entry → ℕ) (kind : Kind) (lines : List (List ℕ)) (more : List (List (List ℕ))) (us ws : List UpdaterState) → TakeShares keeps hint_of kind (lines ∷ more) us ws
    → (vs : List UpdaterState) × TakeShares keeps hint_of kind (lines ∷ []) us vs × TakeShares keeps hint_of kind more vs ws
first_taken keeps hint_of kind lines more [] ws taken = ([], no_updaters keeps hint_of kind (lines ∷ []) [] refl, no_updaters keeps hint_of kind more ws taken.count)
first_taken keeps hint_of kind lines more (u ∷ us) ws taken = (
  vs.0,
  record { count = vs.1; each = λ i d within. subst (λ z. Takes keeps hint_of z (share kind (lines ∷ []) n i) (get_or vs.0 i d)) (get_or_default (u ∷ us) i u d within) (vs.2 i d within).0 },
  record {
    count = taken.count ∙ sym vs.1;
    each = λ i d within.
        let inside : i < n = omega (arith, vs.1) in let inside' : i < length ws = omega (arith, taken.count) in
        subst (λ m. Takes keeps hint_of (get_or vs.0 i d) (share kind more m i) (get_or ws i d)) (sym vs.1)
        (subst (Takes keeps hint_of (get_or vs.0 i d) (share kind more n i)) (get_or_default ws i u d inside') (vs.2 i d inside).1);
  },
)
  where
    n : ℕ
    n = length (u ∷ us)

    Between : ℕ → UpdaterState → Type 0
    Between i v = Takes keeps hint_of (get_or (u ∷ us) i u) (share kind (lines ∷ []) n i) v × Takes keeps hint_of v (share kind more n i) (get_or ws i u)

    vs : (vs : List UpdaterState) × (length vs ≡ n) × ((i : ℕ) (d : UpdaterState) → i < n → Between i (get_or vs i d))
    vs = chosen Between n (λ i within.
        let all = subst (λ l. Takes keeps hint_of (get_or (u ∷ us) i u) l (get_or ws i u)) (share_append kind (lines ∷ []) more n i) (taken.each i u within) in
        let parts = parts_taken keeps hint_of (get_or (u ∷ us) i u) (get_or ws i u) (share kind (lines ∷ []) n i) (share kind more n i) all in
        (parts.0, (parts.1, parts.2)))

-- any updaters may take their shares of a window
some_took : (keeps : ℕ → ℕ → Bool) (hint_of : List ℕ → List Entry → ℕ) (kind : Kind) (lines : List (List ℕ)) (us : List UpdaterState) → (vs : List UpdaterState) × TakeShares keeps hint_of kind (lines ∷ []) us vs
some_took keeps hint_of kind lines [] = ([], no_updaters keeps hint_of kind (lines ∷ []) [] refl)
some_took keeps hint_of kind lines (u ∷ us) =
    (vs.0, record { count = vs.1; each = λ i d within. subst (λ z. Takes keeps hint_of z (share kind (lines ∷ []) n i) (get_or vs.0 i d)) (get_or_default (u ∷ us) i u d within) (vs.2 i d within) })
  where
    n : ℕ
    n = length (u ∷ us)

    Then : ℕ → UpdaterState → Type 0
    Then i v = Takes keeps hint_of (get_or (u ∷ us) i u) (share kind (lines ∷ []) n i) v

    vs : (vs : List UpdaterState) × (length vs ≡ n) × ((i : ℕ) (d : UpdaterState) → i < n → Then i (get_or vs i d))
    vs = chosen Then n (λ i within. (held_more (get_or (u ∷ us) i u) (base_of (get_or (u ∷ us) i u)) (share kind (lines ∷ []) n i), takes_any keeps hint_of (get_or (u ∷ us) i u) (share kind (lines ∷ []) n i)))

-- ---- all handles

-- a hub that took windows took the first of them, and then the others
pub first_fed : (on : Bool) (keeps : ℕ → ℕ → Bool) (hint_of : List ℕ → List Entry → ℕ) (kind : Kind) (lines : List (List ℕ)) (more : List (List (List ℕ))) (a b : Hub) → FeedsWindows on keeps hint_of kind (lines ∷ more) a b
    → (x : Hub) × FeedsWindow on keeps hint_of kind lines a x × FeedsWindows on keeps hint_of kind more x b
first_fed on keeps hint_of kind lines more a b fed =
    let vs = first_taken keeps hint_of kind lines more a.updaters b.updaters fed.updaters in (
      record { heart = a.heart; updaters = vs.0; token = a.token },
      record { heart = may_wait on a.heart; updaters = vs.1; token = refl },
      record { heart = fed.heart; updaters = vs.2; token = fed.token },
    )

pub some_fed : (on : Bool) (keeps : ℕ → ℕ → Bool) (hint_of : List ℕ → List Entry → ℕ) (kind : Kind) (lines : List (List ℕ)) (a : Hub) → (x : Hub) × FeedsWindow on keeps hint_of kind lines a x
some_fed on keeps hint_of kind lines a =
    let vs = some_took keeps hint_of kind lines a.updaters in (record { heart = a.heart; updaters = vs.0; token = a.token }, record { heart = may_wait on a.heart; updaters = vs.1; token = refl })

pub none_fed : (on : Bool) (keeps : ℕ → ℕ → Bool) (hint_of : List ℕ → List Entry → ℕ) (kind : Kind) (a : Hub) → FeedsWindows on keeps hint_of kind [] a a
none_fed on keeps hint_of kind a = record { heart = may_wait on a.heart; updaters = no_shares keeps hint_of kind a.updaters; token = refl }

pub one_fed : (on : Bool) (keeps : ℕ → ℕ → Bool) (hint_of : List ℕ → List Entry → ℕ) (kind : Kind) (lines : List (List ℕ)) (a b : Hub) → FeedsWindow on keeps hint_of kind lines a b → FeedsWindows on keeps hint_of kind (lines ∷ []) a b
one_fed on keeps hint_of kind lines a b fed = record { heart = fed.heart; updaters = fed.updaters; token = fed.token }

pub fed_on : (on : Bool) (keeps : ℕ → ℕ → Bool) (hint_of : List ℕ → List Entry → ℕ) (kind : Kind) (windows more : List (List (List ℕ))) (a b c : Hub) → FeedsWindows on keeps hint_of kind windows a b → FeedsWindows on keeps hint_of kind more b c → FeedsWindows on keeps hint_of kind (windows ++ more) a c
fed_on on keeps hint_of kind windows more a b c first then = record {
  heart = may_go on a.heart b.heart c.heart first.heart then.heart;
  updaters = add_up keeps hint_of kind windows more a.updaters b.updaters c.updaters first.updaters then.updaters;
  token = then.token ∙ first.token;
}

-- ---- one window after another

-- the windows before a place were fed, and then the one there
pub fed_next : (on : Bool) (keeps : ℕ → ℕ → Bool) (hint_of : List ℕ → List Entry → ℕ) (kind : Kind) (ws : List WindowState) (w : WindowState) (at : ℕ) (a b c : Hub) → at < length ws → w ≡ get_or ws at w → FeedsWindows on keeps hint_of kind (take at (map (λ (z : WindowState). z.lines) ws)) a b → FeedsWindow on keeps hint_of kind w.lines b c
    → FeedsWindows on keeps hint_of kind (take (at + 1) (map (λ (z : WindowState). z.lines) ws)) a c
fed_next on keeps hint_of kind ws w at a b c within is before now =
    subst (λ l. FeedsWindows on keeps hint_of kind l a c) (sym (taken_before ws at w within is))
    (fed_on on keeps hint_of kind (take at (map (λ (z : WindowState). z.lines) ws)) (w.lines ∷ []) a b c before (one_fed on keeps hint_of kind w.lines b c now))

-- then those from there on
pub fed_rest : (on : Bool) (keeps : ℕ → ℕ → Bool) (hint_of : List ℕ → List Entry → ℕ) (kind : Kind) (windows : List (List (List ℕ))) (at : ℕ) (a b c : Hub) → FeedsWindows on keeps hint_of kind (take at windows) a b → FeedsWindows on keeps hint_of kind (drop at windows) b c → FeedsWindows on keeps hint_of kind windows a c
fed_rest on keeps hint_of kind windows at a b c first then =
    subst (λ l. FeedsWindows on keeps hint_of kind l a c) (take-append-drop at windows) (fed_on on keeps hint_of kind (take at windows) (drop at windows) a b c first then)
