-- Updaters of new hubs, dealt to desks.
use Rattle.std.proofs.Common.{◌≡◌, ◌⊎◌, inl, inr, ℕ, ◌+◌, ◌<◌, ◌≤◌, List, [], ◌∷◌, ◌++◌, length, get_or, map, replicate, refl, sym, ap, subst, ◌∙◌, arith, length-append}
use Rattle.std.proofs.lemmas.Bool.{cases_lt}
use Rattle.std.proofs.lemmas.List.{get_or_append_left, get_or-map, get_or-replicate, length-map, length-replicate}
use Rattle.std.proofs.lemmas.List.Elements.{All-nil, All-push}
use Rattle.std.proofs.lemmas.Option.{slice_get-get_or}
use Rattle.std.proofs.Math.Seq.{get_or-append_seam}
use Rattle.sk_model.specs.Limits.{most_kept}
use Rattle.sk_theta.specs.Sizes.{Sizes}
use Rattle.sk_hub.specs.Updaters.{UpdaterState}
use Rattle.sk_hub.specs.Hearts.{HeartState}
use Rattle.sk_hub.specs.Drains.{IsNew}
use Rattle.sk_hub.specs.Starts.{IsNewHeart, AreNew}
use Rattle.sk_tenant.specs.Names.{AreDifferent, most_tenants}
use Rattle.sk_tenant.specs.Calls.{theta_hint}
use Rattle.sk_tenant.specs.Desks.{DeskState, IsDesk}
use Rattle.sk_tenant.specs.Hosts.{TenantsState, IsNewUpdater, IsNewDesk, AreNewDesks, IsDeskOf}
use Rattle.sk_tenant.specs.Openings.{DealsHub, AreNewHubs, AreUnused, AreUnusedLists, AreDesksOf}
use Rattle.sk_tenant.proofs.Standing.{with_member}

-- ---- hubs

pub no_hubs : (shape : Sizes) (lists : List (List UpdaterState)) → lists ≡ replicate shape.n [] → AreNewHubs shape 0 [] lists
no_hubs shape lists are = record {
  tenants = refl;
  hubs = All-nil (IsNewHeart shape.n (shape.k ∷ []) [] shape.eager);
  desks = as_many;
  full = λ i d within. ap (λ l. length (get_or l i d)) are ∙ ap length (get_or-replicate shape.n i [] d (omega (arith, within, as_many)));
  updaters = λ i t l h u within below. absurd (omega arith);
}
  where
    as_many : length lists ≡ shape.n
    as_many = ap length are ∙ length-replicate shape.n []

one_hub_more : (shape : Sizes) (n : ℕ) (hearts : List HeartState) (h : HeartState) (lists lists' : List (List UpdaterState)) → AreNewHubs shape n hearts lists → DealsHub shape h lists lists' → AreNewHubs shape (n + 1) (hearts ++ h ∷ []) lists'
one_hub_more shape n hearts h lists lists' hubs deals = record {
  tenants = omega (arith, length-append hearts (h ∷ []), hubs.tenants);
  hubs = All-push (IsNewHeart shape.n (shape.k ∷ []) [] shape.eager) hearts h hubs.hubs deals.hub;
  desks = deals.dealt.count ∙ hubs.desks;
  full = λ i d within. one_longer i d (omega (arith, within, deals.dealt.count));
  updaters = λ i t l d u within below. by_place i t l d u (omega (arith, within, deals.dealt.count)) below (cases_lt t n);
}
  where
    one_longer : (i : ℕ) (d : List UpdaterState) → i < length lists → length (get_or lists' i d) ≡ n + 1
    one_longer i d within = with_member deals.dealt_updaters i (omega (arith, within, deals.dealt.as_many)) (λ u.
        ap length (deals.dealt.each i d u within) ∙ length-append (get_or lists i d) (get_or deals.dealt_updaters i u ∷ []) ∙ ap (λ m. m + 1) (hubs.full i d within))

    by_place : (i t : ℕ) (l : List UpdaterState) (d : HeartState) (u : UpdaterState) → i < length lists → t < n + 1 → (t < n) ⊎ (n ≤ t) → IsNewUpdater shape i (get_or (hearts ++ h ∷ []) t d) (get_or (get_or lists' i l) t u)
    by_place i t l d u within below (inl before) =
        subst (λ x. IsNewUpdater shape i x (get_or (get_or lists' i l) t u)) (sym (get_or_append_left hearts (h ∷ []) d t (omega (arith, before, hubs.tenants))))
        (subst (λ y. IsNewUpdater shape i (get_or hearts t d) (get_or y t u)) (sym (deals.dealt.each i l u within))
        (subst (IsNewUpdater shape i (get_or hearts t d)) (sym (get_or_append_left (get_or lists i l) (get_or deals.dealt_updaters i u ∷ []) u t (omega (arith, before, hubs.full i l within))))
        (hubs.updaters i t l d u within before)))
    by_place i t l d u within below (inr last) =
        let here : length hearts ≡ t = omega (arith, last, below, hubs.tenants) in
        let there : length (get_or lists i l) ≡ t = omega (arith, last, below, hubs.full i l within) in
        subst (λ x. IsNewUpdater shape i x (get_or (get_or lists' i l) t u)) (sym (ap (λ m. get_or (hearts ++ h ∷ []) m d) (sym here) ∙ get_or-append_seam hearts h [] d))
        (subst (λ y. IsNewUpdater shape i h (get_or y t u)) (sym (deals.dealt.each i l u within))
        (subst (IsNewUpdater shape i h) (sym (ap (λ m. get_or (get_or lists i l ++ get_or deals.dealt_updaters i u ∷ []) m u) (sym there) ∙ get_or-append_seam (get_or lists i l) (get_or deals.dealt_updaters i u) [] u))
        (deals.new_ones i u within)))

pub hubs_then : (shape : Sizes) (n : ℕ) (hearts hearts' : List HeartState) (h : HeartState) (lists lists' : List (List UpdaterState)) → hearts' ≡ hearts ++ h ∷ [] → AreNewHubs shape n hearts lists → DealsHub shape h lists lists' → AreNewHubs shape (n + 1) hearts' lists'
hubs_then shape n hearts hearts' h lists lists' is hubs deals = subst (λ l. AreNewHubs shape (n + 1) l lists') (sym is) (one_hub_more shape n hearts h lists lists' hubs deals)

-- an updater of a new hub
pub new_updater : (shape : Sizes) (numbers : List ℕ) (h : HeartState) (us : List UpdaterState) → numbers ≡ shape.k ∷ [] → IsNewHeart shape.n numbers [] shape.eager h → length us ≡ shape.n → AreNew theta_hint (replicate shape.n shape.b) h us
    → (i : ℕ) (u : UpdaterState) → i < length us → IsNewUpdater shape i h (get_or us i u)
new_updater shape numbers h us same heart count new i u within =
    let its = new i (get_or us i u) (slice_get-get_or us i u within) in record {
      new = subst (λ b. IsNew theta_hint i b h (get_or us i u)) (get_or-replicate shape.n i shape.b 0 (omega (arith, within, count))) its;
      numbers = its.numbers ∙ heart.numbers_are ∙ same;
    }

-- ---- desks

pub next_list : {V : Type 0} (items : V → List UpdaterState) (tenants : ℕ) (lists before rest : List V) (v : V) → before ++ v ∷ rest ≡ lists → AreUnusedLists tenants (map items lists) → AreUnused (length before) tenants (items v)
next_list items tenants lists before rest v all unused =
    let within : length before < length lists = omega (arith, ap length all, length-append before (v ∷ rest)) in
    subst (AreUnused (length before) tenants)
    (get_or-map items lists (length before) v [] within ∙ ap items (ap (λ l. get_or l (length before) v) (sym all) ∙ get_or-append_seam before v rest v))
    (unused (length before) [] (omega (arith, within, length-map lists items)))

pub new_desk : (names own : List (List ℕ)) (quota i number : ℕ) (us : List UpdaterState) → own ≡ names → number ≡ i → length names ≤ most_tenants → AreDifferent names → 1 ≤ quota → quota ≤ most_kept → AreUnused i (length names) us
    → IsDesk (record { names = own; number = number; quota = quota; updaters = us })
new_desk names own quota i number us same its few different some most unused = record {
  few = omega (arith, few, ap length same);
  different = subst AreDifferent (sym same) different;
  tenants = unused.count ∙ sym (ap length same);
  quota_is = (some, most);
  numbers = λ j d within. unused.numbers j d within ∙ sym its;
  within = λ j d within. omega (arith, ap length (unused.none j d within));
}

pub no_desks : (names : List (List ℕ)) (quota : ℕ) → AreDesksOf names quota [] []
no_desks names quota = record { count = refl; each = λ i l d within. absurd (omega arith) }

abbrev pub desk_with : List (List ℕ) → ℕ → ℕ → List UpdaterState → DeskState
desk_with names number quota us = record { names = names; number = number; quota = quota; updaters = us }

pub same_desk : (names own : List (List ℕ)) (quota number n : ℕ) (us all : List UpdaterState) → own ≡ names → number ≡ n → us ≡ all
    → desk_with own number quota us ≡ desk_with names n quota all
same_desk names own quota number n us all same its are = ap (λ x. desk_with x number quota us) same ∙ ap (λ x. desk_with names x quota us) its ∙ ap (desk_with names n quota) are

pub one_desk_more : (names : List (List ℕ)) (quota : ℕ) (lists : List (List UpdaterState)) (desks : List DeskState) (us : List UpdaterState) (last : DeskState) → AreDesksOf names quota lists desks
    → last ≡ desk_with names (length desks) quota us → AreDesksOf names quota (lists ++ us ∷ []) (desks ++ last ∷ [])
one_desk_more names quota lists desks us last are is = record {
  count = omega (arith, are.count, length-append lists (us ∷ []), length-append desks (last ∷ []));
  each = λ i l d within. by_place i l d (omega (arith, within, length-append desks (last ∷ []))) (cases_lt i (length desks));
}
  where
    by_place : (i : ℕ) (l : List UpdaterState) (d : DeskState) → i < length desks + 1 → (i < length desks) ⊎ (length desks ≤ i) → get_or (desks ++ last ∷ []) i d ≡ desk_with names i quota (get_or (lists ++ us ∷ []) i l)
    by_place i l d within (inl before) =
        get_or_append_left desks (last ∷ []) d i before ∙ are.each i l d before
        ∙ ap (λ x. desk_with names i quota x) (sym (get_or_append_left lists (us ∷ []) l i (omega (arith, before, are.count))))
    by_place i l d within (inr later) =
        let here : length desks ≡ i = omega (arith, within, later) in
        let there : length lists ≡ i = omega (arith, here, are.count) in
        ap (λ m. get_or (desks ++ last ∷ []) m d) (sym here) ∙ get_or-append_seam desks last [] d ∙ is
        ∙ ap (λ x. desk_with names x quota us) here
        ∙ ap (λ x. desk_with names i quota x) (sym (ap (λ m. get_or (lists ++ us ∷ []) m l) (sym there) ∙ get_or-append_seam lists us [] l))

-- ---- all of it

module _ (shape : Sizes) (n : ℕ) (hearts : List HeartState) (lists : List (List UpdaterState)) (hubs : AreNewHubs shape n hearts lists) where
  pub unused_lists : (tenants : ℕ) → n ≡ tenants → AreUnusedLists tenants lists
  unused_lists tenants same i l within = record {
    count = hubs.full i l within ∙ same;
    numbers = λ t u inside. with_member hearts t (omega (arith, inside, hubs.tenants, hubs.full i l within)) (λ h. (hubs.updaters i t l h u within (omega (arith, inside, hubs.full i l within))).new.number_is);
    none = λ t u inside. with_member hearts t (omega (arith, inside, hubs.tenants, hubs.full i l within)) (λ h. (hubs.updaters i t l h u within (omega (arith, inside, hubs.full i l within))).new.kept);
  }

  pub new_desks : (names : List (List ℕ)) (k m quota : ℕ) (desks : List DeskState) → AreDesksOf names quota lists desks → AreNewDesks (record { names = names; k = k; n = m; hearts = hearts }) shape quota desks
  new_desks names k m quota desks are i d within =
      let inside : i < length lists = omega (arith, within, are.count) in
      subst (IsNewDesk (record { names = names; k = k; n = m; hearts = hearts }) shape quota i) (sym (are.each i [] d within)) (record {
        names_are = refl;
        quota_is = refl;
        number_is = refl;
        tenants = hubs.full i [] inside ∙ sym hubs.tenants;
        updaters = λ t h u at. hubs.updaters i t [] h u inside (omega (arith, at, hubs.full i [] inside));
      })

pub new_is_of : (hosts : TenantsState) (shape : Sizes) (quota i : ℕ) (d : DeskState) → IsNewDesk hosts shape quota i d → IsDeskOf hosts d
new_is_of hosts shape quota i d new = record { tenants = new.tenants; tables = λ t h u within. (new.updaters t h u within).new.table }
