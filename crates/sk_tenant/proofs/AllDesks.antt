-- The updaters of all desks, dealt to the tenants, and hearts that drained them.
use Rattle.std.proofs.Common.{◌≡◌, ℕ, ◌+◌, ◌<◌, List, [], ◌∷◌, ◌++◌, length, get_or, map, replicate, All, sym, ap, subst, ◌∙◌, arith, length-append}
use Rattle.std.proofs.lemmas.List.{get_or_default, get_or-map, get_or-replicate, length-map, length-replicate, map-append}
use Rattle.std.proofs.Math.Seq.{get_or-append_seam}
use Rattle.sk_hub.specs.Updaters.{UpdaterState}
use Rattle.sk_hub.specs.Hearts.{HeartState}
use Rattle.sk_hub.specs.Drains.{HasTakenIn}
use Rattle.sk_feed.specs.Drained.{DrainsAll}
use Rattle.sk_tenant.specs.Desks.{DeskState}
use Rattle.sk_tenant.specs.Hosts.{TenantsState, IsHeartOf, AreNumbered, IsDeskOf, DrainsDesks, HasTakenInDesk, updaters_for}
use Rattle.sk_tenant.specs.Openings.{AreDealt}
use Rattle.sk_tenant.specs.Drainings.{HasAllTenants, AreByTenant, AreAllOf, AreListsOf, DrainLists}
use Rattle.sk_tenant.proofs.Standing.{with_member}

-- the next member that is gone through
pub next_member : {A : Type 0} (P : A → Type 0) (all before rest : List A) (x : A) → before ++ x ∷ rest ≡ all → All P all → P x
next_member P all before rest x is each =
    subst P (get_or-append_seam before x rest x)
    (subst (λ l. P (get_or l (length before) x)) (sym is) (each (length before) x (omega (arith, ap length is, length-append before (x ∷ rest)))))

-- ---- dealt to the tenants

pub none_dealt : (tenants : ℕ) (lists : List (List UpdaterState)) → lists ≡ replicate tenants [] → AreByTenant tenants [] lists
none_dealt tenants lists are = record {
  count = as_many;
  full = λ t l within. ap length (ap (λ (x : List (List UpdaterState)). get_or x t l) are ∙ get_or-replicate tenants t [] l (omega (arith, within, as_many)));
  each = λ t l u within. ap (λ (x : List (List UpdaterState)). get_or x t l) are ∙ get_or-replicate tenants t [] l within;
}
  where
    as_many : length lists ≡ tenants
    as_many = ap length are ∙ length-replicate tenants []

pub one_dealt : (tenants : ℕ) (desks : List DeskState) (d : DeskState) (us : List UpdaterState) (lists lists' : List (List UpdaterState)) → us ≡ d.updaters → AreByTenant tenants desks lists → AreDealt us lists lists' → AreByTenant tenants (desks ++ d ∷ []) lists'
one_dealt tenants desks d us lists lists' its by dealt = record {
  count = dealt.count ∙ by.count;
  full = λ t l within.
      let inside : t < length lists = omega (arith, within, dealt.count) in
      with_member us t (omega (arith, inside, dealt.as_many)) (λ u.
      ap length (dealt.each t l u inside) ∙ length-append (get_or lists t l) (get_or us t u ∷ []) ∙ ap (λ n. n + 1) (by.full t l inside) ∙ sym (length-append desks (d ∷ [])));
  each = λ t l u within.
      let f : DeskState → UpdaterState = λ x. get_or x.updaters t u in
      dealt.each t l u (omega (arith, within, by.count))
      ∙ ap (λ x. x ++ get_or us t u ∷ []) (by.each t l u within)
      ∙ ap (λ x. map f desks ++ get_or x t u ∷ []) its
      ∙ sym (map-append f desks (d ∷ []));
}

-- ---- what is drained

module _ (hosts : TenantsState) (desks : List DeskState) (tenants : ℕ) (lists : List (List UpdaterState)) (same : tenants ≡ length hosts.hearts) (by : AreByTenant tenants desks lists)
    (all : All (HasAllTenants tenants) desks) (of : All (IsDeskOf hosts) desks) (numbered : AreNumbered desks)
  where
    at : (t i : ℕ) (d : DeskState) (u : UpdaterState) → i < length desks → get_or (updaters_for t desks u) i u ≡ get_or (get_or desks i d).updaters t u
    at t i d u within = get_or-map (λ x. get_or x.updaters t u) desks i d u within

    table_of : (t : ℕ) (h : HeartState) → t < length hosts.hearts → All (λ u. u.table ≡ (get_or hosts.hearts t h).table) (get_or lists t [])
    table_of t h inside i u within =
        let low : t < tenants = omega (arith, inside, same) in
        let place : i < length desks = omega (arith, within, by.full t [] (omega (arith, low, by.count))) in
        with_member desks i place (λ d.
        ap (λ (l : List UpdaterState). (get_or l i u).table) (by.each t [] u low) ∙ ap (λ (x : UpdaterState). x.table) (at t i d u place)
        ∙ (of i d place).tables t h u (omega (arith, low, (all i d place).count)))

    number_of : (t : ℕ) → t < tenants → (i : ℕ) (u : UpdaterState) → i < length (get_or lists t []) → (get_or (get_or lists t []) i u).number ≡ i
    number_of t low i u within =
        let place : i < length desks = omega (arith, within, by.full t [] (omega (arith, low, by.count))) in
        with_member desks i place (λ d.
        ap (λ (l : List UpdaterState). (get_or l i u).number) (by.each t [] u low) ∙ ap (λ (x : UpdaterState). x.number) (at t i d u place)
        ∙ (all i d place).numbers t u (omega (arith, low, (all i d place).count)) ∙ numbered i d place)

    pub lists_of : All (IsHeartOf hosts.k hosts.n) hosts.hearts → length desks ≡ hosts.n → AreListsOf hosts.hearts lists
    lists_of hubs count = record {
      count = by.count ∙ same;
      each = λ t h l inside.
          let low : t < tenants = omega (arith, inside, same) in
          let here : get_or lists t [] ≡ get_or lists t l = get_or_default lists t [] l (omega (arith, low, by.count)) in
          subst (AreAllOf (get_or hosts.hearts t h)) here (record {
            tables = table_of t h inside;
            numbers = number_of t low;
            all = by.full t [] (omega (arith, low, by.count)) ∙ count ∙ sym (hubs t h inside).updaters;
          });
    }

    module _ (hosts' : TenantsState) (stays : hosts' ≡ record hosts { hearts = hosts'.hearts }) (drained : DrainLists hosts.hearts lists hosts'.hearts) where
      pub drains_desks : DrainsDesks hosts desks hosts'
      drains_desks = record {
        stays = stays;
        tenants = drained.count;
        drains = λ t h u inside. subst (λ (l : List UpdaterState). DrainsAll (get_or hosts.hearts t h) l (get_or hosts'.hearts t h)) (by.each t [] u (omega (arith, inside, same))) (drained.drains t h [] inside);
      }

      pub taken_in_each : All (HasTakenInDesk hosts') desks
      taken_in_each i d place = record {
        tenants = (all i d place).count ∙ same ∙ sym drained.count;
        numbers = (all i d place).numbers;
        taken_in = λ t h u within.
            let inside : t < length hosts.hearts = omega (arith, within, (all i d place).count, same) in
            let last = drains_desks.drains t h u inside in
            subst (HasTakenIn (get_or hosts'.hearts t h)) (at t i d u place) (last.taken_in i u (omega (arith, place, length-map desks (λ x. get_or x.updaters t u))));
      }

      pub hubs_after : All (IsHeartOf hosts.k hosts.n) hosts.hearts → All (IsHeartOf hosts.k hosts.n) hosts'.hearts
      hubs_after hubs t h within =
          let inside : t < length hosts.hearts = omega (arith, within, drained.count) in
          let last = drained.drains t h [] inside in
          record { numbers = last.numbers ∙ (hubs t h inside).numbers; updaters = last.updaters ∙ (hubs t h inside).updaters }
