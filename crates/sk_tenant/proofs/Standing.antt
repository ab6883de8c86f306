-- What tenants' hearts know of desks, after one is drained and after an ask.
use Rattle.std.proofs.Common.{◌≡◌, ◌≢◌, ◌⊎◌, inl, inr, ℕ, ◌<◌, List, [], ◌∷◌, length, get_or, set, All, sym, ap, subst, ◌∙◌, arith, length-set, get_or-set_same, get_or-set_other}
use Rattle.std.proofs.lemmas.Bool.{cases_eq}
use Rattle.sk_hub.specs.Updaters.{UpdaterState}
use Rattle.sk_hub.specs.Hearts.{HeartState}
use Rattle.sk_hub.specs.Drains.{IsDrained, HasTakenIn}
use Rattle.sk_hub.specs.Replies.{IsRelaxedReply}
use Rattle.sk_hub.proofs.Taking.{taken_when_drained, taken_after_drain, taken_after_ask}
use Rattle.sk_tenant.specs.Calls.{theta_word}
use Rattle.sk_tenant.specs.Desks.{DeskState}
use Rattle.sk_tenant.specs.Hosts.{TenantsState, IsHeartOf, IsDeskOf, DrainsDesk, HasTakenInDesk}

-- some member, if there is a place
pub with_member : {A R : Type 0} (xs : List A) (i : ℕ) → i < length xs → (A → R) → R
with_member [] i within f = let none : ⊥ = omega arith in absurd none
with_member (x ∷ xs) i within f = f x

-- ---- a desk is drained

module _ (hosts hosts' : TenantsState) (d : DeskState) (its : IsDeskOf hosts d) (all : DrainsDesk hosts d hosts') where
  heart_then : (t : ℕ) (h : HeartState) → t < length hosts.hearts → (P : HeartState → HeartState → Type 0) → ((h h' : HeartState) (u : UpdaterState) → IsDrained h u h' → P h h') → P (get_or hosts.hearts t h) (get_or hosts'.hearts t h)
  heart_then t h within P so = with_member d.updaters t (omega (arith, within, its.tenants)) (λ u. so (get_or hosts.hearts t h) (get_or hosts'.hearts t h) (get_or d.updaters t u) (all.drains t h u within))

  pub hubs_stay : All (IsHeartOf hosts.k hosts.n) hosts.hearts → All (IsHeartOf hosts.k hosts.n) hosts'.hearts
  hubs_stay hubs t h within = heart_then t h before (λ a b. IsHeartOf hosts.k hosts.n a → IsHeartOf hosts.k hosts.n b)
      (λ a b u drained of. record { numbers = drained.numbers ∙ of.numbers; updaters = ap (λ x. x.updaters) drained.stays ∙ of.updaters }) (hubs t h before)
    where
      before : t < length hosts.hearts
      before = omega (arith, within, all.tenants)

  pub drained_desk : All (λ u. u.number ≡ d.number) d.updaters → HasTakenInDesk hosts' d
  drained_desk numbers = record {
    tenants = its.tenants ∙ sym all.tenants;
    numbers = numbers;
    taken_in = λ t h u within. taken_when_drained (get_or hosts.hearts t h) (get_or hosts'.hearts t h) (get_or d.updaters t u) (all.drains t h u (omega (arith, within, its.tenants)));
  }

  pub other_desk : All (λ u. u.number ≡ d.number) d.updaters → (e : DeskState) → e.number ≢ d.number → HasTakenInDesk hosts e → HasTakenInDesk hosts' e
  other_desk numbers e other taken = record {
    tenants = taken.tenants ∙ sym all.tenants;
    numbers = taken.numbers;
    taken_in = λ t h u within.
        let inside : t < length hosts.hearts = omega (arith, within, taken.tenants) in
        let at : t < length d.updaters = omega (arith, inside, its.tenants) in
        let apart : (get_or d.updaters t u).number ≢ (get_or e.updaters t u).number = λ same. other (sym (taken.numbers t u within) ∙ sym same ∙ numbers t u at) in
        taken_after_drain (get_or hosts.hearts t h) (get_or hosts'.hearts t h) (get_or e.updaters t u) (get_or d.updaters t u) (all.drains t h u inside) apart (taken.taken_in t h u within);
  }

  pub desk_of_same : (e : DeskState) → IsDeskOf hosts e → IsDeskOf hosts' e
  desk_of_same e of = record {
    tenants = of.tenants ∙ sym all.tenants;
    tables = λ t h u within.
        let inside : t < length hosts.hearts = omega (arith, within, of.tenants) in
        of.tables t h u within ∙ heart_then t h inside (λ a b. a.table ≡ b.table) (λ a b v drained. sym (ap (λ x. x.table) drained.stays));
  }

-- ---- a heart is asked

pub taken_when_asked : (hosts old : TenantsState) (t word : ℕ) (h after : HeartState) → hosts ≡ old → t < length old.hearts → h ≡ get_or hosts.hearts t h → IsRelaxedReply theta_word h.view word after.view
    → (d : DeskState) → HasTakenInDesk old d → HasTakenInDesk (record hosts { hearts = set hosts.hearts t after }) d
taken_when_asked hosts old t word h after same place at reply d before = record {
  tenants = taken.tenants ∙ sym (length-set hosts.hearts t after);
  numbers = taken.numbers;
  taken_in = λ s e u within. by_place s e u within (cases_eq t s);
}
  where
    taken : HasTakenInDesk hosts d
    taken = subst (λ x. HasTakenInDesk x d) (sym same) before

    inside : t < length hosts.hearts
    inside = subst (λ x. t < length x.hearts) (sym same) place

    by_place : (s : ℕ) (e : HeartState) (u : UpdaterState) → s < length d.updaters → (t ≡ s) ⊎ (t ≡ s → ⊥) → HasTakenIn (get_or (set hosts.hearts t after) s e) (get_or d.updaters s u)
    by_place s e u within (inl here) =
        subst (λ r. HasTakenIn (get_or (set hosts.hearts t after) r e) (get_or d.updaters r u)) here
        (subst (λ x. HasTakenIn x (get_or d.updaters t u)) (sym (get_or-set_same hosts.hearts t after e inside))
        (taken_after_ask theta_word h after word (get_or d.updaters t u) reply
        (subst (λ x. HasTakenIn x (get_or d.updaters t u)) (sym at) (taken.taken_in t h u (omega (arith, here, within))))))
    by_place s e u within (inr other) =
        subst (λ x. HasTakenIn x (get_or d.updaters s u)) (sym (get_or-set_other hosts.hearts t s after e (λ same. other (sym same)))) (taken.taken_in s e u within)
