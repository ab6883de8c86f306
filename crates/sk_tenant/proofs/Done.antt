-- Calls on a desk, for one tenant and for the others.
use Rattle.std.proofs.Common.{◌≡◌, ◌≢◌, ℕ, ◌==◌, ◌<◌, ◌≤◌, Bool, true, false, if◌then◌else◌, List, [], ◌∷◌, ◌++◌, length, get_or, set, slice_get, Some, ◌↔◌, map, refl, sym, ap, subst, ◌∙◌, arith, length-set, get_or-set_same, get_or-set_other}
use Rattle.std.specs.List.{filter}
use Rattle.std.proofs.lemmas.Bool.{eqb-true, eq-eqb}
use Rattle.std.proofs.lemmas.List.{set-get_or}
use Rattle.std.proofs.lemmas.List.Elements.{All-set}
use Rattle.std.proofs.lemmas.Option.{get_or_from_slice_get, slice_get-get_or}
use Rattle.sk_hub.specs.Updaters.{UpdaterState, kept_of}
use Rattle.sk_tenant.specs.Calls.{Call, IsFiltered, Owes, Lone}
use Rattle.sk_tenant.specs.Desks.{DeskState, IsDesk, IsDone, AreDone, IsSameDesk, calls_for}
use Rattle.sk_tenant.specs.Hosts.{TenantsState, IsDeskOf}
use Rattle.sk_tenant.proofs.Owed.{owed_takes, owed_few, lone_none, lone_first, lone_takes}

-- ---- one call

module _ (d d' : DeskState) (t : ℕ) (call : Call) (done : IsDone d t call d') where
  updaters_then : d'.updaters ≡ set d.updaters t done.after
  updaters_then = ap (λ s. s.updaters) done.stays

  pub same_count : length d'.updaters ≡ length d.updaters
  same_count = ap length updaters_then ∙ length-set d.updaters t done.after

  pub same_quota : d'.quota ≡ d.quota
  same_quota = ap (λ s. s.quota) done.stays

  pub others_stay : (s : ℕ) (u : UpdaterState) → t ≢ s → get_or d'.updaters s u ≡ get_or d.updaters s u
  others_stay s u other = ap (λ l. get_or l s u) updaters_then ∙ get_or-set_other d.updaters t s done.after u (λ same. other (sym same))

  pub it_owes : (u : UpdaterState) → t < length d.updaters → Owes d.quota (get_or d.updaters t u) call (get_or d'.updaters t u)
  it_owes u within =
      let before : get_or d.updaters t u ≡ done.before = get_or_from_slice_get d.updaters t done.before u done.is_at in
      let after : get_or d'.updaters t u ≡ done.after = ap (λ l. get_or l t u) updaters_then ∙ get_or-set_same d.updaters t done.after u within in
      subst (λ v. Owes d.quota v call (get_or d'.updaters t u)) (sym before) (subst (λ v. Owes d.quota done.before call v) (sym after) done.owes)

-- ---- calls, one after another

pub none_done : (d : DeskState) → AreDone d [] d
unfolding AreDone
none_done d = refl

pub one_more_done : (d e d' : DeskState) (calls : List (ℕ × Call)) (t : ℕ) (call : Call) → AreDone d calls e → IsDone e t call d' → AreDone d (calls ++ (t, call) ∷ []) d'
unfolding AreDone
one_more_done d e d' [] t call same last = (d', subst (λ s. IsDone s t call d') same last, refl)
one_more_done d e d' (first ∷ calls) t call (v, one, rest) last = (v, one, one_more_done v e d' calls t call rest last)

pub all_done : (d e d' : DeskState) (calls more : List (ℕ × Call)) → AreDone d calls e → AreDone e more d' → AreDone d (calls ++ more) d'
unfolding AreDone
all_done d e d' [] more same later = subst (λ s. AreDone s more d') same later
all_done d e d' (first ∷ calls) more (v, one, rest) later = (v, one, all_done v e d' calls more rest later)

same_refl : (d d' : DeskState) → d' ≡ d → IsSameDesk d d'
same_refl d d' is = record { names = ap (λ s. s.names) is; number = ap (λ s. s.number) is; quota = ap (λ s. s.quota) is; tenants = ap (λ s. length s.updaters) is }

same_trans : (d e d' : DeskState) → IsSameDesk d e → IsSameDesk e d' → IsSameDesk d d'
same_trans d e d' a b = record { names = b.names ∙ a.names; number = b.number ∙ a.number; quota = b.quota ∙ a.quota; tenants = b.tenants ∙ a.tenants }

one_same : (d d' : DeskState) (t : ℕ) (call : Call) → IsDone d t call d' → IsSameDesk d d'
one_same d d' t call done = record {
  names = ap (λ s. s.names) done.stays;
  number = ap (λ s. s.number) done.stays;
  quota = same_quota d d' t call done;
  tenants = same_count d d' t call done;
}

pub desk_stays : (d d' : DeskState) (calls : List (ℕ × Call)) → AreDone d calls d' → IsSameDesk d d'
unfolding AreDone
desk_stays d d' [] same = same_refl d d' same
desk_stays d d' (call ∷ calls) (e, one, rest) = same_trans d e d' (one_same d e call.0 call.1 one) (desk_stays e d' calls rest)

-- one call, and then those that are for this tenant
one_and_rest : (t : ℕ) (u : UpdaterState) (d e d' : DeskState) (call : ℕ × Call) (calls : List (ℕ × Call)) (b : Bool) → (call.0 == t) ≡ b → IsDone d call.0 call.1 e → t < length d.updaters
    → Lone e.quota (get_or e.updaters t u) (calls_for t calls) (get_or d'.updaters t u)
    → Lone d.quota (get_or d.updaters t u) (map (λ c. c.1) (if b then call ∷ filter (λ c. c.0 == t) calls else filter (λ c. c.0 == t) calls)) (get_or d'.updaters t u)
one_and_rest t u d e d' call calls true its done within rest =
    let same : call.0 ≡ t = eqb-true call.0 t its in
    let owed : Owes d.quota (get_or d.updaters t u) call.1 (get_or e.updaters t u) = subst (λ s. Owes d.quota (get_or d.updaters s u) call.1 (get_or e.updaters s u)) same (it_owes d e call.0 call.1 done u (omega (arith, same, within))) in
    lone_first d.quota (get_or d.updaters t u) (get_or e.updaters t u) (get_or d'.updaters t u) call.1 (calls_for t calls) owed
    (subst (λ q. Lone q (get_or e.updaters t u) (calls_for t calls) (get_or d'.updaters t u)) (same_quota d e call.0 call.1 done) rest)
one_and_rest t u d e d' call calls false other done within rest =
    let apart : call.0 ≢ t = λ same. let none : true ≡ false = sym (eq-eqb call.0 t same) ∙ other in cc in
    subst (λ v. Lone d.quota v (calls_for t calls) (get_or d'.updaters t u)) (others_stay d e call.0 call.1 done t u apart)
    (subst (λ q. Lone q (get_or e.updaters t u) (calls_for t calls) (get_or d'.updaters t u)) (same_quota d e call.0 call.1 done) rest)

pub lone_on_desk : (d d' : DeskState) (calls : List (ℕ × Call)) (t : ℕ) (u : UpdaterState) → AreDone d calls d' → t < length d.updaters → Lone d.quota (get_or d.updaters t u) (calls_for t calls) (get_or d'.updaters t u)
unfolding AreDone
lone_on_desk d d' [] t u same within = lone_none d.quota (get_or d.updaters t u) (get_or d'.updaters t u) (ap (λ s. get_or s.updaters t u) same)
lone_on_desk d d' (call ∷ calls) t u (e, one, rest) within =
    one_and_rest t u d e d' call calls (call.0 == t) refl one within
    (lone_on_desk e d' calls t u rest (omega (arith, within, same_count d e call.0 call.1 one)))

pub stays_of_tenants : (hosts : TenantsState) (d d' : DeskState) (calls : List (ℕ × Call)) → AreDone d calls d' → IsDeskOf hosts d → IsDeskOf hosts d'
stays_of_tenants hosts d d' calls done its = record {
  tenants = (desk_stays d d' calls done).tenants ∙ its.tenants;
  tables = λ t h u within.
      let before : t < length d.updaters = omega (arith, within, (desk_stays d d' calls done).tenants) in
      (lone_takes d.quota (get_or d.updaters t u) (get_or d'.updaters t u) (calls_for t calls) (lone_on_desk d d' calls t u done before)).goes.table ∙ its.tables t h u before;
}

-- ---- what is true of every desk

pub desk_after : (d : DeskState) (t : ℕ) (u after : UpdaterState) (call : Call) → IsDesk d → t < length d.updaters → u ≡ get_or d.updaters t u → Owes d.quota u call after → IsDesk (record d { updaters = set d.updaters t after })
desk_after d t u after call its place at owed = record {
  few = its.few;
  different = its.different;
  tenants = length-set d.updaters t after ∙ its.tenants;
  quota_is = its.quota_is;
  numbers = All-set (λ v. v.number ≡ d.number) d.updaters t after ((owed_takes d.quota u after call owed).goes.number ∙ ap (λ v. v.number) at ∙ its.numbers t u place) its.numbers;
  within = All-set (λ v. length (kept_of v) ≤ d.quota) d.updaters t after
      (owed_few d.quota u after call owed (subst (λ v. length (kept_of v) ≤ d.quota) (sym at) (its.within t u place))) its.within;
}

pub done_now : (old d : DeskState) (t : ℕ) (u after : UpdaterState) (call : Call) → d ≡ old → t < length old.updaters → u ≡ get_or d.updaters t u → Owes d.quota u call after → IsDone old t call (record d { updaters = set d.updaters t after })
done_now old d t u after call same place at owed =
    subst (λ s. IsDone s t call (record d { updaters = set d.updaters t after })) same (record {
      before = u;
      after = after;
      is_at = slice_get-get_or d.updaters t u (subst (λ s. t < length s.updaters) (sym same) place) ∙ ap Some (sym at);
      owes = owed;
      stays = refl;
    })

-- the updater at the place, before a call
at_place : (old d : DeskState) (t : ℕ) (v u : UpdaterState) → d ≡ old → v ≡ get_or d.updaters t v → slice_get old.updaters t ≡ Some u → v ≡ u
at_place old d t v u same at is = at ∙ ap (λ s. get_or s.updaters t v) same ∙ get_or_from_slice_get old.updaters t u v is

pub over_now : (P : Type 0) (old d : DeskState) (t : ℕ) (v : UpdaterState) → d ≡ old → v ≡ get_or d.updaters t v → P ↔ (length (kept_of v) ≡ d.quota)
    → (u : UpdaterState) → slice_get old.updaters t ≡ Some u → P ↔ (length (kept_of u) ≡ old.quota)
over_now P old d t v same at over u is =
    subst (λ w. P ↔ (length (kept_of w) ≡ old.quota)) (at_place old d t v u same at is)
    (subst (λ s. P ↔ (length (kept_of v) ≡ s.quota)) same over)

pub filtered_now : (old d : DeskState) (t : ℕ) (v : UpdaterState) (item : ℕ) (drops : Bool) → d ≡ old → v ≡ get_or d.updaters t v → (drops ≡ true) ↔ IsFiltered d.quota v item
    → (u : UpdaterState) → slice_get old.updaters t ≡ Some u → (drops ≡ true) ↔ IsFiltered old.quota u item
filtered_now old d t v item drops same at exact u is =
    subst (λ w. (drops ≡ true) ↔ IsFiltered old.quota w item) (at_place old d t v u same at is)
    (subst (λ s. (drops ≡ true) ↔ IsFiltered s.quota v item) same exact)

-- a call that leaves its updater as it is leaves the desk as it is
pub done_same : (d : DeskState) (t : ℕ) (u : UpdaterState) (call : Call) → t < length d.updaters → u ≡ get_or d.updaters t u → Owes d.quota u call u → IsDone d t call d
done_same d t u call place at owed = record {
  before = u;
  after = u;
  is_at = slice_get-get_or d.updaters t u place ∙ ap Some (sym at);
  owes = owed;
  stays = sym (ap (λ (us : List UpdaterState). record d { updaters = us }) (ap (set d.updaters t) at ∙ set-get_or d.updaters t u));
}
