-- Lines that a desk took, one after another.
use Rattle.std.proofs.Common.{◌≡◌, ◌≢◌, ⊎_elim, ℕ, ◌==◌, ◌+◌, ◌<◌, Bool, true, false, cond, List, [], ◌∷◌, ◌++◌, length, get_or, slice_get, Some, map, refl, sym, ap, subst, ◌∙◌, arith}
use Rattle.std.specs.List.{filter, Contains}
use Rattle.std.proofs.lemmas.Bool.{eq-eqb, ne_eqb, cases_eq, cases_order}
use Rattle.std.proofs.lemmas.Grind.{flat_map-append}
use Rattle.std.proofs.lemmas.List.{map-append}
use Rattle.std.proofs.lemmas.List.Elements.{filter-append}
use Rattle.std.proofs.lemmas.Option.{get_or_from_slice_get, slice_get_within}
use Rattle.sk_model.specs.Murmur.{hash_of}
use Rattle.sk_label.specs.Labels.{label_of, item_text_of, is_labelled}
use Rattle.sk_hub.specs.Updaters.{UpdaterState}
use Rattle.sk_hub.proofs.Calls.{takes_few}
use Rattle.sk_tenant.specs.Calls.{Call, Insists, TakesItems, taken_of, items_taken, theta_keeps, theta_hint}
use Rattle.sk_tenant.specs.Names.{AreDifferent}
use Rattle.sk_tenant.specs.Desks.{DeskState, IsDone, AreDone, calls_for}
use Rattle.sk_tenant.proofs.Done.{none_done, one_more_done, lone_on_desk, desk_stays}
use Rattle.sk_tenant.proofs.Owed.{lone_takes}
use Rattle.sk_desks.specs.Desks.{items_for}
use Rattle.sk_desks.specs.Feeds.{TakesLines, TakesItem, HasTenants, HasRoom}
use Rattle.sk_desks.proofs.ItemLaws.{items_for-append, none_for, few_items, its_item, no_item_of_other, no_item, no_item_of_unknown}

-- ---- calls

pub done_append : (d e d' : DeskState) (xs ys : List (ℕ × Call)) → AreDone d xs e → AreDone e ys d' → AreDone d (xs ++ ys) d'
unfolding AreDone
done_append d e d' [] ys same more = subst (λ z. AreDone z ys d') same more
done_append d e d' (x ∷ xs) ys (v, one, rest) more = (v, one, done_append v e d' xs ys rest more)

pub names_stay : (d d' : DeskState) (calls : List (ℕ × Call)) → AreDone d calls d' → d'.names ≡ d.names
names_stay d d' calls done = (desk_stays d d' calls done).names

quota_stays : (d d' : DeskState) (calls : List (ℕ × Call)) → AreDone d calls d' → d'.quota ≡ d.quota
quota_stays d d' calls done = (desk_stays d d' calls done).quota

count_stays : (d d' : DeskState) (calls : List (ℕ × Call)) → AreDone d calls d' → length d'.updaters ≡ length d.updaters
count_stays d d' calls done = (desk_stays d d' calls done).tenants

taken_append : (t : ℕ) (xs ys : List (ℕ × Call)) → items_taken (calls_for t (xs ++ ys)) ≡ items_taken (calls_for t xs) ++ items_taken (calls_for t ys)
taken_append t xs ys =
    ap items_taken (ap (map (λ (c : ℕ × Call). c.1)) (filter-append (λ (c : ℕ × Call). c.0 == t) xs ys)
    ∙ map-append (λ (c : ℕ × Call). c.1) (filter (λ (c : ℕ × Call). c.0 == t) xs) (filter (λ (c : ℕ × Call). c.0 == t) ys))
    ∙ flat_map-append taken_of (calls_for t xs) (calls_for t ys)

calls_same : (t : ℕ) (calls : List Call) → calls_for t (map (λ call. (t, call)) calls) ≡ calls
calls_same t [] = refl
calls_same t (call ∷ calls) =
    let rest : List (ℕ × Call) = filter (λ (c : ℕ × Call). c.0 == t) (map (λ call. (t, call)) calls) in
    ap (λ (b : Bool). map (λ (c : ℕ × Call). c.1) (cond b ((t, call) ∷ rest) rest)) (eq-eqb t t refl) ∙ ap (λ (l : List Call). call ∷ l) (calls_same t calls)

calls_other : (t s : ℕ) (calls : List Call) → t ≢ s → calls_for s (map (λ call. (t, call)) calls) ≡ []
calls_other t s [] other = refl
calls_other t s (call ∷ calls) other =
    let rest : List (ℕ × Call) = filter (λ (c : ℕ × Call). c.0 == s) (map (λ call. (t, call)) calls) in
    ap (λ (b : Bool). map (λ (c : ℕ × Call). c.1) (cond b ((t, call) ∷ rest) rest)) (ne_eqb t s other) ∙ calls_other t s calls other

-- what each tenant's updater took by calls
taken_by : (d d' : DeskState) (calls : List (ℕ × Call)) (t : ℕ) (u : UpdaterState) → AreDone d calls d' → t < length d.updaters → TakesItems (get_or d.updaters t u) (items_taken (calls_for t calls)) (get_or d'.updaters t u)
taken_by d d' calls t u done within = lone_takes d.quota (get_or d.updaters t u) (get_or d'.updaters t u) (calls_for t calls) (lone_on_desk d d' calls t u done within)

-- ---- an item that is offered until it is taken

-- an item that was insisted on, and taken
pub insisted : (d d' : DeskState) (t item : ℕ) (taken : Bool) → IsDone d t (Insists item taken) d' → (taken ≡ false → ⊥) → TakesItem d t item d'
insisted d d' t item true done never = record {
  calls = Insists item true ∷ [];
  done = one_more_done d d d' [] t (Insists item true) (none_done d) done;
  took = refl;
}
insisted d d' t item false done never = absurd (never refl)

-- ---- lines

pub takes_no_line : (seed : ℕ) (d : DeskState) → TakesLines seed d [] d
takes_no_line seed d = record { calls = []; done = none_done d; took = λ t within. sym (none_for seed (get_or d.names t [])) }

pub takes_more : (seed : ℕ) (d e d' : DeskState) (xs ys : List (List ℕ)) → TakesLines seed d xs e → TakesLines seed e ys d' → TakesLines seed d (xs ++ ys) d'
takes_more seed d e d' xs ys before after =
    let same : e.names ≡ d.names = names_stay d e before.calls before.done in
    record {
      calls = before.calls ++ after.calls;
      done = done_append d e d' before.calls after.calls before.done after.done;
      took = λ t within.
          let its : items_taken (calls_for t after.calls) ≡ items_for seed (get_or d.names t []) ys =
          after.took t (subst (λ (l : List (List ℕ)). t < length l) (sym same) within) ∙ ap (λ (l : List (List ℕ)). items_for seed (get_or l t []) ys) same in
          taken_append t before.calls after.calls
          ∙ ap (λ (l : List ℕ). l ++ items_taken (calls_for t after.calls)) (before.took t within)
          ∙ ap (λ (l : List ℕ). items_for seed (get_or d.names t []) xs ++ l) its
          ∙ sym (items_for-append seed (get_or d.names t []) xs ys);
    }

-- a line without the form
pub takes_unlabelled : (seed : ℕ) (d : DeskState) (line : List ℕ) → is_labelled line ≡ false → TakesLines seed d (line ∷ []) d
takes_unlabelled seed d line unlabelled = record { calls = []; done = none_done d; took = λ t within. sym (no_item seed (get_or d.names t []) line unlabelled) }

-- a line of no tenant
pub takes_unknown : (seed : ℕ) (d : DeskState) (line label : List ℕ) → label ≡ label_of line → (Contains d.names label → ⊥) → TakesLines seed d (line ∷ []) d
takes_unknown seed d line label is unknown = record {
  calls = [];
  done = none_done d;
  took = λ t within. sym (no_item_of_unknown seed d.names line t within (λ known. unknown (subst (Contains d.names) (sym is) known)));
}

-- a line of the tenant at a place
pub takes_its_line : (seed : ℕ) (d d' : DeskState) (line label text : List ℕ) (t item : ℕ) → AreDifferent d.names → is_labelled line ≡ true → label ≡ label_of line → text ≡ item_text_of line → slice_get d.names t ≡ Some label →
    item ≡ hash_of seed text → TakesItem d t item d' → TakesLines seed d (line ∷ []) d'
takes_its_line seed d d' line label text t item different labelled is text_is its hash took = record {
  calls = map (λ c. (t, c)) took.calls;
  done = took.done;
  took = λ s within. at s within;
}
  where
    here : get_or d.names t [] ≡ label_of line
    here = get_or_from_slice_get d.names t label [] its ∙ is

    apart : (s : ℕ) → s < length d.names → t ≢ s → get_or d.names t [] ≢ get_or d.names s []
    apart s within other same = ⊎_elim
        (λ eq. other eq)
        (λ order. ⊎_elim (λ below. different t s [] below within same) (λ above. different s t [] above (slice_get_within d.names t label its) (sym same)) order)
        (cases_order t s)

    at : (s : ℕ) → s < length d.names → items_taken (calls_for s (map (λ c. (t, c)) took.calls)) ≡ items_for seed (get_or d.names s []) (line ∷ [])
    at s within = ⊎_elim
        (λ same. ap items_taken (ap (λ (z : ℕ). calls_for z (map (λ c. (t, c)) took.calls)) (sym same) ∙ calls_same t took.calls) ∙ took.took
        ∙ ap (λ (x : ℕ). x ∷ []) (hash ∙ ap (hash_of seed) text_is)
        ∙ sym (its_item seed (get_or d.names s []) line labelled (sym (ap (λ (z : ℕ). get_or d.names z []) (sym same) ∙ here))))
        (λ other. ap items_taken (calls_other t s took.calls other)
        ∙ sym (no_item_of_other seed (get_or d.names s []) line (λ same. apart s within other (here ∙ same))))
        (cases_eq t s)

-- what each tenant's updater took of lines
pub takes_items : (seed : ℕ) (d d' : DeskState) (lines : List (List ℕ)) (t : ℕ) (u : UpdaterState) → HasTenants d → TakesLines seed d lines d' → t < length d.updaters →
    TakesItems (get_or d.updaters t u) (items_for seed (get_or d.names t []) lines) (get_or d'.updaters t u)
takes_items seed d d' lines t u has took within =
    subst (λ (l : List ℕ). TakesItems (get_or d.updaters t u) l (get_or d'.updaters t u)) (took.took t (omega (arith, within, has.tenants))) (taken_by d d' took.calls t u took.done within)

pub names_still : (seed : ℕ) (d d' : DeskState) (lines : List (List ℕ)) → TakesLines seed d lines d' → d'.names ≡ d.names
names_still seed d d' lines took = names_stay d d' took.calls took.done

pub has_still : (seed : ℕ) (d d' : DeskState) (lines : List (List ℕ)) → TakesLines seed d lines d' → HasTenants d → HasTenants d'
has_still seed d d' lines took has = record {
  different = subst AreDifferent (sym (names_still seed d d' lines took)) has.different;
  tenants = count_stays d d' took.calls took.done ∙ has.tenants ∙ ap length (sym (names_still seed d d' lines took));
}

-- each line takes the room of one item at most
pub room_after : (seed : ℕ) (d d' : DeskState) (lines : List (List ℕ)) (n : ℕ) → HasTenants d → TakesLines seed d lines d' → HasRoom (length lines + n) d → HasRoom n d'
room_after seed d d' lines n has took room = λ t u within.
    let before : t < length d.updaters = omega (arith, within, count_stays d d' took.calls took.done) in
    let few = takes_few theta_keeps theta_hint (get_or d.updaters t u) (get_or d'.updaters t u) (items_for seed (get_or d.names t []) lines) (takes_items seed d d' lines t u has took before) in
    omega (arith, few, few_items seed (get_or d.names t []) lines, quota_stays d d' took.calls took.done, room t u before)
