-- The word of a tenant whose updaters were all drained.
use Rattle.std.proofs.Common.{◌≡◌, inr, ℕ, ◌==◌, ◌<◌, Bool, List, [], ◌∷◌, ◌++◌, length, get_or, flat_map, All, refl, sym, ap, subst, ◌∙◌, arith}
use Rattle.std.specs.List.{filter, range_with_len}
use Rattle.std.proofs.lemmas.List.Elements.{All-map, All-filter}
use Rattle.std.proofs.lemmas.Option.{get_or_from_slice_get, slice_get_within}
use Rattle.sk_model.specs.Entries.{Entry, items_of_entries, entries_by}
use Rattle.sk_model.specs.Missing.{Begins}
use Rattle.sk_model.specs.Sketch.{packed_of}
use Rattle.sk_model.specs.Width.{IsItem, AreItems}
use Rattle.sk_model.proofs.Missing.{begins_trans}
use Rattle.sk_machine.specs.Coarse.{IsEntry}
use Rattle.sk_theta.specs.Sizes.{Sizes}
use Rattle.sk_compose.specs.Kept.{AreKept}
use Rattle.sk_compose.proofs.Kept.{kept_longer}
use Rattle.sk_compose.proofs.Smallest.{smallest_of_all, same_word}
use Rattle.sk_hub.specs.Updaters.{UpdaterState, base_of, kept_of}
use Rattle.sk_hub.specs.Drains.{HasTakenIn}
use Rattle.sk_hub.proofs.Taking.{exactly_taken}
use Rattle.sk_tenant.specs.Calls.{Call, theta_keeps, theta_hint, items_taken}
use Rattle.sk_tenant.specs.Desks.{calls_for}
use Rattle.sk_tenant.specs.Hosts.{TenantsState, AreAskedFor, HasFinished, WasFed, WasUsed}
use Rattle.sk_tenant.proofs.Owed.{lone_takes, lone_items}
use Rattle.sk_tenant.proofs.Standing.{with_member}
use Rattle.sk_tenant.proofs.Done.{desk_stays, lone_on_desk}

-- all are kept
all_kept : (keeps : ℕ → ℕ → Bool) (hint : List Entry → ℕ) (list : List Entry) (items : List ℕ) → AreKept keeps hint list items items
unfolding AreKept
all_kept keeps hint list [] = refl
all_kept keeps hint list (item ∷ items) = inr (items, refl, all_kept keeps hint list items)

items_by : (n i : ℕ) (list : List Entry) → All (IsEntry n) list → AreItems (entries_by i list)
unfolding entries_by items_of_entries
items_by n i list all = All-map IsItem (λ (e : Entry). e.1) (filter (λ e. e.0 == i) list) (λ j d within. (All-filter (λ e. e.0 == i) (IsEntry n) list all j d within).1)

module _ (hosts hosts' : TenantsState) (t word : ℕ) (asked : AreAskedFor hosts t word hosts') where
  abbrev list : List Entry
  list = asked.after.view.seen

  abbrev hint : List Entry → ℕ
  hint = theta_hint (hosts.k ∷ [])

  sized : length asked.before.view.sizes ≡ hosts.n
  sized = asked.sized ∙ asked.hub.updaters

  of_hub : All (IsEntry hosts.n) list
  of_hub = subst (λ n. All (IsEntry n) list) sized asked.reply.entries

  pub place_within : t < length hosts.hearts
  place_within = slice_get_within hosts.hearts t asked.before asked.is_at

  -- what the heart took in it has still
  taken : (i : ℕ) (u : UpdaterState) → HasFinished hosts t i u → HasTakenIn asked.before u
  taken i u finished = subst (λ h. HasTakenIn h u) (get_or_from_slice_get hosts.hearts t asked.before asked.before asked.is_at) (finished.taken_in asked.before)

  exactly : (i : ℕ) (u : UpdaterState) → HasFinished hosts t i u → entries_by i list ≡ kept_of u
  exactly i u finished = ap (λ n. entries_by n list) (sym finished.number) ∙ exactly_taken asked.before asked.after u asked.drained (taken i u finished)

  based : (i : ℕ) (u : UpdaterState) → HasFinished hosts t i u → Begins (base_of u) list
  based i u finished = begins_trans (base_of u) asked.before.view.seen list (taken i u finished).base asked.reply.grows

  word_of : (items : ℕ → List ℕ) → ((i : ℕ) → i < hosts.n → AreItems (items i)) → ((i : ℕ) → i < hosts.n → AreKept theta_keeps hint list (items i) (entries_by i list))
      → word ≡ packed_of hosts.k (flat_map items (range_with_len 0 hosts.n))
  word_of items small kept =
      asked.reply.value
      ∙ ap (λ numbers. packed_of (get_or numbers 0 0) (items_of_entries list)) asked.hub.numbers
      ∙ same_word hosts.k (items_of_entries list) (flat_map items (range_with_len 0 hosts.n))
      (smallest_of_all hosts.k theta_keeps hint list hosts.n items (λ h item. refl) (λ l. refl) (λ i d within. (of_hub i d within).0) small kept)

  pub word_of_kept : (last : ℕ → UpdaterState) → ((i : ℕ) → i < hosts.n → HasFinished hosts t i (last i))
      → word ≡ packed_of hosts.k (flat_map (λ i. kept_of (last i)) (range_with_len 0 hosts.n))
  word_of_kept last finished = word_of (λ i. kept_of (last i))
      (λ i within. subst AreItems (exactly i (last i) (finished i within)) (items_by hosts.n i list of_hub))
      (λ i within. subst (AreKept theta_keeps hint list (kept_of (last i))) (sym (exactly i (last i) (finished i within))) (all_kept theta_keeps hint list (kept_of (last i))))

  kept_of_fed : (i : ℕ) (items : List ℕ) → WasFed hosts t i items → AreKept theta_keeps hint list items (entries_by i list)
  kept_of_fed i items fed =
      let more : entries_by i list ≡ fed.takes.more = exactly i fed.last fed.finished ∙ fed.takes.kept ∙ ap (λ l. l ++ fed.takes.more) fed.none in
      subst (AreKept theta_keeps hint list items) (sym more)
      (subst (λ numbers. AreKept theta_keeps (theta_hint numbers) list items fed.takes.more) fed.numbers
      (kept_longer theta_keeps (theta_hint fed.first.view.numbers) (base_of fed.last) list items fed.takes.more (based i fed.last fed.finished) fed.takes.of_items))

  pub word_of_fed : (items : ℕ → List ℕ) → ((i : ℕ) → i < hosts.n → WasFed hosts t i (items i))
      → word ≡ packed_of hosts.k (flat_map items (range_with_len 0 hosts.n))
  word_of_fed items fed = word_of items (λ i within. (fed i within).are_items) (λ i within. kept_of_fed i (items i) (fed i within))

-- ---- from calls on desks

pub used_is_fed : (opened hosts : TenantsState) (shape : Sizes) (quota t i : ℕ) (calls : List (ℕ × Call)) → shape.k ≡ hosts.k → t < length hosts.hearts
    → WasUsed opened shape quota hosts i calls → WasFed hosts t i (items_taken (calls_for t calls))
used_is_fed opened hosts shape quota t i calls same within used = with_member used.first.updaters t at_first fed
  where
    count : length used.last.updaters ≡ length used.first.updaters
    count = (desk_stays used.first used.last calls used.done).tenants

    at_last : t < length used.last.updaters
    at_last = omega (arith, within, used.taken_in.tenants)

    at_first : t < length used.first.updaters
    at_first = omega (arith, at_last, count)

    fed : UpdaterState → WasFed hosts t i (items_taken (calls_for t calls))
    fed u =
        let lone = lone_on_desk used.first used.last calls t u used.done at_first in
        let facts : (kept_of (get_or used.first.updaters t u) ≡ []) × ((get_or used.first.updaters t u).view.numbers ≡ hosts.k ∷ []) =
        with_member opened.hearts t (omega (arith, at_first, used.new.tenants)) (λ h. let new = used.new.updaters t h u at_first in (new.new.kept, new.numbers ∙ ap (λ k. k ∷ []) same)) in record {
          first = get_or used.first.updaters t u;
          last = get_or used.last.updaters t u;
          numbers = facts.1;
          none = facts.0;
          takes = lone_takes used.first.quota (get_or used.first.updaters t u) (get_or used.last.updaters t u) (calls_for t calls) lone;
          are_items = lone_items used.first.quota (get_or used.first.updaters t u) (get_or used.last.updaters t u) (calls_for t calls) lone;
          finished = record {
            number = used.taken_in.numbers t u at_last ∙ (desk_stays used.first used.last calls used.done).number ∙ used.new.number_is;
            taken_in = λ h. used.taken_in.taken_in t h u at_last;
          };
        }
