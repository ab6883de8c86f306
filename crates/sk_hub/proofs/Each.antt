-- Items that come together to an updater whose buffer has room for them.
use Rattle.std.proofs.Common.{◌≡◌, ◌≢◌, ◌↔◌, ℕ, ◌+◌, ◌-◌, ◌≤◌, Bool, true, false, cond, List, [], ◌∷◌, ◌++◌, length, get_or, take, drop, inl, inr, refl, sym, ap, subst, ◌∙◌, append_assoc, add-zero, length-append, length-drop, arith}
use Rattle.std.specs.List.{filter}
use Rattle.std.proofs.lemmas.List.{take_all, get_or-drop}
use Rattle.std.proofs.Math.Seq.{take-add}
use Rattle.std.proofs.lemmas.List.Elements.{All-append, All-filter}
use Rattle.sk_model.specs.Entries.{Entry}
use Rattle.sk_model.specs.Width.{IsItem, AreItems}
use Rattle.sk_model.proofs.Missing.{begins_refl}
use Rattle.sk_compose.specs.Buffers.{IsBuffer}
use Rattle.sk_compose.specs.Kept.{AreKept}
use Rattle.sk_gate.specs.Slots.{contents}
use Rattle.sk_hub.specs.Updaters.{UpdaterState, base_of, handed_of, with_items, LooksInVain}
use Rattle.sk_hub.specs.declared.answers.Update.{Update}
use Rattle.sk_hub.specs.declared.answers.Update.TheVariants as update
use Rattle.sk_hub.specs.Calls.{GoesOn, Takes, IsBusyWith, StopsAt}
use Rattle.sk_hub.proofs.Calls.{takes_none, none_in_vain}

few_passed : (p : ℕ → Bool) (x : ℕ) (b : Bool) (kept xs : List ℕ) → length kept ≤ length xs → length (cond b (x ∷ kept) kept) ≤ length (x ∷ xs)
few_passed p x true kept xs few = omega (arith, few)
few_passed p x false kept xs few = omega (arith, few)

pub few_filtered : (p : ℕ → Bool) (xs : List ℕ) → length (filter p xs) ≤ length xs
few_filtered p [] = omega arith
few_filtered p (x ∷ xs) = few_passed p x (p x) (filter p xs) xs (few_filtered p xs)

pub more_items : (p : ℕ → Bool) (size : ℕ) (items more : List ℕ) → IsBuffer (contents items size) → length items + length more ≤ size → AreItems more → IsBuffer (contents (items ++ filter p more) size)
more_items p size items more b room are = record {
  least = b.least;
  most = b.most;
  within = omega (arith, length-append items (filter p more), few_filtered p more, room);
  items_fit = All-append IsItem items (filter p more) b.items_fit (All-filter p IsItem more are);
}

-- those that the hint keeps are kept, and each other one is filtered
one_tested : (keeps : ℕ → ℕ → Bool) (hint : List Entry → ℕ) (base : List Entry) (h x : ℕ) (b : Bool) (xs kept : List ℕ) → h ≡ hint base → keeps h x ≡ b → AreKept keeps hint base xs kept → AreKept keeps hint base (x ∷ xs) (cond b (x ∷ kept) kept)
unfolding AreKept
one_tested keeps hint base h x true xs kept is test rest = inr (kept, refl, rest)
one_tested keeps hint base h x false xs kept is test rest = inl ((base, begins_refl base, subst (λ n. keeps n x ≡ false) is test), rest)

filter_kept : (keeps : ℕ → ℕ → Bool) (hint : List Entry → ℕ) (base : List Entry) (h : ℕ) (items : List ℕ) → h ≡ hint base → AreKept keeps hint base items (filter (keeps h) items)
unfolding AreKept
filter_kept keeps hint base h [] is = refl
filter_kept keeps hint base h (x ∷ xs) is = one_tested keeps hint base h x (keeps h x) xs (filter (keeps h) xs) is refl (filter_kept keeps hint base h xs is)

goes_with_items : (u : UpdaterState) (more : List ℕ) → GoesOn u (with_items u more)
goes_with_items u more = record { number = refl; size = refl; table = refl; eager = refl; name = refl; numbers = refl; sized = refl; base = begins_refl (base_of u); handed = begins_refl (handed_of u); seen = begins_refl u.view.seen; steps = begins_refl u.view.steps; told = inl (refl, refl, refl) }

pub takes_filtered : (keeps : ℕ → ℕ → Bool) (hint_of : List ℕ → List Entry → ℕ) (u u' : UpdaterState) (items : List ℕ) → u.hint ≡ hint_of u.view.numbers (base_of u) → u' ≡ with_items u (filter (keeps u.hint) items) → Takes keeps hint_of u items u'
takes_filtered keeps hint_of u u' items hint is = subst (Takes keeps hint_of u items) (sym is) (record {
  goes = goes_with_items u (filter (keeps u.hint) items);
  more = filter (keeps u.hint) items;
  kept = sym (append_assoc (handed_of u) u.fill (filter (keeps u.hint) items));
  of_items = filter_kept keeps (hint_of u.view.numbers) (base_of u) u.hint items hint;
})

-- ---- busy with an item

is_kept : (keeps : Bool) → keeps ≢ false → keeps ≡ true
is_kept true other = refl
is_kept false other = absurd (other refl)

pub busy_with : (keeps : ℕ → ℕ → Bool) (u u' : UpdaterState) (item : ℕ) (r : Update) → ((r ≡ update.Filtered) ↔ (keeps u.hint item ≡ false)) → r ≡ update.Busy → length u.fill ≡ u.size → LooksInVain u u' → IsBusyWith keeps u item u'
busy_with keeps u u' item r filtered busy full look = record { kept = is_kept (keeps u.hint item) (λ dropped. let e = filtered.1 dropped in cc); full = full; look = look }

pub busy_takes : (keeps : ℕ → ℕ → Bool) (hint_of : List ℕ → List Entry → ℕ) (u u' : UpdaterState) → LooksInVain u u' → Takes keeps hint_of u [] u'
busy_takes keeps hint_of u u' l = takes_none keeps hint_of u u' (none_in_vain u u' l)

-- ---- some items after others of a list

pub rest_of : (at : ℕ) (xs : List ℕ) → take (length xs - at) (drop at xs) ≡ drop at xs
rest_of at xs = take_all (length xs - at) (drop at xs) (omega (arith, length-drop at xs))

pub part_more : (at n : ℕ) (xs : List ℕ) → take at xs ++ take n (take (length xs - at) (drop at xs)) ≡ take (at + n) xs
part_more at n xs = ap (λ (l : List ℕ). take at xs ++ take n l) (rest_of at xs) ∙ sym (take-add at n xs)

first_of_rest : (at : ℕ) (xs : List ℕ) → get_or (take (length xs - at) (drop at xs)) 0 0 ≡ get_or xs at 0
first_of_rest at xs = ap (λ (l : List ℕ). get_or l 0 0) (rest_of at xs) ∙ get_or-drop at xs 0 0 ∙ ap (λ (i : ℕ). get_or xs i 0) (add-zero at)

-- it took those before a place, and was busy with the first that follows
pub stops_at : (keeps : ℕ → ℕ → Bool) (hint_of : List ℕ → List Entry → ℕ) (u v u' : UpdaterState) (at : ℕ) (xs : List ℕ) → Takes keeps hint_of u (take at xs) v → IsBusyWith keeps v (get_or (take (length xs - at) (drop at xs)) 0 0) u' → StopsAt keeps hint_of u (take at xs) (get_or xs at 0) u'
stops_at keeps hint_of u v u' at xs taken busy = record { before = v; taken = taken; busy = subst (λ (item : ℕ). IsBusyWith keeps v item u') (first_of_rest at xs) busy }
