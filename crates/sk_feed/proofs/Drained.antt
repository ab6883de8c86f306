-- A heart that takes in updaters one after another.
use Rattle.std.proofs.Common.{◌≡◌, ℕ, ◌+◌, ◌<◌, List, [], ◌∷◌, ◌++◌, length, get_or, refl, sym, ap, subst, ◌∙◌, arith, append-nil, append_assoc, length-append}
use Rattle.std.specs.List.{range_with_len}
use Rattle.std.proofs.Math.Seq.{get_or-append_seam}
use Rattle.std.proofs.lemmas.List.Elements.{All-nil, All-push}
use Rattle.sk_model.specs.Entries.{Entry, entries_by}
use Rattle.sk_model.proofs.Missing.{begins_trans, begins_refl}
use Rattle.sk_model.proofs.Lists.{range_split, with_last}
use Rattle.sk_gate.specs.Views.{known_of}
use Rattle.sk_hub.specs.Updaters.{UpdaterState, base_of, kept_of}
use Rattle.sk_hub.specs.Hearts.{HeartState}
use Rattle.sk_hub.specs.Drains.{IsDrained, HasTakenIn}
use Rattle.sk_hub.specs.Replies.{IsRelaxedReply, HasDrained}
use Rattle.sk_hub.proofs.Taking.{taken_when_drained, taken_after_drain, taken_after_ask, exactly_taken}
use Rattle.sk_feed.specs.Drained.{DrainsAll}
use Rattle.sk_feed.specs.Shares.{HasAllOf}

-- ---- what the heart took in

pub none_taken : (h : HeartState) → DrainsAll h [] h
none_taken h = record { table = refl; updaters = refl; eager = refl; numbers = refl; seen = begins_refl h.view.seen; drained = sym (append-nil h.view.drained); numbered = λ i d within. absurd (omega arith); taken_in = All-nil (HasTakenIn h) }

pub one_more : (h h1 h2 : HeartState) (us : List UpdaterState) (u : UpdaterState) → DrainsAll h us h1 → u.number ≡ length us → IsDrained h1 u h2 → DrainsAll h (us ++ u ∷ []) h2
one_more h h1 h2 us u t place d = record {
  table = ap (λ z. z.table) d.stays ∙ t.table;
  updaters = ap (λ z. z.updaters) d.stays ∙ t.updaters;
  eager = ap (λ z. z.eager) d.stays ∙ t.eager;
  numbers = d.numbers ∙ t.numbers;
  seen = begins_trans h.view.seen h1.view.seen h2.view.seen t.seen d.grows;
  drained = d.drained ∙ ap (λ l. l ++ u.number ∷ []) t.drained ∙ append_assoc h.view.drained (range_with_len 0 (length us)) (u.number ∷ []) ∙ ap (λ l. h.view.drained ++ l) ranged;
  numbered = with_last (λ i v. v.number ≡ i) us u t.numbered place;
  taken_in = All-push (HasTakenIn h2) us u
      (λ i e within. taken_after_drain h1 h2 (get_or us i e) u d (λ same. let none : ⊥ = omega (arith, same, place, t.numbered i e within, within) in absurd none) (t.taken_in i e within))
      (taken_when_drained h1 h2 u d);
}
  where
    ranged : range_with_len 0 (length us) ++ u.number ∷ [] ≡ range_with_len 0 (length (us ++ u ∷ []))
    ranged =
        let same : length us ≡ 0 + length us = omega arith in
        let count : length us + 1 ≡ length (us ++ u ∷ []) = omega (arith, length-append us (u ∷ [])) in
        ap (λ i. range_with_len 0 (length us) ++ i ∷ []) (place ∙ same) ∙ sym (range_split 0 (length us) 1) ∙ ap (range_with_len 0) count

-- and then asked
pub asked : (packed_of : List ℕ → List Entry → ℕ) (h h1 h2 : HeartState) (us : List UpdaterState) (word : ℕ) → DrainsAll h us h1 → IsRelaxedReply packed_of h1.view word h2.view → h2 ≡ record h1 { view = h2.view } → DrainsAll h us h2
asked packed_of h h1 h2 us word t r stays = record {
  table = ap (λ z. z.table) stays ∙ t.table;
  updaters = ap (λ z. z.updaters) stays ∙ t.updaters;
  eager = ap (λ z. z.eager) stays ∙ t.eager;
  numbers = ap (λ v. v.numbers) r.stays ∙ t.numbers;
  seen = begins_trans h.view.seen h1.view.seen h2.view.seen t.seen r.grows;
  drained = ap (λ v. v.drained) r.stays ∙ t.drained;
  numbered = t.numbered;
  taken_in = λ i d within. taken_after_ask packed_of h1 h2 word (get_or us i d) r (t.taken_in i d within);
}

-- what the heart knows of updater i
pub known_at : {h h' : HeartState} {us : List UpdaterState} → DrainsAll h us h' → (i : ℕ) (d : UpdaterState) → i < length us → known_of h'.view i ≡ kept_of (get_or us i d)
known_at {h} {h'} {us} t i d within = ap (λ n. known_of h'.view n) (sym (t.numbered i d within)) ∙ (t.taken_in i d within).known

pub has_all : (packed_of : List ℕ → List Entry → ℕ) (h h1 h2 : HeartState) (us : List UpdaterState) (word : ℕ) → DrainsAll h us h1 → length us ≡ h.updaters → length h1.view.sizes ≡ h1.updaters → IsRelaxedReply packed_of h1.view word h2.view → HasDrained h1.view h2.view → HasAllOf h2.view.seen us
has_all packed_of h h1 h2 us word t all sized r drained = record {
  bases = λ i d within. begins_trans (base_of (get_or us i d)) h1.view.seen h2.view.seen (t.taken_in i d within).base r.grows;
  kept = λ i d within. ap (λ n. entries_by n h2.view.seen) (sym (t.numbered i d within)) ∙ exactly_taken h1 h2 (get_or us i d) drained (t.taken_in i d within);
  only = λ i d within. let below = (r.entries i d within).0 in omega (arith, below, all, sized, t.updaters);
}

-- ---- the next to be taken

-- what holds of all holds of the next
pub next_has : (P : ℕ → UpdaterState → Type 0) (us before rest : List UpdaterState) (u : UpdaterState) → before ++ u ∷ rest ≡ us → ((i : ℕ) (d : UpdaterState) → i < length us → P i (get_or us i d)) → P (length before) u
next_has P us before rest u all each =
    let inside : length before < length us = omega (arith, ap length all, length-append before (u ∷ rest)) in
    subst (P (length before)) (ap (λ l. get_or l (length before) u) (sym all) ∙ get_or-append_seam before u rest u) (each (length before) u inside)
