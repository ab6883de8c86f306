-- A heart that takes in the updaters of a wave, one after another.
use Rattle.std.proofs.Common.{◌≡◌, ℕ, ◌+◌, List, [], ◌∷◌, ◌++◌, length, get_or, refl, sym, ap, ◌∙◌, arith, append-nil, append_assoc, length-append}
use Rattle.std.specs.List.{range_with_len}
use Rattle.std.proofs.lemmas.List.Elements.{All-nil, All-push}
use Rattle.sk_model.proofs.Missing.{begins_trans, begins_refl}
use Rattle.sk_hub.specs.Updaters.{UpdaterState}
use Rattle.sk_hub.specs.Hearts.{HeartState}
use Rattle.sk_hub.specs.Drains.{IsDrained, HasTakenIn}
use Rattle.sk_hub.proofs.Taking.{taken_when_drained, taken_after_drain}
use Rattle.sk_model.proofs.Lists.{range_split}
use Rattle.sk_serve.specs.Waves.{DrainsFrom}
use Rattle.sk_serve.proofs.Each.{each_last}

pub none_drained : (from : ℕ) (h : HeartState) → DrainsFrom from h [] h
none_drained from h = record {
  table = refl;
  updaters = refl;
  admitted = refl;
  eager = refl;
  numbers = refl;
  grows = begins_refl h.view.seen;
  drained = sym (append-nil h.view.drained);
  numbered = λ i d within. absurd (omega arith);
  taken_in = All-nil (HasTakenIn h);
  stays = λ u below t. t;
}

pub one_drained : (from : ℕ) (h h1 h2 : HeartState) (us : List UpdaterState) (u : UpdaterState) → DrainsFrom from h us h1 → u.number ≡ from + length us → IsDrained h1 u h2 → DrainsFrom from h (us ++ u ∷ []) h2
one_drained from h h1 h2 us u t place d = record {
  table = ap (λ z. z.table) d.stays ∙ t.table;
  updaters = ap (λ z. z.updaters) d.stays ∙ t.updaters;
  admitted = ap (λ z. z.admitted) d.stays ∙ t.admitted;
  eager = ap (λ z. z.eager) d.stays ∙ t.eager;
  numbers = d.numbers ∙ t.numbers;
  grows = begins_trans h.view.seen h1.view.seen h2.view.seen t.grows d.grows;
  drained = d.drained ∙ ap (λ l. l ++ u.number ∷ []) t.drained ∙ append_assoc h.view.drained (range_with_len from (length us)) (u.number ∷ []) ∙ ap (λ l. h.view.drained ++ l) ranged;
  numbered = each_last (λ i v. v.number ≡ i) from us u t.numbered place;
  taken_in = All-push (HasTakenIn h2) us u
      (λ i e within. taken_after_drain h1 h2 (get_or us i e) u d (λ same. let none : ⊥ = omega (arith, same, place, t.numbered i e within, within) in absurd none) (t.taken_in i e within))
      (taken_when_drained h1 h2 u d);
  stays = λ v below taken. taken_after_drain h1 h2 v u d (λ same. let none : ⊥ = omega (arith, same, place, below) in absurd none) (t.stays v below taken);
}
  where
    ranged : range_with_len from (length us) ++ u.number ∷ [] ≡ range_with_len from (length (us ++ u ∷ []))
    ranged =
        let count : length us + 1 ≡ length (us ++ u ∷ []) = omega (arith, length-append us (u ∷ [])) in
        ap (λ i. range_with_len from (length us) ++ i ∷ []) place ∙ sym (range_split from (length us) 1) ∙ ap (range_with_len from) count
