-- Stretches that are given to all rings.
use Rattle.std.proofs.Common.{◌≡◌, ◌⊎◌, inl, inr, ⊎_elim, ℕ, ◌+◌, ◌<◌, ◌≤◌, List, [], ◌∷◌, ◌++◌, length, get_or, All, Result, Ok, Err, OnOk, OnErr, sym, ap, refl, ◌∙◌, subst, arith, append-nil, append_assoc}
use Rattle.std.proofs.lemmas.Bool.{cases_lt}
use Rattle.rtrb.specs.Ring.{sent, SameProducer}
use Rattle.rtrb.specs.declared.producer.Producer.{Producer}
use Rattle.sk_model.specs.Limits.{most_kept}
use Rattle.sk_fill.specs.Windows.{all_lines}
use Rattle.sk_fill.specs.Stretches.{StretchState}
use Rattle.sk_feed.specs.Deliveries.{windows_of, EndAt, IsNext}
use Rattle.sk_lanes.specs.Rings.{GaveEach, GaveSome, AllEnd}
use Rattle.sk_feed.proofs.Done.{DoneTo}
use Rattle.sk_feed.proofs.DeliveryLaws.{end_later, ends_once, lines_one}

pub on_err : {T E P : Type 0} (r : Result T E) → P → OnErr r P
on_err (Ok x) p = tt
on_err (Err e) p = p

module _ {A P : Type 0} where
  -- a ring was given these stretches
  abbrev pub Gave : List StretchState → ℕ → Producer StretchState A P → Producer StretchState A P → Type 0
  Gave more i a b = SameProducer a b × (sent b ≡ sent a ++ more)

  pub gave_all : (os os' : List (Producer StretchState A P)) (more : List StretchState) (n : ℕ) → n ≡ length os → DoneTo (Gave more) os os' n → GaveEach os os' more
  gave_all os os' more n is done = record { count = done.count; each = λ i d within. done.done i d (omega arith) within }

  -- the rings before a place were given these, and the others are as they were
  pub gave_so_far : (os os' : List (Producer StretchState A P)) (more : List StretchState) (n : ℕ) → DoneTo (Gave more) os os' n → GaveSome os os' more
  gave_so_far os os' more n to = record {
    count = to.count;
    each = λ i d within. ⊎_elim
        (λ before. let done = to.done i d before within in (done.0, inr done.1))
        (λ behind. subst (λ o. SameProducer (get_or os i d) o × ((sent o ≡ sent (get_or os i d)) ⊎ (sent o ≡ sent (get_or os i d) ++ more))) (sym (to.later i d (omega arith))) (((refl, refl, refl, refl), refl), inl refl))
        (cases_lt i n);
  }

  pub some_of_all : (os os' : List (Producer StretchState A P)) (more : List StretchState) → GaveEach os os' more → GaveSome os os' more
  some_of_all os os' more gave = record { count = gave.count; each = λ i d within. let done = gave.each i d within in (done.0, inr done.1) }

  pub some_of_none : (os os' : List (Producer StretchState A P)) (more : List StretchState) → os ≡ os' → GaveSome os os' more
  some_of_none os os' more same = subst (λ l. GaveSome os l more) same (record { count = refl; each = λ i d within. (((refl, refl, refl, refl), refl), inl refl) })

  pub gave_none : (os : List (Producer StretchState A P)) → GaveEach os os []
  gave_none os = record { count = refl; each = λ i d within. (((refl, refl, refl, refl), refl), sym (append-nil (sent (get_or os i d)))) }

  pub gave_both : (os ms ns : List (Producer StretchState A P)) (xs ys : List StretchState) → GaveEach os ms xs → GaveEach ms ns ys → GaveEach os ns (xs ++ ys)
  gave_both os ms ns xs ys a b = record {
    count = b.count ∙ a.count;
    each = λ i d within.
        let first = a.each i d within in
        let then = b.each i d (omega (arith, a.count)) in (
          ((then.0.0.0 ∙ first.0.0.0, then.0.0.1 ∙ first.0.0.1, then.0.0.2 ∙ first.0.0.2, then.0.0.3 ∙ first.0.0.3), then.0.1 ∙ first.0.1),
          then.1 ∙ ap (λ l. l ++ ys) first.1 ∙ append_assoc (sent (get_or os i d)) xs ys,
        );
  }

  -- all end later
  pub all_end : (os os' : List (Producer StretchState A P)) (more : List StretchState) (n m : ℕ) → AllEnd os n → GaveEach os os' more → m ≡ n + length (all_lines (windows_of more)) → AllEnd os' m
  all_end os os' more n m ends gave is = λ i d within.
      let inside : i < length os = omega (arith, gave.count) in
      subst (λ l. EndAt l m) (sym (gave.each i d inside).1) (end_later (sent (get_or os i d)) more n m (ends i d inside) is)

  -- a stretch comes next where all end
  pub all_next : (os : List (Producer StretchState A P)) (n : ℕ) (s : StretchState) → AllEnd os n → s.first ≡ n → s.first + length (all_lines s.windows) ≤ most_kept → All (λ o. IsNext (sent o) s) os
  all_next os n s ends first few = λ i d within. record { begins = λ m end. first ∙ ends_once (sent (get_or os i d)) n m (ends i d within) end; few = few }

  -- all end with a stretch that was given to them
  pub given_ends : {T E : Type 0} (result : Result T E) (os os' : List (Producer StretchState A P)) (s : StretchState) → AllEnd os s.first → GaveEach os os' (s ∷ []) → OnOk result (AllEnd os' (s.first + length (all_lines s.windows)))
  given_ends (Ok x) os os' s ends gave = all_end os os' (s ∷ []) s.first (s.first + length (all_lines s.windows)) ends gave (omega (arith, lines_one s))
  given_ends (Err e) os os' s ends gave = tt
