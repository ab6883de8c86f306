-- Updaters that are settled one after another.
use Rattle.std.proofs.Common.{◌≡◌, ◌≢◌, ⊎_elim, ℕ, ◌<◌, Bool, true, ◌&&◌, List, [], ◌∷◌, ◌++◌, length, get_or, set, sym, ap, refl, ◌∙◌, subst, arith, append-nil}
use Rattle.std.proofs.lemmas.Bool.{cases_eq}
use Rattle.std.proofs.lemmas.List.{get_or-set_same, get_or-set_other, get_or_read, length-set}
use Rattle.sk_model.specs.Entries.{Entry, entries_by}
use Rattle.sk_hub.specs.Updaters.{UpdaterState, base_of, handed_of, kept_of}
use Rattle.sk_hub.specs.Calls.{KeepsNone}
use Rattle.sk_hub.proofs.Calls.{none_refl, none_trans, takes_then_none}
use Rattle.sk_read.specs.declared.kind.Kind.{Kind}
use Rattle.sk_feed.specs.Shares.{share, KeepNone}
use Rattle.sk_feed.specs.Hubs.{Hub, HeartMayGoOn, HasAllPublished, HandsOverEarly, FeedsWindow}
use Rattle.sk_feed.proofs.HubLaws.{may_go}

pub none_each : (us : List UpdaterState) → KeepNone us us
none_each us = record { count = refl; each = λ i d within. none_refl (get_or us i d) }

module _ (us vs : List UpdaterState) (i : ℕ) (u u' : UpdaterState) (none : KeepNone us vs) (within : i < length vs) (is : u ≡ get_or vs i u) (later : KeepsNone u u') where
  here : (d : UpdaterState) → i < length us → KeepsNone (get_or us i d) (get_or (set vs i u') i d)
  here d inside = subst (KeepsNone (get_or us i d)) (sym (get_or-set_same vs i u' d within))
      (none_trans (get_or us i d) u u' (subst (KeepsNone (get_or us i d)) (sym (get_or_read vs i u within is d)) (none.each i d inside)) later)

  there : (j : ℕ) (d : UpdaterState) → j < length us → j ≢ i → KeepsNone (get_or us j d) (get_or (set vs i u') j d)
  there j d inside other = subst (KeepsNone (get_or us j d)) (sym (get_or-set_other vs i j u' d other)) (none.each j d inside)

  pub none_next : KeepNone us (set vs i u')
  none_next = record {
    count = length-set vs i u' ∙ none.count;
    each = λ j d inside. ⊎_elim
        (λ same. subst (λ m. KeepsNone (get_or us m d) (get_or (set vs i u') m d)) (sym same) (here d (omega (arith, inside, same))))
        (there j d inside)
        (cases_eq j i);
  }

-- a window that was fed is so still after updaters were settled
pub fed_and_settled : (on : Bool) (keeps : ℕ → ℕ → Bool) (hint_of : List ℕ → List Entry → ℕ) (kind : Kind) (lines : List (List ℕ)) (a x y : Hub) → FeedsWindow on keeps hint_of kind lines a x → HeartMayGoOn on x.heart y.heart → KeepNone x.updaters y.updaters → y.token ≡ x.token
    → FeedsWindow on keeps hint_of kind lines a y
fed_and_settled on keeps hint_of kind lines a x y fed heart none token = record {
  heart = may_go on a.heart x.heart y.heart fed.heart heart;
  updaters = record {
    count = none.count ∙ fed.updaters.count;
    each = λ i d within. takes_then_none keeps hint_of (get_or a.updaters i d) (get_or x.updaters i d) (get_or y.updaters i d) (share kind (lines ∷ []) (length a.updaters) i) (fed.updaters.each i d within)
        (none.each i d (omega (arith, within, fed.updaters.count)));
  };
  token = token ∙ fed.token;
}

-- nothing waits in its fill buffer
pub base_of_eager : (early : ℕ → Bool) (u : UpdaterState) → HasAllPublished u → HandsOverEarly early u → (u.eager && early u.hint) ≡ true → entries_by u.number (base_of u) ≡ kept_of u
base_of_eager early u published early_handed eager = published ∙ sym (ap (λ l. handed_of u ++ l) (early_handed eager) ∙ append-nil (handed_of u))
