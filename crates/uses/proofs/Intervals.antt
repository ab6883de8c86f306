-- New updaters of an interval that were fed, and of which a reader has learnt.
use Rattle.std.proofs.Common.{◌≡◌, ℕ, ◌<◌, Bool, List, length, get_or, All, sym, ap, ◌∙◌, arith}
use Rattle.sk_model.specs.Entries.{Entry}
use Rattle.sk_theta.specs.Sizes.{Sizes}
use Rattle.sk_hub.specs.Hearts.{HeartState}
use Rattle.sk_hub.specs.Updaters.{UpdaterState}
use Rattle.sk_snap.specs.History.{name_of}
use Rattle.sk_snap.specs.Versions.{Learnt}
use Rattle.sk_learn.specs.Closing.{AreApart}
use Rattle.sk_learn.specs.Learning.{AreAsked}
use Rattle.sk_window.specs.Hubs.{IsFresh}
use Rattle.uses.specs.Fed.{AreFed}

module _ (shape : Sizes) (heart : HeartState) (us : List UpdaterState) (reader : Learnt) (fresh : IsFresh shape heart us reader) where
  pub fresh_tables : All (λ u. u.table ≡ heart.table) us
  fresh_tables i d within = (fresh.each i d within).table

  module _ (keeps : ℕ → ℕ → Bool) (hint_of : List ℕ → List Entry → ℕ) (streams : List (List ℕ)) (fed : List UpdaterState) (took : AreFed keeps hint_of us streams fed) where
    pub fed_names : All (λ u. u.view.name ≡ name_of reader.known.book) fed
    fed_names i d within =
        let inside : i < length us = omega (arith, within, took.count) in
        (took.each i d inside).goes.name ∙ (fresh.each i d inside).name

    module _ (asked : List UpdaterState) (asks : AreAsked fed (length fed) asked) where
      inside : (i : ℕ) → i < length asked → i < length us
      inside i within = omega (arith, within, asks.count, took.count)

      number_of : (i : ℕ) (d : UpdaterState) → i < length asked → (get_or asked i d).number ≡ (get_or us i d).number
      number_of i d within =
          let less : i < length fed = omega (arith, within, asks.count) in
          ap (λ (u : UpdaterState). u.number) (asks.first i d less) ∙ (took.each i d (inside i within)).goes.number

      pub asked_tables : All (λ u. u.table ≡ heart.table) asked
      asked_tables i d within =
          let less : i < length fed = omega (arith, within, asks.count) in
          ap (λ (u : UpdaterState). u.table) (asks.first i d less) ∙ (took.each i d (inside i within)).goes.table ∙ (fresh.each i d (inside i within)).table

      pub asked_apart : AreApart asked
      asked_apart i j d less within same =
          let first : i < length asked = omega (arith, less, within) in
          fresh.apart i j d less (inside j within) (sym (number_of i d first) ∙ same ∙ number_of j d within)
