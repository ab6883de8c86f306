-- A hub as it is opened.
use Rattle.std.proofs.Common.{◌≡◌, ℕ, ◌<◌, List, [], ◌∷◌, length, get_or, slice_index, replicate, arith, ◌∙◌}
use Rattle.std.proofs.lemmas.List.{get_or-replicate}
use Rattle.std.proofs.lemmas.Option.{slice_get-get_or}
use Rattle.sk_model.specs.Entries.{Entry}
use Rattle.sk_theta.specs.Sizes.{Sizes}
use Rattle.sk_hub.specs.Hearts.{HeartState}
use Rattle.sk_hub.specs.Updaters.{UpdaterState}
use Rattle.sk_hub.specs.Starts.{IsNewHeart, AreNew}
use Rattle.sk_hub.specs.Drains.{IsNew}
use Rattle.sk_snap.specs.History.{entries_in, name_of}
use Rattle.sk_snap.specs.Versions.{Learnt}
use Rattle.sk_learn.proofs.Numbered.{numbered_apart}
use Rattle.sk_window.specs.Hubs.{IsFresh, IsFreshUpdater}

-- each number of a list of one number, as often
at_replicate : (n i b : ℕ) → i < n → slice_index (replicate n b) i ≡ b
at_replicate n i b within = get_or-replicate n i b 0 within

module _ (hint_of : List ℕ → List Entry → ℕ) (shape : Sizes) (numbers name : List ℕ) (h : HeartState) (us : List UpdaterState) (r : Learnt) where
  pub fresh_hub : IsNewHeart shape.n numbers name shape.eager h → numbers ≡ shape.k ∷ [] → length us ≡ shape.n → AreNew hint_of (replicate shape.n shape.b) h us
      → name ≡ name_of r.known.book → r.numbers ≡ shape.k ∷ [] → entries_in r.known ≡ [] → IsFresh shape h us r
  fresh_hub heart ks count new same its none = record {
    count = count;
    apart = numbered_apart us (λ i d within. (new_at i d within).number_is);
    eager = heart.eager_is;
    each = λ i d within. fresh i d within;
    name = heart.name_is ∙ same;
    numbers = its;
    learnt = none;
  }
    where
      new_at : (i : ℕ) (d : UpdaterState) → i < length us → IsNew hint_of i (slice_index (replicate shape.n shape.b) i) h (get_or us i d)
      new_at i d within = new i (get_or us i d) (slice_get-get_or us i d within)

      fresh : (i : ℕ) (d : UpdaterState) → i < length us → IsFreshUpdater shape h r (get_or us i d)
      fresh i d within =
          let it = new_at i d within in
          record {
            table = it.table;
            kept = it.kept;
            size = it.size_is ∙ at_replicate shape.n i shape.b (omega (arith, within, count));
            eager = it.eager ∙ heart.eager_is;
            sized = it.sized ∙ heart.updaters;
            name = it.name ∙ heart.name_is ∙ same;
            numbers = it.numbers ∙ heart.numbers_are ∙ ks;
          }
