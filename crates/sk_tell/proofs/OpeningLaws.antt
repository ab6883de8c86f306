-- A hub as it is opened.
use Rattle.std.proofs.Common.{◌≡◌, Bool, ℕ, ◌<◌, List, length, get_or, replicate, slice_index, ◌∙◌, arith}
use Rattle.std.proofs.lemmas.List.{get_or-replicate}
use Rattle.std.proofs.lemmas.Option.{slice_get-get_or}
use Rattle.sk_model.specs.Entries.{Entry}
use Rattle.sk_gate.specs.Hands.{TokenState}
use Rattle.sk_hub.specs.Hearts.{HeartState}
use Rattle.sk_hub.specs.Starts.{IsNewHeart, IsNewToken, AreNew}
use Rattle.sk_hub.specs.Drains.{IsNew}
use Rattle.sk_hub.specs.Updaters.{UpdaterState}
use Rattle.sk_feed.specs.Hubs.{Hub}
use Rattle.sk_feed.specs.Shares.{HaveKeptNone}
use Rattle.sk_feed.proofs.New.{new_hub}
use Rattle.sk_tell.specs.Feeding.{IsOpened}

module _ (hint_of : List ℕ → List Entry → ℕ) (updaters size_of_each n size : ℕ) (numbers name : List ℕ) (eager : Bool) (h : HeartState) (us : List UpdaterState) (t : TokenState) where
  pub is_opened : n ≡ updaters → size ≡ size_of_each → IsNewHeart n numbers name eager h → length us ≡ n → AreNew hint_of (replicate n size) h us → IsNewToken h t → IsOpened updaters size_of_each (record { heart = h; updaters = us; token = t })
  is_opened count size_is heart as_many new token = record {
    count = as_many ∙ count;
    idle = λ i d within. let u = new_at i d within in record {
      kept = u.kept;
      size_is = u.size_is ∙ get_or-replicate n i size 0 (omega (arith, as_many)) ∙ size_is;
      news = u.news;
    };
    drained = heart.drained;
    whole = new_hub hint_of (replicate n size) h us new n numbers name eager t heart token as_many;
  }
    where
      new_at : (i : ℕ) (d : UpdaterState) → i < length us → IsNew hint_of i (slice_index (replicate n size) i) h (get_or us i d)
      new_at i d within = new i (get_or us i d) (slice_get-get_or us i d within)

-- its updaters have kept nothing
pub are_fresh : (updaters size : ℕ) (hub : Hub) → IsOpened updaters size hub → HaveKeptNone hub.heart.view.numbers hub.updaters
are_fresh updaters size hub opened = λ i d within. ((opened.whole.updaters i d within).numbers, (opened.idle i d within).kept)
