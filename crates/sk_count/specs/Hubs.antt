-- What a token learns of a hub by asking it, and what the heart and the token show when all is counted.
use Rattle.std.specs.Prelude.{◌≡◌, ℕ, zero, suc, ◌*◌, ◌<◌, ◌≤◌, List, [], ◌∷◌, ◌++◌, length, All, replicate, slice_index_or}
use Rattle.std.specs.List.{range_with_len}
use Rattle.sk_model.specs.Entries.{Entry, items_of_entries, entries_by}
use Rattle.sk_model.specs.Missing.{Begins, LacksAtMost}
use Rattle.sk_model.specs.Sketch.{packed_of}
use Rattle.sk_compose.specs.Numbers.{k_of}
use Rattle.sk_machine.specs.Coarse.{IsEntry}
use Rattle.sk_machine.specs.declared.views.Move.{Move}
use Rattle.sk_machine.specs.declared.views.Move.TheVariants.{Join, Ask, Split}
use Rattle.sk_gate.specs.Views.{known_of, size_of}
use Rattle.sk_gate.specs.Hands.{TokenState}
use Rattle.sk_hub.specs.Hearts.{HeartState}
use Rattle.sk_hub.specs.Updaters.{UpdaterState, base_of, kept_of}
use Rattle.sk_feed.specs.Hubs.{Hub}
use Rattle.sk_feed.specs.Shares.{share}
use Rattle.sk_report.specs.Sizes.{size_at}
use Rattle.sk_count.specs.declared.plan.Plan.{Plan}
use Rattle.sk_count.specs.Moments.{Moment, kept_by, AreKeptOver}

-- ---- steps

-- n notes were met, each by a join that an ask follows
unfoldable pub MeetsNotes : ℕ → List Move → Type 0
MeetsNotes zero steps = steps ≡ []
MeetsNotes (suc n) steps = (earlier : List Move) × (word : ℕ) × (steps ≡ earlier ++ Join ∷ Ask word ∷ []) × MeetsNotes n earlier

-- n notes were met, one ask more loaded this word, and then n notes were given
abbrev pub MeetsAndAsks : ℕ → ℕ → List Move → Type 0
MeetsAndAsks n word steps = (earlier : List Move) × MeetsNotes n earlier × (steps ≡ earlier ++ Ask word ∷ replicate n Split)

-- so it was at each of these moments, in order
unfoldable pub AsksAtEach : ℕ → ℕ → List Moment → List Move → Type 0
AsksAtEach k n [] steps = steps ≡ []
AsksAtEach k n (m ∷ moments) steps =
    (now : List Move) × (later : List Move) × (steps ≡ now ++ later) × MeetsAndAsks n (packed_of k (items_of_entries m.seen)) now × AsksAtEach k n moments later

-- ---- an ask of a hub

-- each updater has seen all of a list
abbrev pub HaveSeen : List UpdaterState → List Entry → Type 0
HaveSeen us list = (i : ℕ) (d : UpdaterState) → i < length us → Begins list (slice_index_or us i d).view.seen

-- the token met a note of every updater, and asked: the list that it saw goes on from what it had seen and from each
-- updater's base, has of each only what that kept, lacks of it at most the last two buffers, and has only entries of
-- these updaters, who have seen it now; the token knows the size of each, and no more lies in its fill buffer
pub record AsksHub (a : Hub) (word : ℕ) (b : Hub) : Type 0 where
  pub grows : Begins a.token.view.seen b.token.view.seen
  pub bases : (i : ℕ) (d : UpdaterState) → i < length a.updaters → Begins (base_of (slice_index_or a.updaters i d)) b.token.view.seen
  pub own : (i : ℕ) (d : UpdaterState) → i < length a.updaters → Begins (entries_by i b.token.view.seen) (kept_of (slice_index_or a.updaters i d))
  pub lacks : (i : ℕ) (d : UpdaterState) → i < length a.updaters
      → LacksAtMost (kept_of (slice_index_or a.updaters i d)) (entries_by i b.token.view.seen) (2 * (slice_index_or a.updaters i d).size)
  pub fills : (i : ℕ) (d : UpdaterState) → i < length a.updaters → length (slice_index_or a.updaters i d).fill ≤ (slice_index_or a.updaters i d).size
  pub sizes : (i : ℕ) (d : UpdaterState) → i < length a.updaters → size_of b.token.view i ≡ (slice_index_or a.updaters i d).size
  pub entries : All (IsEntry (length a.updaters)) b.token.view.seen
  pub heard : HaveSeen b.updaters b.token.view.seen
  pub word_is : word ≡ packed_of (k_of a.token.view.numbers) (items_of_entries b.token.view.seen)
  pub steps : (steps : List Move) × MeetsAndAsks (length a.updaters) word steps × (b.token.view.steps ≡ a.token.view.steps ++ steps)

-- ---- what is left behind

-- the heart drained all updaters, in number order; of each it knows what that kept of its share of all windows, no less
-- than at any moment; its last step loaded the word of all items; and it is of a hub as the plan asks for it
pub record ShowsAll (plan : Plan) (items : List ℕ) (windows : List (List (List ℕ))) (moments : List Moment) (h : HeartState) : Type 0 where
  pub drained : h.view.drained ≡ range_with_len 0 plan.updaters
  pub kept : (i : ℕ) → i < plan.updaters → AreKeptOver plan.k h.view.seen (share plan.kind windows plan.updaters i) (known_of h.view i)
  pub sees : (i : ℕ) → i < plan.updaters → entries_by i h.view.seen ≡ known_of h.view i
  pub later : All (λ m. (i : ℕ) → i < plan.updaters → Begins (kept_by m i) (known_of h.view i)) moments
  pub steps : (earlier : List Move) × (h.view.steps ≡ earlier ++ Ask (packed_of plan.k items) ∷ [])
  pub k : k_of h.view.numbers ≡ plan.k
  pub updaters : h.updaters ≡ plan.updaters
  pub eager : h.eager ≡ plan.eager

-- the token knows the size of each updater's buffers, as the plan has it
abbrev pub HasSizes : Plan → TokenState → Type 0
HasSizes plan t = (i : ℕ) → i < plan.updaters → size_of t.view i ≡ size_at plan.sizes i

-- the token's last steps are those of these moments, it has seen what it saw at each, and has met the updaters
pub record ShowsMoments (plan : Plan) (moments : List Moment) (t : TokenState) : Type 0 where
  pub steps : (earlier : List Move) × (asks : List Move) × (t.view.steps ≡ earlier ++ asks) × AsksAtEach plan.k plan.updaters moments asks
  pub seen : All (λ m. Begins m.seen t.view.seen) moments
  pub sizes : 0 < length moments → HasSizes plan t
