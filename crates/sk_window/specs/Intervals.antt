-- The items of the closed intervals, oldest first, and the sketches that stand for them.
use Rattle.std.specs.Prelude.{◌≡◌, ℕ, List, [], ◌∷◌, ◌++◌, drop, replicate, flat_map}
use Rattle.sk_model.specs.Sketch.{count_of, theta_of}
use Rattle.sk_theta.specs.Kept.{Sketch, StandsFor}
use Rattle.sk_theta.specs.declared.reply.Reply.{Reply}

-- the items of these intervals, one after another
abbrev pub all_items : List (List ℕ) → List ℕ
all_items lists = flat_map (λ items. items) lists

-- the lists of as many intervals, after one more was closed: the oldest is gone
abbrev pub with_closed : List (List ℕ) → List ℕ → List (List ℕ)
with_closed lists items = drop 1 lists ++ items ∷ []

-- the same after n intervals more in which no item was kept
abbrev pub with_skipped : List (List ℕ) → ℕ → List (List ℕ)
with_skipped lists n = drop n (lists ++ replicate n [])

-- a sketch of this k, of no items
abbrev pub IsEmptySketch : ℕ → Sketch → Type 0
IsEmptySketch k s = (s.k ≡ k) × StandsFor s []

-- the sketches, all of this k, stand for these lists, each for one
abbrev pub StandForEach : ℕ → List Sketch → List (List ℕ) → Type 0
StandForEach k [] [] = Unit {0}
StandForEach k [] (items ∷ lists) = ⊥
StandForEach k (s ∷ sketches) [] = ⊥
StandForEach k (s ∷ sketches) (items ∷ lists) = (s.k ≡ k) × StandsFor s items × StandForEach k sketches lists

-- the count and theta of these items, by sketches of this k
pub record IsReplyOf (k : ℕ) (items : List ℕ) (reply : Reply) : Type 0 where
  pub count_is : reply.count ≡ count_of k items
  pub theta_is : reply.theta ≡ theta_of k items
