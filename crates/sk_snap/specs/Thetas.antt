-- The sketch of the k smallest as one that takes items: what they leave, and the laws of that.
use Rattle.std.proofs.Common.{◌≡◌, ℕ, ◌-◌, ◌≤◌, false, nat_lt, if◌then◌else◌, List, [], ◌∷◌, ◌++◌, length, slice_index, sym, ap, ◌∙◌, arith, inl}
use Rattle.std.proofs.lemmas.Bool.Decides.{nat_tests}
use Rattle.sk_model.specs.Sketch.{k_smallest, theta_of, packed_of}
use Rattle.sk_model.specs.Width.{item_end, IsItem}
use Rattle.sk_model.proofs.Sketch.{k_smallest-nil, k_smallest_is, a_batch_more, idle_changes_nothing}
use Rattle.sk_compose.specs.Numbers.{k_of}
use Rattle.sk_theta.specs.Kept.{Sketch, StandsFor, IsWhole}

-- a sketch of no item
abbrev pub new_theta : ℕ → Sketch
new_theta k = record { k = k; kept = [] }

-- what items leave of one
abbrev pub taken : Sketch → List ℕ → Sketch
taken sketch items = record { k = sketch.k; kept = k_smallest sketch.k (sketch.kept ++ items) }

pub new_stands : (k : ℕ) → StandsFor (new_theta k) []
new_stands k = sym (k_smallest-nil k)

-- a whole sketch stands for what it keeps
pub stands_for_kept : (s : Sketch) → IsWhole s → StandsFor s s.kept
stands_for_kept s whole = sym (k_smallest_is s.k s.kept s.kept whole.rises whole.within (λ x has. has) (λ x has. inl has))

pub taken_stands : (s : Sketch) (list items : List ℕ) → StandsFor s list → StandsFor (taken s items) (list ++ items)
taken_stands s list items is = ap (λ (kept : List ℕ). k_smallest s.k (kept ++ items)) is ∙ sym (a_batch_more s.k list items)

-- an item that is not below theta changes neither theta nor the word
pub idle_theta : (numbers list more rest : List ℕ) (item : ℕ) → IsItem item → nat_lt item (theta_of (k_of numbers) list) ≡ false
    → (theta_of (k_of numbers) ((list ++ more) ++ item ∷ rest) ≡ theta_of (k_of numbers) ((list ++ more) ++ rest))
    × (packed_of (k_of numbers) ((list ++ more) ++ item ∷ rest) ≡ packed_of (k_of numbers) ((list ++ more) ++ rest))
idle_theta numbers list more rest item small idle =
    let k = k_of numbers in
    let past : theta_of k list ≤ item = grind (arith, nat_tests) in
    let same = idle_changes_nothing k item list more rest small past in
    let theta : List ℕ → ℕ = λ kept. if nat_lt (length kept) k then item_end else slice_index kept (k - 1) in
    let word : List ℕ → ℕ = λ kept. if nat_lt (length kept) k then length kept else theta kept in
    (ap theta same, ap word same)

-- these items were joined into a sketch, and counted
pub record IsJoined (old : Sketch) (items : List ℕ) (new : Sketch) (count : ℕ) : Type 0 where
  pub k_is : new.k ≡ old.k
  pub stands : (hashes : List ℕ) → StandsFor old hashes → StandsFor new (hashes ++ items)
  pub counted : count ≡ length items
