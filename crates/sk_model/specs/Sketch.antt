-- The sketch of the k smallest hashes (k minimum values: Bar-Yossef and others, RANDOM 2002; as the theta
-- sketch in Rinberg and others, PPoPP 2020), as functions of the whole list of hashes.
use Rattle.std.specs.Prelude.{ℕ, ◌-◌, ◌*◌, ◌≤◌, nat_lt, ◌==◌, if◌then◌else◌, List, [], ◌∷◌, length, take, fold, slice_index}
use Rattle.sk_model.specs.Width.{item_end}

-- a rising list with h in its place, unless it has h
unfoldable pub placed : ℕ → List ℕ → List ℕ
placed h [] = h ∷ []
placed h (x ∷ xs) = if nat_lt h x then h ∷ x ∷ xs else (if h == x then x ∷ xs else x ∷ placed h xs)

-- the distinct members of a list, rising
unfoldable pub rising : List ℕ → List ℕ
rising hashes = fold (λ kept h. placed h kept) [] hashes

-- the k smallest of the distinct members, rising, or all where there are fewer
unfoldable pub k_smallest : ℕ → List ℕ → List ℕ
k_smallest k hashes = take k (rising hashes)

-- how many of them there are
abbrev pub count_of : ℕ → List ℕ → ℕ
count_of k hashes = length (k_smallest k hashes)

-- the greatest of the k smallest if there are k, else the end, which all hashes are below
abbrev pub theta_to : ℕ → ℕ → List ℕ → ℕ
theta_to end k hashes = if nat_lt (count_of k hashes) k then end else slice_index (k_smallest k hashes) (k - 1)

-- the estimate that a count and a theta give, as a numerator and a denominator, not reduced
abbrev pub fraction_to : ℕ → ℕ → ℕ → ℕ → ℕ × ℕ
fraction_to end k count theta = if nat_lt count k then (count, 1) else ((k - 1) * end, theta)

-- the estimate of how many distinct members a list has
abbrev pub estimate_to : ℕ → ℕ → List ℕ → ℕ × ℕ
estimate_to end k hashes = fraction_to end k (count_of k hashes) (theta_to end k hashes)

-- theta and the two fractions of items
abbrev pub theta_of : ℕ → List ℕ → ℕ
theta_of k hashes = theta_to item_end k hashes

abbrev pub fraction_of : ℕ → ℕ → ℕ → ℕ × ℕ
fraction_of k count theta = fraction_to item_end k count theta

abbrev pub estimate_of : ℕ → List ℕ → ℕ × ℕ
estimate_of k hashes = estimate_to item_end k hashes

-- an item that can no longer change a sketch of this list, or of one that begins with it
abbrev pub IsIdle : ℕ → ℕ → List ℕ → Type 0
IsIdle k h hashes = theta_of k hashes ≤ h

-- a count and a theta in one word: the count if it is below k, else the theta, which is not
abbrev pub packed : ℕ → ℕ → ℕ → ℕ
packed k count theta = if nat_lt count k then count else theta

-- the count and the theta of a list in one word
abbrev pub packed_of : ℕ → List ℕ → ℕ
packed_of k hashes = packed k (count_of k hashes) (theta_of k hashes)

-- the count and the theta that a word holds
abbrev pub unpacked : ℕ → ℕ → ℕ × ℕ
unpacked k word = if nat_lt word k then (word, item_end) else (k, word)
