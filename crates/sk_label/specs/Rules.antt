-- What a command makes of labelled lines: which of them are refused, and which text is due for them.
use Rattle.std.specs.Prelude.{◌≡◌, ℕ, ◌<◌, Bool, true, false, List, [], ◌∷◌, ◌++◌, length, take, slice_index_or}

pub record Rules : Type 0 where
  -- whether a line that is not empty has the form
  pub is_formed : List ℕ → Bool
  -- whether a line of the form is refused after these lines
  pub is_refused : List (List ℕ) → List ℕ → Bool
  -- the text that is due at a line after these lines
  pub due_at : List (List ℕ) → List ℕ → List ℕ
  -- the text that is due once these lines have ended
  pub due_last : List (List ℕ) → List ℕ
  -- whether nothing is due before the lines have ended
  pub writes_last : Bool

-- a line is not empty, and has not the form
abbrev pub IsBad : Rules → List ℕ → Type 0
IsBad rules line = (0 < length line) × (rules.is_formed line ≡ false)

-- a line is not empty and has the form, and is refused after these lines
abbrev pub IsRefused : Rules → List (List ℕ) → List ℕ → Type 0
IsRefused rules before line = (0 < length line) × (rules.is_formed line ≡ true) × (rules.is_refused before line ≡ true)

-- a line is empty, or has the form and is not refused after these lines
abbrev pub IsFine : Rules → List (List ℕ) → List ℕ → Type 0
IsFine rules before line = 0 < length line → (rules.is_formed line ≡ true) × (rules.is_refused before line ≡ false)

-- each of these lines is fine after those before it
abbrev pub AreFine : Rules → List (List ℕ) → Type 0
AreFine rules lines = (n : ℕ) → n < length lines → IsFine rules (take n lines) (slice_index_or lines n [])

-- the text that is due at these lines, where others came before them
abbrev pub due_from : Rules → List (List ℕ) → List (List ℕ) → List ℕ
due_from rules before [] = []
due_from rules before (line ∷ lines) = rules.due_at before line ++ due_from rules (before ++ line ∷ []) lines

-- the text that is due at these lines
abbrev pub due_so_far : Rules → List (List ℕ) → List ℕ
due_so_far rules lines = due_from rules [] lines

-- the whole text of these lines, once they have ended
abbrev pub whole_text : Rules → List (List ℕ) → List ℕ
whole_text rules lines = due_so_far rules lines ++ rules.due_last lines

-- a command that writes last writes nothing at a line
abbrev pub IsOrderly : Rules → Type 0
IsOrderly rules = rules.writes_last ≡ true → (before : List (List ℕ)) (line : List ℕ) → rules.due_at before line ≡ []
