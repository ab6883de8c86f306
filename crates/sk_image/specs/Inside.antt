-- What a reader of an image keeps of the bytes that it took.
use Rattle.std.specs.Prelude.{◌≡◌, ℕ, ◌+◌, ◌≤◌, List, [], ◌∷◌, ◌++◌, length, map}
use Rattle.sk_lines.specs.Cutter.{HasNoLf}
use Rattle.sk_image.specs.Images.{first_line, hash_text, lines_of_image, joined}
use Rattle.sk_image.specs.Reading.{most_line, BeginAnImage, IsBadAt, IsGoodSoFar}
use Rattle.sk_image.specs.declared.part.Part.{Part}
use Rattle.sk_image.specs.declared.part.Part.TheVariants.{Nothing, Open, Whole}
use Rattle.sk_image.specs.declared.draft.Draft.{Draft}

-- exactly these lines were taken
abbrev pub Holds : Part → List (List ℕ) → Type 0
Holds Nothing lines = lines ≡ []
Holds (Open image) lines = lines ≡ first_line image.version image.k image.seed ∷ map (hash_text image.version) image.hashes.items
Holds (Whole image) lines = lines ≡ lines_of_image image.version image.k image.seed image.hashes.items

-- one line more was taken
abbrev pub Adds : Part → Part → List ℕ → Type 0
Adds old new line = (lines : List (List ℕ)) → Holds old lines → Holds new (lines ++ line ∷ [])

-- this line would be line n, counted from 1, and with it after those taken no image begins
abbrev pub Refuses : Part → List ℕ → ℕ → Type 0
Refuses part line n = (lines : List (List ℕ)) → Holds part lines → (n ≡ length lines + 1) × ¬ BeginAnImage (lines ++ line ∷ [])

-- exactly this text was taken
pub record HasTaken (draft : Draft) (text : List ℕ) : Type 0 where
  pub lines : List (List ℕ)
  pub holds : Holds draft.part lines
  pub split : text ≡ joined lines ++ draft.line.items
  pub no_lf : HasNoLf draft.line.items
  pub within : length draft.line.items ≤ most_line

-- whatever follows, line n is the first that is not as its place requires
pub record IsBadFrom (n : ℕ) (text : List ℕ) : Type 0 where
  pub bad : (more : List ℕ) → IsBadAt n (text ++ more)
  pub not_good : (more : List ℕ) → ¬ IsGoodSoFar (text ++ more)

-- these bytes more were taken
abbrev pub Takes : Draft → Draft → List ℕ → Type 0
Takes old new bytes = (text : List ℕ) → HasTaken old text → HasTaken new (text ++ bytes)

-- with these bytes after those taken, line n is bad whatever follows
abbrev pub Spoils : Draft → List ℕ → ℕ → Type 0
Spoils draft bytes n = (text : List ℕ) → HasTaken draft text → IsBadFrom n (text ++ bytes)
