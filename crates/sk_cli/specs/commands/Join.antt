-- What `join` is asked, and how it goes.
use Rattle.std.specs.Prelude.{◌≡◌, ◌≢◌, ◌⊎◌, ℕ, ◌<◌, ◌≤◌, Bool, if◌then◌else◌, List, [], ◌∷◌, ◌++◌, length, take, Option, Some, IfSome, option_and_then, option_map, Result, MatchResult}
use Rattle.std.specs.Io.KnownBytes.{Appends, Consumes, IsAtEnd}
use Rattle.sk_model.specs.Causes.{AppendsPart}
use Rattle.sk_model.specs.Sketch.{k_smallest, estimate_to}
use Rattle.sk_lines.specs.Fractions.{estimate_line}
use Rattle.sk_io.specs.Files.{told_file, Opens}
use Rattle.sk_image.specs.Images.{text_of}
use Rattle.sk_image.specs.Versions.{end_of}
use Rattle.sk_image.specs.Reading.{IsBadAt, IsGoodSoFar, IsImageText}
use Rattle.sk_image.specs.Written.{image_text}
use Rattle.sk_image.specs.declared.image.Image.{Image}
use Rattle.sk_cli.specs.Options.{Given, value_behind, is_given, word_in}
use Rattle.sk_cli.specs.Values.{Word}
use Rattle.sk_cli.specs.declared.options.Name.TheVariants as name
use Rattle.sk_cli.specs.declared.commands.join.JoinPlan.{JoinPlan}
use Rattle.sk_cli.specs.declared.fault.Stamp.{Stamp}
use Rattle.sk_cli.specs.declared.fault.Fault.{Fault}
use Rattle.sk_cli.specs.declared.fault.Fault.TheVariants.{OutOfMemory, ReadFault, WriteFault, OpenFault, BadImage, Mixed, TooMuch}

-- ---- what it is asked

-- two images by the names of their files, and whether the joined image is written in place of its estimate
pub record TwoImages : Type 0 where
  pub left : Word
  pub right : Word
  pub as_image : Bool

-- a plan as what its words ask for
abbrev pub images_of : JoinPlan → TwoImages
images_of plan = record { left = plan.left.now; right = plan.right.now; as_image = plan.as_image }

-- what options ask for
abbrev pub images_by : List Given → Option TwoImages
images_by given =
    option_and_then (λ left. option_map (λ right. record { left = left; right = right; as_image = is_given name.AsImage given }) (word_in (value_behind name.Right given)))
    (word_in (value_behind name.Left given))

-- ---- one file

-- files as far as they are known: each its name with its bytes
abbrev pub Files : Type 0
Files = Option (List (List ℕ × List ℕ))

-- a file is the text of this image, and has fewer than so many bytes, if its bytes are known
abbrev pub IsFileOf : ℕ → Image → Option (List ℕ) → Type 0
IsFileOf most image told = IfSome told (λ text. (text ≡ image_text image) × (length text < most))

-- line n of a file is its first bad one, if its bytes are known, and so it is among its first `most` bytes
abbrev pub IsBadFile : ℕ → ℕ → Option (List ℕ) → Type 0
IsBadFile most n told = IfSome told (λ text. IsBadAt n text × (most ≤ length text → ¬ IsGoodSoFar (take most text)))

-- so many bytes of a file were taken, and no line of them is bad
pub record StopsIn (IsSize : ℕ → Type 0) (told left : Option (List ℕ)) : Type 0 where
  pub taken : List ℕ
  pub consumed : Consumes told left taken
  pub size : IsSize (length taken)
  pub good : IsGoodSoFar taken

-- why the file of this number was not read as an image
abbrev pub EndsFile : ℕ → ℕ → Option (List ℕ) → Option (List ℕ) → Fault → Type 0
EndsFile most number told left OutOfMemory = Unit {0}
EndsFile most number told left OpenFault = Unit {0}
EndsFile most number told left ReadFault = StopsIn (λ size. size < most) told left
EndsFile most number told left TooMuch = StopsIn (λ size. size ≡ most) told left
EndsFile most number told left (BadImage file n) = (file ≡ number) × IsBadFile most n told
EndsFile most number told left other = ⊥

-- ---- both

-- the text of an image, or the line of its estimate
abbrev pub image_or_line : Bool → Image → List ℕ
image_or_line as_image image = if as_image then image_text image else estimate_line (estimate_to (end_of image.version) image.k image.hashes.items)

-- what is written of two images: the estimate of the hashes of both, or the image of the k smallest of them
abbrev pub joined_text : Bool → Image → Image → List ℕ
joined_text as_image left right =
    let hashes = left.hashes.items ++ right.hashes.items in
    if as_image then text_of left.version left.k left.seed (k_smallest left.k hashes) else estimate_line (estimate_to (end_of left.version) left.k hashes)

-- the left file was opened, and nothing more, or then the right one, if the left one is an image
abbrev pub OpensBoth : TwoImages → ℕ → Files → Option (List Word) → Option (List Word) → Type 0
OpensBoth asked most files old new =
    Opens old new (asked.left ∷ [])
    ⊎ ((left : Image) × IsFileOf most left (told_file files asked.left) × Opens old new (asked.left ∷ asked.right ∷ []))

-- both files were read to their ends as images, and this is so of them
pub record ReadsBoth (asked : TwoImages) (most : ℕ) (files : Files) (file_left : Option (List ℕ)) (P : Image → Image → Type 0) : Type 0 where
  pub left : Image
  pub right : Image
  pub left_file : IsFileOf most left (told_file files asked.left)
  pub right_file : IsFileOf most right (told_file files asked.right)
  pub end : IsAtEnd file_left
  pub so : P left right

-- the version, the k and the seed of an image
abbrev pub stamp_of : Image → Stamp
stamp_of image = record { version = image.version; k = image.k; seed = image.seed }

-- two images have the same
abbrev pub Fit : Image → Image → Type 0
Fit left right = stamp_of left ≡ stamp_of right

-- two images have these, which differ
abbrev pub Differ : Image → Image → Stamp → Stamp → Type 0
Differ left right a b = (a ≡ stamp_of left) × (b ≡ stamp_of right) × (a ≢ b)

-- why it was not written whole
abbrev pub EndsBoth : Bool → Option (List ℕ) → Option (List ℕ) → Image → Image → Fault → Type 0
EndsBoth as_image old new left right OutOfMemory = new ≡ old
EndsBoth as_image old new left right WriteFault = Fit left right × AppendsPart old new (joined_text as_image left right)
EndsBoth as_image old new left right (Mixed a b) = Differ left right a b × (new ≡ old)
EndsBoth as_image old new left right other = ⊥

-- two images fit together and all of it was written
abbrev pub WritesBoth : Bool → Option (List ℕ) → Option (List ℕ) → Image → Image → Type 0
WritesBoth as_image old new left right = Fit left right × Appends old new (joined_text as_image left right)

-- it ended at the left file, or, if that one is an image, at the right one
abbrev pub EndsAtOne : TwoImages → ℕ → Files → Option (List ℕ) → Fault → Type 0
EndsAtOne asked most files file_left fault =
    EndsFile most 1 (told_file files asked.left) file_left fault
    ⊎ ((left : Image) × IsFileOf most left (told_file files asked.left) × EndsFile most 2 (told_file files asked.right) file_left fault)

-- how it may end by a fault: with nothing written but at a failed write
abbrev pub EndsJoin : TwoImages → ℕ → Files → Option (List ℕ) → Option (List ℕ) → Option (List ℕ) → Fault → Type 0
EndsJoin asked most files file_left old new OutOfMemory = new ≡ old
EndsJoin asked most files file_left old new WriteFault =
    ReadsBoth asked most files file_left (λ left right. EndsBoth asked.as_image old new left right WriteFault)
EndsJoin asked most files file_left old new (Mixed a b) =
    ReadsBoth asked most files file_left (λ left right. EndsBoth asked.as_image old new left right (Mixed a b))
EndsJoin asked most files file_left old new other = EndsAtOne asked most files file_left other × (new ≡ old)

-- how it went, when this is left of the file that was read last
abbrev pub JoinsSo : TwoImages → ℕ → Files → Option (List ℕ) → Option (List ℕ) → Option (List ℕ) → Result (Unit {0}) Fault → Type 0
JoinsSo asked most files file_left old new result =
    MatchResult result (λ _. ReadsBoth asked most files file_left (WritesBoth asked.as_image old new)) (λ fault. EndsJoin asked most files file_left old new fault)

-- ---- what known files decide

-- a file is known, is the text of an image, and has fewer than so many bytes
pub record IsToldImage (most : ℕ) (told : Option (List ℕ)) : Type 0 where
  pub text : List ℕ
  pub is : told ≡ Some text
  pub image : IsImageText text
  pub size : length text < most

-- a file is known, and its first bad line is line n, within its first bytes
pub record IsToldBad (most n : ℕ) (told : Option (List ℕ)) : Type 0 where
  pub text : List ℕ
  pub is : told ≡ Some text
  pub bad : IsBadAt n text
  pub within : most ≤ length text → ¬ IsGoodSoFar (take most text)

-- a file is known and has as many bytes or more, of which none is in a bad line
pub record IsToldLong (most : ℕ) (told : Option (List ℕ)) : Type 0 where
  pub text : List ℕ
  pub is : told ≡ Some text
  pub size : most ≤ length text
  pub good : IsGoodSoFar (take most text)

-- both files are
pub record AreToldImages (asked : TwoImages) (most : ℕ) (files : Files) : Type 0 where
  pub left : IsToldImage most (told_file files asked.left)
  pub right : IsToldImage most (told_file files asked.right)

-- the version, the k and the seed of an image's text
abbrev pub stamp_in : (text : List ℕ) → IsImageText text → Stamp
stamp_in text image = record { version = image.version; k = image.k; seed = image.seed }

-- and have the same version, k and seed
pub record AreFineFiles (asked : TwoImages) (most : ℕ) (files : Files) : Type 0 where
  pub told : AreToldImages asked most files
  pub same : stamp_in told.left.text told.left.image ≡ stamp_in told.right.text told.right.image

-- or these, which differ
pub record AreMixed (asked : TwoImages) (most : ℕ) (files : Files) (a b : Stamp) : Type 0 where
  pub told : AreToldImages asked most files
  pub left_stamp : a ≡ stamp_in told.left.text told.left.image
  pub right_stamp : b ≡ stamp_in told.right.text told.right.image
  pub differ : a ≢ b

-- the left file is refused, or the right one after a left image
abbrev pub IsBadOne : TwoImages → ℕ → Files → ℕ → ℕ → Type 0
IsBadOne asked most files file n =
    ((file ≡ 1) × IsToldBad most n (told_file files asked.left))
    ⊎ ((file ≡ 2) × IsToldImage most (told_file files asked.left) × IsToldBad most n (told_file files asked.right))

-- the left file is too long, or the right one after a left image
abbrev pub IsLongOne : TwoImages → ℕ → Files → Type 0
IsLongOne asked most files =
    IsToldLong most (told_file files asked.left)
    ⊎ (IsToldImage most (told_file files asked.left) × IsToldLong most (told_file files asked.right))

-- known files are refused by this fault
abbrev pub AreRefused : TwoImages → ℕ → Files → Fault → Type 0
AreRefused asked most files (BadImage file n) = IsBadOne asked most files file n
AreRefused asked most files (Mixed a b) = AreMixed asked most files a b
AreRefused asked most files TooMuch = IsLongOne asked most files
AreRefused asked most files other = ⊥
