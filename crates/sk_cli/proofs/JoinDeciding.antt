-- What told files decide of a join.
use Rattle.std.proofs.Common.{◌≡◌, ◌⊎◌, inl, inr, ℕ, ◌<◌, ◌≤◌, List, length, take, Option, Some, None, refl, sym, ap, ◌∙◌, subst, arith, length-append}
use Rattle.std.proofs.lemmas.List.{take_at}
use Rattle.std.specs.Option.{IfSome}
use Rattle.std.specs.Io.KnownBytes.{Consumes}
use Rattle.sk_io.specs.Files.{told_file}
use Rattle.sk_image.specs.Reading.{IsBadAt, IsGoodSoFar, IsImageText}
use Rattle.sk_image.specs.Written.{image_text}
use Rattle.sk_image.specs.declared.image.Image.{Image}
use Rattle.sk_image.proofs.Texts.{same_text}
use Rattle.sk_cli.specs.Fault.{status_of}
use Rattle.sk_cli.specs.commands.Join.{TwoImages, Files, IsFileOf, StopsIn, EndsFile, ReadsBoth, stamp_of, stamp_in, Fit, Differ, EndsAtOne, EndsJoin, IsToldImage, IsToldBad, IsToldLong, AreToldImages, AreFineFiles, AreMixed, IsBadOne, IsLongOne, AreRefused}
use Rattle.sk_cli.specs.Run.{IsOfReads}
use Rattle.sk_cli.specs.Statuses.{IsCallStatus}
use Rattle.sk_cli.specs.declared.fault.Stamp.{Stamp}
use Rattle.sk_cli.specs.declared.fault.Fault.{Fault}
use Rattle.sk_cli.specs.declared.fault.Fault.TheVariants as fault
use Rattle.sk_cli.proofs.Completing.{no_more_told}
use Rattle.sk_cli.proofs.Joining.{same_stamps}

-- ---- one file

told_so : (P : List ℕ → Type 0) (told : Option (List ℕ)) (text : List ℕ) → told ≡ Some text → IfSome told P → P text
told_so P told text is holds = subst (λ (o : Option (List ℕ)). IfSome o P) is holds

-- the text of an image that was read is one
text_is_image : (text : List ℕ) (image : Image) → text ≡ image_text image → IsImageText text
text_is_image text image is = record { version = image.version; k = image.k; seed = image.seed; hashes = image.hashes.items; whole = image.whole; is = is }

module _ (most : ℕ) (told left : Option (List ℕ)) where
  -- a file that was read as an image has no bad line
  pub read_or_bad : (n : ℕ) (image : Image) → IsToldBad most n told → IsFileOf most image told → ⊥
  read_or_bad n image bad read = bad.bad.none (text_is_image bad.text image (told_so (λ text. (text ≡ image_text image) × (length text < most)) told bad.text bad.is read).0)

  -- the numbers of an image that was read are those of its text
  pub same_numbers : (fine : IsToldImage most told) (image : Image) → IsFileOf most image told → stamp_in fine.text fine.image ≡ stamp_of image
  same_numbers fine image read =
      let text : fine.text ≡ image_text image = (told_so (λ text. (text ≡ image_text image) × (length text < most)) told fine.text fine.is read).0 in
      let f = fine.image in
      let same = same_text f.version image.version f.k image.k f.seed image.seed f.hashes image.hashes.items f.whole image.whole (sym f.is ∙ text) in
      same_stamps f.version f.k f.seed image.version image.k image.seed same.0 same.1 same.2

  -- what was taken up to the bound begins the text
  too_early : (text : List ℕ) → told ≡ Some text → (most ≤ length text → ¬ IsGoodSoFar (take most text)) → StopsIn (λ size. size ≡ most) told left → ⊥
  too_early text is never stop = of left (subst (λ (o : Option (List ℕ)). Consumes o left stop.taken) is stop.consumed)
    where
      of : (left : Option (List ℕ)) → Consumes (Some text) left stop.taken → ⊥
      of None consumed = consumed
      of (Some rest) consumed =
          let all : take most text ≡ stop.taken = ap (λ (l : List ℕ). take most l) consumed ∙ take_at stop.taken rest most stop.size in
          never (omega (arith, ap length consumed, length-append stop.taken rest, stop.size)) (subst IsGoodSoFar (sym all) stop.good)

  too_many : (text : List ℕ) → told ≡ Some text → length text < most → StopsIn (λ size. size ≡ most) told left → ⊥
  too_many text is size stop =
      no_more_told text stop.taken left (subst (λ (o : Option (List ℕ)). Consumes o left stop.taken) is stop.consumed) (omega (arith, size, stop.size))

  -- how the reading of a told file ends
  pub fine_file : (number : ℕ) → IsToldImage most told → (f : Fault) → EndsFile most number told left f → IsOfReads f
  fine_file number fine fault.OutOfMemory ends = tt
  fine_file number fine fault.OpenFault ends = tt
  fine_file number fine fault.ReadFault ends = tt
  fine_file number fine fault.TooMuch ends = absurd (too_many fine.text fine.is fine.size ends)
  fine_file number fine (fault.BadImage file n) ends =
      absurd ((told_so (λ text. IsBadAt n text × _) told fine.text fine.is ends.1).0.none fine.image)
  fine_file number fine f ends = absurd ends

  pub bad_file : (number n : ℕ) → IsToldBad most n told → (f : Fault) → EndsFile most number told left f → (status_of f ≡ 9) ⊎ IsCallStatus (status_of f)
  bad_file number n bad fault.OutOfMemory ends = inr (inl refl)
  bad_file number n bad fault.OpenFault ends = inr (inr (inr (inr (inl refl))))
  bad_file number n bad fault.ReadFault ends = inr (inr (inl refl))
  bad_file number n bad fault.TooMuch ends = absurd (too_early bad.text bad.is bad.within ends)
  bad_file number n bad (fault.BadImage file m) ends = inl refl
  bad_file number n bad f ends = absurd ends

  -- a file that is too long
  pub long_file : (number : ℕ) → IsToldLong most told → (f : Fault) → EndsFile most number told left f → (status_of f ≡ 13) ⊎ IsCallStatus (status_of f)
  long_file number long fault.OutOfMemory ends = inr (inl refl)
  long_file number long fault.OpenFault ends = inr (inr (inr (inr (inl refl))))
  long_file number long fault.ReadFault ends = inr (inr (inl refl))
  long_file number long fault.TooMuch ends = inl refl
  long_file number long (fault.BadImage file m) ends = absurd ((told_so (λ text. IsBadAt m text × (most ≤ length text → ¬ IsGoodSoFar (take most text))) told long.text long.is ends.1).1 long.size long.good)
  long_file number long f ends = absurd ends

  pub long_or_read : (image : Image) → IsToldLong most told → IsFileOf most image told → ⊥
  long_or_read image long read =
      let short = (told_so (λ text. (text ≡ image_text image) × (length text < most)) told long.text long.is read).1 in
      omega (arith, short, long.size)

-- ---- both

-- they are among the calls that may fail
of_calls : (f : Fault) → IsOfReads f → IsCallStatus (status_of f)
of_calls fault.OutOfMemory is = inl refl
of_calls fault.ReadFault is = inr (inl refl)
of_calls fault.OpenFault is = inr (inr (inr (inl refl)))
of_calls f is = absurd is

module _ (two : TwoImages) (most : ℕ) (files : Files) (now old new : Option (List ℕ)) where
  abbrev left : Option (List ℕ)
  left = told_file files two.left

  abbrev right : Option (List ℕ)
  right = told_file files two.right

  -- told images with the same numbers do not differ
  fit_or_differ : (a b : Stamp) → AreFineFiles two most files → (P : Type 0) → ReadsBoth two most files now (λ x y. Differ x y a b × P) → ⊥
  fit_or_differ a b fine P read =
      let one = same_numbers most left now fine.told.left read.left read.left_file in
      let other = same_numbers most right now fine.told.right read.right read.right_file in
      read.so.0.2 (read.so.0.0 ∙ sym one ∙ fine.same ∙ other ∙ sym read.so.0.1)

  -- images that differ do not fit
  mixed_or_fit : (a b : Stamp) (P : Type 0) → AreMixed two most files a b → ReadsBoth two most files now (λ x y. Fit x y × P) → ⊥
  mixed_or_fit a b P mixed read =
      let one = same_numbers most left now mixed.told.left read.left read.left_file in
      let other = same_numbers most right now mixed.told.right read.right read.right_file in
      mixed.differ (mixed.left_stamp ∙ one ∙ read.so.0 ∙ sym other ∙ sym mixed.right_stamp)

  fine_one : AreToldImages two most files → (f : Fault) → EndsAtOne two most files now f → IsCallStatus (status_of f)
  fine_one fine f (inl ends) = of_calls f (fine_file most left now 1 fine.left f ends)
  fine_one fine f (inr (image, is, ends)) = of_calls f (fine_file most right now 2 fine.right f ends)

  pub fine_join : AreFineFiles two most files → (f : Fault) → EndsJoin two most files now old new f → IsCallStatus (status_of f)
  fine_join fine fault.OutOfMemory ends = inl refl
  fine_join fine fault.WriteFault ends = inr (inr (inl refl))
  fine_join fine (fault.Mixed a b) ends = absurd (fit_or_differ a b fine (new ≡ old) ends)
  fine_join fine f ends = fine_one fine.told f ends.0

  bad_left_one : (n : ℕ) → IsToldBad most n left → (f : Fault) → EndsAtOne two most files now f → (status_of f ≡ 9) ⊎ IsCallStatus (status_of f)
  bad_left_one n bad f (inl ends) = bad_file most left now 1 n bad f ends
  bad_left_one n bad f (inr (image, is, ends)) = absurd (read_or_bad most left now n image bad is)

  bad_left : (n : ℕ) → IsToldBad most n left → (f : Fault) → EndsJoin two most files now old new f → (status_of f ≡ 9) ⊎ IsCallStatus (status_of f)
  bad_left n bad fault.OutOfMemory ends = inr (inl refl)
  bad_left n bad fault.WriteFault ends = inr (inr (inr (inl refl)))
  bad_left n bad (fault.Mixed a b) ends = absurd (read_or_bad most left now n ends.left bad ends.left_file)
  bad_left n bad f ends = bad_left_one n bad f ends.0

  bad_right_one : (n : ℕ) → IsToldImage most left → IsToldBad most n right → (f : Fault) → EndsAtOne two most files now f → (status_of f ≡ 9) ⊎ IsCallStatus (status_of f)
  bad_right_one n fine bad f (inl ends) = inr (of_calls f (fine_file most left now 1 fine f ends))
  bad_right_one n fine bad f (inr (image, is, ends)) = bad_file most right now 2 n bad f ends

  bad_right : (n : ℕ) → IsToldImage most left → IsToldBad most n right → (f : Fault) → EndsJoin two most files now old new f → (status_of f ≡ 9) ⊎ IsCallStatus (status_of f)
  bad_right n fine bad fault.OutOfMemory ends = inr (inl refl)
  bad_right n fine bad fault.WriteFault ends = inr (inr (inr (inl refl)))
  bad_right n fine bad (fault.Mixed a b) ends = absurd (read_or_bad most right now n ends.right bad ends.right_file)
  bad_right n fine bad f ends = bad_right_one n fine bad f ends.0

  mixed : (a b : Stamp) → AreMixed two most files a b → (f : Fault) → EndsJoin two most files now old new f → (status_of f ≡ 11) ⊎ IsCallStatus (status_of f)
  mixed a b told fault.OutOfMemory ends = inr (inl refl)
  mixed a b told fault.WriteFault ends = inr (inr (inr (inl refl)))
  mixed a b told (fault.Mixed c d) ends = inl refl
  mixed a b told f ends = inr (fine_one told.told f ends.0)

  bad_one : (file n : ℕ) → IsBadOne two most files file n → (g : Fault) → EndsJoin two most files now old new g → (status_of g ≡ 9) ⊎ IsCallStatus (status_of g)
  bad_one file n (inl bad) g ends = bad_left n bad.1 g ends
  bad_one file n (inr bad) g ends = bad_right n bad.1 bad.2 g ends

  long_one : IsLongOne two most files → (f : Fault) → EndsAtOne two most files now f → (status_of f ≡ 13) ⊎ IsCallStatus (status_of f)
  long_one (inl long) f (inl ends) = long_file most left now 1 long f ends
  long_one (inl long) f (inr (image, is, ends)) = absurd (long_or_read most left now image long is)
  long_one (inr long) f (inl ends) = inr (of_calls f (fine_file most left now 1 long.0 f ends))
  long_one (inr long) f (inr (image, is, ends)) = long_file most right now 2 long.1 f ends

  long_both : (P : Image → Image → Type 0) → IsLongOne two most files → ReadsBoth two most files now P → ⊥
  long_both P (inl long) read = long_or_read most left now read.left long read.left_file
  long_both P (inr long) read = long_or_read most right now read.right long.1 read.right_file

  too_long : IsLongOne two most files → (f : Fault) → EndsJoin two most files now old new f → (status_of f ≡ 13) ⊎ IsCallStatus (status_of f)
  too_long long fault.OutOfMemory ends = inr (inl refl)
  too_long long fault.WriteFault ends = inr (inr (inr (inl refl)))
  too_long long (fault.Mixed a b) ends = absurd (long_both (λ x y. Differ x y a b × (new ≡ old)) long ends)
  too_long long f ends = long_one long f ends.0

  -- a refusal that told files decide
  pub refused_join : (f g : Fault) → AreRefused two most files f → EndsJoin two most files now old new g → (status_of g ≡ status_of f) ⊎ IsCallStatus (status_of g)
  refused_join (fault.BadImage file n) g is ends = bad_one file n is g ends
  refused_join (fault.Mixed a b) g is ends = mixed a b is g ends
  refused_join fault.TooMuch g is ends = too_long is g ends
  refused_join f g is ends = absurd is

  bad_one_read : (file n : ℕ) (P : Image → Image → Type 0) → IsBadOne two most files file n → ReadsBoth two most files now P → ⊥
  bad_one_read file n P (inl bad) read = read_or_bad most left now n read.left bad.1 read.left_file
  bad_one_read file n P (inr bad) read = read_or_bad most right now n read.right bad.2 read.right_file

  pub refused_or_joined : (f : Fault) (P : Image → Image → Type 0) → AreRefused two most files f → ReadsBoth two most files now (λ x y. Fit x y × P x y) → ⊥
  refused_or_joined (fault.BadImage file n) P is read = bad_one_read file n (λ x y. Fit x y × P x y) is read
  refused_or_joined (fault.Mixed a b) P is read = mixed_or_fit a b (P read.left read.right) is (record { left = read.left; right = read.right; left_file = read.left_file; right_file = read.right_file; end = read.end; so = read.so })
  refused_or_joined fault.TooMuch P is read = long_both (λ x y. Fit x y × P x y) is read
  refused_or_joined f P is read = absurd is
