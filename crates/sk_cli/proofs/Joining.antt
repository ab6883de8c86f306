-- How `join` goes.
use Rattle.std.proofs.Common.{◌≡◌, ◌≢◌, ◌⊎◌, ◌↔◌, inl, inr, ℕ, ◌==◌, ◌<◌, ◌≤◌, Bool, true, false, List, ◌++◌, length, take, Option, Some, None, Result, Ok, Err, OnOk, IfErr, IsErrOf, IsErrAnd, refl, sym, ap, ◌∙◌, subst}
use Rattle.std.specs.Option.{IfSome}
use Rattle.std.specs.Result.{MatchResult}
use Rattle.std.specs.Io.KnownBytes.{Appends, Consumes, IsAtEnd}
use Rattle.std.proofs.lemmas.Bool.{false≢true}
use Rattle.std.proofs.lemmas.Bool.Decides.{Decides-eqb}
use Rattle.sk_model.specs.Causes.{AppendsPart}
use Rattle.sk_model.specs.Sketch.{k_smallest, estimate_to}
use Rattle.sk_lines.specs.Fractions.{estimate_line}
use Rattle.sk_io.specs.Files.{told_file}
use Rattle.sk_image.specs.Images.{text_of}
use Rattle.sk_image.specs.Versions.{end_of}
use Rattle.sk_image.specs.Reading.{IsBadAt, IsGoodSoFar}
use Rattle.sk_image.specs.declared.image.Image.{Image}
use Rattle.sk_image.specs.declared.stop.ReadStop.{ReadStop}
use Rattle.sk_image.specs.declared.stop.ReadStop.TheVariants as stop
use Rattle.sk_image.proofs.Unions.{kept_estimates}
use Rattle.sk_cli.specs.Fault.{fault_by_image}
use Rattle.sk_cli.specs.commands.Join.{TwoImages, Files, IsFileOf, EndsFile, Fit, WritesBoth, EndsBoth, EndsJoin, JoinsSo, joined_text, image_or_line}
use Rattle.sk_cli.specs.declared.fault.Stamp.{Stamp}
use Rattle.sk_cli.specs.declared.fault.Fault.{Fault}
use Rattle.sk_cli.specs.declared.fault.Fault.TheVariants as fault

both : (P Q : List ℕ → Type 0) (told : Option (List ℕ)) → IfSome told P → IfSome told Q → IfSome told (λ text. P text × Q text)
both P Q None one other = tt
both P Q (Some text) one other = (one, other)

-- why a file was not read as an image
pub examined : (most number : ℕ) (told left : Option (List ℕ)) (s : ReadStop) → ((n : ℕ) → IsErrOf {T = Image} (Err s) (stop.BadImage n) → IfSome told (λ text. IsBadAt n text)) →
    ((n : ℕ) → IsErrOf {T = Image} (Err s) (stop.BadImage n) → IfSome told (λ text. most ≤ length text → ¬ IsGoodSoFar (take most text))) →
    (IsErrOf {T = Image} (Err s) stop.ReadFault → (taken : List ℕ) × Consumes told left taken × (length taken < most) × IsGoodSoFar taken) →
    (IsErrOf {T = Image} (Err s) stop.TooMuch → (taken : List ℕ) × Consumes told left taken × (length taken ≡ most) × IsGoodSoFar taken) → EndsFile most number told left (fault_by_image number s)
examined most number told left stop.OutOfMemory bad in_time read much = tt
examined most number told left stop.ReadFault bad in_time read much = let some = read refl in record { taken = some.0; consumed = some.1; size = some.2; good = some.3 }
examined most number told left (stop.BadImage n) bad in_time read much =
    (refl, both (λ text. IsBadAt n text) (λ text. most ≤ length text → ¬ IsGoodSoFar (take most text)) told (bad n refl) (in_time n refl))
examined most number told left stop.TooMuch bad in_time read much = let some = much refl in record { taken = some.0; consumed = some.1; size = some.2; good = some.3 }

-- numbers that are not known to differ
same_number : (a b : ℕ) → ((a ≢ b) → ⊥) → a ≡ b
same_number a b not = by (a == b) refl
  where
    by : (t : Bool) → (a == b) ≡ t → a ≡ b
    by true is = (Decides-eqb a b).0 is
    by false is = absurd (not (λ same. false≢true (sym is ∙ (Decides-eqb a b).1 same)))

pub same_stamps : (version k seed version' k' seed' : ℕ) → version ≡ version' → k ≡ k' → seed ≡ seed' → ◌≡◌ {A = Stamp} (record { version = version; k = k; seed = seed }) (record { version = version'; k = k'; seed = seed' })
same_stamps version k seed version' k' seed' v n s =
    ap (λ (x : ℕ). record { version = x; k = k; seed = seed }) v ∙ ap (λ (x : ℕ). record { version = version'; k = x; seed = seed }) n
    ∙ ap (λ (x : ℕ). record { version = version'; k = k'; seed = x }) s

pub fit_of : (left right : Image) (P : Type 0) → (P ↔ ((left.version ≢ right.version) ⊎ (left.k ≢ right.k) ⊎ (left.seed ≢ right.seed))) → (P → ⊥) → Fit left right
fit_of left right P mixed not =
    same_stamps left.version left.k left.seed right.version right.k right.seed
    (same_number left.version right.version (λ version. not (mixed.1 (inl version))))
    (same_number left.k right.k (λ k. not (mixed.1 (inr (inl k)))))
    (same_number left.seed right.seed (λ seed. not (mixed.1 (inr (inr seed)))))

-- what is written of the joined image is what is due for both
pub joined_is : (as_image : Bool) (joined left right : Image) → joined.version ≡ left.version → joined.k ≡ left.k → joined.seed ≡ left.seed → joined.hashes.items ≡ k_smallest left.k (left.hashes.items ++ right.hashes.items) →
    image_or_line as_image joined ≡ joined_text as_image left right
joined_is true joined left right version k seed hashes =
    ap (λ (v : ℕ). text_of v joined.k joined.seed joined.hashes.items) version ∙ ap (λ (n : ℕ). text_of left.version n joined.seed joined.hashes.items) k
    ∙ ap (λ (s : ℕ). text_of left.version left.k s joined.hashes.items) seed ∙ ap (λ (l : List ℕ). text_of left.version left.k left.seed l) hashes
joined_is false joined left right version k seed hashes =
    ap (λ (v : ℕ). estimate_line (estimate_to (end_of v) joined.k joined.hashes.items)) version
    ∙ ap (λ (n : ℕ). estimate_line (estimate_to (end_of left.version) n joined.hashes.items)) k
    ∙ ap (λ (l : List ℕ). estimate_line (estimate_to (end_of left.version) left.k l)) hashes
    ∙ ap (λ (e : ℕ × ℕ). estimate_line e) (kept_estimates (end_of left.version) left.k (left.hashes.items ++ right.hashes.items))

pub wrote_both : (as_image : Bool) (old new : Option (List ℕ)) (left right : Image) (text : List ℕ) (r : Result (Unit {0}) Fault) → text ≡ joined_text as_image left right → Fit left right → OnOk r (Appends old new text) →
    (IsErrOf r fault.WriteFault → AppendsPart old new text) → (IsErrOf r fault.OutOfMemory → new ≡ old) → IfErr r (λ (f : Fault). (f ≡ fault.WriteFault) ⊎ (f ≡ fault.OutOfMemory)) →
    MatchResult r (λ x. WritesBoth as_image old new left right) (EndsBoth as_image old new left right)
wrote_both as_image old new left right text (Ok x) is fit ok part memory err = (fit, subst (Appends old new) is ok)
wrote_both as_image old new left right text (Err f) is fit ok part memory (inl failed) =
    subst (EndsBoth as_image old new left right) (sym failed) (fit, subst (AppendsPart old new) is (part (ap (λ (g : Fault). Err g) failed)))
wrote_both as_image old new left right text (Err f) is fit ok part memory (inr none) = subst (EndsBoth as_image old new left right) (sym none) (memory (ap (λ (g : Fault). Err g) none))

module _ (two : TwoImages) (most : ℕ) (files : Files) (rest old : Option (List ℕ)) where
  -- the right file was not read as an image
  at_right : (left : Image) (f : Fault) → IsFileOf most left (told_file files two.left) → EndsFile most 2 (told_file files two.right) rest f → EndsJoin two most files rest old old f
  at_right left fault.OutOfMemory is ends = refl
  at_right left fault.WriteFault is ends = absurd ends
  at_right left (fault.Mixed a b) is ends = absurd ends
  at_right left f is ends = (inr (left, is, ends), refl)

  pub ends_right : (left : Image) (r : Result (Unit {0}) Fault) (f : Fault) → IsErrAnd r (λ (e : Fault). e ≡ f) → IsFileOf most left (told_file files two.left) → EndsFile most 2 (told_file files two.right) rest f →
      JoinsSo two most files rest old old r
  ends_right left (Ok x) f gives is ends = absurd gives
  ends_right left (Err e) f gives is ends = subst (EndsJoin two most files rest old old) (sym gives) (at_right left f is ends)

  -- both were
  pub joined_so : (new : Option (List ℕ)) (left right : Image) (r : Result (Unit {0}) Fault) → IsFileOf most left (told_file files two.left) → IsFileOf most right (told_file files two.right) → IsAtEnd rest →
      MatchResult r (λ x. WritesBoth two.as_image old new left right) (EndsBoth two.as_image old new left right) → JoinsSo two most files rest old new r
  joined_so new left right (Ok x) one other end so = record { left = left; right = right; left_file = one; right_file = other; end = end; so = so }
  joined_so new left right (Err fault.OutOfMemory) one other end so = so
  joined_so new left right (Err fault.WriteFault) one other end so = record { left = left; right = right; left_file = one; right_file = other; end = end; so = so }
  joined_so new left right (Err (fault.Mixed a b)) one other end so = record { left = left; right = right; left_file = one; right_file = other; end = end; so = so }
  joined_so new left right (Err f) one other end so = absurd so
