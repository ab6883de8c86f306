-- A window that is filled with the lines of a source.
use Rattle.std.proofs.Common.{◌≡◌, ◌≢◌, ℕ, ◌+◌, ◌≤◌, List, [], ◌∷◌, ◌++◌, length, take, Bool, true, false, Option, Result, Ok, Err, OnOk, IfErr, All, sym, ap, ◌∙◌, subst, arith, append_assoc, length-append, ◌-◌, drop, length-drop}
use Rattle.std.specs.Io.KnownBytes.{Consumes}
use Rattle.std.proofs.KnownBytes.{Consumes-trans}
use Rattle.std.proofs.lemmas.List.{take_all}
use Rattle.std.proofs.lemmas.List.Elements.{All-push}
use Rattle.sk_model.specs.Limits.{line_limit, most_kept}
use Rattle.sk_read.specs.Items.{IsGood}
use Rattle.sk_model.proofs.Missing.{begins_more}
use Rattle.sk_read.specs.Reading.{Reading, HasRead, GoesHeld}
use Rattle.sk_read.specs.Units.{complete_units_of}
use Rattle.sk_read.specs.declared.reader.LineFault.{LineFault}
use Rattle.sk_read.specs.Reads.{IsInTime}
use Rattle.sk_read.specs.declared.kind.Kind.{Kind}
use Rattle.sk_read.specs.declared.units.Units.TheVariants.{Lines}
use Rattle.sk_read.proofs.ItemLaws.{has_few, last_within}
use Rattle.sk_fill.specs.Windows.{WindowState, fills, is_full, FillsNone, IsFullWindow}
use Rattle.sk_fill.specs.Fills.{ReadsLine, EndsWithLine}
use Rattle.sk_fill.proofs.Cutting.{one_full, one_unfilled}

-- it was given by the second of two calls
pub line_read : (r : Reading) (old mid new : Option (List ℕ)) (given : List (List ℕ)) (line taken first second : List ℕ) → Consumes old mid first → Consumes mid new second
    → HasRead r new (given ++ line ∷ []) ((taken ++ first) ++ second) × IsInTime r.last Lines given ((taken ++ first) ++ second) → ReadsLine r old new given line taken
line_read r old mid new given line taken first second before next has = record {
  more = first ++ second;
  consumed = Consumes-trans _ _ _ _ _ before next;
  read = subst (λ bytes. HasRead r new (given ++ line ∷ []) bytes) (append_assoc taken first second) has.0;
  in_time = subst (λ bytes. IsInTime r.last Lines given bytes) (append_assoc taken first second) has.1;
}

-- few bytes have few lines
pub read_few : (r : Reading) (left : Option (List ℕ)) (given : List (List ℕ)) (taken : List ℕ) → HasRead r left given taken → length given ≤ most_kept
read_few r left given taken read = omega (arith, has_few r given taken read.has, read.has.count, read.bound, read.few)

-- the number of the lines given is their number
pub read_number : (r : Reading) (left : Option (List ℕ)) (given : List (List ℕ)) (taken : List ℕ) → HasRead r left given taken → r.cutter.number ≡ length given
read_number r left given taken read = omega (arith, has_few r given taken read.has, read.has.number, read.has.count, read.bound, read.few)

-- its number, and its length
pub line_number : (r : Reading) (old new : Option (List ℕ)) (given : List (List ℕ)) (line taken : List ℕ) (n : ℕ) → ReadsLine r old new given line taken → n ≡ r.cutter.number → n ≡ length given + 1
line_number r old new given line taken n one count =
    let few = has_few r (given ++ line ∷ []) (taken ++ one.more) one.read.has in
    omega (arith, count, one.read.has.number, few, one.read.has.count, one.read.bound, one.read.few, length-append given (line ∷ []))

pub line_short : (r : Reading) (old new : Option (List ℕ)) (given : List (List ℕ)) (line taken : List ℕ) → ReadsLine r old new given line taken → length line ≤ line_limit
line_short r old new given line taken one =
    subst (λ m. length line ≤ m) one.read.limit (last_within r.cutter.limit given line one.read.has.within)

-- the lines of a window went on by it
pub line_added : (r : Reading) (new : Option (List ℕ)) (given lines lines' : List (List ℕ)) (line own bytes : List ℕ) → own ≡ line → lines' ≡ lines ++ own ∷ []
    → HasRead r new ((given ++ lines) ++ line ∷ []) bytes → HasRead r new (given ++ lines') bytes
line_added r new given lines lines' line own bytes same added read =
    subst (λ l. HasRead r new l bytes) (append_assoc given lines (line ∷ []) ∙ ap (λ l. given ++ (lines ++ l ∷ [])) (sym same) ∙ ap (λ l. given ++ l) (sym added)) read

-- ---- how full it is

pub still_unfilled : (most : ℕ) (lines : List (List ℕ)) → FillsNone most lines → fills most lines ≡ false
still_unfilled most lines unfilled =
    let all : take (length lines) lines ≡ lines = take_all (length lines) lines (omega arith) in
    sym (ap (fills most) all) ∙ unfilled (length lines) (omega arith)

-- what a window says of its lines, and one more
told_of : (w w' : WindowState) (line : List ℕ) (tells full : Bool) → w'.most ≡ w.most → w'.lines ≡ w.lines ++ line ∷ [] → tells ≡ is_full w' → tells ≡ full → fills w.most (w.lines ++ line ∷ []) ≡ full
told_of w w' line tells full most added told answer =
    ap (λ l. fills w.most l) (sym added) ∙ ap (λ m. fills m w'.lines) (sym most) ∙ sym told ∙ answer

pub now_full : (w w' : WindowState) (line : List ℕ) (tells : Bool) → FillsNone w.most w.lines → w'.most ≡ w.most → w'.lines ≡ w.lines ++ line ∷ [] → tells ≡ is_full w' → tells ≡ true → IsFullWindow w'.most w'.lines
now_full w w' line tells unfilled most added told answer =
    subst (λ m. IsFullWindow m w'.lines) (sym most) (subst (IsFullWindow w.most) (sym added) (one_full w.most w.lines line unfilled (told_of w w' line tells true most added told answer)))

pub now_unfilled : (w w' : WindowState) (line : List ℕ) (tells : Bool) → FillsNone w.most w.lines → w'.most ≡ w.most → w'.lines ≡ w.lines ++ line ∷ [] → tells ≡ is_full w' → tells ≡ false → FillsNone w'.most w'.lines
now_unfilled w w' line tells unfilled most added told answer =
    subst (λ m. FillsNone m w'.lines) (sym most) (subst (FillsNone w.most) (sym added) (one_unfilled w.most w.lines line unfilled (told_of w w' line tells false most added told answer)))

pub still_good : (kind : Kind) (lines lines' : List (List ℕ)) (line : List ℕ) → All (IsGood kind) lines → IsGood kind line → lines' ≡ lines ++ line ∷ [] → All (IsGood kind) lines'
still_good kind lines lines' line good one added = subst (All (IsGood kind)) (sym added) (All-push (IsGood kind) lines line good one)

-- ---- the lines that a reader held

-- the reader after one that it held
pub held_line : (r : Reading) (left : Option (List ℕ)) (given : List (List ℕ)) (taken : List ℕ) (result : Result Bool LineFault) → result ≡ Ok true → GoesHeld r left given taken result → HasRead r left (given ++ r.cutter.line ∷ []) taken
held_line r left given taken result is goes = subst (GoesHeld r left given taken) is goes

-- all lines given so far are in time where fewer were
pub in_time_on : (last : ℕ) (given more : List (List ℕ)) (taken : List ℕ) → IsInTime last Lines given taken → IsInTime last Lines (given ++ more) taken
in_time_on last given more taken is = record {
  front = is.front;
  piece = is.piece;
  joined = is.joined;
  size = is.size;
  few = is.few;
  sound = is.sound;
  earlier = begins_more (complete_units_of Lines is.front) given more is.earlier;
}

-- the last of the lines that went on, if their reader stands after it
pub held_last : (r : Reading) (old new : Option (List ℕ)) (given lines lines' : List (List ℕ)) (taken more : List ℕ) → Consumes old new more → EndsWithLine lines lines' → IsInTime r.last Lines (given ++ lines) (taken ++ more) → HasRead r new (given ++ lines') (taken ++ more)
    → (front : List (List ℕ)) × (line : List ℕ) × (lines' ≡ front ++ line ∷ []) × ReadsLine r old new (given ++ front) line taken
held_last r old new given lines lines' taken more consumed ends in_time read =
    let front = ends.0 in
    let line = ends.1 in
    let begins = ends.3 in (
      front,
      line,
      ends.2,
      record {
        more = more;
        consumed = consumed;
        read = subst (λ l. HasRead r new l (taken ++ more)) (ap (λ l. given ++ l) ends.2 ∙ sym (append_assoc given front (line ∷ []))) read;
        in_time = subst (λ l. IsInTime r.last Lines l (taken ++ more)) (append_assoc given lines begins.0 ∙ ap (λ l. given ++ l) (sym begins.1)) (in_time_on r.last (given ++ lines) begins.0 (taken ++ more) in_time);
      },
    )

-- what a call says of its result
pub held_stopped : {E : Type 0} (r : Result Bool E) (why : E) (P : E → Type 0) → r ≡ Err why → IfErr r P → P why
held_stopped r why P is p = subst (λ x. IfErr x P) is p

pub held_on : {E : Type 0} (r : Result Bool E) (b : Bool) (P : Type 0) → r ≡ Ok b → OnOk r P → P
held_on r b P is p = subst (λ x. OnOk x P) is p

pub not_yet : {E : Type 0} (r : Result Bool E) → r ≡ Ok false → r ≢ Ok true
not_yet r is = λ other. cc

-- ---- bytes that were given

-- the bytes after those that were given
pub slice_is : (front front' a b : List ℕ) → a ≡ front → b ≡ front' → take (length b - length a) (drop (length a) b) ≡ drop (length front) front'
slice_is front front' a b p q =
    take_all (length b - length a) (drop (length a) b) (omega (arith, length-drop (length a) b)) ∙ ap (λ (l : List ℕ). drop (length l) b) p ∙ ap (drop (length front)) q
