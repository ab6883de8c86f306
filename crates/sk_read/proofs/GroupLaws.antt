-- Lines that are given many together.
use Rattle.std.proofs.Common.{◌≡◌, ◌⊎◌, refl, ℕ, ◌+◌, ◌<◌, ◌≤◌, List, [], ◌∷◌, ◌++◌, length, take, drop, map, slice_range, slice_index_or, take-append-drop, Option, Result, Ok, Err, IfErr, IsErrAnd, sym, ap, ◌∙◌, subst, arith, length-append, append_assoc}
use Rattle.std.proofs.lemmas.List.{length-map, length-take-le, map-append, map_more, get_or-map}
use Rattle.std.proofs.lemmas.List.Elements.{All-drop}
use Rattle.std.proofs.Math.Seq.{drop-append_seam}
use Rattle.std.proofs.lemmas.List.{drop_at}
use Rattle.sk_model.specs.Lines.{AreWithin, IsFirstLong, open_lines_of}
use Rattle.sk_model.specs.Limits.{line_limit, most_kept}
use Rattle.sk_model.specs.Missing.{Begins}
use Rattle.sk_lines.specs.declared.spans.Span.{Span}
use Rattle.sk_lines.specs.Cutter.{Cutter, HasNoLf}
use Rattle.sk_lines.specs.Spans.{GivesLines, HasNoShortLine, lines_at}
use Rattle.sk_read.specs.declared.fault.Fault.{Fault}
use Rattle.sk_read.specs.Faults.{IsOfTaker}
use Rattle.sk_read.specs.Reading.{Reading, HasRead}
use Rattle.sk_read.specs.Reads.{StopsAmong}
use Rattle.sk_read.proofs.ItemLaws.{has_few}

-- where a line lies that is not among them
abbrev nowhere : Span
nowhere = record { from = 0; to = 0 }

abbrev line_at : List ℕ → Span → List ℕ
line_at text span = slice_range text span.from span.to

-- the line at a place among them
abbrev pub nth_line : List ℕ → List Span → ℕ → List ℕ
nth_line text spans i = line_at text (slice_index_or spans i nowhere)

pub short_line : (limit : ℕ) (text : List ℕ) (spans : List Span) (i : ℕ) → i < length spans → AreWithin limit (lines_at spans text) → length (nth_line text spans i) ≤ limit
short_line limit text spans i inside within =
    subst (λ (l : List ℕ). length l ≤ limit) (get_or-map (line_at text) spans i nowhere [] inside)
    (within i [] (omega (arith, length-map spans (line_at text))))

-- the lines before it, and it, come first
pub lines_begin : (text : List ℕ) (spans : List Span) (i : ℕ) → i < length spans → Begins (lines_at (take i spans) text ++ nth_line text spans i ∷ []) (lines_at spans text)
lines_begin text spans i inside =
    let by : Span → List ℕ = line_at text in (
      map by (drop (i + 1) spans),
      ap (map by) (sym (take-append-drop (i + 1) spans)) ∙ map-append by (take (i + 1) spans) (drop (i + 1) spans)
          ∙ ap (λ (l : List (List ℕ)). l ++ map by (drop (i + 1) spans)) (map_more by spans i nowhere inside),
    )

-- how many come before it
pub given_before : (text : List ℕ) (spans : List Span) (i : ℕ) (given : List (List ℕ)) → i < length spans → length (given ++ lines_at (take i spans) text) ≡ length given + i
given_before text spans i given inside =
    omega (arith, length-append given (lines_at (take i spans) text), length-map (take i spans) (line_at text), length-take-le i spans (omega arith))

-- a taker stopped at the line at a place among them
pub stops_at : (Stopped : Fault → List (List ℕ) → List ℕ → Type 0) (why : Fault) (given : List (List ℕ)) (text : List ℕ) (spans : List Span) (i number : ℕ) → i < length spans → number ≡ length given + i + 1 →
    Stopped why (given ++ lines_at (take i spans) text) (nth_line text spans i) → IsOfTaker number why → StopsAmong Stopped why given (lines_at spans text)
stops_at Stopped why given text spans i number inside place stopped of = record {
  front = lines_at (take i spans) text;
  unit = nth_line text spans i;
  begins = lines_begin text spans i inside;
  stopped = stopped;
  fault = subst (λ (n : ℕ). IsOfTaker n why) (omega (arith, place, length-map (take i spans) (line_at text), length-take-le i spans (omega arith))) of;
}

-- it stopped after more lines of which none stopped it
pub stops_behind : (Stopped : Fault → List (List ℕ) → List ℕ → Type 0) (why : Fault) (given more units : List (List ℕ)) → StopsAmong Stopped why (given ++ more) units → StopsAmong Stopped why given (more ++ units)
stops_behind Stopped why given more units stops = record {
  front = more ++ stops.front;
  unit = stops.unit;
  begins = (
    stops.begins.0,
    ap (λ (l : List (List ℕ)). more ++ l) stops.begins.1 ∙ sym (append_assoc more (stops.front ++ stops.unit ∷ []) stops.begins.0)
        ∙ ap (λ (l : List (List ℕ)). l ++ stops.begins.0) (sym (append_assoc more stops.front (stops.unit ∷ []))),
  );
  stopped = subst (λ (l : List (List ℕ)). Stopped why l stops.unit) (append_assoc given more stops.front) stops.stopped;
  fault = subst (λ (n : ℕ). IsOfTaker n why) (omega (arith, length-append given more, length-append more stops.front)) stops.fault;
}

-- what holds of the fault that a result has
pub with_fault : {A : Type 0} (P : Fault → Type 0) (f : Fault) (r : Result A Fault) → IsErrAnd r (λ x. x ≡ f) → P f → IfErr r P
with_fault P f (Ok a) is holds = absurd is
with_fault P f (Err e) is holds = subst P (sym is) holds

-- as many lines were given as the reader says, since few bytes make few lines
pub as_many : (r : Reading) (left : Option (List ℕ)) (given : List (List ℕ)) (taken : List ℕ) (n : ℕ) → HasRead r left given taken → n ≡ r.cutter.number → length given ≡ n
as_many r left given taken n read number = omega (arith, number, read.has.number, has_few r given taken read.has, read.has.count, read.bound, read.few)

-- there is room for the lines of a group
pub room_for : (r : Reading) (left : Option (List ℕ)) (given : List (List ℕ)) (text taken : List ℕ) (spans : List Span) (n : ℕ) → HasRead r left (given ++ lines_at spans text) taken → length given ≡ n →
    n + length spans ≤ most_kept
room_for r left given text taken spans n read number =
    omega (arith, number, length-append given (lines_at spans text), length-map spans (line_at text), has_few r (given ++ lines_at spans text) taken read.has, read.has.count, read.bound, read.few)

-- none of them is too long
pub short_group : (r : Reading) (left : Option (List ℕ)) (given lines : List (List ℕ)) (taken : List ℕ) → HasRead r left (given ++ lines) taken → AreWithin line_limit lines
short_group r left given lines taken read =
    let within = subst (λ (m : ℕ). AreWithin m (given ++ lines)) read.limit read.has.within in
    subst (AreWithin line_limit) (drop-append_seam given lines) (All-drop (λ (l : List ℕ). length l ≤ line_limit) (length given) (given ++ lines) within)

-- where no line is given, none is short that comes next
pub none_moved : (old new : Cutter) → GivesLines old new [] → HasNoShortLine old → HasNoShortLine new
none_moved old new gives none =
    let size : length new.front ≡ length old.front = omega (arith, gives.grows, gives.ends) in
    let rest : new.rest ≡ old.rest = sym (drop_at new.front new.rest (length new.front) refl) ∙ ap (drop (length new.front)) (sym gives.bytes) ∙ drop_at old.front old.rest (length new.front) (sym size) in
    let limit : new.limit ≡ old.limit = ap (λ (c : Cutter). c.limit) gives.stays in
    subst (λ (l : List ℕ). HasNoLf l ⊎ IsFirstLong new.limit 0 (open_lines_of l)) (sym rest) (subst (λ (m : ℕ). HasNoLf old.rest ⊎ IsFirstLong m 0 (open_lines_of old.rest)) (sym limit) none)
