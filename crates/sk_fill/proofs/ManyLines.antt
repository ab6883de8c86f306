-- Lines that a reader held, taken into a window many at once.
use Rattle.std.proofs.Common.{◌≡◌, ℕ, ◌+◌, ◌-◌, ◌<◌, ◌≤◌, ◌||◌, nat_le, ⊎_elim, Bool, true, false, List, [], ◌∷◌, ◌++◌, length, take, drop, slice_index_or, All, Option, Result, Ok, Err, OnOk, IsErrAnd, IfErr, refl, sym, ap, ◌∙◌, subst, arith, append-nil, append_assoc, length-append, length-take, take-append-drop, take-add, take_at}
use Rattle.std.specs.List.{concat}
use Rattle.std.specs.Io.KnownBytes.{Consumes}
use Rattle.std.proofs.lemmas.Bool.{cases_lt, ne_eqb, lt-leb}
use Rattle.std.proofs.lemmas.List.{drop_at, take_all, take_more, take-append-le, get_or-append_right}
use Rattle.std.proofs.lemmas.List.Elements.{All-append}
use Rattle.std.proofs.lemmas.List.Folds.{concat-append}
use Rattle.sk_model.specs.Missing.{Begins}
use Rattle.sk_model.proofs.Missing.{begins_trans, begins_more}
use Rattle.sk_read.specs.Faults.{IsOfTaker}
use Rattle.sk_read.specs.Items.{IsGood}
use Rattle.sk_read.specs.Reading.{Reading, HasRead}
use Rattle.sk_read.specs.Reads.{Ends}
use Rattle.sk_read.specs.declared.fault.Fault.{Fault}
use Rattle.sk_read.specs.declared.fault.Fault.TheVariants as fault
use Rattle.sk_read.specs.declared.kind.Kind.{Kind}
use Rattle.sk_read.specs.declared.units.Units.TheVariants.{Lines}
use Rattle.sk_read.proofs.LineEnds.{line_missed_among}
use Rattle.sk_read.proofs.Readings.{in_time_within}
use Rattle.sk_fill.specs.Windows.{IsBad, full_bytes, fills, FillsNone}
use Rattle.sk_fill.specs.Fills.{RefusesLine, RefusesFrom, EndsWithLine, TakesHeld, TakesMore, TakesSome}
use Rattle.sk_fill.proofs.Filled.{read_few}
use Rattle.sk_fill.proofs.HeldLines.{full_held}

-- where there is room for lines, no beginning of them fills a window, unless all do
few_unfilled : (most : ℕ) (old more : List (List ℕ)) → length old + length more ≤ most → length (concat old) + length (concat more) < full_bytes → (n : ℕ) → n < length (old ++ more) → fills most (take n (old ++ more)) ≡ false
few_unfilled most old more few small n within =
    let all = old ++ more in
    let front = take n all in
    let count : length front < most = omega (arith, length-take n all, length-append old more) in
    let joined : length (concat front) + length (concat (drop n all)) ≡ length (concat all) = sym (length-append (concat front) (concat (drop n all))) ∙ ap length (sym (concat-append front (drop n all)) ∙ ap concat (take-append-drop n all)) in
    let total : length (concat all) ≡ length (concat old) + length (concat more) = ap length (concat-append old more) ∙ length-append (concat old) (concat more) in
    ap (λ b. b || nat_le full_bytes (length (concat front))) (ne_eqb (length front) most (λ same. let no : ⊥ = omega arith in absurd no))
    ∙ lt-leb full_bytes (length (concat front)) (omega (arith, joined, total))

-- the last of some lines
last_of : (lines : List (List ℕ)) → 0 < length lines → (front : List (List ℕ)) × (line : List ℕ) × (lines ≡ front ++ line ∷ [])
last_of [] some = absurd (omega arith)
last_of (line ∷ []) some = ([], line, refl)
last_of (first ∷ next ∷ lines) some = let l = last_of (next ∷ lines) (omega arith) in (first ∷ l.0, l.1, ap (λ ls. first ∷ ls) l.2)

-- some lines were given, and put into the window
pub some_taken : (kind : Kind) (most : ℕ) (old group new : List (List ℕ)) (r r' : Reading) → new ≡ old ++ group → 0 < length group → length old + length group ≤ most → length (concat old) + length (concat group) < full_bytes
    → All (IsGood kind) old → All (IsGood kind) group → ((left : Option (List ℕ)) (given : List (List ℕ)) (taken : List ℕ) → HasRead r left given taken → HasRead r' left (given ++ group) taken) → TakesSome kind most old new r r'
some_taken kind most old group new r r' is some few small good more gave =
    let l = last_of group some in
    subst (λ ls. TakesSome kind most old ls r r') (sym is) (record {
      last = (old ++ l.0, l.1, ap (λ ls. old ++ ls) l.2 ∙ sym (append_assoc old l.0 (l.1 ∷ [])), (l.0, refl));
      unfilled = few_unfilled most old group few small;
      good = All-append (IsGood kind) old group good more;
      read = λ left given taken has. subst (λ ls. HasRead r' left ls taken) (append_assoc given old group) (gave left (given ++ old) taken has);
    })

-- they do not fill it
pub some_more : (kind : Kind) (most : ℕ) (old new : List (List ℕ)) (r r' : Reading) → TakesSome kind most old new r r' → fills most new ≡ false → TakesMore kind most old new r r'
some_more kind most old new r r' some still = record {
  begins = begins_with some.last;
  unfilled = λ n within. ⊎_elim (λ (less : n < length new). some.unfilled n less) (λ (all : length new ≤ n). ap (fills most) (take_all n new all) ∙ still) (cases_lt n (length new));
  good = some.good;
  read = some.read;
}
  where
    begins_with : EndsWithLine old new → Begins old new
    begins_with (front, line, is, begins) = subst (Begins old) (sym is) (begins_more old front (line ∷ []) begins)

-- they do
pub some_full : (kind : Kind) (most : ℕ) (old new : List (List ℕ)) (r r' : Reading) → TakesSome kind most old new r r' → fills most new ≡ true → TakesHeld kind most old new r r' (Ok true)
some_full kind most old new r r' some full = full_held kind most old new r r' (record { full = full; first = some.unfilled }) some.good some.last some.read

pub none_taken : (kind : Kind) (most : ℕ) (old : List (List ℕ)) (r r' : Reading) → FillsNone most old → All (IsGood kind) old
    → ((left : Option (List ℕ)) (given : List (List ℕ)) (taken : List ℕ) → HasRead r left given taken → HasRead r' left given taken) → TakesMore kind most old old r r'
none_taken kind most old r r' unfilled good stays = record {
  begins = ([], sym (append-nil old));
  unfilled = unfilled;
  good = good;
  read = λ left given taken has. stays left (given ++ old) taken has;
}

pub taken_then : (kind : Kind) (most : ℕ) (a b c : List (List ℕ)) (r s t : Reading) → TakesMore kind most a b r s → TakesMore kind most b c s t → TakesMore kind most a c r t
taken_then kind most a b c r s t one two = record {
  begins = begins_trans a b c one.begins two.begins;
  unfilled = two.unfilled;
  good = two.good;
  read = λ left given taken has. two.read left given taken (one.read left given taken has);
}

-- no memory was found for them
pub no_room_among : (kind : Kind) (most : ℕ) (old : List (List ℕ)) (line : List ℕ) (group : List (List ℕ)) (r r' : Reading) (why : Fault) → why ≡ fault.OutOfMemory → r'.most ≡ r.most → r'.last ≡ r.last → FillsNone most old → All (IsGood kind) old
    → ((left : Option (List ℕ)) (given : List (List ℕ)) (taken : List ℕ) → HasRead r left given taken → HasRead r' left (given ++ line ∷ group) taken) → TakesHeld kind most old old r r' (Err why)
no_room_among kind most old line group r r' why is bound same_read unfilled good gave = subst (λ w. TakesHeld kind most old old r r' (Err w)) (sym is) (record {
  full = λ other. absurd (not_ok true other);
  unfilled = λ _. unfilled;
  good = good;
  last = λ other. absurd (not_ok true other);
  read = tt;
  none = λ other. absurd (not_ok false other);
  few = λ left given taken has. read_few r left (given ++ old) taken has;
  stopped = λ first left given taken consumed has.
      line_missed_among (λ l. l ≡ given ++ old) (RefusesLine kind (given ++ old)) r.most r' first left (given ++ old) (line ∷ group) taken fault.OutOfMemory bound consumed
      (record { front = []; unit = line; begins = (group, refl); stopped = append-nil (given ++ old); fault = tt }) (gave left (given ++ old) taken has) (in_time_within Lines (given ++ old) taken (omega (arith, same_read)) has.in_time);
})
  where
    oom : Result Bool Fault
    oom = Err fault.OutOfMemory

    not_ok : (b : Bool) → oom ≡ Ok b → ⊥
    not_ok b other = cc

-- what was taken then, after lines that were taken
pub held_behind : (kind : Kind) (most : ℕ) (a b c : List (List ℕ)) (r s t : Reading) (result : Result Bool Fault) → s.most ≡ r.most → TakesMore kind most a b r s → TakesHeld kind most b c s t result → TakesHeld kind most a c r t result
held_behind kind most a b c r s t result bound one two = record {
  full = two.full;
  unfilled = two.unfilled;
  good = two.good;
  last = λ is. let e = two.last is in (e.0, e.1, e.2, begins_trans a b e.0 one.begins e.3);
  read = read_by result two.read;
  none = λ is left given taken has. two.none is left given taken (one.read left given taken has);
  few = λ left given taken has. two.few left given taken (one.read left given taken has);
  stopped = stopped_by result two.stopped;
}
  where
    read_by : (result : Result Bool Fault) → OnOk result ((left : Option (List ℕ)) (given : List (List ℕ)) (taken : List ℕ) → HasRead s left (given ++ b) taken → HasRead t left (given ++ c) taken)
        → OnOk result ((left : Option (List ℕ)) (given : List (List ℕ)) (taken : List ℕ) → HasRead r left (given ++ a) taken → HasRead t left (given ++ c) taken)
    read_by (Ok full) gave = λ left given taken has. gave left given taken (one.read left given taken has)
    read_by (Err why) gave = tt

    stopped_by : (result : Result Bool Fault) → IfErr result (λ why. (first left : Option (List ℕ)) (given : List (List ℕ)) (taken : List ℕ) → Consumes first left taken → HasRead s left (given ++ b) taken
        → Ends t.last Lines s.most (λ lines. lines ≡ given ++ c) (RefusesLine kind (given ++ c)) first left why)
        → IfErr result (λ why. (first left : Option (List ℕ)) (given : List (List ℕ)) (taken : List ℕ) → Consumes first left taken → HasRead r left (given ++ a) taken
        → Ends t.last Lines r.most (λ lines. lines ≡ given ++ c) (RefusesLine kind (given ++ c)) first left why)
    stopped_by (Ok full) ends = tt
    stopped_by (Err why) ends = λ first left given taken consumed has.
        subst (λ m. Ends t.last Lines m (λ lines. lines ≡ given ++ c) (RefusesLine kind (given ++ c)) first left why) bound (ends first left given taken consumed (one.read left given taken has))

-- the first of some lines, and the others
pub no_room_some : (kind : Kind) (most : ℕ) (old group new : List (List ℕ)) (r r' : Reading) (result : Result Bool Fault) → 0 < length group → new ≡ old → IsErrAnd result (λ x. x ≡ fault.OutOfMemory) → r'.most ≡ r.most → r'.last ≡ r.last → FillsNone most old → All (IsGood kind) old
    → ((left : Option (List ℕ)) (given : List (List ℕ)) (taken : List ℕ) → HasRead r left given taken → HasRead r' left (given ++ group) taken) → IfErr result (λ why. TakesHeld kind most old new r r' (Err why))
no_room_some kind most old group new r r' (Ok full) some same is bound same_read unfilled good gave = tt
no_room_some kind most old [] new r r' (Err why) some same is bound same_read unfilled good gave = absurd (omega arith)
no_room_some kind most old (line ∷ group) new r r' (Err why) some same is bound same_read unfilled good gave =
    subst (λ l. TakesHeld kind most old l r r' (Err why)) (sym same) (no_room_among kind most old line group r r' why is bound same_read unfilled good gave)

-- ---- lines that may be refused

-- of lines that come after this many, the first went to the end of a window's, and the next was refused
record RefusesAmong (kind : Kind) (before : ℕ) (why : Fault) (old lines new : List (List ℕ)) : Type 0 where
  pub front : List (List ℕ)
  pub line : List ℕ
  pub begins : Begins (front ++ line ∷ []) lines
  pub kept : new ≡ old ++ front
  pub good : All (IsGood kind) front
  pub fault : IsOfTaker (before + length front + 1) why
  pub refused : (given : List (List ℕ)) → RefusesLine kind given why given line

-- lines that stay up to the first that is no item
refuses_among : (kind : Kind) (before : ℕ) (why : Fault) (old group new : List (List ℕ)) → RefusesFrom kind before why (length old) (old ++ group) new → RefusesAmong kind before why old group new
refuses_among kind before why old group new r =
    let j = r.place - length old in
    let place : length old + j ≡ r.place = omega (arith, r.after) in
    let inside : j < length group = omega (arith, r.within, length-append old group, r.after) in
    let front = take j group in
    let line = slice_index_or group j [] in
    let kept : new ≡ old ++ front =
    r.kept ∙ ap (λ n. take n (old ++ group)) (sym place) ∙ take-add (length old) j (old ++ group)
    ∙ ap (λ ls. ls ++ take j (drop (length old) (old ++ group))) (take_at old group (length old) refl)
    ∙ ap (λ ls. old ++ take j ls) (drop_at old group (length old) refl) in
    let size : length front ≡ j = omega (arith, length-take j group) in
    let here : slice_index_or (old ++ group) r.place [] ≡ line = get_or-append_right old group (length old) r.place [] refl r.after in
    let bad = subst (IsBad kind) here r.refused in
    record {
      front = front;
      line = line;
      begins = (drop (j + 1) group, sym (take-append-drop (j + 1) group) ∙ ap (λ ls. ls ++ drop (j + 1) group) (take_more group j [] inside));
      kept = kept;
      good = subst (All (IsGood kind)) (ap (drop (length old)) kept ∙ drop_at old front (length old) refl) r.good;
      fault = subst (λ n. IsOfTaker (before + n + 1) why) (sym size) (subst (IsOfTaker (before + j + 1)) (sym r.fault) refl);
      refused = λ given. subst (λ w. RefusesLine kind given w given line) (sym r.fault) (refl, bad.0, bad.1);
    }

-- what went to a window that stays unfilled by all of them
refused_unfilled : (kind : Kind) (before : ℕ) (why : Fault) (most : ℕ) (old group new : List (List ℕ)) → RefusesAmong kind before why old group new → length old + length group ≤ most → length (concat old) + length (concat group) < full_bytes → FillsNone most new
refused_unfilled kind before why most old group new refuses few small = λ n within.
    let after : List (List ℕ) = refuses.line ∷ refuses.begins.0 in
    let begins : old ++ group ≡ new ++ after =
    ap (λ ls. old ++ ls) (refuses.begins.1 ∙ append_assoc refuses.front (refuses.line ∷ []) refuses.begins.0) ∙ sym (append_assoc old refuses.front after) ∙ ap (λ ls. ls ++ after) (sym refuses.kept) in
    ap (fills most) (sym (take-append-le n new after within) ∙ ap (take n) (sym begins))
    ∙ few_unfilled most old group few small n (omega (arith, within, ap length begins, length-append new after))

-- a reader gave lines, of which one was refused
refused_among : (kind : Kind) (most before : ℕ) (old group new : List (List ℕ)) (r r' : Reading) (why : Fault) → r'.most ≡ r.most → r'.last ≡ r.last → RefusesAmong kind before why old group new → FillsNone most new → All (IsGood kind) old
    → ((left : Option (List ℕ)) (given : List (List ℕ)) (taken : List ℕ) → HasRead r left (given ++ old) taken → length (given ++ old) ≡ before)
    → ((left : Option (List ℕ)) (given : List (List ℕ)) (taken : List ℕ) → HasRead r left given taken → HasRead r' left (given ++ group) taken) → TakesHeld kind most old new r r' (Err why)
refused_among kind most before old group new r r' why bound same_read refuses unfilled good counted gave = record {
  full = λ other. absurd (not_ok true other);
  unfilled = λ _. unfilled;
  good = subst (All (IsGood kind)) (sym refuses.kept) (All-append (IsGood kind) old refuses.front good refuses.good);
  last = λ other. absurd (not_ok true other);
  read = tt;
  none = λ other. absurd (not_ok false other);
  few = λ left given taken has.
      let all = read_few r' left ((given ++ old) ++ group) taken (gave left (given ++ old) taken has) in
      omega (arith, all, ap length refuses.kept, length-append given new, length-append old refuses.front, length-append (given ++ old) group, length-append given old, ap length refuses.begins.1, length-append (refuses.front ++ refuses.line ∷ []) refuses.begins.0, length-append refuses.front (refuses.line ∷ []));
  stopped = λ first left given taken consumed has.
      let behind : given ++ new ≡ (given ++ old) ++ refuses.front = ap (λ ls. given ++ ls) refuses.kept ∙ sym (append_assoc given old refuses.front) in
      line_missed_among (λ l. l ≡ given ++ new) (RefusesLine kind (given ++ new)) r.most r' first left (given ++ old) group taken why bound consumed
      (record { front = refuses.front; unit = refuses.line; begins = refuses.begins; stopped = subst (λ g. RefusesLine kind g why ((given ++ old) ++ refuses.front) refuses.line) (sym behind) (refuses.refused ((given ++ old) ++ refuses.front)); fault = subst (λ n. IsOfTaker (n + length refuses.front + 1) why) (sym (counted left given taken has)) refuses.fault })
      (gave left (given ++ old) taken has) (in_time_within Lines (given ++ old) taken (omega (arith, same_read)) has.in_time);
}
  where
    err : Result Bool Fault
    err = Err why

    not_ok : (b : Bool) → err ≡ Ok b → ⊥
    not_ok b other = cc

-- a reader gave lines, of which one was taken out again with those after it
pub refused_held : (kind : Kind) (most before : ℕ) (old group new : List (List ℕ)) (r r' : Reading) (why : Fault) → r'.most ≡ r.most → r'.last ≡ r.last → RefusesFrom kind before why (length old) (old ++ group) new
    → length old + length group ≤ most → length (concat old) + length (concat group) < full_bytes → All (IsGood kind) old
    → ((left : Option (List ℕ)) (given : List (List ℕ)) (taken : List ℕ) → HasRead r left (given ++ old) taken → length (given ++ old) ≡ before)
    → ((left : Option (List ℕ)) (given : List (List ℕ)) (taken : List ℕ) → HasRead r left given taken → HasRead r' left (given ++ group) taken) → TakesHeld kind most old new r r' (Err why)
refused_held kind most before old group new r r' why bound same_read refuses few small good counted gave =
    let among = refuses_among kind before why old group new refuses in
    refused_among kind most before old group new r r' why bound same_read among (refused_unfilled kind before why most old group new among few small) good counted gave
