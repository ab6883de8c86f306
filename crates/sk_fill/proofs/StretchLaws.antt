-- Windows of a source that are read a stretch at a time.
use Rattle.std.specs.List.{concat}
use Rattle.std.proofs.Common.{◌≡◌, ◌≢◌, ℕ, ◌+◌, ◌-◌, ◌^◌, min, ◌<◌, ◌≤◌, Bool, true, false, List, [], ◌∷◌, ◌++◌, length, get_or, set, insert, suc, drop, length-take, take, map, All, Option, Result, Ok, Err, OnOk, IfErr, IsErrAnd, sym, ap, refl, ◌∙◌, subst, arith, append-nil, append_assoc, length-append}
use Rattle.std.specs.Io.KnownBytes.{Consumes}
use Rattle.std.proofs.KnownBytes.{Consumes-nil, Consumes-trans}
use Rattle.std.proofs.lemmas.List.{take_more_set, map-append}
use Rattle.std.proofs.lemmas.List.Elements.{All-nil, All-push, All-append, All-get_or}
use Rattle.sk_read.specs.Items.{IsGood}
use Rattle.sk_read.specs.Reading.{Reading, HasRead, remaining_of}
use Rattle.sk_read.specs.Reads.{Ends}
use Rattle.sk_read.specs.declared.fault.Fault.{Fault}
use Rattle.sk_read.specs.declared.fault.Fault.TheVariants as fault
use Rattle.sk_read.specs.declared.kind.Kind.{Kind}
use Rattle.sk_read.specs.declared.units.Units.TheVariants.{Lines}
use Rattle.sk_read.proofs.LineEnds as lineends
use Rattle.sk_fill.specs.Windows.{WindowState, FillsNone, IsFullWindow, all_lines}
use Rattle.sk_fill.specs.Fills.{ReadsLine, RefusesLine}
use Rattle.sk_fill.specs.Stretches.{IsCounted, HaveFewer, StopsAtEnough, StretchGoes, GoOnInWindows, RefusesBehind, ReadsWindow, ReadsStretch}
use Rattle.sk_fill.proofs.Cutting.{none_unfilled, all_lines_more}
use Rattle.sk_fill.proofs.Pages.{concat_more}
use Rattle.sk_fill.proofs.Readings.{ends_by}

pub on_ok_at : (result : Result Bool Fault) (full : Bool) (P : Type 0) → result ≡ Ok full → OnOk result P → P
on_ok_at result full P is p = subst (λ x. OnOk x P) is p

pub on_err_at : (result : Result Bool Fault) (why : Fault) (P : Fault → Type 0) → result ≡ Err why → IfErr result P → P why
on_err_at result why P is p = subst (λ x. IfErr x P) is p

pub no_ok : (result : Result Bool Fault) (why : Fault) (full : Bool) → result ≡ Err why → result ≡ Ok full → ⊥
no_ok result why full failed went = cc

pub not_both : (result : Result Bool Fault) → result ≡ Ok true → result ≡ Ok false → ⊥
not_both result full ended = cc

abbrev pub failed : Fault → Result Bool Fault
failed why = Err why

abbrev pub answer : Bool → Result Bool Fault
answer more = Ok more

pub ok_is : (more to : Bool) → more ≡ to → answer more ≡ answer to
ok_is more to is = ap answer is

-- ---- a window

-- the reader after a window that was filled, or not
pub window_read : (full : Bool) (r r' : Reading) (old new : Option (List ℕ)) (given lines : List (List ℕ)) (taken : List ℕ)
    → (full ≡ true → (front : List (List ℕ)) × (line : List ℕ) × (lines ≡ front ++ line ∷ []) × ReadsLine r' old new (given ++ front) line taken)
    → (full ≡ false → (more : List ℕ) × Consumes old new more × HasRead r' new (given ++ lines) (taken ++ more))
    → (more : List ℕ) × Consumes old new more × HasRead r' new (given ++ lines) (taken ++ more)
window_read true r r' old new given lines taken last rest =
    let one = last refl in
    (one.3.more, one.3.consumed, subst (λ l. HasRead r' new l (taken ++ one.3.more)) (append_assoc given one.0 (one.1 ∷ []) ∙ ap (λ l. given ++ l) (sym one.2)) one.3.read)
window_read false r r' old new given lines taken last rest = rest refl

-- a window that a fault left unfilled
pub window_failed : (kind : Kind) (most : ℕ) (lines : List (List ℕ)) (r r' : Reading) (old new : Option (List ℕ)) (why : Fault) (result : Result Bool Fault) → IsErrAnd result (λ x. x ≡ why) → r'.most ≡ r.most → FillsNone most lines → All (IsGood kind) lines
    → ((first : Option (List ℕ)) (given : List (List ℕ)) (taken : List ℕ) → Consumes first old taken → HasRead r old given taken → Ends r'.last Lines r.most (λ l. l ≡ given ++ lines) (RefusesLine kind (given ++ lines)) first new why)
    → ReadsWindow kind most lines r r' old new result
window_failed kind most lines r r' old new why (Ok full) is bound unfilled good stopped = absurd is
window_failed kind most lines r r' old new why (Err e) is bound unfilled good stopped = record {
  full = λ same. absurd (no_ok (Err e) e true refl same);
  unfilled = λ other. unfilled;
  good = good;
  read = tt;
  end = λ same. absurd (no_ok (Err e) e false refl same);
  progress = λ same. absurd (no_ok (Err e) e true refl same);
  bound = bound;
  stopped = λ first given taken consumed has. subst (λ x. Ends r'.last Lines r.most (λ l. l ≡ given ++ lines) (RefusesLine kind (given ++ lines)) first new x) (sym is) (stopped first given taken consumed has);
}

-- one that was filled, or in which the source ended
pub window_filled : (kind : Kind) (most : ℕ) (lines : List (List ℕ)) (r r' : Reading) (old new : Option (List ℕ)) (full : Bool) (result : Result Bool Fault) → result ≡ Ok full
    → (result ≡ Ok true → IsFullWindow most lines) → (result ≢ Ok true → FillsNone most lines) → All (IsGood kind) lines
    → (result ≡ Ok true → (given : List (List ℕ)) (taken : List ℕ) → HasRead r old given taken → (front : List (List ℕ)) × (line : List ℕ) × (lines ≡ front ++ line ∷ []) × ReadsLine r' old new (given ++ front) line taken)
    → (result ≡ Ok false → (given : List (List ℕ)) (taken : List ℕ) → HasRead r old given taken → (more : List ℕ) × Consumes old new more × HasRead r' new (given ++ lines) (taken ++ more))
    → (result ≡ Ok false → r'.ended ≡ true) → (result ≡ Ok true → remaining_of r' < remaining_of r) → r'.most ≡ r.most → ReadsWindow kind most lines r r' old new (Ok full)
window_filled kind most lines r r' old new full result was is_full unfilled good last rest end progress bound = record {
  full = λ same. is_full (was ∙ same);
  unfilled = λ other. unfilled (λ same. other (sym was ∙ same));
  good = good;
  read = λ given taken has. window_read full r r' old new given lines taken (λ is. last (was ∙ ok_is full true is) given taken has) (λ is. rest (was ∙ ok_is full false is) given taken has);
  end = λ same. end (was ∙ same);
  progress = λ same. progress (was ∙ same);
  bound = bound;
  stopped = tt;
}

pub none_on_err : (P : Type 0) (result : Result Bool Fault) (Q : Fault → Type 0) → IsErrAnd result Q → OnOk result P
none_on_err P (Ok full) Q is = absurd is
none_on_err P (Err e) Q is = tt

-- how many lines a window of a stretch takes
pub most_at : (ws : List WindowState) (at : ℕ) (w : WindowState) (most : ℕ) → at < length ws → w ≡ get_or ws at w → All (λ (z : WindowState). z.most ≡ most) ws → w.most ≡ most
most_at ws at w most within is each = ap (λ z. z.most) is ∙ All-get_or (λ (z : WindowState). z.most ≡ most) ws at w within each

-- the windows in use, one more
pub window_added : (old ws : List WindowState) (at : ℕ) (w : WindowState) (windows : List (List (List ℕ))) → at < length ws → take at ws ≡ take at old → map (λ (z : WindowState). z.lines) (take at old) ≡ windows
    → map (λ (z : WindowState). z.lines) (take (at + 1) (set ws at w)) ≡ windows ++ w.lines ∷ []
window_added old ws at w windows within same are =
    let lines = λ (z : WindowState). z.lines in
    ap (map lines) (take_more_set ws at w within) ∙ map-append lines (take at ws) (w ∷ []) ∙ ap (λ l. l ++ w.lines ∷ []) (ap (map lines) same ∙ are)

-- one that was put after those in use
pub window_pushed : (ws : List WindowState) (at : ℕ) (w : WindowState) (windows : List (List (List ℕ))) → at ≤ length ws → map (λ (z : WindowState). z.lines) (take at ws) ≡ windows
    → map (λ (z : WindowState). z.lines) (take (at + 1) (insert ws at w)) ≡ windows ++ w.lines ∷ []
window_pushed ws at w windows within are =
    let lines = λ (z : WindowState). z.lines in
    let count : at + 1 ≡ suc (length (take at ws)) = omega (arith, length-take at ws) in
    ap (λ n. map lines (take n (insert ws at w))) count ∙ ap (map lines) (take_one (take at ws) (drop at ws) w) ∙ map-append lines (take at ws) (w ∷ []) ∙ ap (λ l. l ++ w.lines ∷ []) are
  where
    take_one : (xs ys : List WindowState) (x : WindowState) → take (suc (length xs)) (xs ++ x ∷ ys) ≡ xs ++ x ∷ []
    take_one [] ys x = refl
    take_one (y ∷ xs) ys x = ap (λ l. y ∷ l) (take_one xs ys x)

-- no memory was found for it
pub no_window_read : (kind : Kind) (most : ℕ) (r : Reading) (left : Option (List ℕ)) (result : Result Bool Fault) → IsErrAnd result (λ x. x ≡ fault.OutOfMemory) → 1 ≤ most → ReadsWindow kind most [] r r left left result
no_window_read kind most r left result is least =
    window_failed kind most [] r r left left fault.OutOfMemory result is refl (none_unfilled most least) (All-nil (IsGood kind))
    (λ first given taken consumed has. lineends.no_memory (λ l. l ≡ given ++ []) (RefusesLine kind (given ++ [])) r.most r first left given taken refl consumed (sym (append-nil given)) has)

-- ---- how large a stretch grows

-- the counts, one window more
pub counted_more : (count size more bytes count' size' : ℕ) (windows windows' : List (List (List ℕ))) (lines : List (List ℕ)) → IsCounted count size windows → windows' ≡ windows ++ lines ∷ [] → more ≡ length lines → length (concat lines) ≤ bytes
    → count' ≡ min (count + more) (2 ^ 64 - 1) → size' ≡ min (size + bytes) (2 ^ 64 - 1) → IsCounted count' size' windows'
counted_more count size more bytes count' size' windows windows' lines counted added is least count_is size_is = subst (IsCounted count' size') (sym added) (record {
  lines = omega (arith, count_is, counted.lines, is, ap length (all_lines_more windows lines), length-append (all_lines windows) lines);
  bytes = omega (arith, size_is, counted.bytes, least, ap (λ l. length (concat l)) (all_lines_more windows lines), concat_more (all_lines windows) lines);
})

-- windows that are not enough, and one more
pub one_more : (enough bytes : ℕ) (windows windows' : List (List (List ℕ))) (lines : List (List ℕ)) → windows' ≡ windows ++ lines ∷ [] → (0 < length windows → HaveFewer enough bytes windows) → StopsAtEnough enough bytes windows'
one_more enough bytes windows windows' lines added fewer = record { before = windows; last = lines; joined = added; fewer = fewer }

-- ---- a stretch

pub stretch_starts : (kind : Kind) (most : ℕ) (windows : List (List (List ℕ))) (r : Reading) (left : Option (List ℕ)) → windows ≡ [] → StretchGoes kind most windows r r left left
stretch_starts kind most windows r left none = subst (λ l. StretchGoes kind most l r r left left) (sym none) (record {
  full = All-nil (IsFullWindow most);
  good = All-nil (IsGood kind);
  read = λ given taken has. ([], Consumes-nil left, subst (λ l. HasRead r left l (taken ++ [])) (sym (append-nil given)) (subst (λ bytes. HasRead r left given bytes) (sym (append-nil taken)) has));
  bound = refl;
  progress = omega arith;
})

-- what was read on, one window more
read_on : (kind : Kind) (most : ℕ) (windows : List (List (List ℕ))) (lines : List (List ℕ)) (r q r' : Reading) (old mid new : Option (List ℕ)) → StretchGoes kind most windows r q old mid
    → ((given : List (List ℕ)) (taken : List ℕ) → HasRead q mid given taken → (more : List ℕ) × Consumes mid new more × HasRead r' new (given ++ lines) (taken ++ more))
    → (given : List (List ℕ)) (taken : List ℕ) → HasRead r old given taken → (more : List ℕ) × Consumes old new more × HasRead r' new (given ++ all_lines (windows ++ lines ∷ [])) (taken ++ more)
read_on kind most windows lines r q r' old mid new goes read given taken has =
    let before = goes.read given taken has in
    let now = read (given ++ all_lines windows) (taken ++ before.0) before.2 in (
      before.0 ++ now.0,
      Consumes-trans _ _ _ _ _ before.1 now.1,
      subst (λ l. HasRead r' new l (taken ++ (before.0 ++ now.0))) (append_assoc given (all_lines windows) lines ∙ ap (λ l. given ++ l) (sym (all_lines_more windows lines)))
          (subst (λ bytes. HasRead r' new ((given ++ all_lines windows) ++ lines) bytes) (append_assoc taken before.0 now.0) now.2),
    )

good_on : (kind : Kind) (windows : List (List (List ℕ))) (lines : List (List ℕ)) → All (IsGood kind) (all_lines windows) → All (IsGood kind) lines → All (IsGood kind) (all_lines (windows ++ lines ∷ []))
good_on kind windows lines good one = subst (All (IsGood kind)) (sym (all_lines_more windows lines)) (All-append (IsGood kind) (all_lines windows) lines good one)

module _ (kind : Kind) (most : ℕ) (windows : List (List (List ℕ))) (lines : List (List ℕ)) (r q r' : Reading) (old mid new : Option (List ℕ)) (goes : StretchGoes kind most windows r q old mid) where
  pub stretch_goes : (windows' : List (List (List ℕ))) (result : Result Bool Fault) → ReadsWindow kind most lines q r' mid new result → result ≡ Ok true → windows' ≡ windows ++ lines ∷ [] → StretchGoes kind most windows' r r' old new
  stretch_goes windows' result one is added = subst (λ l. StretchGoes kind most l r r' old new) (sym added) (record {
    full = All-push (IsFullWindow most) windows lines goes.full (one.full is);
    good = good_on kind windows lines goes.good one.good;
    read = read_on kind most windows lines r q r' old mid new goes (on_ok_at result true _ is one.read);
    bound = one.bound ∙ goes.bound;
    progress = let later = one.progress is in omega (arith, later, goes.progress);
  })

  -- it is full
  pub stretch_full : (windows' : List (List (List ℕ))) (result : Result Bool Fault) → ReadsWindow kind most lines q r' mid new result → result ≡ Ok true → windows' ≡ windows ++ lines ∷ [] → ReadsStretch kind most windows' r r' old new (Ok true)
  stretch_full windows' result one is added =
      let now = stretch_goes windows' result one is added in record {
        full = λ same. now.full;
        unfilled = λ same. absurd (not_both (Ok true) refl same);
        good = now.good;
        read = now.read;
        end = λ same. absurd (not_both (Ok true) refl same);
        progress = λ same. let later = one.progress is in omega (arith, later, goes.progress);
        bound = now.bound;
        stopped = tt;
      }

  -- the source ended
  pub stretch_ended : (windows' : List (List (List ℕ))) (result : Result Bool Fault) → ReadsWindow kind most lines q r' mid new result → result ≡ Ok false → windows' ≡ windows ++ lines ∷ [] → ReadsStretch kind most windows' r r' old new (Ok false)
  stretch_ended windows' result one is added = subst (λ l. ReadsStretch kind most l r r' old new (Ok false)) (sym added) (record {
    full = λ same. absurd (not_both (Ok false) same refl);
    unfilled = λ same. record { before = windows; last = lines; joined = refl; full = goes.full; unfilled = one.unfilled (λ other. not_both result other is) };
    good = good_on kind windows lines goes.good one.good;
    read = read_on kind most windows lines r q r' old mid new goes (on_ok_at result false _ is one.read);
    end = λ same. one.end is;
    progress = λ same. absurd (not_both (Ok false) same refl);
    bound = one.bound ∙ goes.bound;
    stopped = tt;
  })

  -- a fault left its last window unfilled
  pub stretch_failed : (windows' : List (List (List ℕ))) (why : Fault) (failed result : Result Bool Fault) → ReadsWindow kind most lines q r' mid new failed → failed ≡ Err why → IsErrAnd result (λ x. x ≡ why) → ReadsStretch kind most windows' r r' old new result
  stretch_failed windows' why failed (Ok full) one was is = absurd is
  stretch_failed windows' why failed (Err e) one was is = record {
    full = λ same. absurd (no_ok (Err e) e true refl same);
    unfilled = λ same. absurd (no_ok (Err e) e false refl same);
    good = tt;
    read = tt;
    end = λ same. absurd (no_ok (Err e) e false refl same);
    progress = λ same. absurd (no_ok (Err e) e true refl same);
    bound = one.bound ∙ goes.bound;
    stopped = λ first given taken consumed has.
        let before = goes.read given taken has in
        subst (λ x. Ends r'.last Lines r.most (GoOnInWindows kind most given) (RefusesBehind kind most given) first new x) (sym is)
        (subst (λ m. Ends r'.last Lines m (GoOnInWindows kind most given) (RefusesBehind kind most given) first new why) goes.bound
        (ends_by _ Lines q.most (λ l. l ≡ (given ++ all_lines windows) ++ lines) (GoOnInWindows kind most given) (RefusesLine kind ((given ++ all_lines windows) ++ lines)) (RefusesBehind kind most given) first new why
        (go_on given) (refuses given)
        (on_err_at failed why _ was one.stopped first (given ++ all_lines windows) (taken ++ before.0) (Consumes-trans _ _ _ _ _ consumed before.1) before.2)));
  }
    where
      go_on : (given units : List (List ℕ)) → units ≡ (given ++ all_lines windows) ++ lines → GoOnInWindows kind most given units
      go_on given units is = record {
        more = all_lines windows ++ lines;
        joined = is ∙ append_assoc given (all_lines windows) lines;
        windows = windows;
        rest = lines;
        cut = record { joined = refl; full = goes.full; unfilled = one.unfilled (no_ok failed why true was) };
        good = All-append (IsGood kind) (all_lines windows) lines goes.good one.good;
      }

      refuses : (given : List (List ℕ)) (why : Fault) (units : List (List ℕ)) (line : List ℕ) → RefusesLine kind ((given ++ all_lines windows) ++ lines) why units line → RefusesBehind kind most given why units line
      refuses given (fault.BadItem n) units line bad = (go_on given units bad.0, (refl, bad.1, bad.2))
      refuses given fault.OutOfMemory units line is = (go_on given units is, refl)
      refuses given fault.WriteFault units line none = absurd none
      refuses given fault.ReadFault units line none = absurd none
      refuses given fault.TooMuch units line none = absurd none
      refuses given (fault.LongLine n) units line none = absurd none
      refuses given (fault.BadCsv n) units line none = absurd none

-- no memory was found before anything was read
pub nothing_read : (kind : Kind) (most : ℕ) (r : Reading) (left : Option (List ℕ)) (result : Result Bool Fault) → IsErrAnd result (λ x. x ≡ fault.OutOfMemory) → 1 ≤ most → ReadsStretch kind most [] r r left left result
nothing_read kind most r left (Ok full) is least = absurd is
nothing_read kind most r left (Err e) is least = stretch_failed kind most [] [] r r r left left left (stretch_starts kind most [] r left refl) [] e (Err e) (Err e) (no_window_read kind most r left (Err e) is least) refl refl

-- if memory runs out after a stretch, the reading ends after it
pub read_then_none : (kind : Kind) (most : ℕ) (windows : List (List (List ℕ))) (r r' : Reading) (old new : Option (List ℕ)) (full : Bool) (read result : Result Bool Fault) → 1 ≤ most → ReadsStretch kind most windows r r' old new read → read ≡ Ok full → IsErrAnd result (λ x. x ≡ fault.OutOfMemory) → ReadsStretch kind most windows r r' old new result
read_then_none kind most windows r r' old new full read (Ok more) least stretch was is = absurd is
read_then_none kind most windows r r' old new full read (Err e) least stretch was is = record {
  full = λ same. absurd (no_ok (Err e) e true refl same);
  unfilled = λ same. absurd (no_ok (Err e) e false refl same);
  good = tt;
  read = tt;
  end = λ same. absurd (no_ok (Err e) e false refl same);
  progress = λ same. absurd (no_ok (Err e) e true refl same);
  bound = stretch.bound;
  stopped = λ first given taken consumed has.
      let now = on_ok_at read full _ was stretch.read given taken has in
      subst (λ x. Ends r'.last Lines r.most (GoOnInWindows kind most given) (RefusesBehind kind most given) first new x) (sym is)
      (lineends.no_memory (GoOnInWindows kind most given) (RefusesBehind kind most given) r.most r' first new (given ++ all_lines windows) (taken ++ now.0) stretch.bound (Consumes-trans _ _ _ _ _ consumed now.1) (go_on full was given) now.2);
}
  where
    go_on : (full : Bool) → read ≡ Ok full → (given : List (List ℕ)) → GoOnInWindows kind most given (given ++ all_lines windows)
    go_on true was given = record {
      more = all_lines windows;
      joined = refl;
      windows = windows;
      rest = [];
      cut = record { joined = sym (append-nil (all_lines windows)); full = stretch.full was; unfilled = none_unfilled most least };
      good = on_ok_at read true _ was stretch.good;
    }
    go_on false was given =
        let ends = stretch.unfilled was in record {
          more = all_lines windows;
          joined = refl;
          windows = ends.before;
          rest = ends.last;
          cut = record { joined = ap (λ l. all_lines l) ends.joined ∙ all_lines_more ends.before ends.last; full = ends.full; unfilled = ends.unfilled };
          good = on_ok_at read false _ was stretch.good;
        }

-- a fault of the reading is passed on
pub stretch_passed : (kind : Kind) (most : ℕ) (windows : List (List (List ℕ))) (r r' : Reading) (old new : Option (List ℕ)) (why : Fault) (read result : Result Bool Fault) → ReadsStretch kind most windows r r' old new read → read ≡ Err why → IsErrAnd result (λ x. x ≡ why) → ReadsStretch kind most windows r r' old new result
stretch_passed kind most windows r r' old new why read (Ok more) stretch was is = absurd is
stretch_passed kind most windows r r' old new why read (Err e) stretch was is = subst (ReadsStretch kind most windows r r' old new) (was ∙ ap failed (sym is)) stretch
