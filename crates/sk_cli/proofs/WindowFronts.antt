-- The first of some units, cut into windows as all of them are.
use Rattle.std.proofs.Common.{◌≡◌, ◌⊎◌, inl, inr, ℕ, suc, ◌<◌, ◌≤◌, false, List, [], ◌∷◌, ◌++◌, length, take, All, refl, sym, ap, ◌∙◌, arith, append_assoc, append-nil, length-append}
use Rattle.std.proofs.lemmas.Bool.{cases_lt}
use Rattle.std.proofs.lemmas.List.{take-append-le, take_all}
use Rattle.std.proofs.lemmas.List.Elements.{All-nil, All-cons}
use Rattle.sk_model.specs.Missing.{Begins}
use Rattle.sk_fill.specs.Windows.{fills, FillsNone, IsFullWindow, all_lines, AreWindows}

-- the first units, as the first windows and a rest
pub record FrontWindows (most : ℕ) (front : List (List ℕ)) (windows : List (List (List ℕ))) : Type 0 where
  pub many : ℕ
  pub within : many ≤ length windows
  pub rest : List (List ℕ)
  pub cut : AreWindows most front (take many windows) rest

-- the first of units that do not fill a window fill none
fewer_fill : (most : ℕ) (xs ys : List (List ℕ)) → ((n : ℕ) → n ≤ length xs → fills most (take n (xs ++ ys)) ≡ false) → FillsNone most xs
fewer_fill most xs ys none n few = ap (λ (l : List (List ℕ)). fills most l) (sym (take-append-le n xs ys few)) ∙ none n few

no_windows : (most : ℕ) (front : List (List ℕ)) (windows : List (List (List ℕ))) → FillsNone most front → FrontWindows most front windows
no_windows most front windows none = record { many = 0; within = omega arith; rest = front; cut = record { joined = refl; full = All-nil (IsFullWindow most); unfilled = none } }

-- of two ways to split a list, the one that comes first
split_at : {A : Type 0} (xs ys us vs : List A) → xs ++ ys ≡ us ++ vs → length xs ≤ length us → (more : List A) × (us ≡ xs ++ more) × (ys ≡ more ++ vs)
split_at [] ys us vs is few = (us, refl, is)
split_at (x ∷ xs) ys [] vs is few = absurd (omega arith)
split_at {A} (x ∷ xs) ys (u ∷ us) vs is few =
    let heads : x ≡ u = cc in
    let tails : xs ++ ys ≡ us ++ vs = cc in
    let more = split_at xs ys us vs tails (omega arith) in
    (more.0, ap (λ (l : List A). u ∷ l) more.1 ∙ ap (λ (z : A). z ∷ (xs ++ more.0)) (sym heads), more.2)

pub front_windows : (most : ℕ) (windows : List (List (List ℕ))) (rest front back : List (List ℕ)) → all_lines windows ++ rest ≡ front ++ back → All (IsFullWindow most) windows → FillsNone most rest → FrontWindows most front windows
front_windows most [] rest front back is full none =
    no_windows most front [] (fewer_fill most front back (λ n few. ap (λ (l : List (List ℕ)). fills most (take n l)) (sym is) ∙ none n (omega (arith, few, ap length is, length-append front back))))
front_windows most (w ∷ windows) rest front back is full none =
    by (cases_lt (length front) (length w)) (λ left joined. front_windows most windows rest left back joined (λ k d below. full (suc k) d (omega arith)) none)
  where
    first : IsFullWindow most w
    first = full 0 w (omega arith)

    whole : w ++ (all_lines windows ++ rest) ≡ front ++ back
    whole = sym (append_assoc w (all_lines windows) rest) ∙ is

    by : (length front < length w) ⊎ (length w ≤ length front) → ((left : List (List ℕ)) → all_lines windows ++ rest ≡ left ++ back → FrontWindows most left windows) → FrontWindows most front (w ∷ windows)
    by (inl less) again =
        let more = split_at front back w (all_lines windows ++ rest) (sym whole) (omega (arith, less)) in
        no_windows most front (w ∷ windows) (fewer_fill most front more.0 (λ n few. ap (λ (l : List (List ℕ)). fills most (take n l)) (sym more.1) ∙ first.first n (omega (arith, few, less))))
    by (inr most_of) again =
        let more = split_at w (all_lines windows ++ rest) front back whole most_of in
        let later = again more.0 more.2 in
        record {
          many = suc later.many;
          within = omega (arith, later.within);
          rest = later.rest;
          cut = record {
            joined = more.1 ∙ ap (λ (l : List (List ℕ)). w ++ l) later.cut.joined ∙ sym (append_assoc w (all_lines (take later.many windows)) later.rest);
            full = All-cons (IsFullWindow most) w (take later.many windows) first later.cut.full;
            unfilled = later.cut.unfilled;
          };
        }

-- fewer units than fill all windows leave one out
pub fewer_windows : (most : ℕ) (front : List (List ℕ)) (windows : List (List (List ℕ))) (is : FrontWindows most front windows) → length front < length (all_lines windows) → is.many < length windows
fewer_windows most front windows is less = by (cases_lt is.many (length windows))
  where
    by : (is.many < length windows) ⊎ (length windows ≤ is.many) → is.many < length windows
    by (inl fewer) = fewer
    by (inr all) =
        let same : take is.many windows ≡ windows = take_all is.many windows all in
        absurd (omega (arith, less, ap length is.cut.joined, ap (λ (l : List (List (List ℕ))). length (all_lines l)) same, length-append (all_lines (take is.many windows)) is.rest))

-- a unit fills the last window: the first of those before it fill fewer
pub windows_before_last : (most : ℕ) (windows : List (List (List ℕ))) (rest given front : List (List ℕ)) (unit : List ℕ) → AreWindows most (given ++ unit ∷ []) windows rest → rest ≡ [] → Begins front given
    → (is : FrontWindows most front windows) × (is.many < length windows)
windows_before_last most windows rest given front unit cut none begins =
    let units : List (List ℕ) = given ++ unit ∷ [] in
    let back : units ≡ front ++ (begins.0 ++ unit ∷ []) = ap (λ (l : List (List ℕ)). l ++ unit ∷ []) begins.1 ∙ append_assoc front begins.0 (unit ∷ []) in
    let is = front_windows most windows rest front (begins.0 ++ unit ∷ []) (sym cut.joined ∙ back) cut.full cut.unfilled in
    let all : units ≡ all_lines windows = cut.joined ∙ ap (λ (l : List (List ℕ)). all_lines windows ++ l) none ∙ append-nil (all_lines windows) in
    (is, fewer_windows most front windows is (omega (arith, ap length all, ap length back, length-append front (begins.0 ++ unit ∷ []), length-append begins.0 (unit ∷ []))))
