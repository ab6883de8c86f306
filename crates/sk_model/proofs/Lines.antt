-- Lemmas on lines.
use Rattle.std.proofs.Common.{◌≡◌, ◌≢◌, ℕ, ◌+◌, ◌-◌, ◌<◌, ◌≤◌, Bool, true, false, cond, ◌==◌, nat_lt, ◌⊎◌, inl, inr, ⊎_elim, List, [], ◌∷◌, ◌++◌, length, take, get_or, slice_index, map, All, refl, sym, ap, ◌∙◌, subst, arith, append_assoc, append-nil, length-append, length-take, ne_eqb, lt-ltb, take_at, get_or-take, get_or-append-add}
use Rattle.std.specs.List.{slice_split, onto_first}
use Rattle.std.specs.Str.Lines.{lines, lines_of_parts, strip_carriage_return}
use Rattle.std.proofs.lemmas.Bool.{cases_lt, cases_eq}
use Rattle.std.proofs.lemmas.List.{length-map, take-append-le, get_or_append_left, get_or_at, map-append}
use Rattle.std.proofs.lemmas.List.Elements.{All-nil, All-cons, All-append, All-weaker, filter-append}
use Rattle.std.proofs.lemmas.List.Splits.{slice_split_none}
use Rattle.sk_model.specs.Lines.{lines_of, open_lines_of, AreWithin, IsFirstLong, filled, items_of}

-- a text that has no LF
abbrev pub HasNoLf : List ℕ → Type 0
HasNoLf bytes = All (λ byte. byte ≢ 10) bytes

-- a text of whole lines: it is empty or ends by LF
abbrev pub IsOfWholeLines : List ℕ → Type 0
IsOfWholeLines text = (text ≡ []) ⊎ ((front : List ℕ) × (text ≡ front ++ 10 ∷ []))

-- the parts between LFs
abbrev parts : List ℕ → List (List ℕ)
parts bytes = slice_split (λ b. b == 10) bytes

onto_first-append : (x : ℕ) (ps qs : List (List ℕ)) → 0 < length ps → onto_first x (ps ++ qs) ≡ onto_first x ps ++ qs
onto_first-append x [] qs some = absurd (omega arith)
onto_first-append x (p ∷ ps) qs some = refl

length-onto_first : (x : ℕ) (ps : List (List ℕ)) → 0 < length (onto_first x ps)
length-onto_first x [] = omega arith
length-onto_first x (p ∷ ps) = omega arith

length-cond_onto : (b : Bool) (x : ℕ) (ps : List (List ℕ)) → 0 < length (cond b ([] ∷ ps) (onto_first x ps))
length-cond_onto true x ps = omega arith
length-cond_onto false x ps = length-onto_first x ps

length-parts : (bytes : List ℕ) → 0 < length (parts bytes)
length-parts [] = omega arith
length-parts (x ∷ xs) = length-cond_onto (x == 10) x (parts xs)

parts_step : (b : Bool) (x : ℕ) (ps qs : List (List ℕ)) → 0 < length ps → cond b ([] ∷ (ps ++ qs)) (onto_first x (ps ++ qs)) ≡ cond b ([] ∷ ps) (onto_first x ps) ++ qs
parts_step true x ps qs some = refl
parts_step false x ps qs some = onto_first-append x ps qs some

parts_at_end : (front rest : List ℕ) → parts (front ++ 10 ∷ rest) ≡ parts front ++ parts rest
parts_at_end [] rest = refl
parts_at_end (x ∷ xs) rest =
    ap (λ ps. cond (x == 10) ([] ∷ ps) (onto_first x ps)) (parts_at_end xs rest) ∙ parts_step (x == 10) x (parts xs) (parts rest) (length-parts xs)

lines_of_parts-cons : (p : List ℕ) (qs : List (List ℕ)) → 0 < length qs → lines_of_parts (p ∷ qs) ≡ strip_carriage_return p ∷ lines_of_parts qs
lines_of_parts-cons p [] some = absurd (omega arith)
lines_of_parts-cons p (q ∷ qs) some = refl

lines_of_parts-append : (ps qs : List (List ℕ)) → 0 < length qs → lines_of_parts (ps ++ qs) ≡ map strip_carriage_return ps ++ lines_of_parts qs
lines_of_parts-append [] qs some = refl
lines_of_parts-append (p ∷ ps) qs some =
    lines_of_parts-cons p (ps ++ qs) (omega (arith, length-append ps qs)) ∙ ap (λ (ls : List (List ℕ)). strip_carriage_return p ∷ ls) (lines_of_parts-append ps qs some)

-- the lines before an LF and those after it
pub lines_at_end : (front rest : List ℕ) → lines_of (front ++ 10 ∷ rest) ≡ map strip_carriage_return (parts front) ++ lines_of rest
unfolding lines_of
lines_at_end front rest = ap lines_of_parts (parts_at_end front rest) ∙ lines_of_parts-append (parts front) (parts rest) (length-parts rest)

pub lines_of_nothing : lines_of [] ≡ []
unfolding lines_of
lines_of_nothing = refl

pub lines_after_a_line_end : (front rest : List ℕ) → lines_of (front ++ 10 ∷ rest) ≡ lines_of (front ++ 10 ∷ []) ++ lines_of rest
lines_after_a_line_end front rest =
    let alone = lines_at_end front [] ∙ ap (λ (ls : List (List ℕ)). map strip_carriage_return (parts front) ++ ls) lines_of_nothing ∙ append-nil _ in
    lines_at_end front rest ∙ ap (λ (ls : List (List ℕ)). ls ++ lines_of rest) (sym alone)

parts_of_one : (piece : List ℕ) → HasNoLf piece → parts piece ≡ piece ∷ []
parts_of_one piece none = slice_split_none (λ b. b == 10) piece (All-weaker (λ b. b ≢ 10) (λ b. (b == 10) ≡ false) (λ b ne. ne_eqb b 10 ne) piece none)

-- the first line ends at the first LF
pub first_line : (piece rest : List ℕ) → HasNoLf piece → lines_of (piece ++ 10 ∷ rest) ≡ strip_carriage_return piece ∷ lines_of rest
first_line piece rest none = lines_at_end piece rest ∙ ap (λ (ps : List (List ℕ)). map strip_carriage_return ps ++ lines_of rest) (parts_of_one piece none)

pub a_line_alone : (piece : List ℕ) → HasNoLf piece → lines_of (piece ++ 10 ∷ []) ≡ strip_carriage_return piece ∷ []
a_line_alone piece none = first_line piece [] none ∙ ap (λ (ls : List (List ℕ)). strip_carriage_return piece ∷ ls) lines_of_nothing

pub a_last_piece : (piece : List ℕ) → HasNoLf piece → 0 < length piece → lines_of piece ≡ piece ∷ []
unfolding lines_of
a_last_piece piece none some =
    ap lines_of_parts (parts_of_one piece none) ∙ ap (λ b. cond b [] (piece ∷ [])) (ne_eqb (length piece) 0 (λ z. omega arith))

-- whole lines come before what follows
pub after_whole_lines : (front rest : List ℕ) → IsOfWholeLines front → lines_of (front ++ rest) ≡ lines_of front ++ lines_of rest
after_whole_lines front rest (inl none) =
    ap (λ (f : List ℕ). lines_of (f ++ rest)) none ∙ ap (λ (ls : List (List ℕ)). ls ++ lines_of rest) (sym (ap lines_of none ∙ lines_of_nothing))
after_whole_lines front rest (inr ends) =
    let body : List ℕ = ends.0 in
    let is : front ≡ body ++ 10 ∷ [] = ends.1 in
    ap (λ (f : List ℕ). lines_of (f ++ rest)) is ∙ ap lines_of (append_assoc body (10 ∷ []) rest) ∙ lines_after_a_line_end body rest
    ∙ ap (λ (f : List ℕ). lines_of f ++ lines_of rest) (sym is)

-- a text as its whole lines and the last piece
pub record Torn (text : List ℕ) : Type 0 where
  pub front : List ℕ
  pub last : List ℕ
  pub joined : text ≡ front ++ last
  pub whole : IsOfWholeLines front
  pub open_piece : HasNoLf last

torn_cons : (x : ℕ) (xs : List ℕ) → Torn xs → (x ≡ 10) ⊎ (x ≢ 10) → Torn (x ∷ xs)
torn_cons x xs t is =
    ⊎_elim
    (λ none. ⊎_elim
    (λ lf. record {
      front = 10 ∷ [];
      last = t.last;
      joined = ap (λ (y : ℕ). y ∷ xs) lf ∙ ap (λ (ys : List ℕ). 10 ∷ ys) (t.joined ∙ ap (λ (f : List ℕ). f ++ t.last) none);
      whole = inr ([], refl);
      open_piece = t.open_piece;
    })
    (λ other. record {
      front = [];
      last = x ∷ t.last;
      joined = ap (λ (ys : List ℕ). x ∷ ys) (t.joined ∙ ap (λ (f : List ℕ). f ++ t.last) none);
      whole = inl refl;
      open_piece = All-cons (λ b. b ≢ 10) x t.last other t.open_piece;
    })
    is)
    (λ ends. record {
      front = x ∷ t.front;
      last = t.last;
      joined = ap (λ (ys : List ℕ). x ∷ ys) t.joined;
      whole = inr (x ∷ ends.0, ap (λ (ys : List ℕ). x ∷ ys) ends.1);
      open_piece = t.open_piece;
    })
    t.whole

pub torn : (text : List ℕ) → Torn text
torn [] = record { front = []; last = []; joined = refl; whole = inl refl; open_piece = All-nil (λ b. b ≢ 10) }
torn (x ∷ xs) = torn_cons x xs (torn xs) (cases_eq x 10)

-- the lines of a text that may continue, by its parts
pub open_lines_torn : (text : List ℕ) (t : Torn text) → open_lines_of text ≡ lines_of t.front ++ strip_carriage_return t.last ∷ []
open_lines_torn text t =
    ap (λ (x : List ℕ). lines_of (x ++ 10 ∷ [])) t.joined ∙ ap lines_of (append_assoc t.front t.last (10 ∷ []))
    ∙ after_whole_lines t.front (t.last ++ 10 ∷ []) t.whole ∙ ap (λ (ls : List (List ℕ)). lines_of t.front ++ ls) (a_line_alone t.last t.open_piece)

-- the lines of a text that continues
pub more_lines_torn : (text more : List ℕ) (t : Torn text) → lines_of (text ++ more) ≡ lines_of t.front ++ lines_of (t.last ++ more)
more_lines_torn text more t =
    ap (λ (x : List ℕ). lines_of (x ++ more)) t.joined ∙ ap lines_of (append_assoc t.front t.last more) ∙ after_whole_lines t.front (t.last ++ more) t.whole

pub open_lines_stay : (text more : List ℕ) → take (length (open_lines_of text) - 1) (lines_of (text ++ more)) ≡ take (length (open_lines_of text) - 1) (open_lines_of text)
open_lines_stay text more =
    let t : Torn text = torn text in
    let is = open_lines_torn text t in
    let n : length (open_lines_of text) - 1 ≡ length (lines_of t.front) = omega (arith, ap length is, length-append (lines_of t.front) (strip_carriage_return t.last ∷ [])) in
    ap (λ (ls : List (List ℕ)). take (length (open_lines_of text) - 1) ls) (more_lines_torn text more t)
    ∙ take_at (lines_of t.front) (lines_of (t.last ++ more)) _ (sym n)
    ∙ sym (take_at (lines_of t.front) (strip_carriage_return t.last ∷ []) _ (sym n))
    ∙ ap (λ (ls : List (List ℕ)). take (length (open_lines_of text) - 1) ls) (sym is)

-- a text up to its first LF
pub record Cut (text : List ℕ) : Type 0 where
  pub piece : List ℕ
  pub no_lf : HasNoLf piece
  pub follows : (text ≡ piece) ⊎ ((rest : List ℕ) × (text ≡ piece ++ 10 ∷ rest))

cut_cons : (x : ℕ) (xs : List ℕ) → Cut xs → (x ≡ 10) ⊎ (x ≢ 10) → Cut (x ∷ xs)
cut_cons x xs c (inl lf) = record { piece = []; no_lf = All-nil (λ b. b ≢ 10); follows = inr (xs, ap (λ (y : ℕ). y ∷ xs) lf) }
cut_cons x xs c (inr other) = record {
  piece = x ∷ c.piece;
  no_lf = All-cons (λ b. b ≢ 10) x c.piece other c.no_lf;
  follows = ⊎_elim (λ all. inl (ap (λ (ys : List ℕ). x ∷ ys) all)) (λ cut. inr (cut.0, ap (λ (ys : List ℕ). x ∷ ys) cut.1)) c.follows;
}

pub cut : (text : List ℕ) → Cut text
cut [] = record { piece = []; no_lf = All-nil (λ b. b ≢ 10); follows = inl refl }
cut (x ∷ xs) = cut_cons x xs (cut xs) (cases_eq x 10)

strip_by : (b : Bool) (l : List ℕ) → (length l - 1 ≤ length (cond b (take (length l - 1) l) l)) × (length (cond b (take (length l - 1) l) l) ≤ length l)
strip_by true l = (omega (arith, length-take (length l - 1) l), omega (arith, length-take (length l - 1) l))
strip_by false l = (omega arith, omega arith)

-- a line end takes away one byte at most
pub length-strip : (l : List ℕ) → (length l - 1 ≤ length (strip_carriage_return l)) × (length (strip_carriage_return l) ≤ length l)
length-strip l = strip_by (slice_index l (length l - 1) == 13) l

strip_grows : (l more : List ℕ) → length (strip_carriage_return l) ≤ length (strip_carriage_return (l ++ more))
strip_grows l [] = omega (arith, ap (λ (x : List ℕ). length (strip_carriage_return x)) (append-nil l))
strip_grows l (x ∷ xs) = omega (arith, length-strip l, length-strip (l ++ x ∷ xs), length-append l (x ∷ xs))

-- a line that grows
pub record Grows (line : List ℕ) (lines : List (List ℕ)) : Type 0 where
  pub first : List ℕ
  pub later : List (List ℕ)
  pub is : lines ≡ first ∷ later
  pub longer : length line ≤ length first

grows_at : (last more : List ℕ) → HasNoLf last → 0 < length last → Cut more → Grows (strip_carriage_return last) (lines_of (last ++ more))
grows_at last more none some c =
    let no_lf : HasNoLf (last ++ c.piece) = All-append (λ b. b ≢ 10) last c.piece none c.no_lf in
    ⊎_elim
    (λ all. record {
      first = last ++ c.piece;
      later = [];
      is = ap (λ (x : List ℕ). lines_of (last ++ x)) all ∙ a_last_piece (last ++ c.piece) no_lf (omega (arith, length-append last c.piece));
      longer = omega (arith, length-append last c.piece, length-strip last);
    })
    (λ ends. record {
      first = strip_carriage_return (last ++ c.piece);
      later = lines_of ends.0;
      is = ap (λ (x : List ℕ). lines_of (last ++ x)) ends.1 ∙ ap lines_of (sym (append_assoc last c.piece (10 ∷ ends.0))) ∙ first_line (last ++ c.piece) ends.0 no_lf;
      longer = strip_grows last c.piece;
    })
    c.follows

long_at : (limit n : ℕ) (front : List (List ℕ)) (line : List ℕ) (lines : List (List ℕ)) → (limit < length line → Grows line lines) → IsFirstLong limit n (front ++ line ∷ []) → IsFirstLong limit n (front ++ lines)
long_at limit n front line lines grows long =
    let size = length-append front (line ∷ []) in
    let wide = length-append front lines in
    ⊎_elim
    (λ (early : n < length front).
    let same : take n (front ++ line ∷ []) ≡ take n (front ++ lines) = take-append-le n front (line ∷ []) (omega arith) ∙ sym (take-append-le n front lines (omega arith)) in
    let there : get_or (front ++ line ∷ []) n [] ≡ get_or (front ++ lines) n [] = get_or_append_left front (line ∷ []) [] n early ∙ sym (get_or_append_left front lines [] n early) in
    (omega arith, subst (AreWithin limit) same long.1, subst (λ (l : List ℕ). limit < length l) there long.2))
    (λ (late : length front ≤ n).
    let at : length front ≡ n = omega (arith, long.0) in
    let is : get_or (front ++ line ∷ []) n [] ≡ line = get_or_at front line [] [] n at in
    let g : Grows line lines = grows (subst (λ (l : List ℕ). limit < length l) is long.2) in
    let there : get_or (front ++ lines) n [] ≡ g.first = ap (λ (ls : List (List ℕ)). get_or (front ++ ls) n []) g.is ∙ get_or_at front g.first g.later [] n at in
    let same : take n (front ++ line ∷ []) ≡ take n (front ++ lines) = take_at front (line ∷ []) n at ∙ sym (take_at front lines n at) in
    let longer : length line ≤ length g.first = g.longer in
    let long_line : limit < length line = subst (λ (l : List ℕ). limit < length l) is long.2 in
    let some : 0 < length lines = omega (arith, ap length g.is) in
    (omega arith, subst (AreWithin limit) same long.1, subst (λ (l : List ℕ). limit < length l) (sym there) (omega arith)))
    (cases_lt n (length front))

-- a line that is too long already is so whatever follows
pub long_stays_long : (limit n : ℕ) (text more : List ℕ) → IsFirstLong limit n (open_lines_of text) → IsFirstLong limit n (lines_of (text ++ more))
long_stays_long limit n text more long =
    let t : Torn text = torn text in
    subst (IsFirstLong limit n) (sym (more_lines_torn text more t))
    (long_at limit n (lines_of t.front) (strip_carriage_return t.last) (lines_of (t.last ++ more))
    (λ over. grows_at t.last more t.open_piece (omega (arith, over, length-strip t.last)) (cut more))
    (subst (IsFirstLong limit n) (open_lines_torn text t) long))

pub filled_append : (xs ys : List (List ℕ)) → filled (xs ++ ys) ≡ filled xs ++ filled ys
unfolding filled
filled_append xs ys = filter-append (λ line. nat_lt 0 (length line)) xs ys

pub items_append : (item : List ℕ → ℕ) (xs ys : List (List ℕ)) → items_of item (xs ++ ys) ≡ items_of item xs ++ items_of item ys
unfolding items_of
items_append item xs ys = ap (map item) (filled_append xs ys) ∙ map-append item (filled xs) (filled ys)

pub filled_of_one : (line : List ℕ) → 0 < length line → filled (line ∷ []) ≡ line ∷ []
unfolding filled
filled_of_one line some = ap (λ b. cond b (line ∷ []) []) (lt-ltb 0 (length line) some)

pub filled_of_empty : filled ([] ∷ []) ≡ []
unfolding filled
filled_of_empty = refl

pub item_of_one : (item : List ℕ → ℕ) (line : List ℕ) → 0 < length line → items_of item (line ∷ []) ≡ item line ∷ []
unfolding items_of
item_of_one item line some = ap (map item) (filled_of_one line some)

pub item_of_empty : (item : List ℕ → ℕ) → items_of item ([] ∷ []) ≡ []
unfolding items_of
item_of_empty item = ap (map item) filled_of_empty

pub within_append : (limit : ℕ) (xs ys : List (List ℕ)) → AreWithin limit xs → AreWithin limit ys → AreWithin limit (xs ++ ys)
within_append limit xs ys = All-append (λ line. length line ≤ limit) xs ys

pub within_front : (limit : ℕ) (xs ys : List (List ℕ)) → AreWithin limit (xs ++ ys) → AreWithin limit xs
within_front limit xs ys both = λ k d below.
    subst (λ (l : List ℕ). length l ≤ limit) (get_or_append_left xs ys d k below) (both k d (omega (arith, length-append xs ys)))

pub within_back : (limit : ℕ) (xs ys : List (List ℕ)) → AreWithin limit (xs ++ ys) → AreWithin limit ys
within_back limit xs ys both = λ k d below.
    subst (λ (l : List ℕ). length l ≤ limit) (get_or-append-add xs ys k d) (both (length xs + k) d (omega (arith, length-append xs ys)))

pub within_one : (limit : ℕ) (line : List ℕ) → length line ≤ limit → AreWithin limit (line ∷ [])
within_one limit line fits = All-cons (λ l. length l ≤ limit) line [] fits (All-nil (λ l. length l ≤ limit))

pub long_after_front : (limit : ℕ) (front : List (List ℕ)) (line : List ℕ) (later : List (List ℕ)) → AreWithin limit front → limit < length line → IsFirstLong limit (length front) (front ++ line ∷ later)
long_after_front limit front line later fits over = (
  omega (arith, length-append front (line ∷ later)),
  subst (AreWithin limit) (sym (take_at front (line ∷ later) (length front) refl)) fits,
  subst (λ (l : List ℕ). limit < length l) (sym (get_or_at front line later [] (length front) refl)) over,
)

-- the lines of a text that is within the limit so far, and the first long one
pub no_long_within : (limit n : ℕ) (lines : List (List ℕ)) → AreWithin limit lines → ¬ IsFirstLong limit n lines
no_long_within limit n lines fits long = omega (arith, fits n [] long.0, long.2)

no_such : (limit m n : ℕ) (lines : List (List ℕ)) → m < n → IsFirstLong limit m lines → IsFirstLong limit n lines → ⊥
no_such limit m n lines less first second =
    let fits = second.1 m [] (omega (arith, length-take n lines, first.0)) in
    let here : get_or (take n lines) m [] ≡ get_or lines m [] = get_or-take n lines m [] less in
    let short : length (get_or lines m []) ≤ limit = subst (λ (l : List ℕ). length l ≤ limit) here fits in
    omega (arith, first.2)

pub one_long : (limit m n : ℕ) (lines : List (List ℕ)) → IsFirstLong limit m lines → IsFirstLong limit n lines → m ≡ n
one_long limit m n lines first second =
    ⊎_elim
    (λ (less : m < n).
    absurd (no_such limit m n lines less first second))
    (λ (most : n ≤ m).
    ⊎_elim
    (λ (less : n < m). absurd (no_such limit n m lines less second first))
    (λ (same : m ≤ n). omega arith)
    (cases_lt n m))
    (cases_lt m n)

-- one byte more makes at most one line more
few_more : (b : Bool) (x n : ℕ) (ps : List (List ℕ)) → 0 < length ps → length (lines_of_parts ps) ≤ n → length (lines_of_parts (cond b ([] ∷ ps) (onto_first x ps))) ≤ n + 1
few_more true x n ps some few = omega (arith, ap length (lines_of_parts-cons [] ps some))
few_more false x n [] some few = absurd (omega arith)
few_more false x n (p ∷ []) some few = one (length (x ∷ p) == 0)
  where
    one : (c : Bool) → length (cond c [] ((x ∷ p) ∷ [])) ≤ n + 1
    one true = omega arith
    one false = omega arith
few_more false x n (p ∷ q ∷ more) some few = omega arith

-- a text has no more lines than bytes
pub lines_are_few : (text : List ℕ) → length (lines_of text) ≤ length text
unfolding lines_of
lines_are_few [] = omega arith
lines_are_few (x ∷ xs) = omega (arith, few_more (x == 10) x (length xs) (parts xs) (length-parts xs) (lines_are_few xs))

few_filled : (c : Bool) (line : List ℕ) (rest : List (List ℕ)) (n : ℕ) → length rest ≤ n → length (cond c (line ∷ rest) rest) ≤ n + 1
few_filled true line rest n few = omega arith
few_filled false line rest n few = omega arith

-- no more lines are filled than there are
pub filled_are_few : (lines : List (List ℕ)) → length (filled lines) ≤ length lines
unfolding filled
filled_are_few [] = omega arith
filled_are_few (line ∷ lines) = omega (arith, few_filled (nat_lt 0 (length line)) line (filled lines) (length lines) (filled_are_few lines))

pub items_are_few : (item : List ℕ → ℕ) (lines : List (List ℕ)) → length (items_of item lines) ≤ length lines
unfolding items_of
items_are_few item lines = omega (arith, length-map (filled lines) item, filled_are_few lines)
