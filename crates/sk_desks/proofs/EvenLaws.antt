-- Lines of one length, each of a tenant.
use Rattle.std.proofs.Common.{◌≡◌, ◌≢◌, ◌⊎◌, inl, inr, ⊎_elim, ℕ, zero, suc, ◌+◌, ◌-◌, ◌*◌, ◌/◌, ◌<◌, ◌≤◌, ◌^◌, ◌==◌, Bool, true, false, cond, is_some, List, [], ◌∷◌, ◌++◌, length, length-append, length-take, length-drop, take-add, take, drop, get_or, slice_index, slice_range, slice_get, bit_or, max, All, Option, Some, None, IfSome, refl, sym, ap, subst, ◌∙◌, arith}
use Rattle.std.specs.Int.{bit_at}
use Rattle.std.specs.Prelude.{bit_xor}
use Rattle.std.specs.Str.Lines.{strip_carriage_return}
use Rattle.std.proofs.Math.Nat.{mul-le-mul_right, mul-div_cancel}
use Rattle.std.proofs.lemmas.Bool.{cases_lt}
use Rattle.std.proofs.lemmas.List.{take_all, take-take, take_more, get_or-take, get_or-drop, get_or_default, get_or_at, get_or_append_left, get_or-append-add}
use Rattle.std.proofs.lemmas.List.Elements.{All-push}
use Rattle.std.proofs.lemmas.Nat.Bits.{bit_at-zero, bit_at_or, bit_at_xor, bit_at-lt, bit_at-pow_same, bit_at-pow_other, same_from_bits}
use Rattle.std.proofs.lemmas.Option.{slice_get_within, get_or_from_slice_get}
use Rattle.sk_model.specs.Lines.{lines_of}
use Rattle.sk_model.proofs.Lists.{slice_none, slice_more}
use Rattle.sk_model.proofs.Lines.{a_line_alone, after_whole_lines, lines_of_nothing}
use Rattle.sk_lines.specs.Cutter.{HasNoLf}
use Rattle.sk_lines.specs.Runs.{IsRun, AreEven, EndEach}
use Rattle.sk_lines.proofs.EvenRuns.{line_inside}
use Rattle.sk_lines.proofs.Steps.{taken_line}
use Rattle.sk_lines.proofs.WholeLines.{no_lines, run_more}
use Rattle.sk_tenant.specs.Names.{HasNoSpace}
use Rattle.sk_desks.specs.Entries.{IsNamedAt}
use Rattle.sk_fill.specs.Pages.{IsEven}
use Rattle.sk_desks.specs.Gathers.{AreFirst, AreUpTo, HaveOneLength, IsOfTenant}
use Rattle.sk_desks.proofs.ClerkLaws.{range_size}
use Rattle.sk_desks.proofs.LikeLaws.{of_tenant}

-- a name that was found at a place
pub named_at : (names : List (List ℕ)) (text : List ℕ) (at label : ℕ) (found : Option ℕ) → IfSome found (λ t. slice_get names t ≡ Some (slice_range text at (at + label))) → IfSome found (λ _. HasNoSpace (slice_range text at (at + label)))
    → slice_index text (at + label) ≡ 32 → is_some found ≡ true → IsNamedAt names text at label
named_at names text at label (Some t) is plain space some =
    let name : List ℕ = slice_range text at (at + label) in
    record { known = (t, slice_get_within names t name is, get_or_from_slice_get names t name name is); plain = plain; space = space }
named_at names text at label None is plain space some = cc

-- ---- marks of LFs

pub none_marked : (marks k : ℕ) → marks ≡ 0 → bit_at marks k ≡ 1 → ⊥
none_marked marks k none set = absurd (omega (arith, bit_at-zero k, ap (λ (m : ℕ). bit_at m k) (sym none) ∙ set))

-- no mark of one block, and of another those alone that it has to have
pub marked_so : (a b c : ℕ) → bit_or a (bit_xor b c) ≡ 0 → (a ≡ 0) × (b ≡ c)
marked_so a b c none = (
  same_from_bits a 0 (λ k. omega (arith, both k, bit_at-zero k)),
  same_from_bits b c (λ k. omega (arith, both k, bit_at_xor b c k, bit_at-lt b k, bit_at-lt c k)),
)
  where
    both : (k : ℕ) → max (bit_at a k) (bit_at (bit_xor b c) k) ≡ 0
    both k = sym (bit_at_or a (bit_xor b c) k) ∙ ap (λ (m : ℕ). bit_at m k) none ∙ bit_at-zero k

-- of a block whose last byte alone is marked no other is
pub not_marked : (marks k : ℕ) → marks ≡ 2 ^ 15 → k < 15 → bit_at marks k ≡ 1 → ⊥
not_marked marks k only below set = absurd (omega (arith, bit_at-pow_other 15 k (λ (same : k ≡ 15). absurd (omega (arith, same, below))), ap (λ (m : ℕ). bit_at m k) (sym only) ∙ set))

pub last_marked : (marks : ℕ) → marks ≡ 2 ^ 15 → bit_at marks 15 ≡ 1
last_marked marks only = ap (λ (m : ℕ). bit_at m 15) only ∙ bit_at-pow_same 15

-- ---- a line without the CR at its end

either : (b : Bool) (xs ys : List ℕ) → (cond b xs ys ≡ xs) ⊎ (cond b xs ys ≡ ys)
either true xs ys = inl refl
either false xs ys = inr refl

stripped : (line : List ℕ) → (strip_carriage_return line ≡ take (length line - 1) line) ⊎ (strip_carriage_return line ≡ line)
stripped line = either (slice_index line (length line - 1) == 13) (take (length line - 1) line) line

-- a line that does not end with CR
pub stays_whole : (line : List ℕ) → length line ≤ length (strip_carriage_return line) → strip_carriage_return line ≡ line
stays_whole line long = ⊎_elim
    (λ short.
    let none : length line ≡ 0 = omega (arith, long, ap length short, length-take (length line - 1) line) in
    short ∙ take_all (length line - 1) line (omega (arith, none)))
    (λ whole. whole)
    (stripped line)

-- with LF after it it is a run
pub line_of_run : (line : List ℕ) → HasNoLf line → strip_carriage_return line ≡ line → lines_of (line ++ 10 ∷ []) ≡ line ∷ []
line_of_run line plain whole = a_line_alone line plain ∙ ap (λ (l : List ℕ). l ∷ []) whole

pub run_of_line : (line : List ℕ) → HasNoLf line → strip_carriage_return line ≡ line → IsRun 1 (line ++ 10 ∷ [])
run_of_line line plain whole = record { whole = inr (line, refl); count = ap length (line_of_run line plain whole) }

module _ (names : List (List ℕ)) (text : List ℕ) (at len label : ℕ) (within : at + len ≤ length text) (some : 0 < label) (item : label + 3 ≤ len) (named : IsNamedAt names text at label) where
  abbrev line : List ℕ
  line = slice_range text at (at + len)

  size : length line ≡ len
  size = omega (arith, range_size text at (at + len) (omega arith) within)

  up_to : (to : ℕ) → at + label + 1 < to → to ≤ at + len → IsOfTenant names (slice_range text at to)
  up_to to more most = of_tenant names text at to label (omega (arith, more)) (omega (arith, most, within)) some more named.space named.known named.plain

  shorter : take (length line - 1) line ≡ slice_range text at (at + len - 1)
  shorter =
      let few : length line - 1 ≡ (at + len - 1) - at = omega (arith, size) in
      ap (λ (n : ℕ). take n line) few ∙ take-take ((at + len - 1) - at) ((at + len) - at) (drop at text) (omega arith)

  pub line_of_tenant : IsOfTenant names (strip_carriage_return line)
  line_of_tenant = ⊎_elim
      (λ short. subst (IsOfTenant names) (sym (short ∙ shorter)) (up_to (at + len - 1) (omega (arith, item)) (omega arith)))
      (λ whole. subst (IsOfTenant names) (sym whole) (up_to (at + len) (omega (arith, item)) (omega arith)))
      (stripped line)

-- ---- all lines of a run

pub even_of_tenants : (names : List (List ℕ)) (run : List ℕ) (count len label : ℕ) → IsRun count run → AreEven count len run → 0 < label → label + 3 ≤ len
    → ((i : ℕ) → i < count → IsNamedAt names run (i * (len + 1)) label) → All (IsOfTenant names) (lines_of run)
even_of_tenants names run count len label is even some item named = λ i d within.
    let less : i < count = omega (arith, within, is.count) in
    let at : ℕ = i * (len + 1) in
    let inside : at + (len + 1) ≤ length run = omega (arith, line_inside count i (len + 1) less, even.bytes) in
    subst (IsOfTenant names) (sym (get_or_from_slice_get (lines_of run) i (strip_carriage_return (slice_range run at (at + len))) d (even.lines i less)))
    (line_of_tenant names run at len label (omega (arith, inside)) some item (named i less))

-- where a line of a run lies
module _ (run : List ℕ) (count len i : ℕ) (is : IsRun count run) (even : AreEven count len run) (less : i < count) where
  pub inside : i * (len + 1) + len < length run
  inside = omega (arith, line_inside count i (len + 1) less, even.bytes)

  pub even_line : (bytes : ℕ) → bytes ≡ length (strip_carriage_return (slice_range run (i * (len + 1)) (i * (len + 1) + len)))
      → slice_range (lines_of run) i (i + 1) ≡ slice_range run (i * (len + 1)) (i * (len + 1) + bytes) ∷ []
  even_line bytes is_long =
      let lines = lines_of run in
      let at : ℕ = i * (len + 1) in
      let line : List ℕ = strip_carriage_return (slice_range run at (at + len)) in
      let few : i < length lines = omega (arith, less, is.count) in
      let size : (at + bytes) - at ≡ length line = omega (arith, is_long) in
      let same : slice_range run at (at + bytes) ≡ line = ap (λ (n : ℕ). take n (drop at run)) size ∙ taken_line (drop at run) line ((at + len) - at) refl in
      slice_more lines i i line (omega arith) few ∙ ap (λ (ls : List (List ℕ)). ls ++ get_or lines i line ∷ []) (slice_none lines i)
      ∙ ap (λ (l : List ℕ). l ∷ []) (get_or_from_slice_get lines i line line (even.lines i less) ∙ sym same)

-- ---- lines that were looked at, one after another

-- those that begin before a place are of tenants, and end where they have to
pub record AreSoFar (names : List (List ℕ)) (run : List ℕ) (count len label at : ℕ) : Type 0 where
  pub turn : ℕ
  pub place : at ≡ turn * (len + 1)
  pub few : turn ≤ count
  pub named : (i : ℕ) → i < turn → (slice_index run (i * (len + 1) + len) ≡ 10) × IsNamedAt names run (i * (len + 1)) label

module _ (names : List (List ℕ)) (run : List ℕ) (count len label : ℕ) where
  pub so_far_none : AreSoFar names run count len label 0
  so_far_none = record { turn = 0; place = omega arith; few = omega arith; named = λ i less. absurd (omega (arith, less)) }

  module _ (at : ℕ) (bytes : length run ≡ count * (len + 1)) (so_far : AreSoFar names run count len label at) where
    below_count : at < length run → so_far.turn < count
    below_count more = ⊎_elim
        (λ (below : so_far.turn < count). below)
        (λ (past : count ≤ so_far.turn). absurd (let all : count * (len + 1) ≤ so_far.turn * (len + 1) = mul-le-mul_right (len + 1) past in omega (arith, all, more, bytes, so_far.place)))
        (cases_lt so_far.turn count)

    -- the next one lies within the run
    pub so_far_inside : at < length run → at + len < length run
    so_far_inside more = omega (arith, line_inside count so_far.turn (len + 1) (below_count more), bytes, so_far.place)

    pub so_far_more : at < length run → slice_index run (at + len) ≡ 10 → IsNamedAt names run at label → AreSoFar names run count len label (at + (len + 1))
    so_far_more more end named = record {
      turn = so_far.turn + 1;
      place = omega (arith, so_far.place);
      few = omega (arith, below_count more);
      named = λ i less. ⊎_elim
          (λ (before : i < so_far.turn). so_far.named i before)
          (λ (here : so_far.turn ≤ i).
          let last : so_far.turn ≡ i = omega (arith, less, here) in
          let place : at ≡ i * (len + 1) = so_far.place ∙ ap (λ (n : ℕ). n * (len + 1)) last in
          (ap (λ (n : ℕ). slice_index run (n + len)) (sym place) ∙ end, subst (λ (n : ℕ). IsNamedAt names run n label) place named))
          (cases_lt i so_far.turn);
    }

    -- all do
    pub so_far_all : length run ≤ at → (i : ℕ) → i < count → (slice_index run (i * (len + 1) + len) ≡ 10) × IsNamedAt names run (i * (len + 1)) label
    so_far_all all i less = so_far.named i
        (⊎_elim
        (λ (below : i < so_far.turn). below)
        (λ (most : so_far.turn ≤ i). absurd (let inside : i * (len + 1) + (len + 1) ≤ count * (len + 1) = line_inside count i (len + 1) less in let before : so_far.turn * (len + 1) ≤ i * (len + 1) = mul-le-mul_right (len + 1) most in omega (arith, all, bytes, so_far.place, inside, before)))
        (cases_lt i so_far.turn))

-- ---- lines at the start of a text, known by their shape

pub first_none : (names : List (List ℕ)) (text : List ℕ) → AreFirst names text 0 0
first_none names text = record { within = omega arith; run = no_lines; fine = subst (All (IsOfTenant names)) (sym lines_of_nothing) (λ i d within. absurd (omega (arith, within))) }

module _ (names : List (List ℕ)) (text : List ℕ) (count bytes len label : ℕ) (first : AreFirst names text count bytes) (within : bytes + len < length text) (some : 0 < label) (item : label + 3 ≤ len)
    (end : slice_index text (bytes + len) ≡ 10) (plain : (i : ℕ) → bytes ≤ i → i < bytes + len → slice_index text i ≢ 10) (named : IsNamedAt names text bytes label)
  where
    abbrev front : List ℕ
    front = take bytes text

    abbrev next : List ℕ
    next = slice_range text bytes (bytes + len)

    next_size : length next ≡ len
    next_size = omega (arith, range_size text bytes (bytes + len) (omega arith) (omega (arith, within)))

    next_is : next ≡ take len (drop bytes text)
    next_is = let size : (bytes + len) - bytes ≡ len = omega arith in ap (λ (n : ℕ). take n (drop bytes text)) size

    no_lf : HasNoLf next
    no_lf i d inside is =
        let less : i < len = omega (arith, inside, next_size) in
        let there : get_or next i d ≡ slice_index text (bytes + i) =
        ap (λ (l : List ℕ). get_or l i d) next_is ∙ get_or-take len (drop bytes text) i d less ∙ get_or-drop bytes text i d ∙ get_or_default text (bytes + i) d 0 (omega (arith, less, within)) in
        plain (bytes + i) (omega arith) (omega (arith, less)) (sym there ∙ is)

    abbrev ended : List ℕ
    ended = next ++ 10 ∷ []

    grown : take (bytes + (len + 1)) text ≡ front ++ ended
    grown =
        let inside : len < length (drop bytes text) = omega (arith, length-drop bytes text, within) in
        let lf : get_or (drop bytes text) len 0 ≡ 10 = get_or-drop bytes text len 0 ∙ end in
        take-add bytes (len + 1) text ∙ ap (λ (l : List ℕ). front ++ l) (take_more (drop bytes text) len 0 inside ∙ ap (λ (b : ℕ). take len (drop bytes text) ++ b ∷ []) lf ∙ ap (λ (l : List ℕ). l ++ 10 ∷ []) (sym next_is))

    one : IsRun 1 ended
    one = record { whole = inr (next, refl); count = ap length (a_line_alone next no_lf) }

    pub first_more : AreFirst names text (count + 1) (bytes + (len + 1))
    first_more = record {
      within = omega (arith, within);
      run = subst (IsRun (count + 1)) (sym grown) (run_more count 1 front ended first.run one);
      fine = subst (λ (l : List ℕ). All (IsOfTenant names) (lines_of l)) (sym grown)
          (subst (All (IsOfTenant names)) (sym (after_whole_lines front ended first.run.whole ∙ ap (λ (ls : List (List ℕ)). lines_of front ++ ls) (a_line_alone next no_lf)))
          (All-push (IsOfTenant names) (lines_of front) (strip_carriage_return next) first.fine
          (line_of_tenant names text bytes len label (omega (arith, within)) some item named)));
    }

-- ---- lines of one length at the start of a text

even_ends : (text : List ℕ) (count bytes len : ℕ) → bytes ≡ count * (len + 1) → EndEach count len text → slice_index text (bytes + len) ≡ 10 → EndEach (count + 1) len text
even_ends text count bytes len size ends end i less = ⊎_elim
    (λ (before : i < count). ends i before)
    (λ (here : count ≤ i).
    let last : i ≡ count = omega (arith, less, here) in
    let place : i * (len + 1) + len ≡ bytes + len = ap (λ (n : ℕ). n * (len + 1) + len) last ∙ ap (λ (n : ℕ). n + len) (sym size) in
    ap (slice_index text) place ∙ end)
    (cases_lt i count)

-- as few as have room in a number of bytes
few_in : (count most len bytes : ℕ) → bytes ≡ count * (len + 1) → bytes ≤ most * (len + 1) → count ≤ most
few_in count most len bytes size room = ⊎_elim
    (λ (more : most < count). absurd (omega (arith, line_inside count most (len + 1) more, size, room)))
    (λ (few : count ≤ most). few)
    (cases_lt most count)

module _ (names : List (List ℕ)) (text : List ℕ) (most len : ℕ) where
  pub none_up_to : AreUpTo names text most len 0
  none_up_to = record { count = 0; size = omega arith; room = omega arith; first = first_none names text; ends = λ i less. absurd (omega (arith, less)) }

  module _ (bytes : ℕ) (up : AreUpTo names text most len bytes) where
    pub one_more_up_to : (label : ℕ) → bytes + len < length text → bytes + (len + 1) ≤ most * (len + 1) → 0 < label → label + 3 ≤ len → slice_index text (bytes + len) ≡ 10
        → ((i : ℕ) → bytes ≤ i → i < bytes + len → slice_index text i ≢ 10) → IsNamedAt names text bytes label → AreUpTo names text most len (bytes + (len + 1))
    one_more_up_to label within room some item end plain named = record {
      count = up.count + 1;
      size = omega (arith, up.size);
      room = room;
      first = first_more names text up.count bytes len label up.first within some item end plain named;
      ends = even_ends text up.count bytes len up.size up.ends end;
    }

    counted : bytes / (len + 1) ≡ up.count
    counted = ap (λ (n : ℕ). n / (len + 1)) up.size ∙ mul-div_cancel up.count (omega arith)

    pub few_up_to : bytes / (len + 1) ≤ most
    few_up_to = subst (λ (n : ℕ). n ≤ most) (sym counted) (few_in up.count most len bytes up.size up.room)

    pub first_up_to : AreFirst names text (bytes / (len + 1)) bytes
    first_up_to = subst (λ (n : ℕ). AreFirst names text n bytes) (sym counted) up.first

    pub even_up_to : HaveOneLength text (record { count = bytes / (len + 1); bytes = bytes; len = len })
    even_up_to = record {
      size = up.size ∙ ap (λ (n : ℕ). n * (len + 1)) (sym counted);
      ends = subst (λ (n : ℕ). EndEach n len text) (sym counted) up.ends;
    }

-- a line of a text, and as long ones after it
module _ (front run : List ℕ) (count len : ℕ) (one : IsRun 1 front) (long : length front ≡ len + 1) (size : length run ≡ count * (len + 1)) (ends : EndEach count len run) where
  front_end : slice_index front len ≡ 10
  front_end = ⊎_elim
      (λ none. absurd (omega (arith, long, ap length none)))
      (λ ended.
      let at : length ended.0 ≡ len = omega (arith, long, ap length ended.1, length-append ended.0 (10 ∷ [])) in
      ap (λ (l : List ℕ). slice_index l len) ended.1 ∙ get_or_at ended.0 10 [] 0 len at)
      one.whole

  both_ends : EndEach (1 + count) len (front ++ run)
  both_ends zero less =
      let place : zero * (len + 1) + len ≡ len = omega arith in
      ap (slice_index (front ++ run)) place ∙ get_or_append_left front run 0 len (omega (arith, long)) ∙ front_end
  both_ends (suc j) less =
      let at : ℕ = j * (len + 1) + len in
      let place : suc j * (len + 1) + len ≡ (len + 1) + at = omega arith in
      ap (slice_index (front ++ run)) (place ∙ ap (λ (n : ℕ). n + at) (sym long)) ∙ get_or-append-add front run at 0 ∙ ends j (omega (arith, less))

  pub even_page : IsEven (len + 1) (1 + count) (front ++ run)
  even_page =
      let same : len + 1 - 1 ≡ len = omega arith in
      record {
        bytes = λ _. omega (arith, length-append front run, long, size);
        ends = λ _. subst (λ (n : ℕ). EndEach (1 + count) n (front ++ run)) (sym same) both_ends;
      }
