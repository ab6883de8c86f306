-- How a text is read into records, byte by byte.
use Rattle.std.proofs.Common.{◌≡◌, ◌⊎◌, ℕ, zero, suc, ◌+◌, ◌-◌, ◌<◌, ◌≤◌, Bool, true, false, List, [], ◌∷◌, ◌++◌, length, Option, Some, None, unwrap_or, refl, sym, ap, ◌∙◌, subst, inl, inr, arith}
use Rattle.std.proofs.lemmas.Bool.{false≢true}
use Rattle.csv.specs.Machine.{Read, next_record, step, is_end, ends_at_end, fields_after, field_after}
use Rattle.csv.specs.Reading.{default_config, records, records_from, records_next}
use Rattle.csv.specs.declared.parser.State.{State}
use Rattle.csv.specs.declared.parser.State.TheVariants as st
use Rattle.csv.specs.declared.parser.Action.{Action}
use Rattle.sk_read.specs.Scan.{IsEnd, settled, is_inside, state_after, StaysInside}
use Rattle.sk_read.specs.Records.{Row}
use Rattle.sk_read.specs.Runs.{run}
use Rattle.sk_read.proofs.Steps.{after_cr, not_both, ends_between, stays_inside, between_goes_on, end_is_skipped, between_ends_none}

some_is : {A : Type 0} (x y : A) → Some x ≡ Some y → x ≡ y
some_is x y same = ap (λ (o : Option _). unwrap_or o x) same

-- how a record is read: the end of the text ends it, or a byte, or it continues after a byte
read_by : (P : State → Row → List ℕ → List ℕ → Read → Type 0) →
    ((s : State) (fields : Row) (field : List ℕ) → ends_at_end s ≡ true → P s fields field [] (fields ++ (field ∷ []), st.StartRecord, [])) →
    ((s : State) (fields : Row) (field : List ℕ) (c : ℕ) (rest : List ℕ) → is_end (step default_config s c).1 ≡ true →
    P s fields field (c ∷ rest) (fields_after (step default_config s c).1 fields field, (step default_config s c).0, rest)) →
    ((s : State) (fields : Row) (field : List ℕ) (c : ℕ) (rest : List ℕ) (p : Read) → is_end (step default_config s c).1 ≡ false →
    P (step default_config s c).0 (fields_after (step default_config s c).1 fields field) (field_after (step default_config s c).1 c field) rest p → P s fields field (c ∷ rest) p) →
    (s : State) (fields : Row) (field xs : List ℕ) (p : Read) → next_record default_config s fields field xs ≡ Some p → P s fields field xs p
unfolding next_record
read_by P ends ended goes s fields field [] p e = by (ends_at_end s) refl
  where
    by : (b : Bool) → ends_at_end s ≡ b → P s fields field [] p
    by true t = subst (P s fields field []) (some_is (fields ++ (field ∷ []), st.StartRecord, []) p (rw t at e)) (ends s fields field t)
    by false t = cc (rw t at e)
read_by P ends ended goes s fields field (c ∷ rest) p e =
    by (is_end (step default_config s c).1) refl
    (read_by P ends ended goes (step default_config s c).0 (fields_after (step default_config s c).1 fields field) (field_after (step default_config s c).1 c field) rest p)
  where
    by : (b : Bool) → is_end (step default_config s c).1 ≡ b →
        (next_record default_config (step default_config s c).0 (fields_after (step default_config s c).1 fields field) (field_after (step default_config s c).1 c field) rest ≡ Some p →
        P (step default_config s c).0 (fields_after (step default_config s c).1 fields field) (field_after (step default_config s c).1 c field) rest p) → P s fields field (c ∷ rest) p
    by true t again = subst (P s fields field (c ∷ rest)) (some_is (fields_after (step default_config s c).1 fields field, (step default_config s c).0, rest) p (rw t at e)) (ended s fields field c rest t)
    by false t again = goes s fields field c rest p t (again (rw t at e))

-- one record read is the first of a run
pub read_is : (s : State) (fields : Row) (field xs : List ℕ) (p : Read) → next_record default_config s fields field xs ≡ Some p →
    run s fields field xs ≡ p.0 ∷ run p.1 [] [] p.2
unfolding run
read_is = read_by (λ s fields field xs p. run s fields field xs ≡ p.0 ∷ run p.1 [] [] p.2) (λ s fields field t. rw t refl) (λ s fields field c rest t. rw t refl) (λ s fields field c rest p t again. rw t again)

pub none_is : (s : State) (fields : Row) (field xs : List ℕ) → next_record default_config s fields field xs ≡ None → run s fields field xs ≡ []
unfolding next_record run
none_is s fields field [] e = by (ends_at_end s) refl
  where
    by : (b : Bool) → ends_at_end s ≡ b → run s fields field [] ≡ []
    by true t = cc (rw t at e)
    by false t = rw t refl
none_is s fields field (c ∷ rest) e =
    by (is_end (step default_config s c).1) refl
    (none_is (step default_config s c).0 (fields_after (step default_config s c).1 fields field) (field_after (step default_config s c).1 c field) rest)
  where
    by : (b : Bool) → is_end (step default_config s c).1 ≡ b →
        (next_record default_config (step default_config s c).0 (fields_after (step default_config s c).1 fields field) (field_after (step default_config s c).1 c field) rest ≡ None →
        run (step default_config s c).0 (fields_after (step default_config s c).1 fields field) (field_after (step default_config s c).1 c field) rest ≡ []) →
        run s fields field (c ∷ rest) ≡ []
    by true t again = cc (rw t at e)
    by false t again = rw t (again (rw t at e))

-- a record that was read takes a byte, if there is one
shorter : (s : State) (fields : Row) (field xs : List ℕ) (p : Read) → next_record default_config s fields field xs ≡ Some p → length p.2 ≤ length xs - 1
shorter = read_by (λ s fields field xs p. length p.2 ≤ length xs - 1) (λ s fields field t. omega arith) (λ s fields field c rest t. omega arith) (λ s fields field c rest p t again. omega (arith, again))

-- after a record it stands between two
pub read_between : (s : State) (fields : Row) (field xs : List ℕ) (p : Read) → next_record default_config s fields field xs ≡ Some p → settled p.1 ≡ st.StartRecord
read_between = read_by (λ s fields field xs p. settled p.1 ≡ st.StartRecord) (λ s fields field t. refl) (λ s fields field c rest t. ends_between s c t) (λ s fields field c rest p t again. again)

-- a record that was read between two takes a byte
pub takes_some : (s : State) (xs : List ℕ) (p : Read) → settled s ≡ st.StartRecord → next_record default_config s [] [] xs ≡ Some p → length p.2 < length xs
unfolding next_record
takes_some s [] p between e = cc (rw (between_ends_none s between) at e)
takes_some s (c ∷ rest) p between e = omega (arith, shorter s [] [] (c ∷ rest) p e)

-- after the end of a text there is nothing
nothing_left : (n : ℕ) → records_from default_config n st.StartRecord [] ≡ []
unfolding records_from next_record
nothing_left zero = refl
nothing_left (suc n) = refl

-- after a record that the end of a text ended it stands between two
at_end_is : (s : State) (fields : Row) (field : List ℕ) (p : Read) → next_record default_config s fields field [] ≡ Some p → (p.1 ≡ st.StartRecord) × (p.2 ≡ [])
unfolding next_record
at_end_is s fields field p e = by (ends_at_end s) refl
  where
    by : (b : Bool) → ends_at_end s ≡ b → (p.1 ≡ st.StartRecord) × (p.2 ≡ [])
    by true t =
        let q : (fields ++ (field ∷ []), st.StartRecord, []) ≡ p = some_is _ p (rw t at e) in
        subst (λ (r : Read). (r.1 ≡ st.StartRecord) × (r.2 ≡ [])) q (refl, refl)
    by false t = cc (rw t at e)

-- csv's records are those of a run
records_are_from : (n : ℕ) (s : State) (xs : List ℕ) → length xs < n → records_from default_config n s xs ≡ run s [] [] xs
unfolding records_from run
records_are_from zero s xs less = absurd (omega arith)
records_are_from (suc n) s xs less = by (next_record default_config s [] [] xs) refl (records_are_from n)
  where
    rest_is : (xs : List ℕ) (p : Read) → next_record default_config s [] [] xs ≡ Some p → length xs < suc n →
        ((s : State) (xs : List ℕ) → length xs < n → records_from default_config n s xs ≡ run s [] [] xs) → records_from default_config n p.1 p.2 ≡ run p.1 [] [] p.2
    rest_is [] p e less again =
        let over = at_end_is s [] [] p e in
        rw (over.0, over.1) (nothing_left n)
    rest_is (c ∷ rest) p e less again =
        let fewer = shorter s [] [] (c ∷ rest) p e in
        again p.1 p.2 (omega (arith, fewer))

    by : (o : Option Read) → next_record default_config s [] [] xs ≡ o →
        ((s : State) (xs : List ℕ) → length xs < n → records_from default_config n s xs ≡ run s [] [] xs) →
        records_next (records_from default_config n) (next_record default_config s [] [] xs) ≡ run s [] [] xs
    by None e again = rw e (sym (none_is s [] [] xs e))
    by (Some p) e again = rw e (ap (λ (l : List Row). p.0 ∷ l) (rest_is xs p e less again) ∙ sym (read_is s [] [] xs p e))

pub records_are : (xs : List ℕ) → records default_config xs ≡ run st.StartRecord [] [] xs
records_are xs = records_are_from (length xs + 1) st.StartRecord xs (omega arith)

-- inside a record, or between two with no field at hand
abbrev IsTidy : State → Row → List ℕ → Type 0
IsTidy s fields field = (is_inside s ≡ true) ⊎ ((settled s ≡ st.StartRecord) × (fields ≡ []) × (field ≡ []))

-- a byte that ends no record
tidy_step : (s : State) (c : ℕ) (fields : Row) (field : List ℕ) → IsTidy s fields field → is_end (step default_config s c).1 ≡ false →
    IsTidy (step default_config s c).0 (fields_after (step default_config s c).1 fields field) (field_after (step default_config s c).1 c field)
tidy_step s c fields field (inl inside) going = inl (stays_inside s c inside going)
tidy_step s c fields field (inr between) going = elim (between_goes_on s c between.0) [
  | inl begins ↦ inl begins.1
  | inr skips ↦ inr (rw skips.1 (refl, between.1, between.2))
]

-- between two records all states continue alike
pub between_alike : (s : State) (xs : List ℕ) → settled s ≡ st.StartRecord → run s [] [] xs ≡ run st.StartRecord [] [] xs
unfolding run
between_alike st.StartRecord xs between = refl
between_alike st.AfterCr [] between = refl
between_alike st.AfterCr (c ∷ rest) between = rw (after_cr c) refl
between_alike s xs between = cc

run_none : (s : State) → settled s ≡ st.StartRecord → run s [] [] [] ≡ []
unfolding run
run_none s between = rw (between_ends_none s between) refl

-- a text in two, cut between two records
run_append_from : (s : State) (fields : Row) (field xs later : List ℕ) → IsTidy s fields field → state_after s xs ≡ st.StartRecord →
    run s fields field (xs ++ later) ≡ run s fields field xs ++ run st.StartRecord [] [] later
unfolding run state_after
run_append_from s fields field [] later (inl inside) between = absurd (not_both s inside between)
run_append_from s fields field [] later (inr tidy) between =
    rw (tidy.1, tidy.2) (between_alike s later between ∙ ap (λ (l : List Row). l ++ run st.StartRecord [] [] later) (sym (run_none s between)))
run_append_from s fields field (c ∷ rest) later tidy between =
    by (is_end (step default_config s c).1) refl
    (λ fields field tidy. run_append_from (step default_config s c).0 fields field rest later tidy between)
  where
    by : (b : Bool) → is_end (step default_config s c).1 ≡ b →
        ((fields : Row) (field : List ℕ) → IsTidy (step default_config s c).0 fields field →
        run (step default_config s c).0 fields field (rest ++ later) ≡ run (step default_config s c).0 fields field rest ++ run st.StartRecord [] [] later) →
        run s fields field (c ∷ rest ++ later) ≡ run s fields field (c ∷ rest) ++ run st.StartRecord [] [] later
    by true t again =
        let more = again [] [] (inr (ends_between s c t, refl, refl)) in
        rw t (ap (λ (l : List Row). fields_after (step default_config s c).1 fields field ∷ l) more)
    by false t again =
        let more = again (fields_after (step default_config s c).1 fields field) (field_after (step default_config s c).1 c field) (tidy_step s c fields field tidy t) in
        rw t more

pub records_append : (xs later : List ℕ) → state_after st.StartRecord xs ≡ st.StartRecord →
    records default_config (xs ++ later) ≡ records default_config xs ++ records default_config later
records_append xs later between =
    rw (records_are (xs ++ later), records_are xs, records_are later) (run_append_from st.StartRecord [] [] xs later (inr (refl, refl, refl)) between)

-- a byte that ends a record, at the start of a text
pub records_led : (c : ℕ) (xs : List ℕ) → IsEnd c → records default_config (c ∷ xs) ≡ records default_config xs
unfolding run
records_led c xs end = rw (records_are (c ∷ xs), records_are xs, end_is_skipped c end) refl

-- a record that has not ended is one
open_one : (s : State) (fields : Row) (field back : List ℕ) → is_inside s ≡ true → StaysInside s back → (row : Row) × (run s fields field (back ++ 120 ∷ []) ≡ row ∷ [])
unfolding run StaysInside
open_one st.StartField fields field [] inside stays = (fields ++ (field ++ 120 ∷ []) ∷ [], refl)
open_one st.InField fields field [] inside stays = (fields ++ (field ++ 120 ∷ []) ∷ [], refl)
open_one st.InQuoted fields field [] inside stays = (fields ++ (field ++ 120 ∷ []) ∷ [], refl)
open_one st.AfterQuote fields field [] inside stays = (fields ++ (field ++ 120 ∷ []) ∷ [], refl)
open_one s fields field [] inside stays = absurd (false≢true inside)
open_one s fields field (c ∷ rest) inside stays =
    by (is_end (step default_config s c).1) refl
    (open_one (step default_config s c).0 (fields_after (step default_config s c).1 fields field) (field_after (step default_config s c).1 c field) rest stays.0 stays.1)
  where
    by : (b : Bool) → is_end (step default_config s c).1 ≡ b →
        (row : Row) × (run (step default_config s c).0 (fields_after (step default_config s c).1 fields field) (field_after (step default_config s c).1 c field) (rest ++ 120 ∷ []) ≡ row ∷ []) →
        (row : Row) × (run s fields field (c ∷ rest ++ 120 ∷ []) ≡ row ∷ [])
    by true t more = absurd (not_both (step default_config s c).0 stays.0 (ends_between s c t))
    by false t more = rw t more

open_from_start : (back : List ℕ) → StaysInside st.StartRecord back → (row : Row) × (run st.StartRecord [] [] (back ++ 120 ∷ []) ≡ row ∷ [])
unfolding run StaysInside
open_from_start [] stays = ((120 ∷ []) ∷ [], refl)
open_from_start (c ∷ rest) stays = elim (between_goes_on st.StartRecord c refl) [
  | inl begins ↦
      let more = open_one (step default_config st.StartRecord c).0 (fields_after (step default_config st.StartRecord c).1 [] []) (field_after (step default_config st.StartRecord c).1 c []) rest stays.0 stays.1 in
      (more.0, rw begins.0 more.1)
  | inr skips ↦ absurd (false≢true (ap (λ (p : State × Action). is_inside p.0) (sym skips.1) ∙ stays.0))
]

pub open_is_one : (back : List ℕ) → StaysInside st.StartRecord back → (row : Row) × (records default_config (back ++ 120 ∷ []) ≡ row ∷ [])
open_is_one back stays = rw (records_are (back ++ 120 ∷ [])) (open_from_start back stays)

-- how many bytes the end of a text counts for
abbrev at_end_count : Bool → ℕ
at_end_count true = 1
at_end_count false = 0

-- each record takes a byte
run_few : (s : State) (fields : Row) (field xs : List ℕ) → length (run s fields field xs) ≤ length xs + at_end_count (ends_at_end s)
unfolding run
run_few s fields field [] = by (ends_at_end s) refl
  where
    by : (b : Bool) → ends_at_end s ≡ b → length (run s fields field []) ≤ 0 + at_end_count (ends_at_end s)
    by true t = rw t (omega arith)
    by false t = rw t (omega arith)
run_few s fields field (c ∷ rest) =
    by (is_end (step default_config s c).1) refl (λ fields field. run_few (step default_config s c).0 fields field rest)
  where
    at_most_one : (b : Bool) → at_end_count b ≤ 1
    at_most_one true = omega arith
    at_most_one false = omega arith

    by : (b : Bool) → is_end (step default_config s c).1 ≡ b →
        ((fields : Row) (field : List ℕ) → length (run (step default_config s c).0 fields field rest) ≤ length rest + at_end_count (ends_at_end (step default_config s c).0)) →
        length (run s fields field (c ∷ rest)) ≤ length (c ∷ rest) + at_end_count (ends_at_end s)
    by true t again =
        let few = rw (between_ends_none (step default_config s c).0 (ends_between s c t)) at (again [] []) in
        rw t (omega (arith, few))
    by false t again =
        let few = again (fields_after (step default_config s c).1 fields field) (field_after (step default_config s c).1 c field) in
        rw t (omega (arith, few, at_most_one (ends_at_end (step default_config s c).0)))

pub records_few : (xs : List ℕ) → length (records default_config xs) ≤ length xs
records_few xs = rw (records_are xs) (omega (arith, run_few st.StartRecord [] [] xs))
