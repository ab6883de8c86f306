-- `count` decides of a text: one estimate is due for it, or it is refused in one way.
use Rattle.std.proofs.Common.{◌≡◌, ◌≢◌, ◌⊎◌, inl, inr, ℕ, zero, suc, ◌+◌, ◌-◌, ◌<◌, ◌≤◌, if◌then◌else◌, List, [], ◌∷◌, ◌++◌, length, take, get_or, All, IsSome, IsNone, Option, Some, None, is_some, refl, sym, ap, ◌∙◌, subst, arith, length-take}
use Rattle.std.proofs.lemmas.Bool.{cases_lt, false≢true}
use Rattle.std.proofs.lemmas.List.{get_or-take, take-map, length-map}
use Rattle.sk_model.specs.Limits.{line_limit}
use Rattle.sk_model.specs.Lines.{lines_of, AreWithin}
use Rattle.sk_read.specs.Items.{item_of, IsGood}
use Rattle.sk_read.specs.Records.{Row, records_of, fields_in, field_of, width_of, AreEven}
use Rattle.sk_read.specs.Units.{units_by, units_of, IsSound, IsSoundUpTo, IsLongBehind, IsUnevenBehind}
use Rattle.sk_read.specs.declared.kind.Kind.{Kind}
use Rattle.sk_read.specs.declared.units.Units.{Units}
use Rattle.sk_read.specs.declared.units.Units.TheVariants.{Lines, Column}
use Rattle.sk_cli.specs.Behaviour.{IsDecided, WritesOneText}
use Rattle.sk_count.specs.Counts.{Course}
use Rattle.sk_count.specs.Moments.{Moment}
use Rattle.sk_count.specs.Texts.{interim_by, last_lines}
use Rattle.sk_cli.specs.Fault.{bad_unit}
use Rattle.sk_cli.specs.Lines.{lines_before}
use Rattle.sk_cli.specs.Readable.{IsReadable, IsRefusedBy}
use Rattle.sk_cli.specs.commands.Count.{counted, counting}
use Rattle.sk_count.specs.declared.plan.Plan.{Plan}
use Rattle.sk_cli.specs.declared.fault.Fault.{Fault}
use Rattle.sk_cli.specs.declared.fault.Fault.TheVariants as fault

-- ---- what is asked of one unit

-- the record of a unit has as many fields as the first, and the column
abbrev IsEvenAt : Units → List ℕ → ℕ → Type 0
IsEvenAt Lines text i = Unit {0}
IsEvenAt (Column c) text i = (length (get_or (records_of text) i []) ≡ width_of (records_of text)) × (c < length (get_or (records_of text) i []))

abbrev unit_at : Units → List ℕ → ℕ → List ℕ
unit_at u text i = get_or (units_of u text) i []

record IsFine (kind : Kind) (u : Units) (text : List ℕ) (i : ℕ) : Type 0 where
  even : IsEvenAt u text i
  within : length (unit_at u text i) ≤ line_limit
  good : IsGood kind (unit_at u text i)

-- what is wrong with one unit: 0 its record, 1 its length, 2 that it is no item
abbrev IsWrong : ℕ → Kind → Units → List ℕ → ℕ → Type 0
IsWrong zero kind u text i = ¬ IsEvenAt u text i
IsWrong (suc zero) kind u text i = IsEvenAt u text i × ¬ (length (unit_at u text i) ≤ line_limit)
IsWrong (suc (suc more)) kind u text i = IsEvenAt u text i × (length (unit_at u text i) ≤ line_limit) × ¬ IsGood kind (unit_at u text i)

abbrev fault_at : ℕ → ℕ → ℕ → Fault
fault_at column zero n = fault.BadCsv n
fault_at column (suc zero) n = fault.LongLine n
fault_at column (suc (suc more)) n = bad_unit column n

-- the first unit that is not fine, and why
record Breaks (kind : Kind) (column : ℕ) (u : Units) (text : List ℕ) (f : Fault) : Type 0 where
  place : ℕ
  why : ℕ
  low : why ≤ 2
  there : place < length (units_of u text)
  before : (i : ℕ) → i < place → IsFine kind u text i
  wrong : IsWrong why kind u text place
  is : f ≡ fault_at column why (place + 1)

fine_or_wrong : (why : ℕ) (kind : Kind) (u : Units) (text : List ℕ) (i : ℕ) → IsFine kind u text i → IsWrong why kind u text i → ⊥
fine_or_wrong zero kind u text i fine wrong = wrong fine.even
fine_or_wrong (suc zero) kind u text i fine wrong = wrong.1 fine.within
fine_or_wrong (suc (suc more)) kind u text i fine wrong = wrong.2 fine.good

one_why : (why other : ℕ) (kind : Kind) (u : Units) (text : List ℕ) (i : ℕ) → why ≤ 2 → other ≤ 2 → IsWrong why kind u text i → IsWrong other kind u text i → why ≡ other
one_why zero zero kind u text i low least one two = refl
one_why zero (suc zero) kind u text i low least one two = absurd (one two.0)
one_why zero (suc (suc m)) kind u text i low least one two = absurd (one two.0)
one_why (suc zero) zero kind u text i low least one two = absurd (two one.0)
one_why (suc zero) (suc zero) kind u text i low least one two = refl
one_why (suc zero) (suc (suc m)) kind u text i low least one two = absurd (one.1 two.1)
one_why (suc (suc n)) zero kind u text i low least one two = absurd (two one.0)
one_why (suc (suc n)) (suc zero) kind u text i low least one two = absurd (two.1 one.1)
one_why (suc (suc n)) (suc (suc m)) kind u text i low least one two = omega (arith, low, least)

breaks_once : (kind : Kind) (column : ℕ) (u : Units) (text : List ℕ) (f g : Fault) → Breaks kind column u text f → Breaks kind column u text g → f ≡ g
breaks_once kind column u text f g one two =
    let same : one.place ≡ two.place = order (cases_lt one.place two.place) (cases_lt two.place one.place) in
    let why : one.why ≡ two.why = one_why one.why two.why kind u text two.place one.low two.low (subst (IsWrong one.why kind u text) same one.wrong) two.wrong in
    one.is ∙ ap (λ (p : ℕ). fault_at column one.why (p + 1)) same ∙ ap (λ (w : ℕ). fault_at column w (two.place + 1)) why ∙ sym two.is
  where
    order : (one.place < two.place) ⊎ (two.place ≤ one.place) → (two.place < one.place) ⊎ (one.place ≤ two.place) → one.place ≡ two.place
    order (inl less) other = absurd (fine_or_wrong one.why kind u text one.place (two.before one.place less) one.wrong)
    order (inr most) (inl less) = absurd (fine_or_wrong two.why kind u text two.place (one.before two.place less) two.wrong)
    order (inr most) (inr least) = omega (arith, most, least)

-- ---- what the definitions say of one unit

-- one of the first records, and the width that they have
even_in : (c n : ℕ) (records : List Row) (i : ℕ) → AreEven c (take n records) → i < n → i < length records → (length (get_or records i []) ≡ width_of records) × (c < length (get_or records i []))
even_in c n records i even near there =
    let here : get_or (take n records) i [] ≡ get_or records i [] = get_or-take n records i [] near in
    let first : get_or (take n records) 0 [] ≡ get_or records 0 [] = get_or-take n records 0 [] (omega (arith, near)) in
    let both = even i [] (omega (arith, length-take n records, near, there)) in
    (ap (λ (r : Row). length r) (sym here) ∙ both.0 ∙ ap (λ (r : Row). length r) first, subst (λ (r : Row). c < length r) here both.1)

within_in : (n : ℕ) (units : List (List ℕ)) (i : ℕ) → AreWithin line_limit (take n units) → i < n → i < length units → length (get_or units i []) ≤ line_limit
within_in n units i within near there =
    subst (λ (l : List ℕ). length l ≤ line_limit) (get_or-take n units i [] near) (within i [] (omega (arith, length-take n units, near, there)))

good_in : (kind : Kind) (n : ℕ) (units : List (List ℕ)) (i : ℕ) → All (IsGood kind) (take n units) → i < n → i < length units → IsGood kind (get_or units i [])
good_in kind n units i good near there =
    subst (IsGood kind) (get_or-take n units i [] near) (good i [] (omega (arith, length-take n units, near, there)))

rows_there : (c : ℕ) (records : List Row) → length (fields_in c records) ≡ length records
rows_there c records = length-map records (field_of c)

fields_taken : (c n : ℕ) (records : List Row) → AreWithin line_limit (fields_in c (take n records)) → AreWithin line_limit (take n (fields_in c records))
fields_taken c n records within = subst (AreWithin line_limit) (sym (take-map (field_of c) n records)) within

-- the first units are sound
sound_even : (u : Units) (n : ℕ) (text : List ℕ) (i : ℕ) → IsSoundUpTo u n text → i < n → i < length (units_of u text) → IsEvenAt u text i
sound_even Lines n text i sound near there = tt
sound_even (Column c) n text i sound near there = even_in c n (records_of text) i sound.even near (omega (arith, there, rows_there c (records_of text)))

sound_within : (u : Units) (n : ℕ) (text : List ℕ) (i : ℕ) → IsSoundUpTo u n text → i < n → i < length (units_of u text) → length (unit_at u text i) ≤ line_limit
sound_within Lines n text i sound near there = within_in n (lines_of text) i sound near there
sound_within (Column c) n text i sound near there = within_in n (fields_in c (records_of text)) i (fields_taken c n (records_of text) sound.within) near there

-- all units are
all_even : (u : Units) (text : List ℕ) (i : ℕ) → IsSound u text → i < length (units_of u text) → IsEvenAt u text i
all_even Lines text i sound there = tt
all_even (Column c) text i sound there = sound.even i [] (omega (arith, there, rows_there c (records_of text)))

all_within : (u : Units) (text : List ℕ) (i : ℕ) → IsSound u text → i < length (units_of u text) → length (unit_at u text i) ≤ line_limit
all_within Lines text i sound there = sound i [] there
all_within (Column c) text i sound there = sound.within i [] there

none_or_some : (o : Option ℕ) → IsNone o → IsSome o → ⊥
none_or_some None none some = absurd (false≢true some)
none_or_some (Some x) none some = absurd (false≢true (sym none))

-- ---- a refusal, as the first unit that is not fine

module _ (kind : Kind) (column : ℕ) where
  long_breaks : (u : Units) (text : List ℕ) (n : ℕ) → 1 ≤ n → All (IsGood kind) (take (n - 1) (units_of u text)) → IsLongBehind u (n - 1) text → Breaks kind column u text (fault.LongLine n)
  long_breaks Lines text n from good long = record {
    place = n - 1;
    why = 1;
    low = omega arith;
    there = long.0;
    before = λ i near. record {
      even = tt;
      within = within_in (n - 1) (lines_of text) i long.1 near (omega (arith, near, long.0));
      good = good_in kind (n - 1) (lines_of text) i good near (omega (arith, near, long.0));
    };
    wrong = (tt, λ short. absurd (omega (arith, short, long.2)));
    is = ap (λ (m : ℕ). fault.LongLine m) (omega (arith, from));
  }
  long_breaks (Column c) text n from good long = record {
    place = n - 1;
    why = 1;
    low = omega arith;
    there = long.1.0;
    before = λ i near. record {
      even = even_in c ((n - 1) + 1) (records_of text) i long.0 (omega (arith, near)) (omega (arith, near, long.1.0, rows_there c (records_of text)));
      within = within_in (n - 1) (fields_in c (records_of text)) i long.1.1 near (omega (arith, near, long.1.0));
      good = good_in kind (n - 1) (fields_in c (records_of text)) i good near (omega (arith, near, long.1.0));
    };
    wrong = (
      even_in c ((n - 1) + 1) (records_of text) (n - 1) long.0 (omega arith) (omega (arith, long.1.0, rows_there c (records_of text))),
      λ short. absurd (omega (arith, short, long.1.2)),
    );
    is = ap (λ (m : ℕ). fault.LongLine m) (omega (arith, from));
  }

  uneven_breaks : (u : Units) (text : List ℕ) (n : ℕ) → 1 ≤ n → All (IsGood kind) (take (n - 1) (units_of u text)) → IsUnevenBehind u (n - 1) text → Breaks kind column u text (fault.BadCsv n)
  uneven_breaks Lines text n from good uneven = absurd uneven
  uneven_breaks (Column c) text n from good uneven = record {
    place = n - 1;
    why = 0;
    low = omega arith;
    there = omega (arith, uneven.to, rows_there c (records_of text));
    before = λ i near. record {
      even = even_in c (n - 1) (records_of text) i uneven.before.even near (omega (arith, near, uneven.to));
      within = within_in (n - 1) (fields_in c (records_of text)) i (fields_taken c (n - 1) (records_of text) uneven.before.within) near (omega (arith, near, uneven.to, rows_there c (records_of text)));
      good = good_in kind (n - 1) (fields_in c (records_of text)) i good near (omega (arith, near, uneven.to, rows_there c (records_of text)));
    };
    wrong = λ even. differ uneven.uneven even;
    is = ap (λ (m : ℕ). fault.BadCsv m) (omega (arith, from));
  }
    where
      row : Row
      row = get_or (records_of text) (n - 1) []

      differ : (length row ≢ width_of (records_of text)) ⊎ (length row ≤ c) → (length row ≡ width_of (records_of text)) × (c < length row) → ⊥
      differ (inl other) even = other even.0
      differ (inr few) even = absurd (omega (arith, few, even.1))

  bad_breaks : (u : Units) (text : List ℕ) (n : ℕ) (f : Fault) → 1 ≤ n → All (IsGood kind) (take (n - 1) (units_of u text)) → IsSoundUpTo u n text → n ≤ length (units_of u text) → 0 < length (unit_at u text (n - 1)) →
      IsNone (item_of kind (unit_at u text (n - 1))) → f ≡ bad_unit column n → Breaks kind column u text f
  bad_breaks u text n f from good sound to filled bad is = record {
    place = n - 1;
    why = 2;
    low = omega arith;
    there = omega (arith, from, to);
    before = λ i near. record {
      even = sound_even u n text i sound (omega (arith, near)) (omega (arith, near, to));
      within = sound_within u n text i sound (omega (arith, near)) (omega (arith, near, to));
      good = good_in kind (n - 1) (units_of u text) i good near (omega (arith, near, to));
    };
    wrong = (
      sound_even u n text (n - 1) sound (omega (arith, from)) (omega (arith, from, to)),
      sound_within u n text (n - 1) sound (omega (arith, from)) (omega (arith, from, to)),
      λ good. none_or_some (item_of kind (unit_at u text (n - 1))) bad (good filled),
    );
    is = is ∙ ap (λ (m : ℕ). bad_unit column m) (omega (arith, from));
  }

item_is : (column n : ℕ) → column ≡ 0 → fault.BadItem n ≡ bad_unit column n
item_is zero n is = refl
item_is (suc c) n is = absurd (omega (arith, is))

field_is : (column n : ℕ) → 0 < column → fault.BadField n ≡ bad_unit column n
field_is zero n some = absurd (omega (arith, some))
field_is (suc c) n some = refl

breaks : (kind : Kind) (column : ℕ) (f : Fault) (text : List ℕ) → IsRefusedBy kind column f text → Breaks kind column (units_by column) text f
breaks kind column (fault.LongLine n) text is = long_breaks kind column (units_by column) text n is.0.0 is.0.1 is.1
breaks kind column (fault.BadItem n) text is = bad_breaks kind column (units_by column) text n (fault.BadItem n) is.1.before.0 is.1.before.1 is.1.sound is.1.to is.1.filled is.1.bad (item_is column n is.0)
breaks kind column (fault.BadField n) text is = bad_breaks kind column (units_by column) text n (fault.BadField n) is.1.before.0 is.1.before.1 is.1.sound is.1.to is.1.filled is.1.bad (field_is column n is.0)
breaks kind column (fault.BadCsv n) text is = uneven_breaks kind column (units_by column) text n is.0.0 is.0.1 is.1
breaks kind column f text is = absurd is

pub readable_or_refused : (kind : Kind) (column : ℕ) (f : Fault) (text : List ℕ) → IsReadable kind column text → IsRefusedBy kind column f text → ⊥
readable_or_refused kind column f text readable is =
    let first = breaks kind column f text is in
    fine_or_wrong first.why kind (units_by column) text first.place
    (record {
      even = all_even (units_by column) text first.place readable.0 first.there;
      within = all_within (units_by column) text first.place readable.0 first.there;
      good = readable.1 first.place [] first.there;
    }) first.wrong

-- what a text is read into decides how it is refused
pub refused_once : (kind : Kind) (column : ℕ) (f g : Fault) (text : List ℕ) → IsRefusedBy kind column f text → IsRefusedBy kind column g text → f ≡ g
refused_once kind column f g text one two = breaks_once kind column (units_by column) text f g (breaks kind column f text one) (breaks kind column g text two)

pub count_decides : (plan : Plan) → IsDecided (counting plan)
count_decides plan = record {
  refused = λ f g text one two. refused_once plan.kind plan.column f g text one two;
  apart = λ f text one two. readable_or_refused plan.kind plan.column f text one two;
}

-- a list of length 0
pub nothing_in : {A : Type 0} (xs : List A) → length xs ≡ 0 → xs ≡ []
nothing_in [] none = refl
nothing_in (x ∷ xs) none = absurd (omega (arith, none))

-- without a window nobody asks
pub no_moments : (plan : Plan) (units : List (List ℕ)) → plan.window ≡ None → (course : Course plan units) → course.moments ≡ []
no_moments plan units none course = nothing_in course.moments (course.asks.count ∙ ap (λ (w : Option ℕ). if is_some w then length course.windows else 0) none)

-- without a window one text is due
pub one_estimate : (plan : Plan) → plan.window ≡ None → WritesOneText (counting plan)
one_estimate plan none = record {
  due = λ from to to' text due other one two.
      one.is ∙ ap (λ (m : List Moment). interim_by plan from.board m ++ last_lines plan (units_of (counted plan) text)) (same (units_of (counted plan) text) one.course two.course) ∙ sym two.is;
  refused = λ from to to' f text due other one two.
      one.is ∙ ap (λ (m : List Moment). interim_by plan from.board m) (same (lines_before f (units_of (counted plan) text)) one.course two.course) ∙ sym two.is;
}
  where
    same : (units : List (List ℕ)) (one two : Course plan units) → one.moments ≡ two.moments
    same units one two = no_moments plan units none one ∙ sym (no_moments plan units none two)
