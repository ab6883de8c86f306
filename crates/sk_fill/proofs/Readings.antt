-- What is known of a reading that ended, and of a call that went well or failed.
use Rattle.std.proofs.Common.{◌≡◌, ◌≢◌, inl, inr, ℕ, ◌+◌, ◌<◌, ◌≤◌, List, [], ◌∷◌, ◌++◌, length, Option, Result, Ok, Err, OnOk, IfOk, IfErr, IsErrAnd, sym, ap, refl, subst, arith}
use Rattle.std.proofs.lemmas.List.Elements.{All-nil}
use Rattle.sk_read.specs.Reads.{Reads, ReadsAll, ReadsSome, BreaksOff, StopsAt, Ends}
use Rattle.sk_read.specs.declared.fault.Fault.{Fault}
use Rattle.sk_read.specs.declared.fault.Fault.TheVariants as fault
use Rattle.sk_read.specs.declared.units.Units.{Units}
use Rattle.sk_read.specs.Units.{units_of, complete_units_of, IsSoundUpTo, IsLongBehind, IsUnevenBehind}
use Rattle.sk_model.specs.Causes.{HasCauseIn}
use Rattle.sk_model.specs.Missing.{Begins}
use Rattle.sk_model.specs.Lines.{lines_of}
use Rattle.sk_model.specs.Limits.{line_limit}
use Rattle.std.proofs.KnownBytes.{Consumes-nil}
use Rattle.sk_read.specs.declared.units.Units.TheVariants.{Lines, Column}
use Rattle.sk_read.specs.Records.{records_of, complete_records_of, fields_in, AreSoundRows}
use Rattle.sk_read.proofs.Readings.{nothing_read}
use Rattle.sk_read.proofs.PartLaws.{none_complete}
use Rattle.sk_read.proofs.ColumnLaws.{none_sound}

pub if_ok_then : {T E : Type 0} (r : Result T E) (P Q : T → Type 0) → IfOk r P → ((x : T) → P x → Q x) → IfOk r Q
if_ok_then (Ok x) P Q p f = f x p
if_ok_then (Err e) P Q p f = tt

pub if_err_then : {T E : Type 0} (r : Result T E) (P Q : E → Type 0) → IfErr r P → ((e : E) → P e → Q e) → IfErr r Q
if_err_then (Ok x) P Q p f = tt
if_err_then (Err e) P Q p f = f e p

-- ---- readings

pub all_by : (units : Units) (most n : ℕ) (Gave Gave' : List (List ℕ) → Type 0) (old new : Option (List ℕ)) → ((given : List (List ℕ)) → Gave given → Gave' given) → ReadsAll units most n Gave old new → ReadsAll units most n Gave' old new
all_by units most n Gave Gave' old new more all = record { taken = all.taken; consumed = all.consumed; end = all.end; size = all.size; sound = all.sound; number = all.number; gave = more (units_of units all.taken) all.gave }

some_by : (units : Units) (IsSize : ℕ → Type 0) (Gave Gave' : List (List ℕ) → Type 0) (old new : Option (List ℕ)) → ((given : List (List ℕ)) → Gave given → Gave' given) → ReadsSome units IsSize Gave old new → ReadsSome units IsSize Gave' old new
some_by units IsSize Gave Gave' old new more all = record { taken = all.taken; consumed = all.consumed; size = all.size; sound = all.sound; gave = more (complete_units_of units all.taken) all.gave }

breaks_by : {last : ℕ} (units : Units) (most : ℕ) (Known Known' : List (List ℕ) → Type 0) (Comes : List (List ℕ) → List ℕ → Type 0) (old new : Option (List ℕ)) → ((given : List (List ℕ)) → Known given → Known' given) → BreaksOff last units most Known Comes old new → BreaksOff last units most Known' Comes old new
breaks_by units most Known Known' Comes old new more off = record { given = off.given; taken = off.taken; consumed = off.consumed; size = off.size; in_time = off.in_time; known = more off.given off.known; comes = off.comes }

stops_by : {last : ℕ} (units : Units) (most : ℕ) (P Q : List (List ℕ) → List ℕ → Type 0) (old new : Option (List ℕ)) → ((given : List (List ℕ)) (unit : List ℕ) → P given unit → Q given unit) → StopsAt last units most P old new → StopsAt last units most Q old new
stops_by units most P Q old new more stops =
    (stops.0, breaks_by units most (λ given. P given stops.0) (λ given. Q given stops.0) (λ given text. Begins (given ++ stops.0 ∷ []) (units_of units text) × IsSoundUpTo units (length given + 1) text) old new (λ given. more given stops.0) stops.1)

-- the same ending, where what is known says as much
pub ends_by : (last : ℕ) (units : Units) (most : ℕ) (Gave Gave' : List (List ℕ) → Type 0) (Stopped Stopped' : Fault → List (List ℕ) → List ℕ → Type 0) (old new : Option (List ℕ)) (why : Fault)
    → ((given : List (List ℕ)) → Gave given → Gave' given) → ((why : Fault) (given : List (List ℕ)) (unit : List ℕ) → Stopped why given unit → Stopped' why given unit) → Ends last units most Gave Stopped old new why → Ends last units most Gave' Stopped' old new why
ends_by last units most Gave Gave' Stopped Stopped' old new fault.OutOfMemory more at (inl off) = inl (breaks_by units most Gave Gave' (λ given text. IsSoundUpTo units (length given) text) old new more off)
ends_by last units most Gave Gave' Stopped Stopped' old new fault.OutOfMemory more at (inr stops) = inr (stops_by units most (Stopped fault.OutOfMemory) (Stopped' fault.OutOfMemory) old new (at fault.OutOfMemory) stops)
ends_by last units most Gave Gave' Stopped Stopped' old new fault.ReadFault more at some = some_by units (λ size. size < most) Gave Gave' old new more some
ends_by last units most Gave Gave' Stopped Stopped' old new fault.TooMuch more at some = some_by units (λ size. size ≡ most) Gave Gave' old new more some
ends_by last units most Gave Gave' Stopped Stopped' old new (fault.LongLine n) more at off = breaks_by units most Gave Gave' (λ given text. (n ≡ length given + 1) × IsLongBehind units (length given) text) old new more off
ends_by last units most Gave Gave' Stopped Stopped' old new (fault.BadCsv n) more at off = breaks_by units most Gave Gave' (λ given text. (n ≡ length given + 1) × IsUnevenBehind units (length given) text) old new more off
ends_by last units most Gave Gave' Stopped Stopped' old new (fault.BadItem n) more at stops = stops_by units most (λ given unit. (n ≡ length given + 1) × Stopped (fault.BadItem n) given unit) (λ given unit. (n ≡ length given + 1) × Stopped' (fault.BadItem n) given unit) old new (λ given unit is. (is.0, at (fault.BadItem n) given unit is.1)) stops
ends_by last units most Gave Gave' Stopped Stopped' old new fault.WriteFault more at stops = stops_by units most (Stopped fault.WriteFault) (Stopped' fault.WriteFault) old new (at fault.WriteFault) stops

-- what is known of a taker whatever it was given, and wherever it stopped
pub ends_give : (last : ℕ) (Q : Fault → Type 0) (units : Units) (most : ℕ) (Gave : List (List ℕ) → Type 0) (Stopped : Fault → List (List ℕ) → List ℕ → Type 0) (old new : Option (List ℕ)) (why : Fault)
    → ((given : List (List ℕ)) → Gave given → (q : Fault) → q ≢ fault.WriteFault → Q q) → ((q : Fault) (given : List (List ℕ)) (unit : List ℕ) → Stopped q given unit → Q q) → Ends last units most Gave Stopped old new why → Q why
ends_give last Q units most Gave Stopped old new fault.OutOfMemory more at (inl off) = more off.given off.known fault.OutOfMemory (λ e. cc)
ends_give last Q units most Gave Stopped old new fault.OutOfMemory more at (inr stops) = at fault.OutOfMemory stops.1.given stops.0 stops.1.known
ends_give last Q units most Gave Stopped old new fault.ReadFault more at some = more (complete_units_of units some.taken) some.gave fault.ReadFault (λ e. cc)
ends_give last Q units most Gave Stopped old new fault.TooMuch more at some = more (complete_units_of units some.taken) some.gave fault.TooMuch (λ e. cc)
ends_give last Q units most Gave Stopped old new (fault.LongLine n) more at off = more off.given off.known (fault.LongLine n) (λ e. cc)
ends_give last Q units most Gave Stopped old new (fault.BadCsv n) more at off = more off.given off.known (fault.BadCsv n) (λ e. cc)
ends_give last Q units most Gave Stopped old new (fault.BadItem n) more at stops = at (fault.BadItem n) stops.1.given stops.0 stops.1.known.1
ends_give last Q units most Gave Stopped old new fault.WriteFault more at stops = at fault.WriteFault stops.1.given stops.0 stops.1.known

-- ---- no memory was found before anything was read

pub nothing_came : (last : ℕ) (Gave : List (List ℕ) → Type 0) (Stopped : Fault → List (List ℕ) → List ℕ → Type 0) (units : Units) (most : ℕ) (left : Option (List ℕ)) → Gave [] → Ends last units most Gave Stopped left left fault.OutOfMemory
unfolding lines_of
nothing_came last Gave Stopped Lines most left gave = inl (record {
  given = [];
  taken = [];
  consumed = Consumes-nil left;
  size = omega arith;
  in_time = nothing_read last;
  known = gave;
  comes = inl (λ later. ((lines_of later, refl), All-nil (λ (l : List ℕ). length l ≤ line_limit)));
})
nothing_came last Gave Stopped (Column column) most left gave = inl (record {
  given = [];
  taken = [];
  consumed = Consumes-nil left;
  size = omega arith;
  in_time = record {
    front = [];
    piece = [];
    joined = refl;
    size = omega arith;
    few = omega arith;
    sound = subst (AreSoundRows column) (sym none) (none_sound column);
    earlier = ([], sym (ap (λ rows. fields_in column rows ++ []) none));
  };
  known = gave;
  comes = inl (λ later. ((fields_in column (records_of later), refl), none_sound column));
})
  where
    none : complete_records_of [] ≡ []
    none = none_complete [] refl

pub reads_by : (last : ℕ) (units : Units) (most : ℕ) (Gave Gave' : List (List ℕ) → Type 0) (Stopped Stopped' : Fault → List (List ℕ) → List ℕ → Type 0) (old new : Option (List ℕ)) (r : Result ℕ Fault)
    → ((given : List (List ℕ)) → Gave given → Gave' given) → ((why : Fault) (given : List (List ℕ)) (unit : List ℕ) → Stopped why given unit → Stopped' why given unit) → Reads last units most Gave Stopped old new r → Reads last units most Gave' Stopped' old new r
reads_by last units most Gave Gave' Stopped Stopped' old new (Ok n) more at reads = all_by units most n Gave Gave' old new more reads
reads_by last units most Gave Gave' Stopped Stopped' old new (Err why) more at reads = ends_by _ units most Gave Gave' Stopped Stopped' old new why more at reads

pub read_ok : (last : ℕ) (units : Units) (most : ℕ) (Gave Gave' : List (List ℕ) → Type 0) (Stopped : Fault → List (List ℕ) → List ℕ → Type 0) (old new : Option (List ℕ)) (r : Result ℕ Fault)
    → ((given : List (List ℕ)) → Gave given → Gave' given) → Reads last units most Gave Stopped old new r → IfOk r (λ n. ReadsAll units most n Gave' old new)
read_ok last units most Gave Gave' Stopped old new (Ok n) more reads = all_by units most n Gave Gave' old new more reads
read_ok last units most Gave Gave' Stopped old new (Err why) more reads = tt

pub read_err : (last : ℕ) (units : Units) (most : ℕ) (Gave Gave' : List (List ℕ) → Type 0) (Stopped Stopped' : Fault → List (List ℕ) → List ℕ → Type 0) (old new : Option (List ℕ)) (r : Result ℕ Fault)
    → ((given : List (List ℕ)) → Gave given → Gave' given) → ((why : Fault) (given : List (List ℕ)) (unit : List ℕ) → Stopped why given unit → Stopped' why given unit) → Reads last units most Gave Stopped old new r → IfErr r (λ why. Ends last units most Gave' Stopped' old new why)
read_err last units most Gave Gave' Stopped Stopped' old new (Ok n) more at reads = tt
read_err last units most Gave Gave' Stopped Stopped' old new (Err why) more at reads = ends_by _ units most Gave Gave' Stopped Stopped' old new why more at reads

-- an error of which it is known which one it is
pub if_err_is : {T E : Type 0} (r : Result T E) (e : E) (P : E → Type 0) → IsErrAnd r (λ x. x ≡ e) → P e → IfErr r P
if_err_is (Ok x) e P is p = tt
if_err_is (Err x) e P is p = subst P (sym is) p

pub ok_two : {T E P Q S : Type 0} (r : Result T E) → OnOk r P → OnOk r Q → (P → Q → S) → OnOk r S
ok_two (Ok x) p q f = f p q
ok_two (Err e) p q f = tt

pub ok_three : {T E P Q S W : Type 0} (r : Result T E) → OnOk r P → OnOk r Q → OnOk r S → (P → Q → S → W) → OnOk r W
ok_three (Ok x) p q s f = f p q s
ok_three (Err e) p q s f = tt

-- where a call went well its count of faults stands
pub steady_on_ok : {T E : Type 0} (fault : E) (before now : ℕ) (r : Result T E) → HasCauseIn fault before now r → OnOk r (now ≡ before)
steady_on_ok fault before now (Ok x) cause = cause.steady (λ same. cc)
steady_on_ok fault before now (Err e) cause = tt
