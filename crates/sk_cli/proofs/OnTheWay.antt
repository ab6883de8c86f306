-- How a command goes that writes on its way through the units of a text, and last.
use Rattle.std.proofs.Common.{◌≡◌, inl, inr, ℕ, zero, suc, ◌+◌, ◌<◌, ◌≤◌, Bool, List, [], ◌∷◌, ◌++◌, length, take, All, IsNone, refl, sym, subst, arith, length-append, append-nil}
use Rattle.std.proofs.lemmas.List.{take_all, length-map}
use Rattle.std.specs.Io.KnownBytes.{Appends, Consumes}
use Rattle.sk_model.specs.Limits.{line_limit}
use Rattle.sk_model.specs.Lines.{lines_of, AreWithin}
use Rattle.sk_model.specs.Missing.{Begins}
use Rattle.sk_model.proofs.Missing.{begins_refl}
use Rattle.sk_read.specs.Items.{item_of, IsGood}
use Rattle.sk_read.specs.Reads.{IsSettled, ReadsAll, ReadsSome, IsInTime as IsReadInTime, BreaksOff as ReadingBreaksOff, Ends as ReadingEnds}
use Rattle.sk_read.specs.Records.{records_of, field_of, AreSoundRows}
use Rattle.sk_read.specs.Units.{units_by, units_of, complete_units_of, IsSound, IsSoundUpTo, IsLongBehind, IsUnevenBehind}
use Rattle.sk_read.specs.declared.fault.Fault.{Fault as ReadingFault}
use Rattle.sk_read.specs.declared.fault.Fault.TheVariants as reading
use Rattle.sk_read.specs.declared.kind.Kind.{Kind}
use Rattle.sk_read.specs.declared.units.Units.{Units}
use Rattle.sk_read.specs.declared.units.Units.TheVariants.{Lines, Column}
use Rattle.sk_read.proofs.ItemLaws.{front_is}
use Rattle.sk_read.proofs.LineEnds.{settled_so}
use Rattle.sk_report.specs.Parts.{AppendsPartAfter}
use Rattle.sk_report.proofs.Fronts.{part_at_all}
use Rattle.sk_cli.specs.Behaviour.{Behaviour}
use Rattle.sk_cli.specs.Beside.{Beside, MadeHub}
use Rattle.sk_cli.specs.Fault.{fault_by, bad_unit}
use Rattle.sk_cli.specs.Lines.{lines_before}
use Rattle.sk_cli.specs.Outside.{Streams}
use Rattle.sk_cli.specs.Readable.{IsRefusedBy, IsBadUnit}
use Rattle.sk_cli.specs.Run.{Stops, Refuses, IsDueOnTheWay, WritesOn, BreaksOff, GivesUp, Ends}
use Rattle.sk_cli.specs.Told.{telling_on}
use Rattle.sk_cli.specs.declared.fault.Fault.{Fault}
use Rattle.sk_cli.specs.declared.fault.Fault.TheVariants as fault
use Rattle.sk_cli.proofs.Fronts.{front_of_all}
use Rattle.sk_cli.proofs.Reading.{on_true}
use Rattle.sk_cli.proofs.WholeTexts.{sound_so_far, units_begin}
use Rattle.sk_cli.proofs.Units.{all_front, front_at, sound_less, in_time, good_before, bad_at}

-- a text that is sound is so up to its last unit
sound_up_to_all : (u : Units) (text : List ℕ) → IsSound u text → IsSoundUpTo u (length (units_of u text)) text
sound_up_to_all Lines text sound = subst (AreWithin line_limit) (sym (take_all (length (lines_of text)) (lines_of text) (omega arith))) sound
sound_up_to_all (Column c) text sound =
    let all : take (length (units_of (Column c) text)) (records_of text) ≡ records_of text = take_all (length (units_of (Column c) text)) (records_of text) (omega (arith, length-map (records_of text) (field_of c))) in
    subst (AreSoundRows c) (sym all) sound

-- units of which none is refused, and all that is due for them on the way was written
pub record ToldSoFar (kind : Kind) (Interim : List (List ℕ) → List ℕ → Type 0) (a b : Streams) (units : List (List ℕ)) : Type 0 where
  pub due : List ℕ
  pub is : Interim units due
  pub good : All (IsGood kind) units
  pub written : Appends a.written b.written due

-- of what is due for units, of which none is refused, a part was written; what was due for any first ones of those given
-- was written whole, with this beside it then
pub record ToldPart (kind : Kind) (Interim : Beside → List (List ℕ) → List ℕ → Type 0) (Due : List (List ℕ) → List ℕ → Type 0) (a b : Streams) (given units : List (List ℕ)) : Type 0 where
  pub due : List ℕ
  pub is : Due units due
  pub good : All (IsGood kind) units
  pub earlier : (front : List (List ℕ)) → Begins front given → (text : List ℕ) × (beside : Beside) × Interim beside front text × AppendsPartAfter text a.written b.written due

-- what was told where it stopped at a unit behind these: the unit is no item, or a write failed behind it
abbrev pub Stopped : Kind → (Beside → List (List ℕ) → List ℕ → Type 0) → Beside → Streams → Streams → ReadingFault → List (List ℕ) → List ℕ → Type 0
Stopped kind Interim to a b (reading.BadItem n) units unit = ToldSoFar kind (Interim to) a b units × (0 < length unit) × IsNone (item_of kind unit)
Stopped kind Interim to a b reading.WriteFault units unit = ToldPart kind Interim (Interim to) a b units (units ++ unit ∷ [])
Stopped kind Interim to a b reading.OutOfMemory units unit = ToldSoFar kind (Interim to) a b units
Stopped kind Interim to a b other units unit = ⊥

module _ (kind : Kind) (column : ℕ) (last : Bool) (arms : List ℕ) (makes : MadeHub) (Interim Whole : Beside → Beside → List (List ℕ) → List ℕ → Type 0) (Left : Beside → List (List ℕ) → List ℕ → Beside → Type 0) (most : ℕ) (from to : Beside) (a b : Streams) where
  abbrev how : Behaviour
  how = telling_on kind column last arms makes Interim Whole Left

  abbrev units : Units
  units = units_by column

  abbrev SoFar : List (List ℕ) → Type 0
  SoFar given = ToldSoFar kind (Interim from to) a b given

  -- a text that is refused, behind the units given
  refused : (f : Fault) (Known : List (List ℕ) → Type 0) (Comes : List (List ℕ) → List ℕ → Type 0) → (off : ReadingBreaksOff b.last units most Known Comes a.left b.left) → SoFar off.given
      → ((text : List ℕ) → Begins off.given (units_of units text) → Comes off.given text → IsRefusedBy kind column f text × (lines_before f (units_of units text) ≡ off.given)) → Refuses how most f from to a b
  refused f Known Comes off told is = record {
    taken = off.taken;
    due = told.due;
    consumed = off.consumed;
    size = off.size;
    in_time = in_time kind column off.given off.taken off.in_time told.good;
    refused = settled_so (λ (text : List ℕ). Begins off.given (units_of units text) × Comes off.given text) (λ (text : List ℕ). how.Refuses f text × how.IsDueAt from to f text told.due) b.left off.taken
        (λ text found.
        let both = is text found.0 found.1 in
        (both.0, subst (λ (l : List (List ℕ)). Interim from to l told.due) (sym both.1) told.is)) off.comes;
    written = told.written;
  }

  stops : (IsSize : ℕ → Type 0) → ReadsSome units IsSize SoFar a.left b.left → Stops how IsSize from to a b
  stops IsSize some = record {
    taken = some.taken;
    due = some.gave.due;
    reads = refl;
    consumed = some.consumed;
    size = some.size;
    fine = (some.sound, some.gave.good);
    is_due = some.gave.is;
    written = some.gave.written;
  }

  -- what is due for the units given is due for the first units of each text that goes on so
  due_before : (given : List (List ℕ)) (due taken : List ℕ) → Interim from to given due → IsSettled (λ (text : List ℕ). Begins given (units_of units text) × IsSoundUpTo units (length given) text) b.left taken → IsDueOnTheWay how from to b.left taken due
  due_before given due taken is settled =
      settled_so (λ (text : List ℕ). Begins given (units_of units text) × IsSoundUpTo units (length given) text) (λ (text : List ℕ). how.IsDueBefore from to text due) b.left taken
      (λ text found. (length given, found.1, subst (λ (l : List (List ℕ)). Interim from to l due) (sym (front_is given (units_of units text) found.0)) is)) settled

  -- no memory was found behind the units given
  gives_up : (given : List (List ℕ)) (taken : List ℕ) → SoFar given → Consumes a.left b.left taken → length taken ≤ most →
      IsSettled (λ (text : List ℕ). Begins given (units_of units text) × IsSoundUpTo units (length given) text) b.left taken → GivesUp how most from to a b
  gives_up given taken told consumed size settled = record {
    taken = taken;
    due = told.due;
    consumed = consumed;
    size = size;
    is_due = inr (due_before given told.due taken told.is settled);
    written = front_of_all a.written b.written told.due told.written;
  }

  stopped_for_memory : (unit : List ℕ) → (off : ReadingBreaksOff b.last units most (λ given. SoFar given) (λ given text. Begins (given ++ unit ∷ []) (units_of units text) × IsSoundUpTo units (length given + 1) text) a.left b.left) → GivesUp how most from to a b
  stopped_for_memory unit off =
      gives_up off.given off.taken off.known off.consumed off.size
      (settled_so (λ (text : List ℕ). Begins off.given (units_of units text) × (Begins (off.given ++ unit ∷ []) (units_of units text) × IsSoundUpTo units (length off.given + 1) text))
      (λ (text : List ℕ). Begins off.given (units_of units text) × IsSoundUpTo units (length off.given) text) b.left off.taken
      (λ text found. (found.0, sound_less units (length off.given) text found.1.1)) off.comes)

  -- what was due before the last read was written whole
  writes_on : (given : List (List ℕ)) (taken due : List ℕ) → (earlier : (front : List (List ℕ)) → Begins front given → (text : List ℕ) × (beside : Beside) × Interim from beside front text × AppendsPartAfter text a.written b.written due)
      → IsReadInTime b.last units given taken → All (IsGood kind) given → WritesOn how from b.last taken due a.written b.written
  writes_on given taken due earlier in_time good =
      let before = earlier (complete_units_of units in_time.front) in_time.earlier in
      record {
        earlier = before.0;
        beside = before.1;
        was_due = record {
          front = in_time.front;
          piece = in_time.piece;
          joined = in_time.joined;
          size = in_time.size;
          few = in_time.few;
          so_far = ((in_time.sound, all_front (IsGood kind) (complete_units_of units in_time.front) given in_time.earlier good), before.2);
        };
        written = before.3;
      }

  -- a write failed behind a unit
  breaks_off : (unit : List ℕ) → (off : ReadingBreaksOff b.last units most (λ given. ToldPart kind (Interim from) (Interim from to) a b given (given ++ unit ∷ [])) (λ given text. Begins (given ++ unit ∷ []) (units_of units text) × IsSoundUpTo units (length given + 1) text) a.left b.left) →
      BreaksOff how most from to a b
  breaks_off unit off =
      let behind : List (List ℕ) = off.given ++ unit ∷ [] in
      let part = off.known in
      let count : length behind ≡ length off.given + 1 = length-append off.given (unit ∷ []) in
      let good : All (IsGood kind) off.given = all_front (IsGood kind) off.given behind (unit ∷ [], refl) part.good in
      let whole = part.earlier off.given (begins_refl off.given) in
      record {
        taken = off.taken;
        due = part.due;
        consumed = off.consumed;
        size = off.size;
        is_due = inr (
          in_time kind column off.given off.taken off.in_time good,
          due_before behind part.due off.taken part.is
              (settled_so (λ (text : List ℕ). Begins off.given (units_of units text) × (Begins behind (units_of units text) × IsSoundUpTo units (length off.given + 1) text))
              (λ (text : List ℕ). Begins behind (units_of units text) × IsSoundUpTo units (length behind) text) b.left off.taken
              (λ text found. (found.1.0, subst (λ (m : ℕ). IsSoundUpTo units m text) (sym count) found.1.1)) off.comes),
        );
        written = part_at_all whole.0 a.written b.written part.due whole.3;
        by_lines = on_true how.writes_by_lines (WritesOn how from b.last off.taken part.due a.written b.written) (writes_on off.given off.taken part.due part.earlier off.in_time good);
      }

  -- it ended while it read
  pub ended_before : (f : ReadingFault) → ReadingEnds b.last units most SoFar (Stopped kind (Interim from) to a b) a.left b.left f → Ends how most from to a b (fault_by column f)
  ended_before reading.OutOfMemory (inl off) = gives_up off.given off.taken off.known off.consumed off.size off.comes
  ended_before reading.OutOfMemory (inr stop) = stopped_for_memory stop.0 stop.1
  ended_before reading.ReadFault some = stops (λ size. size < most) some
  ended_before reading.TooMuch some = stops (λ size. size ≡ most) some
  ended_before reading.WriteFault stop = breaks_off stop.0 stop.1
  ended_before (reading.LongLine n) off =
      refused (fault.LongLine n) _ _ off off.known
      (λ text begins comes. (
        (good_before kind column n text off.given comes.0 off.known.good begins, subst (λ (m : ℕ). IsLongBehind units m text) (omega (arith, comes.0)) comes.1),
        front_at n off.given (units_of units text) comes.0 begins,
      ))
  ended_before (reading.BadCsv n) off =
      refused (fault.BadCsv n) _ _ off off.known
      (λ text begins comes. (
        (good_before kind column n text off.given comes.0 off.known.good begins, subst (λ (m : ℕ). IsUnevenBehind units m text) (omega (arith, comes.0)) comes.1),
        front_at n off.given (units_of units text) comes.0 begins,
      ))
  ended_before (reading.BadItem n) stop = bad column refl
    where
      unit : List ℕ
      unit = stop.0

      off : ReadingBreaksOff b.last units most (λ given. (n ≡ length given + 1) × Stopped kind (Interim from) to a b (reading.BadItem n) given unit) (λ given text. Begins (given ++ unit ∷ []) (units_of units text) × IsSoundUpTo units (length given + 1) text) a.left b.left
      off = stop.1

      is_bad : (text : List ℕ) → Begins (off.given ++ unit ∷ []) (units_of units text) × IsSoundUpTo units (length off.given + 1) text → IsBadUnit kind column n text
      is_bad text comes = bad_at kind column n off.given unit text off.known.0 off.known.1.0.good off.known.1.1 off.known.1.2 comes.0 (subst (λ (m : ℕ). IsSoundUpTo units m text) (sym off.known.0) comes.1)

      bad : (c : ℕ) → column ≡ c → Ends how most from to a b (bad_unit c n)
      bad zero is = refused (fault.BadItem n) _ _ off off.known.1.0 (λ text begins comes. ((is, is_bad text comes), front_at n off.given (units_of units text) off.known.0 begins))
      bad (suc c) is = refused (fault.BadField n) _ _ off off.known.1.0 (λ text begins comes. ((omega (arith, is), is_bad text comes), front_at n off.given (units_of units text) off.known.0 begins))

  -- it had read all, and found no memory
  pub gave_up_behind : (n : ℕ) → ReadsAll units most n SoFar a.left b.left → GivesUp how most from to a b
  gave_up_behind n all =
      let given : List (List ℕ) = units_of units all.taken in
      gives_up given all.taken all.gave all.consumed (omega (arith, all.size)) (inr (all.end, (([], sym (append-nil given)), sound_up_to_all units all.taken all.sound)))

  -- it had read all, and a write failed
  pub broke_off_behind : (n : ℕ) → ReadsAll units most n (λ given. ToldPart kind (Interim from) (Whole from to) a b given given) a.left b.left → BreaksOff how most from to a b
  broke_off_behind n all =
      let given : List (List ℕ) = units_of units all.taken in
      let part = all.gave in
      let whole = part.earlier given (begins_refl given) in
      let all_in_time : IsReadInTime b.last units given all.taken = record {
        front = all.taken;
        piece = [];
        joined = sym (append-nil all.taken);
        size = omega arith;
        few = omega arith;
        sound = sound_so_far units all.taken all.sound;
        earlier = units_begin units all.taken;
      } in
      record {
        taken = all.taken;
        due = part.due;
        consumed = all.consumed;
        size = omega (arith, all.size);
        is_due = inl (record { end = all.end; fine = (all.sound, part.good); is_due = part.is });
        written = part_at_all whole.0 a.written b.written part.due whole.3;
        by_lines = on_true how.writes_by_lines (WritesOn how from b.last all.taken part.due a.written b.written) (writes_on given all.taken part.due part.earlier all_in_time part.good);
      }
