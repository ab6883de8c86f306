-- How a command goes that tells one text of all items, and what it decides of a text.
use Rattle.std.proofs.Common.{◌≡◌, ◌⊎◌, inl, inr, ℕ, zero, suc, ◌+◌, ◌<◌, List, [], ◌∷◌, ◌++◌, length, All, Option, Result, Ok, Err, OnOk, IfErr, IsErrOf, refl, sym, ap, ◌∙◌, subst, arith}
use Rattle.std.specs.Io.KnownBytes.{Appends}
use Rattle.std.proofs.KnownBytes.{Appends-nil}
use Rattle.sk_model.specs.Causes.{AppendsPart}
use Rattle.sk_model.specs.Missing.{Begins}
use Rattle.sk_read.specs.Items.{Gave, Missed, IsGood}
use Rattle.sk_read.specs.Reads.{ReadsAll, ReadsSome, BreaksOff as ReadingBreaksOff, Ends as ReadingEnds}
use Rattle.sk_read.specs.Units.{units_by, units_of, IsSoundUpTo, IsLongBehind, IsUnevenBehind}
use Rattle.sk_read.specs.declared.fault.Fault.{Fault as ReadingFault}
use Rattle.sk_read.specs.declared.fault.Fault.TheVariants as reading
use Rattle.sk_read.specs.declared.kind.Kind.{Kind}
use Rattle.sk_read.proofs.LineEnds.{settled_so}
use Rattle.sk_cli.specs.Behaviour.{IsDecided, WritesOneText}
use Rattle.sk_cli.specs.Beside.{Beside}
use Rattle.sk_cli.specs.Fault.{fault_by, bad_unit}
use Rattle.sk_cli.specs.Outside.{Streams}
use Rattle.sk_cli.specs.Readable.{IsRefusedBy, IsBadUnit}
use Rattle.sk_cli.specs.Run.{Finishes, Stops, Refuses, BreaksOff, GivesUp, Ends, Executes}
use Rattle.sk_cli.specs.Told.{telling, items_of_text}
use Rattle.sk_cli.specs.declared.fault.Fault.{Fault}
use Rattle.sk_cli.specs.declared.fault.Fault.TheVariants as fault
use Rattle.sk_cli.proofs.CountDeciding.{readable_or_refused, refused_once}
use Rattle.sk_cli.proofs.Endings.{nothing_more}
use Rattle.sk_cli.proofs.Units.{in_time, good_before, bad_at}

pub items_decide : (kind : Kind) (column : ℕ) (tell : List ℕ → List ℕ) → IsDecided (telling kind column tell)
items_decide kind column tell = record {
  refused = λ f g text one two. refused_once kind column f g text one two;
  apart = λ f text one two. readable_or_refused kind column f text one two;
}

pub one_telling : (kind : Kind) (column : ℕ) (tell : List ℕ → List ℕ) → WritesOneText (telling kind column tell)
one_telling kind column tell = record {
  due = λ from to to' text due other one two. one ∙ sym two;
  refused = λ from to to' f text due other one two. one ∙ sym two;
}

-- nothing was written
wrote_nothing : (old new : Option (List ℕ)) → new ≡ old → Appends old new []
wrote_nothing old new same = subst (λ (w : Option (List ℕ)). Appends old w []) (sym same) (Appends-nil old)

no_write_faults : (T : Type 0) (number : ℕ) → reading.WriteFault ≡ reading.BadItem number → ⊥
no_write_faults T number is = cc

module _ (kind : Kind) (column : ℕ) (tell : List ℕ → List ℕ) (most : ℕ) (from to : Beside) (a b : Streams) (Stands : List ℕ → Type 0) where
  stops : (IsSize : ℕ → Type 0) → ReadsSome (units_by column) IsSize (Gave kind Stands) a.left b.left → b.written ≡ a.written → Stops (telling kind column tell) IsSize from to a b
  stops IsSize some same = record {
    taken = some.taken;
    due = [];
    reads = refl;
    consumed = some.consumed;
    size = some.size;
    fine = (some.sound, some.gave.0);
    is_due = refl;
    written = wrote_nothing a.written b.written same;
  }

  -- a text that is refused, behind the units given
  refused : (f : Fault) (Known : List (List ℕ) → Type 0) (Comes : List (List ℕ) → List ℕ → Type 0) → (off : ReadingBreaksOff b.last (units_by column) most Known Comes a.left b.left) → All (IsGood kind) off.given → b.written ≡ a.written →
      ((text : List ℕ) → Begins off.given (units_of (units_by column) text) → Comes off.given text → IsRefusedBy kind column f text) → Refuses (telling kind column tell) most f from to a b
  refused f Known Comes off good same is = record {
    taken = off.taken;
    due = [];
    consumed = off.consumed;
    size = off.size;
    in_time = in_time kind column off.given off.taken off.in_time good;
    refused = settled_so (λ (text : List ℕ). Begins off.given (units_of (units_by column) text) × Comes off.given text) (λ (text : List ℕ). (telling kind column tell).Refuses f text × (telling kind column tell).IsDueAt from to f text []) b.left off.taken
        (λ text found. (is text found.0 found.1, refl)) off.comes;
    written = wrote_nothing a.written b.written same;
  }

  ended : (f : ReadingFault) → ReadingEnds b.last (units_by column) most (Gave kind Stands) (Missed kind Stands) a.left b.left f → b.written ≡ a.written → Ends (telling kind column tell) most from to a b (fault_by column f)
  ended reading.OutOfMemory (inl off) same = nothing_more (telling kind column tell) most from to a b off.taken [] off.consumed off.size same (λ text. refl)
  ended reading.OutOfMemory (inr stop) same = nothing_more (telling kind column tell) most from to a b stop.1.taken [] stop.1.consumed stop.1.size same (λ text. refl)
  ended reading.ReadFault some same = stops (λ size. size < most) some same
  ended reading.TooMuch some same = stops (λ size. size ≡ most) some same
  ended reading.WriteFault stop same = absurd (no_write_faults ℕ _ stop.1.known.0)
  ended (reading.LongLine n) off same =
      refused (fault.LongLine n) _ _ off off.known.0 same
      (λ text begins comes. (good_before kind column n text off.given comes.0 off.known.0 begins, subst (λ (m : ℕ). IsLongBehind (units_by column) m text) (omega (arith, comes.0)) comes.1))
  ended (reading.BadCsv n) off same =
      refused (fault.BadCsv n) _ _ off off.known.0 same
      (λ text begins comes. (good_before kind column n text off.given comes.0 off.known.0 begins, subst (λ (m : ℕ). IsUnevenBehind (units_by column) m text) (omega (arith, comes.0)) comes.1))
  ended (reading.BadItem n) stop same = bad column refl
    where
      unit : List ℕ
      unit = stop.0

      off : ReadingBreaksOff b.last (units_by column) most (λ given. (n ≡ length given + 1) × Missed kind Stands (reading.BadItem n) given unit)
          (λ given text. Begins (given ++ unit ∷ []) (units_of (units_by column) text) × IsSoundUpTo (units_by column) (length given + 1) text) a.left b.left
      off = stop.1

      is_bad : (text : List ℕ) → Begins (off.given ++ unit ∷ []) (units_of (units_by column) text) × IsSoundUpTo (units_by column) (length off.given + 1) text → IsBadUnit kind column n text
      is_bad text comes =
          bad_at kind column n off.given unit text off.known.0 off.known.1.1.0 off.known.1.2 off.known.1.3 comes.0 (subst (λ (m : ℕ). IsSoundUpTo (units_by column) m text) (sym off.known.0) comes.1)

      bad : (c : ℕ) → column ≡ c → Ends (telling kind column tell) most from to a b (bad_unit c n)
      bad zero is = refused (fault.BadItem n) _ _ off off.known.1.1.0 same (λ text begins comes. (is, is_bad text comes))
      bad (suc c) is = refused (fault.BadField n) _ _ off off.known.1.1.0 same (λ text begins comes. (omega (arith, is), is_bad text comes))

  -- a reading that failed, whose fault became one of the program
  pub telling_failed : (f : ReadingFault) (r : Fault) → r ≡ fault_by column f → ReadingEnds b.last (units_by column) most (Gave kind Stands) (Missed kind Stands) a.left b.left f → b.written ≡ a.written → Executes (telling kind column tell) most from to a b (Err r)
  telling_failed f r is ends same = subst (λ (g : Fault). Ends (telling kind column tell) most from to a b g) (sym is) (ended f ends same)

  -- a reading that came to the end, and a write
  module _ (n : ℕ) (all : ReadsAll (units_by column) most n (Gave kind Stands) a.left b.left) where
    abbrev due : List ℕ
    due = tell (items_of_text kind column all.taken)

    finished : Appends a.written b.written due → Finishes (telling kind column tell) most from to a b
    finished written = record {
      text = all.taken;
      due = due;
      consumed = all.consumed;
      end = all.end;
      size = all.size;
      fine = (all.sound, all.gave.0);
      is_due = refl;
      leaves = tt;
      written = written;
    }

    broke_off : AppendsPart a.written b.written due → BreaksOff (telling kind column tell) most from to a b
    broke_off part = record {
      taken = all.taken;
      due = due;
      consumed = all.consumed;
      size = omega (arith, all.size);
      is_due = inl (record { end = all.end; fine = (all.sound, all.gave.0); is_due = refl });
      written = part;
      by_lines = tt;
    }

    found_no_memory : b.written ≡ a.written → GivesUp (telling kind column tell) most from to a b
    found_no_memory same = nothing_more (telling kind column tell) most from to a b all.taken [] all.consumed (omega (arith, all.size)) same (λ text. refl)

    pub telling_wrote : (r : Result (Unit {0}) Fault) → OnOk r (Appends a.written b.written due) → (IsErrOf r fault.WriteFault → AppendsPart a.written b.written due) → (IsErrOf r fault.OutOfMemory → b.written ≡ a.written) →
        IfErr r (λ (f : Fault). (f ≡ fault.WriteFault) ⊎ (f ≡ fault.OutOfMemory)) → Executes (telling kind column tell) most from to a b r
    telling_wrote (Ok x) ok part memory err = finished ok
    telling_wrote (Err f) ok part memory (inl is) = subst (λ (g : Fault). Ends (telling kind column tell) most from to a b g) (sym is) (broke_off (part (ap (λ (g : Fault). Err g) is)))
    telling_wrote (Err f) ok part memory (inr is) = subst (λ (g : Fault). Ends (telling kind column tell) most from to a b g) (sym is) (found_no_memory (memory (ap (λ (g : Fault). Err g) is)))

-- a list of one number is that number's
pub one_number : (k j : ℕ) → k ∷ [] ≡ j ∷ [] → k ≡ j
one_number k j is = cc
