-- Which of its objects a run touches, by how it ended.
use Rattle.std.proofs.Common.{◌≡◌, ◌≢◌, ℕ, true, false, Option, Some, None, is_some, Result, Ok, Err, IfErr, refl, sym, ap, subst, ◌∙◌, arith}
use Rattle.sk_cli.specs.Command.{Asked, Frame, frame_of}
use Rattle.sk_cli.specs.Fault.{status_of}
use Rattle.sk_cli.specs.Run.{exit_of}
use Rattle.sk_cli.specs.Touches.{Handed, handed, TouchesOnly, Touches}
use Rattle.sk_cli.specs.Values.{Word}
use Rattle.sk_cli.specs.declared.fault.Fault.{Fault}
use Rattle.sk_cli.specs.declared.fault.Fault.TheVariants as fault

pub not_both : {P : Type 0} → true ≡ false → P
not_both is = absurd (cc)

-- a file that is named is opened
pub named_opens : {P : Type 0} (file : Option Word) (name : Word) → file ≡ Some name → is_some file ≡ false → P
named_opens file name is none = not_both (sym (ap (λ (f : Option Word). is_some f) is) ∙ none)

-- the output of a run that met a fault
module _ (P : Type 0) where
  if_unopened : (r : Result (Unit {0}) Fault) → (r ≡ Err fault.OpenFault → P) → exit_of r ≡ 8 → P
  if_unopened (Ok x) closed is = absurd (omega (arith, is))
  if_unopened (Err fault.OpenFault) closed is = closed refl
  if_unopened (Err f) closed is = absurd (omega (arith, is))

  if_last : (r : Result (Unit {0}) Fault) → IfErr r (λ f. f ≢ fault.WriteFault → P) → exit_of r ≢ 0 → exit_of r ≢ 4 → P
  if_last (Ok x) last some other = absurd (some refl)
  if_last (Err f) last some other = last (λ is. other (ap status_of is))

pub touched_only : {S O F D B : Type 0} (frame : Frame) (r : Result (Unit {0}) Fault) (old new : Handed S O F D B) → (frame.reads_input ≡ false → new.input ≡ old.input) → (frame.opens_files ≡ false → new.shelf ≡ old.shelf) →
    (frame.accepts_links ≡ false → new.door ≡ old.door) → (r ≡ Err fault.OpenFault → new.out ≡ old.out) → (frame.writes_last ≡ true → IfErr r (λ f. f ≢ fault.WriteFault → new.out ≡ old.out)) → TouchesOnly frame (exit_of r) old new
touched_only frame r old new input shelf door closed last = record {
  input = input;
  shelf = shelf;
  door = door;
  closed = if_unopened (new.out ≡ old.out) r closed;
  last = λ writes. if_last (new.out ≡ old.out) r (last writes);
}

-- what writes last leaves the output untouched if a file can't be opened
pub closed_too : (r : Result (Unit {0}) Fault) (P : Type 0) → IfErr r (λ f. f ≢ fault.WriteFault → P) → r ≡ Err fault.OpenFault → P
closed_too r P last is = subst (λ (x : Result (Unit {0}) Fault). IfErr x (λ f. f ≢ fault.WriteFault → P)) is last (λ same. cc)

-- beside a door that it does not have
pub beside_door : {S O F D B : Type 0} (frame : Frame) (status : ℕ) (old new : Handed S O F (Unit {0}) B) (door : D) → TouchesOnly frame status old new →
    TouchesOnly frame status (handed old.input old.out old.shelf door old.board) (handed new.input new.out new.shelf door new.board)
beside_door frame status old new door only = record { input = only.input; shelf = only.shelf; door = λ _. refl; closed = only.closed; last = only.last }

-- words that ask for nothing touch nothing
pub touches_nothing : {S O F D B : Type 0} (asked : Option Asked) (status : ℕ) (all : Handed S O F D B) → None ≡ asked → Touches asked status all all
touches_nothing asked status all is = subst (λ (o : Option Asked). Touches o status all all) is (record { usage = λ _. refl; only = tt })

pub touches_asked : {S O F D B : Type 0} (asked : Option Asked) (a : Asked) (r : Result (Unit {0}) Fault) (status : ℕ) (old new : Handed S O F D B) → Some a ≡ asked → (status ≡ 2 → ⊥) → status ≡ exit_of r → TouchesOnly (frame_of a) (exit_of r) old new → Touches asked status old new
touches_asked asked a r status old new is other end only =
    let so : TouchesOnly (frame_of a) status old new = subst (λ (n : ℕ). TouchesOnly (frame_of a) n old new) (sym end) only in
    subst (λ (o : Option Asked). Touches o status old new) is (record { usage = λ two. absurd (other two); only = so })
