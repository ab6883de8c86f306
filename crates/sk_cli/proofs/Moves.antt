-- Which count a fault moves.
use Rattle.std.proofs.Common.{◌≡◌, ℕ, zero, suc, Result, Ok, Err, IsErrAnd, refl, sym, ap, ◌∙◌, subst}
use Rattle.sk_label.specs.declared.fault.LabelFault.{LabelFault}
use Rattle.sk_label.specs.declared.fault.LabelFault.TheVariants as label
use Rattle.sk_model.specs.Causes.{Rose, HasCauseIn}
use Rattle.sk_read.specs.declared.fault.Fault.{Fault as ReadingFault}
use Rattle.sk_read.specs.declared.fault.Fault.TheVariants as reading
use Rattle.sk_cli.specs.declared.fault.Fault.{Fault}
use Rattle.sk_cli.specs.declared.fault.Fault.TheVariants as fault
use Rattle.sk_cli.specs.declared.fault.Refusal.{Refusal}
use Rattle.sk_cli.specs.declared.fault.Refusal.TheVariants.{Earlier, Unknown}
use Rattle.sk_cli.specs.Fault.{fault_by, bad_unit, fault_by_label}
use Rattle.sk_cli.specs.Outside.{Streams}
use Rattle.sk_cli.specs.Run.{HasCauses}

-- what a fault does to the counts of a source and a sink
abbrev pub Moves : Streams → Streams → Fault → Type 0
Moves a b fault.ReadFault = Rose a.read_faults b.read_faults × (b.write_faults ≡ a.write_faults)
Moves a b fault.WriteFault = (b.read_faults ≡ a.read_faults) × Rose a.write_faults b.write_faults
Moves a b other = (b.read_faults ≡ a.read_faults) × (b.write_faults ≡ a.write_faults)

-- an error beside a value of this type
abbrev error_of : (T : Type 0) {E : Type 0} → E → Result T E
error_of T e = Err e

nothing_else : (f g : Fault) → error_of (Unit {0}) f ≡ Err g → f ≡ g
nothing_else f g same = cc

caused : (g f : Fault) (before now : ℕ) → f ≡ g → Rose before now → HasCauseIn {T = Unit {0}} g before now (Err f)
caused g f before now is rose = record { steady = λ other. absurd (other (ap (λ (x : Fault). Err x) is)); failed = λ same. rose }

uncaused : (g f : Fault) (before now : ℕ) → (f ≡ g → ⊥) → now ≡ before → HasCauseIn {T = Unit {0}} g before now (Err f)
uncaused g f before now other stays = record { steady = λ same. stays; failed = λ same. absurd (other (nothing_else f g same)) }

elsewhere : (a b : Streams) (f : Fault) → (f ≡ fault.ReadFault → ⊥) → (f ≡ fault.WriteFault → ⊥) → (b.read_faults ≡ a.read_faults) × (b.write_faults ≡ a.write_faults) → HasCauses a b (Err f)
elsewhere a b f no_read no_write stay = record {
  read = uncaused fault.ReadFault f a.read_faults b.read_faults no_read stay.0;
  write = uncaused fault.WriteFault f a.write_faults b.write_faults no_write stay.1;
}

pub causes_of : (a b : Streams) (f : Fault) → Moves a b f → HasCauses a b (Err f)
causes_of a b fault.ReadFault moves = record {
  read = caused fault.ReadFault fault.ReadFault a.read_faults b.read_faults refl moves.0;
  write = uncaused fault.WriteFault fault.ReadFault a.write_faults b.write_faults (λ is. cc) moves.1;
}
causes_of a b fault.WriteFault moves = record {
  read = uncaused fault.ReadFault fault.WriteFault a.read_faults b.read_faults (λ is. cc) moves.0;
  write = caused fault.WriteFault fault.WriteFault a.write_faults b.write_faults refl moves.1;
}
causes_of a b f stay = elsewhere a b f (λ is. cc) (λ is. cc) stay

-- a command that was given a fault of neither
pub caused_elsewhere : (a b : Streams) (r : Result (Unit {0}) Fault) (f : Fault) → IsErrAnd r (λ (e : Fault). e ≡ f) → (f ≡ fault.ReadFault → ⊥) → (f ≡ fault.WriteFault → ⊥) → (b.read_faults ≡ a.read_faults) × (b.write_faults ≡ a.write_faults) → HasCauses a b r
caused_elsewhere a b (Ok x) f gives no_read no_write stay = absurd gives
caused_elsewhere a b (Err e) f gives no_read no_write stay = subst (λ (x : Fault). HasCauses a b (Err x)) (sym gives) (elsewhere a b f no_read no_write stay)

ok_is_no_error : {T E : Type 0} (v : T) (fault : E) → Ok v ≡ Err fault → ⊥
ok_is_no_error v fault is = cc

-- a call that did not fail leaves the count
pub steady_ok : {T E : Type 0} (fault : E) (before now : ℕ) (r : Result T E) (v : T) → HasCauseIn fault before now r → r ≡ Ok v → now ≡ before
steady_ok fault before now r v cause ok = cause.steady (λ failed. ok_is_no_error v fault (sym ok ∙ failed))

another : (T : Type 0) (f g : ReadingFault) → (f ≡ g → ⊥) → error_of T f ≡ Err g → ⊥
another T f g differs is = differs (one f g is)
  where
    one : (f g : ReadingFault) → error_of T f ≡ Err g → f ≡ g
    one f g is = cc

-- a fault of counting
counting_moves : (T : Type 0) (a b : Streams) (column : ℕ) (r : Result T ReadingFault) (f : ReadingFault) → r ≡ Err f → HasCauseIn reading.ReadFault a.read_faults b.read_faults r → HasCauseIn reading.WriteFault a.write_faults b.write_faults r →
    Moves a b (fault_by column f)
counting_moves T a b column r reading.ReadFault is read write = (read.failed is, write.steady (λ failed. another T reading.ReadFault reading.WriteFault (λ e. cc) (sym is ∙ failed)))
counting_moves T a b column r reading.WriteFault is read write = (read.steady (λ failed. another T reading.WriteFault reading.ReadFault (λ e. cc) (sym is ∙ failed)), write.failed is)
counting_moves T a b column r (reading.BadItem n) is read write =
    bad column (
      read.steady (λ failed. another T (reading.BadItem n) reading.ReadFault (λ e. cc) (sym is ∙ failed)),
      write.steady (λ failed. another T (reading.BadItem n) reading.WriteFault (λ e. cc) (sym is ∙ failed)),
    )
  where
    bad : (c : ℕ) → (b.read_faults ≡ a.read_faults) × (b.write_faults ≡ a.write_faults) → Moves a b (bad_unit c n)
    bad zero stay = stay
    bad (suc c) stay = stay
counting_moves T a b column r f is read write = (
  read.steady (λ failed. another T f reading.ReadFault (λ e. cc) (sym is ∙ failed)),
  write.steady (λ failed. another T f reading.WriteFault (λ e. cc) (sym is ∙ failed)),
)

-- a count that ended by a fault, which became one of the program
pub counting_causes : {T : Type 0} (a b : Streams) (column : ℕ) (r : Result T ReadingFault) (f : ReadingFault) (g : Fault) → r ≡ Err f → g ≡ fault_by column f →
    HasCauseIn reading.ReadFault a.read_faults b.read_faults r → HasCauseIn reading.WriteFault a.write_faults b.write_faults r → HasCauses a b (Err g)
counting_causes {T} a b column r f g ended is read write = subst (λ (x : Fault). HasCauses a b (Err x)) (sym is) (causes_of a b (fault_by column f) (counting_moves T a b column r f ended read write))

-- a fault of labelled lines
not_this : (T : Type 0) (r : Result T LabelFault) (f g : LabelFault) → (f ≡ g → ⊥) → r ≡ Err f → r ≡ Err g → ⊥
not_this T r f g differs is other = differs (one f g (sym is ∙ other))
  where
    one : (f g : LabelFault) → error_of T f ≡ Err g → f ≡ g
    one f g is = cc

label_moves : (T : Type 0) (a b : Streams) (why : Refusal) (r : Result T LabelFault) (f : LabelFault) → r ≡ Err f → HasCauseIn label.ReadFault a.read_faults b.read_faults r → HasCauseIn label.WriteFault a.write_faults b.write_faults r →
    Moves a b (fault_by_label why f)
label_moves T a b why r label.ReadFault is read write = (read.failed is, write.steady (not_this T r label.ReadFault label.WriteFault (λ e. cc) is))
label_moves T a b why r label.WriteFault is read write = (read.steady (not_this T r label.WriteFault label.ReadFault (λ e. cc) is), write.failed is)
label_moves T a b Earlier r f is read write = (read.steady (not_this T r f label.ReadFault (λ e. cc) is), write.steady (not_this T r f label.WriteFault (λ e. cc) is))
label_moves T a b Unknown r f is read write = (read.steady (not_this T r f label.ReadFault (λ e. cc) is), write.steady (not_this T r f label.WriteFault (λ e. cc) is))

-- a command over labelled lines that ended by a fault, which became one of the program
pub label_causes : {T : Type 0} (a b : Streams) (why : Refusal) (r : Result T LabelFault) (f : LabelFault) (g : Fault) → r ≡ Err f → g ≡ fault_by_label why f →
    HasCauseIn label.ReadFault a.read_faults b.read_faults r → HasCauseIn label.WriteFault a.write_faults b.write_faults r → HasCauses a b (Err g)
label_causes {T} a b why r f g ended is read write = subst (λ (x : Fault). HasCauses a b (Err x)) (sym is) (causes_of a b (fault_by_label why f) (label_moves T a b why r f ended read write))
