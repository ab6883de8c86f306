-- Records that a table takes, one after another.
use Rattle.std.proofs.Common.{◌≡◌, ℕ, ◌+◌, ◌<◌, ◌≤◌, List, [], ◌∷◌, ◌++◌, length, inr, refl, sym, ap, ◌∙◌, subst, append_assoc}
use Rattle.std.proofs.lemmas.List.{map-append, length-map}
use Rattle.std.proofs.lemmas.List.Elements.{All-cons, All-nil, All-push}
use Rattle.sk_model.specs.Missing.{Begins}
use Rattle.sk_read.specs.declared.fault.Fault.{Fault}
use Rattle.sk_read.specs.declared.fault.Fault.TheVariants as fault
use Rattle.sk_model.specs.Lines.{AreWithin}
use Rattle.sk_read.specs.Records.{Row, field_of, fields_in, width_of, AreEven, AreSoundRows}
use Rattle.sk_read.specs.Columns.{Refuses, Breaks}
use Rattle.sk_read.specs.Faults.{IsOfTaker}
use Rattle.sk_model.specs.Limits.{line_limit}

pub fields_more : (column : ℕ) (rows : List Row) (row : Row) → fields_in column (rows ++ row ∷ []) ≡ fields_in column rows ++ field_of column row ∷ []
fields_more column rows row = map-append (field_of column) rows (row ∷ [])

pub length_fields : (column : ℕ) (rows : List Row) → length (fields_in column rows) ≡ length rows
length_fields column rows = length-map rows (field_of column)

pub even_more : (column : ℕ) (rows : List Row) (row : Row) → AreEven column rows → length row ≡ width_of (rows ++ row ∷ []) → column < length row →
    AreEven column (rows ++ row ∷ [])
even_more column [] row even same has = All-cons (λ (r : Row). (length r ≡ length row) × (column < length r)) row [] (refl, has) (All-nil (λ (r : Row). (length r ≡ length row) × (column < length r)))
even_more column (first ∷ rows) row even same has =
    All-push (λ (r : Row). (length r ≡ length first) × (column < length r)) (first ∷ rows) row even (same, has)

pub sound_more : (column : ℕ) (rows : List Row) (row : Row) → AreSoundRows column rows → AreEven column (rows ++ row ∷ []) →
    length (field_of column row) ≤ line_limit → AreSoundRows column (rows ++ row ∷ [])
sound_more column rows row sound even short = record {
  even = even;
  within = subst (λ (l : List (List ℕ)). AreWithin line_limit l) (sym (fields_more column rows row)) (All-push (λ (l : List ℕ). length l ≤ line_limit) (fields_in column rows) (field_of column row) sound.within short);
}

pub none_sound : (column : ℕ) → AreSoundRows column []
none_sound column = record {
  even = All-nil (λ (row : Row). (length row ≡ 0) × (column < length row));
  within = All-nil (λ (l : List ℕ). length l ≤ line_limit);
}

-- a taker stopped at the field of a sound record
pub refused_by : (Gave : List (List ℕ) → Type 0) (Stopped : Fault → List (List ℕ) → List ℕ → Type 0) (column : ℕ) (rows : List Row) (row : Row) (n : ℕ) (f : Fault) → n ≡ length rows + 1 → IsOfTaker n f →
    AreSoundRows column (rows ++ row ∷ []) → Stopped f (fields_in column rows) (field_of column row) → Refuses column Gave Stopped rows row f
refused_by Gave Stopped column rows row n (fault.BadItem m) place of sound stopped = (of ∙ place, (sound, stopped))
refused_by Gave Stopped column rows row n fault.OutOfMemory place of sound stopped = (sound, stopped)
refused_by Gave Stopped column rows row n fault.WriteFault place of sound stopped = (sound, stopped)
refused_by Gave Stopped column rows row n _ place of sound stopped = absurd of

-- a record that is refused ends the taking there
pub ends_at : (Gave : List (List ℕ) → Type 0) (Stopped : Fault → List (List ℕ) → List ℕ → Type 0) (column : ℕ) (rows more some : List Row) (row : Row) (f : Fault) → Begins (some ++ row ∷ []) more → AreSoundRows column (rows ++ some) →
    Refuses column Gave Stopped (rows ++ some) row f → Breaks column Gave Stopped rows more f
ends_at Gave Stopped column rows more some row fault.OutOfMemory begins sound refused = inr (record { some = some; next = row; begins = begins; sound = sound; refused = refused })
ends_at Gave Stopped column rows more some row f begins sound refused = record { some = some; next = row; begins = begins; sound = sound; refused = refused }

pub one_more_row : (all given : List Row) (row : Row) (run more : List Row) → all ≡ given ++ run → run ≡ row ∷ more → all ≡ (given ++ row ∷ []) ++ more
one_more_row all given row run more split next =
    split ∙ ap (λ (l : List Row). given ++ l) next ∙ sym (append_assoc given (row ∷ []) more)
