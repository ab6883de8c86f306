-- Units of a text that were given one after another, and the first that is refused.
use Rattle.std.proofs.Common.{◌≡◌, ℕ, ◌+◌, ◌-◌, ◌<◌, ◌≤◌, List, [], ◌∷◌, ◌++◌, length, take, get_or, All, IsNone, sym, ap, ◌∙◌, subst, arith, append_assoc, length-append, length-take}
use Rattle.std.proofs.Math.Seq.{get_or-append_seam}
use Rattle.std.proofs.lemmas.List.{get_or_append_left, get_or-take, take-take, take-map}
use Rattle.std.proofs.lemmas.List.Elements.{All-take}
use Rattle.sk_model.specs.Limits.{line_limit}
use Rattle.sk_model.specs.Lines.{lines_of, AreWithin}
use Rattle.sk_model.specs.Missing.{Begins}
use Rattle.sk_read.specs.Items.{IsGood, item_of}
use Rattle.sk_read.specs.Reads.{IsInTime as IsReadInTime}
use Rattle.sk_read.specs.Records.{Row, records_of, fields_in, field_of, AreEven, AreSoundRows}
use Rattle.sk_read.specs.Units.{units_by, units_of, complete_units_of, IsSoundUpTo}
use Rattle.sk_read.specs.declared.kind.Kind.{Kind}
use Rattle.sk_read.specs.declared.units.Units.{Units}
use Rattle.sk_read.specs.declared.units.Units.TheVariants.{Lines, Column}
use Rattle.sk_read.proofs.ItemLaws.{front_is}
use Rattle.sk_cli.specs.Readable.{IsReadableSoFar, AreGoodBefore, IsBadUnit}
use Rattle.sk_cli.specs.Run.{IsInTime}

-- the first of some units, each good
pub all_front : (P : List ℕ → Type 0) (front given : List (List ℕ)) → Begins front given → All P given → All P front
all_front P front given begins all = λ k d below.
    subst P (get_or_append_left front begins.0 d k below) (subst (λ (l : List (List ℕ)). P (get_or l k d)) begins.1 (all k d (omega (arith, ap length begins.1, length-append front begins.0, below))))

-- records that are even are so without the last
even_less : (c n : ℕ) (records : List Row) → AreEven c records → AreEven c (take n records)
even_less c n records even = λ k d below.
    let inside : k < n = omega (arith, below, length-take n records) in
    let here : get_or (take n records) k d ≡ get_or records k d = get_or-take n records k d inside in
    let first : get_or (take n records) 0 [] ≡ get_or records 0 [] = get_or-take n records 0 [] (omega (arith, inside)) in
    let both = even k d (omega (arith, below, length-take n records)) in
    (ap (λ (r : Row). length r) here ∙ both.0 ∙ sym (ap (λ (r : Row). length r) first), subst (λ (r : Row). c < length r) (sym here) both.1)

one_less : {A : Type 0} (n : ℕ) (xs : List A) → take n (take (n + 1) xs) ≡ take n xs
one_less n xs = take-take n (n + 1) xs (omega arith)

-- units that are sound are so without the last
pub sound_less : (u : Units) (n : ℕ) (text : List ℕ) → IsSoundUpTo u (n + 1) text → IsSoundUpTo u n text
sound_less Lines n text sound = subst (AreWithin line_limit) (one_less n (lines_of text)) (All-take (λ (l : List ℕ). length l ≤ line_limit) n (take (n + 1) (lines_of text)) sound)
sound_less (Column c) n text sound =
    let records : List Row = take (n + 1) (records_of text) in
    let fewer : AreSoundRows c (take n records) = record {
      even = even_less c n records sound.even;
      within = subst (AreWithin line_limit) (take-map (field_of c) n records) (All-take (λ (l : List ℕ). length l ≤ line_limit) n (fields_in c records) sound.within);
    } in
    subst (AreSoundRows c) (one_less n (records_of text)) fewer

-- the units before number n are those that were given
pub front_at : (n : ℕ) (given units : List (List ℕ)) → n ≡ length given + 1 → Begins given units → take (n - 1) units ≡ given
front_at n given units is begins = ap (λ (m : ℕ). take m units) (omega (arith, is)) ∙ front_is given units begins

module _ (kind : Kind) (column : ℕ) where
  pub in_time : {last : ℕ} (given : List (List ℕ)) (taken : List ℕ) → IsReadInTime last (units_by column) given taken → All (IsGood kind) given → IsInTime last (IsReadableSoFar kind column) taken
  in_time given taken is good = record {
    front = is.front;
    piece = is.piece;
    joined = is.joined;
    size = is.size;
    few = is.few;
    so_far = (is.sound, all_front (IsGood kind) (complete_units_of (units_by column) is.front) given is.earlier good);
  }

  pub good_before : (n : ℕ) (text : List ℕ) (given : List (List ℕ)) → n ≡ length given + 1 → All (IsGood kind) given → Begins given (units_of (units_by column) text) → AreGoodBefore kind column n text
  good_before n text given is good begins = (omega (arith, is), subst (All (IsGood kind)) (sym (front_at n given (units_of (units_by column) text) is begins)) good)

  pub bad_at : (n : ℕ) (given : List (List ℕ)) (unit text : List ℕ) → n ≡ length given + 1 → All (IsGood kind) given → (filled : 0 < length unit) → IsNone (item_of kind unit) →
      Begins (given ++ unit ∷ []) (units_of (units_by column) text) → IsSoundUpTo (units_by column) n text → IsBadUnit kind column n text
  bad_at n given unit text is good filled bad begins sound =
      let units = units_of (units_by column) text in
      let behind : units ≡ given ++ unit ∷ begins.0 = begins.1 ∙ append_assoc given (unit ∷ []) begins.0 in
      let place : n - 1 ≡ length given = omega (arith, is) in
      let here : get_or units (n - 1) [] ≡ unit = ap (λ (m : ℕ). get_or units m []) place ∙ ap (λ (l : List (List ℕ)). get_or l (length given) []) behind ∙ get_or-append_seam given unit begins.0 [] in
      record {
        before = good_before n text given is good (unit ∷ begins.0, behind);
        sound = sound;
        to = omega (arith, ap length behind, length-append given (unit ∷ begins.0), is);
        filled = subst (λ (l : List ℕ). 0 < length l) (sym here) filled;
        bad = subst (λ (l : List ℕ). IsNone (item_of kind l)) (sym here) bad;
      }
