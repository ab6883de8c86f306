-- Lines of one length that a desk took, one after another.
use Rattle.std.proofs.Common.{◌≡◌, ⊎_elim, ap, ◌∙◌, ℕ, ◌+◌, ◌-◌, ◌*◌, ◌<◌, ◌≤◌, List, [], ◌∷◌, ◌++◌, length, length-take, length-drop, take, drop, slice_range, sym, subst, arith}
use Rattle.std.proofs.Math.Nat.{mul-le-mul_right}
use Rattle.std.proofs.lemmas.Bool.{cases_lt}
use Rattle.std.proofs.lemmas.List.{take_all}
use Rattle.std.specs.Str.Lines.{strip_carriage_return}
use Rattle.sk_model.proofs.Lists.{slice_split}
use Rattle.sk_model.specs.Lines.{lines_of}
use Rattle.sk_lines.specs.Runs.{IsRun, AreEven}
use Rattle.sk_tenant.specs.Desks.{DeskState}
use Rattle.sk_desks.specs.Feeds.{HasRoom, HasTenants, TakesLines}
use Rattle.sk_desks.proofs.EvenLaws.{even_line, inside}
use Rattle.sk_desks.proofs.BlockLaws.{no_lines}
use Rattle.sk_desks.proofs.Taking.{takes_more, has_still, room_after}

-- a desk took the lines of a run from one place up to another, and has room for those after them
pub record HasTaken (seed : ℕ) (d e : DeskState) (run : List ℕ) (count from to : ℕ) : Type 0 where
  pub order : from ≤ to
  pub within : to ≤ count
  pub took : TakesLines seed d (slice_range (lines_of run) from to) e
  pub tenants : HasTenants e
  pub room : HasRoom (count - to) e

pub none_taken : (seed : ℕ) (d : DeskState) (run : List ℕ) (count from : ℕ) → from ≤ count → HasTenants d → HasRoom (count - from) d → HasTaken seed d d run count from from
none_taken seed d run count from within tenants room = record { order = omega arith; within = within; took = no_lines seed d (lines_of run) from; tenants = tenants; room = room }

module _ (seed : ℕ) (d e : DeskState) (run : List ℕ) (count from to : ℕ) (is : IsRun count run) (so_far : HasTaken seed d e run count from to) where
  -- those up to a further place
  pub more_taken : (end : ℕ) (e' : DeskState) → to ≤ end → end ≤ count → TakesLines seed e (slice_range (lines_of run) to end) e' → HasTaken seed d e' run count from end
  more_taken end e' order within took =
      let lines = lines_of run in
      let some : List (List ℕ) = slice_range lines to end in
      let size : length some ≡ end - to = omega (arith, length-take (end - to) (drop to lines), length-drop to lines, is.count, order, within) in
      let room : HasRoom (length some + (count - end)) e = λ t u inside. omega (arith, so_far.room t u inside, size, order, within) in
      record {
        order = omega (arith, so_far.order, order);
        within = within;
        took = subst (λ (ls : List (List ℕ)). TakesLines seed d ls e') (sym (slice_split lines from to end so_far.order order)) (takes_more seed d e e' (slice_range lines from to) some so_far.took took);
        tenants = has_still seed e e' some took so_far.tenants;
        room = room_after seed e e' some (count - end) so_far.tenants took room;
      }

  -- the next one, which begins here
  pub one_more_taken : (len at bytes : ℕ) (e' : DeskState) → AreEven count len run → to < count → at ≡ to * (len + 1) → bytes ≡ length (strip_carriage_return (slice_range run at (at + len)))
      → TakesLines seed e (slice_range run at (at + bytes) ∷ []) e' → HasTaken seed d e' run count from (to + 1)
  one_more_taken len at bytes e' even less place size took =
      let start : ℕ = to * (len + 1) in
      let its : slice_range (lines_of run) to (to + 1) ≡ slice_range run start (start + bytes) ∷ [] =
      even_line run count len to is even less bytes (size ∙ ap (λ (n : ℕ). length (strip_carriage_return (slice_range run n (n + len)))) place) in
      more_taken (to + 1) e' (omega arith) (omega (arith, less))
      (subst (λ (ls : List (List ℕ)). TakesLines seed e ls e') (ap (λ (n : ℕ). slice_range run n (n + bytes) ∷ []) place ∙ sym its) took)

pub all_taken : (seed : ℕ) (d e : DeskState) (run : List ℕ) (count to : ℕ) → IsRun count run → HasTaken seed d e run count 0 to → count ≤ to → TakesLines seed d (lines_of run) e
all_taken seed d e run count to is so_far all = subst (λ (ls : List (List ℕ)). TakesLines seed d ls e) (take_all (to - 0) (lines_of run) (omega (arith, all, is.count))) so_far.took

-- a line that begins within a run is one of it, and lies in it
module _ (run : List ℕ) (count len place at : ℕ) (is : IsRun count run) (even : AreEven count len run) (begins : at ≡ place * (len + 1)) (within : at < length run) where
  pub is_among : place < count
  is_among = ⊎_elim
      (λ (less : place < count). less)
      (λ (past : count ≤ place). absurd (let most : count * (len + 1) ≤ place * (len + 1) = mul-le-mul_right (len + 1) past in omega (arith, most, even.bytes, begins, within)))
      (cases_lt place count)

  pub lies_inside : at + len ≤ length run
  lies_inside = omega (arith, inside run count len place is even is_among, begins)
