-- What contracts see of a seat, from what is true of its slots.
use Rattle.std.proofs.Common.{◌≡◌, ◌⊎◌, ℕ, ◌+◌, Bool, true, false, not, List, [], ◌∷◌, ◌++◌, length, Some, None, sym, refl, ap, ◌∙◌, subst, ⊎_elim, inl, inr, arith}
use Rattle.atomic_table.specs.Seated.{TableId}
use Rattle.sk_machine.specs.declared.views.View.{View}
use Rattle.sk_machine.specs.declared.views.Stage.{Stage}
use Rattle.sk_machine.specs.declared.views.Stage.TheVariants.{Idle, Busy, Published}
use Rattle.sk_machine.specs.declared.views.Duty.{Duty}
use Rattle.sk_machine.specs.declared.views.Duty.TheVariants.{Free, Leads}
use Rattle.sk_gate.specs.declared.load.Load.TheVariants as load
use Rattle.sk_gate.specs.Slots.{Slot, full, trunk, Sketching, Telling}
use Rattle.sk_gate.specs.Plays.{Sat}
use Rattle.sk_gate.specs.Hands.{own_in, has_parcel, has_trunk, SeatState, seat_state, StageHand, DutyHand, Holds}

module _ {C T : Type 0} where
  abbrev pub is_lifted : List (ℕ × Slot C T) → Bool
  is_lifted [] = false
  is_lifted (x ∷ xs) = not (has_trunk (x ∷ xs))

  -- by the slots of the stage, the trunk's, its own
  abbrev pub shown_of : View → TableId → ℕ → List (ℕ × Slot C T) → List (ℕ × Slot C T) → List (ℕ × Slot C T) → SeatState
  shown_of v table number first second third = record { view = v; table = table; number = number; own = own_in third; filled = has_parcel first; lifted = is_lifted second }

  -- the propagator's slots: none, the trunk's, or that of the stage too
  abbrev pub IsShape : List (ℕ × Slot C T) → List (ℕ × Slot C T) → Type 0
  IsShape [] [] = Unit {0}
  IsShape [] (x ∷ []) = Unit {0}
  IsShape (y ∷ []) (x ∷ []) = Unit {0}
  IsShape first second = ⊥

  trunk_first : (x : ℕ × Slot C T) (xs ys : List (ℕ × Slot C T)) → has_trunk (x ∷ xs) ≡ has_trunk (x ∷ ys)
  trunk_first (i, None) xs ys = refl
  trunk_first (i, Some (load.Parcel p)) xs ys = refl
  trunk_first (i, Some (load.Trunk t)) xs ys = refl

  parcel_first : (x : ℕ × Slot C T) (xs ys : List (ℕ × Slot C T)) → has_parcel (x ∷ xs) ≡ has_parcel (x ∷ ys)
  parcel_first (i, None) xs ys = refl
  parcel_first (i, Some (load.Parcel p)) xs ys = refl
  parcel_first (i, Some (load.Trunk t)) xs ys = refl

  -- the slots in hand, cut as they are kept
  pub seat_state_parts : (v : View) (table : TableId) (number front : ℕ) (hand first second third : List (ℕ × Slot C T)) → hand ≡ first ++ second ++ third → length first + length second ≡ front → IsShape first second
      → seat_state v table number front hand ≡ shown_of v table number first second third
  seat_state_parts v table number front hand [] [] third is count shape = let zeroed : front ≡ 0 = omega arith in λ a. seat_state v table number (zeroed a) (is a)
  seat_state_parts v table number front hand [] (x ∷ []) third is count shape = let one : front ≡ 1 = omega arith in
      (λ a. seat_state v table number (one a) (is a)) ∙ λ a. record { view = v; table = table; number = number; own = own_in third; filled = false; lifted = not (trunk_first x third [] a) }
  seat_state_parts v table number front hand (y ∷ []) (x ∷ []) third is count shape = let two : front ≡ 2 = omega arith in
      (λ a. seat_state v table number (two a) (is a)) ∙ λ a. record { view = v; table = table; number = number; own = own_in third; filled = parcel_first y (x ∷ third) [] a; lifted = not (trunk_first x third [] a) }
  seat_state_parts v table number front hand [] (x ∷ (z ∷ zs)) third is count shape = absurd shape
  seat_state_parts v table number front hand (y ∷ []) [] third is count shape = absurd shape
  seat_state_parts v table number front hand (y ∷ []) (x ∷ (z ∷ zs)) third is count shape = absurd shape
  seat_state_parts v table number front hand (y ∷ (z ∷ zs)) second third is count shape = absurd shape

  one_and : (first second : List (ℕ × Slot C T)) (x : ℕ × Slot C T) → second ≡ x ∷ [] → ((first ≡ []) ⊎ ((y : ℕ × Slot C T) × (first ≡ y ∷ []))) → IsShape first second
  one_and first second x is some = ⊎_elim (λ e. subst (λ (p : List (ℕ × Slot C T) × List (ℕ × Slot C T)). IsShape p.0 p.1) (λ a. (sym e a, sym is a)) tt)
      (λ e. subst (λ (p : List (ℕ × Slot C T) × List (ℕ × Slot C T)). IsShape p.0 p.1) (λ a. (sym e.1 a, sym is a)) tt) some

  stage_one : (v : View) (k : Telling T) (stage : Stage) (left : Bool) (first : List (ℕ × Slot C T)) → StageHand v k stage left first → (first ≡ []) ⊎ ((y : ℕ × Slot C T) × (first ≡ y ∷ []))
  stage_one v k Idle left first t = inl t
  stage_one v k (Busy i batch) true first t = inl t
  stage_one v k (Busy i batch) false first t = inr (⊎_elim (λ e. ((i, None), e)) (λ e. ((i, full e.0), e.1)) t)
  stage_one v k (Published i) left first t = inr (⊎_elim (λ e. ((i, None), e)) (λ e. ((i, full e.0), e.2)) t)

  pub leads_shape : (v : View) (g : Sketching C) (k : Telling T) (n : ℕ) (d : Duty) (first second : List (ℕ × Slot C T)) → DutyHand v g k n d first second → IsShape first second
  leads_shape v g k n Free first second t = subst (λ (p : List (ℕ × Slot C T) × List (ℕ × Slot C T)). IsShape p.0 p.1) (λ a. (sym t.0 a, sym t.1 a)) tt
  leads_shape v g k n (Leads stage left) first second t = ⊎_elim (λ e. one_and first second (n, None) e (stage_one v k stage left first t.0)) (λ e. one_and first second (n, trunk e.0) e.1 (stage_one v k stage left first t.0)) t.2

  pub seat_state_at : (g : Sketching C) (k : Telling T) (heart : Bool) (n number front : ℕ) (own : Bool) (m : Sat C T) (table : TableId) (h : Holds g k heart n number front own m)
      → seat_state m.0 table number front m.1 ≡ shown_of m.0 table number h.first h.second h.third
  seat_state_at g k heart n number front own m table h = seat_state_parts m.0 table number front m.1 h.first h.second h.third h.hand h.counted (leads_shape m.0 g k n m.0.duty h.first h.second h.leading)

  -- with a new view, and another parcel in its own slot, or that slot given back
  pub shown_with : (g : Sketching C) (k : Telling T) (heart : Bool) (n number front : ℕ) (own : Bool) (m : Sat C T) (table : TableId) (now : SeatState) (h : Holds g k heart n number front own m)
      → seat_state m.0 table number front m.1 ≡ now → (w : View) (hand third : List (ℕ × Slot C T)) → hand ≡ h.first ++ h.second ++ third → seat_state w table number front hand ≡ record now { view = w; own = own_in third }
  shown_with g k heart n number front own m table now h is w hand third cut =
      let st : shown_of m.0 table number h.first h.second h.third ≡ now = sym (seat_state_at g k heart n number front own m table h) ∙ is in
      seat_state_parts w table number front hand h.first h.second third cut h.counted (leads_shape m.0 g k n m.0.duty h.first h.second h.leading)
      ∙ λ a. record { view = w; table = (st a).table; number = (st a).number; own = own_in third; filled = (st a).filled; lifted = (st a).lifted }

  -- what lies in its own slot
  pub own_shown : (g : Sketching C) (k : Telling T) (heart : Bool) (n number front : ℕ) (own : Bool) (m : Sat C T) (table : TableId) (now : SeatState) (h : Holds g k heart n number front own m) → seat_state m.0 table number front m.1 ≡ now → own_in h.third ≡ now.own
  own_shown g k heart n number front own m table now h is = ap (λ (s : SeatState). s.own) (sym (seat_state_at g k heart n number front own m table h) ∙ is)
