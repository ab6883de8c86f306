-- A seat takes in another: an updater's, or a note's.
use Rattle.std.proofs.Common.{◌≡◌, ◌≢◌, ℕ, ◌+◌, Bool, true, false, true≢false, List, [], ◌∷◌, ◌++◌, length, Some, is_some, sym, refl, ap, ◌∙◌, subst}
use Rattle.atomic_table.specs.Table.{Allows, step}
use mathlib.Core.Option.{none}
use Rattle.atomic_table.specs.Seated.{TableId}
use Rattle.sk_model.specs.Entries.{Entry}
use Rattle.sk_compose.specs.declared.buffer.Parcel.{Parcel}
use Rattle.sk_machine.specs.declared.views.Move.TheVariants.{Look}
use Rattle.sk_machine.specs.declared.views.Post.TheVariants.{Updater}
use Rattle.sk_machine.specs.declared.views.Duty.{Duty}
use Rattle.sk_machine.specs.declared.views.Duty.TheVariants.{Free, Leads}
use Rattle.sk_machine.specs.declared.views.View.{View}
use Rattle.sk_gate.specs.Slots.{Slot, full, contents, Sketching, Telling, TellsList}
use Rattle.sk_gate.specs.Views.{size_of, mine_of, leads, seen_with, after_join}
use Rattle.sk_gate.specs.Rule.{KeepsRule}
use Rattle.sk_gate.specs.Plays.{Sat, is_picked, rested_mine, rested}
use Rattle.sk_gate.specs.Hands.{SeatState, seat_state, own_in, rested_of, DutyHand, OwnHand, Holds}
use Rattle.sk_gate.proofs.Merged.{sizes_length, sizes_either}
use Rattle.sk_gate.proofs.SeatState.{own_shown}
use Rattle.sk_gate.proofs.Own.{post_keeps, own_keeps, own_at, empty_at, leads_sizes}
use Rattle.sk_gate.proofs.Updaters.{rests}

module _ {C T : Type 0} (g : Sketching C) (k : Telling T) where
  -- who does not lead has none of the propagator's slots
  nothing_leads : (v : View) (n : ℕ) (d : Duty) (first second : List (ℕ × Slot C T)) → leads d ≡ false → DutyHand v g k n d first second → (first ≡ []) × (second ≡ []) × (d ≡ Free)
  nothing_leads v n Free first second free t = (t.0, t.1, refl)
  nothing_leads v n (Leads stage left) first second free t = absurd (true≢false free)

  -- an updater that is ready, does not lead and has not swapped: it has one slot, with an empty parcel of its room
  pub record Resting (n number : ℕ) (m : Sat C T) (now : SeatState) : Type 0 where
    pub parcel : Parcel T
    pub hand : m.1 ≡ (number, full parcel) ∷ []
    pub empty : parcel.buffer ≡ contents [] (size_of m.0 number)
    pub told : (t : T) → parcel.told ≡ Some t → ((mine_of m.0).handed ≢ []) × TellsList k m.0.name t (mine_of m.0).base
    pub there : size_of m.0 number ≢ 0
    pub free : m.0.duty ≡ Free
    pub shown : is_some parcel.told ≡ now.own.told

  pub resting : (n number front : ℕ) (own : Bool) (m : Sat C T) (table : TableId) (now : SeatState) → Holds g k false n number front own m → seat_state m.0 table number front m.1 ≡ now → leads now.view.duty ≡ false → (mine_of now.view).ready ≡ true
      → now.own.items ≡ [] → now.own.capacity ≡ size_of now.view now.number → Resting n number m now
  resting n number front own m table now h is free ready unswapped capacity =
      let v : View = m.0 in let same : v ≡ now.view = ap (λ (s : SeatState). s.view) is in let on : own ≡ true = h.own_is ∙ ap (λ (x : View). (mine_of x).ready) same ∙ ready in
      let p = own_at g k false n number front own m h on in let none_led = nothing_leads v n v.duty h.first h.second (ap (λ (x : View). leads x.duty) same ∙ free) h.leading in
      let shown : own_in h.third ≡ now.own = own_shown g k false n number front own m table now h is in
      let items : p.0.buffer.items ≡ [] = ap (λ l. (own_in l).items) (sym p.1) ∙ ap (λ o. o.items) shown ∙ unswapped in
      let most : p.0.buffer.capacity ≡ size_of v number = ap (λ l. (own_in l).capacity) (sym p.1) ∙ ap (λ o. o.capacity) shown ∙ capacity ∙ (λ a. size_of (sym same a) (sym (ap (λ (s : SeatState). s.number) is) a)) in record {
        parcel = p.0;
        hand = p.2 ∙ (λ a. (none_led.0 a ++ none_led.1 a) ++ (number, full p.0) ∷ []);
        empty = λ a. record { items = items a; capacity = most a };
        told = (empty_at g k v number p.0 p.3 items).1;
        there = p.4;
        free = none_led.2;
        shown = ap (λ l. (own_in l).told) (sym p.1) ∙ ap (λ o. o.told) shown;
      }

-- the view of its seat after it has given its slot back
abbrev pub rested_view : View → ℕ → ℕ → Bool → View
rested_view v i r picked = record v { steps = v.steps ++ Look i r ∷ []; post = Updater i (rested_mine (mine_of v) picked) }

-- what its seat says then
pub record Rests (w : View) (i : ℕ) (w' : View) : Type 0 where
  pub live : w'.live ≡ true
  pub post : w'.post ≡ Updater i (mine_of w')
  pub rested : (mine_of w').rested ≡ true
  pub duty : w'.duty ≡ Free
  pub sizes : w'.sizes ≡ w.sizes

pub rested_says : (w : View) (i r : ℕ) (picked : Bool) (w' : View) → w' ≡ rested_view w i r picked → w.live ≡ true → w.duty ≡ Free → Rests w i w'
rested_says w i r picked w' e live free = record {
  live = ap (λ (x : View). x.live) e ∙ live;
  post = ap (λ (x : View). x.post) e ∙ ap (Updater i) (sym (ap mine_of e));
  rested = ap (λ (x : View). (mine_of x).rested) e;
  duty = ap (λ (x : View). x.duty) e ∙ free;
  sizes = ap (λ (x : View). x.sizes) e;
}

-- what is taken in is what stands for it then
pub same_join : (v : View) (r : ℕ) (told : Bool) (w' : View) (was now : SeatState) → w' ≡ rested_view was.view was.number r (is_picked (mine_of was.view).handed told) → was ≡ now → told ≡ now.own.told → after_join v w' ≡ after_join v (rested_of now)
same_join v r told w' was now e is shown = ap (after_join v) e ∙ ap (λ y. after_join v (rested_of (record was { own = record was.own { told = y } }))) shown
    ∙ λ a. after_join v (rested_of (record (is a) { own = record (is a).own { told = now.own.told } }))

module _ {C T : Type 0} (hint packed : List ℕ → List Entry → ℕ) (g : Sketching C) (k : Telling T) where
  pub gives_up : (slots id n number : ℕ) (m : Sat C T) (now : SeatState) → slots ≡ n + 1 → m.0.live ≡ true → m.0.post ≡ Updater number (mine_of m.0) → (mine_of m.0).ready ≡ true → (x : Resting g k n number m now)
      → Allows (KeepsRule hint packed g k) slots id m (number + 1) (λ x. x) (rested (step slots (number + 1) 0 0 none) m)
  gives_up slots id n number m now size live is ready x = subst (λ (hand : List (ℕ × Slot C T)). Allows (KeepsRule hint packed g k) slots id (m.0, hand) (number + 1) (λ x. x) (rested (step slots (number + 1) 0 0 none) (m.0, hand))) (sym x.hand)
      (rests hint packed g k slots id n m.0 number x.parcel [] size live is ready x.there x.empty x.told)

module _ {C T : Type 0} (g : Sketching C) (k : Telling T) where
  -- a seat that knows the size of its own slot keeps it
  own_joined : (v w : View) (i : ℕ) (own : Bool) (hand : List (ℕ × Slot C T)) → OwnHand v k i own hand → OwnHand (after_join v w) k i own hand
  own_joined v w i false hand t = t
  own_joined v w i true hand t = own_keeps g k v (after_join v w) i true hand refl (sizes_either (λ x. x ≡ size_of v i) v.sizes w.sizes i (λ _. refl) (λ z. absurd (t.3 z))) refl t

  -- what stays true of the slots of a seat that took in another
  pub taken_holds : (heart : Bool) (n number front : ℕ) (own : Bool) (m : Sat C T) (w : View) → Holds g k heart n number front own m → length w.sizes ≡ n → Holds g k heart n number front own (after_join m.0 w, m.1)
  taken_holds heart n number front own m w h long = let v : View = m.0 in record {
    live = h.live;
    sized = sizes_length n v.sizes w.sizes h.sized long;
    post = post_keeps v (after_join v w) heart n number refl h.post;
    first = h.first;
    second = h.second;
    third = h.third;
    hand = h.hand;
    counted = h.counted;
    leading = lead v.duty refl h.leading;
    own_is = h.own_is;
    owned = own_joined v w number own h.third h.owned;
  }
    where
      lead : (d : Duty) → m.0.duty ≡ d → DutyHand m.0 g k n d h.first h.second → DutyHand (after_join m.0 w) g k n d h.first h.second
      lead Free e t = t
      lead (Leads stage left) e t = leads_sizes g k m.0 (after_join m.0 w) n (Leads stage left) h.first h.second (ap (seen_with m.0.seen w.seen) e) refl refl (sizes_length n m.0.sizes w.sizes h.sized long ∙ sym h.sized)
          (λ i there. sizes_either (λ x. x ≡ size_of m.0 i) m.0.sizes w.sizes i (λ _. refl) (λ z. absurd (there z))) t
