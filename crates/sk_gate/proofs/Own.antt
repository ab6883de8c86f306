-- What stays true of the slots that a seat has, over an ask and over the calls of an updater.
use Rattle.std.proofs.Common.{◌≡◌, ◌≢◌, ◌⊎◌, ℕ, ◌+◌, ◌<◌, ◌≤◌, Bool, true, false, not, List, [], ◌∷◌, ◌++◌, length, Option, Some, None, sym, refl, ap, ◌∙◌, subst, ⊎_elim, inl, inr, arith, append-nil, length-append, length-set, set, drop, is_some, if◌then◌else◌, ne_eqb, get_or-set_same, get_or-set_other}
use Rattle.std.proofs.lemmas.Bool.{cases_Bool}
use Rattle.std.specs.Prelude.{slice_index}
use mathlib.Core.Option.{none}
use mathlib.Core.Logic.{dite}
use native.Mathlib.Decide.{ℕ_discrete}
use Rattle.atomic_table.specs.Table.{step, Allows, turned}
use Rattle.sk_model.specs.Entries.{Entry}
use Rattle.sk_compose.specs.Buffers.{Contents}
use Rattle.sk_compose.specs.declared.buffer.Parcel.{Parcel}
use Rattle.sk_machine.specs.Coarse.{most_entries, IsBatch}
use Rattle.sk_machine.specs.declared.views.Mine.{Mine}
use Rattle.sk_machine.specs.declared.views.Stage.TheVariants.{Idle, Busy, Published}
use Rattle.sk_machine.specs.declared.views.Post.TheVariants.{Updater}
use Rattle.sk_machine.specs.declared.views.Duty.{Duty}
use Rattle.sk_machine.specs.declared.views.Duty.TheVariants.{Free, Leads}
use Rattle.sk_machine.specs.declared.views.View.{View}
use Rattle.sk_gate.specs.declared.load.Trunk.{Trunk}
use Rattle.sk_gate.specs.declared.load.Load.TheVariants as load
use Rattle.sk_gate.specs.Slots.{Slot, full, contents, Sketching, Telling, TellsList, TellsGiven, IsTrunkOf}
use Rattle.sk_gate.specs.Views.{size_of, mine_in, mine_of, leads}
use Rattle.sk_gate.specs.Moves.{AsksAt, looked_mine, RenewsAt, LooksAt, AdmitsAt, handed_mine, HandsAt}
use Rattle.sk_gate.specs.Plays.{Sat, LookHand, handed}
use Rattle.atomic_table.specs.Seated.{TableId}
use Rattle.sk_gate.specs.Hands.{is_empty, Own, own_looked, SeatState, seat_state, rotated, LiesAt, IsPut, own_in, IsPost, StageHand, DutyHand, OwnHand, IsEmptyOwn, IsFullOwn, Holds}
use Rattle.sk_gate.specs.Rule.{KeepsRule}
use Rattle.sk_gate.proofs.Rotated.{placed_first}
use Rattle.sk_gate.proofs.Updaters.{hands}
use Rattle.sk_gate.proofs.SeatState.{shown_with, own_shown}
use Rattle.sk_model.specs.Limits.{most_kept}

-- a new view that speaks for the same seat
pub post_keeps : (v w : View) (heart : Bool) (n number : ℕ) → w.post ≡ v.post → IsPost v heart n number → IsPost w heart n number
post_keeps v w true n number e t = (e ∙ t.0, t.1)
post_keeps v w false n number e t = (e ∙ t.0 ∙ ap (λ p. Updater number (mine_in p)) (sym e), t.1, ap (λ p. (mine_in p).rested) e ∙ t.2, ap (λ p. (mine_in p).picked) e ∙ t.3)

cons_is_not : {A : Type 0} {x : A} {xs : List A} → x ∷ xs ≡ [] → ⊥
cons_is_not e = cc

pub some_is_not : {A : Type 0} {a : A} → None ≡ Some a → ⊥
some_is_not e = cc

abbrev parcel_of : {C T : Type 0} → Parcel T → Slot C T → Parcel T
parcel_of p None = p
parcel_of p (Some (load.Parcel q)) = q
parcel_of p (Some (load.Trunk t)) = p

same_full : {C T : Type 0} {p q : Parcel T} → full {C = C} p ≡ full q → p ≡ q
same_full {p = p} e = ap (parcel_of p) e

module _ {C T : Type 0} (g : Sketching C) (k : Telling T) where
  -- and knows the same as whoever propagates
  pub leads_keeps : (v w : View) (n : ℕ) (d : Duty) (first second : List (ℕ × Slot C T)) → (leads d ≡ true → w.seen ≡ v.seen) → w.sizes ≡ v.sizes → w.numbers ≡ v.numbers → w.name ≡ v.name → DutyHand v g k n d first second → DutyHand w g k n d first second
  leads_keeps v w n Free first second seen sizes numbers name t = t
  leads_keeps v w n (Leads stage left) first second seen sizes numbers name t =
      subst (λ (y : List Entry × List ℕ × List ℕ × List ℕ). DutyHand (record v { seen = y.0; sizes = y.1; numbers = y.2; name = y.3 }) g k n (Leads stage left) first second) (λ a. (sym (seen refl) a, sym sizes a, sym numbers a, sym name a)) t

  -- its own slot, if it knows the same of itself
  pub own_keeps : (v w : View) (i : ℕ) (own : Bool) (hand : List (ℕ × Slot C T)) → mine_of w ≡ mine_of v → size_of w i ≡ size_of v i → w.name ≡ v.name → OwnHand v k i own hand → OwnHand w k i own hand
  own_keeps v w i false hand mine size name t = t
  own_keeps v w i true hand mine size name t = (t.0, t.1, ⊎_elim (λ e. inl (empty e)) (λ e. inr (fully e)) t.2, λ z. t.3 (sym size ∙ z))
    where
      empty : IsEmptyOwn v k i t.0 → IsEmptyOwn w k i t.0
      empty e = (
        e.0,
        (λ x is. subst (λ (y : Mine × List ℕ). (y.0.handed ≢ []) × TellsList k y.1 x y.0.base) (λ a. (sym mine a, sym name a)) (e.1 x is)),
        ⊎_elim (λ c. inl (c ∙ sym size)) (λ c. inr (c.0, c.1, ap (λ (y : Mine). y.handed) mine ∙ c.2)) e.2,
      )

      fully : IsFullOwn v i t.0 → IsFullOwn w i t.0
      fully e = (subst (λ z. IsBatch z t.0.buffer.items) (sym size) e.0, e.1, subst (λ (y : Mine). length y.handed + length t.0.buffer.items ≤ most_kept) (sym mine) e.2, e.3 ∙ sym size)

  -- with a view that says the same of it, and the same slots
  pub same_holds : (heart : Bool) (n number front : ℕ) (own : Bool) (m m' : Sat C T) → Holds g k heart n number front own m → m'.0.live ≡ m.0.live → m'.0.sizes ≡ m.0.sizes → m'.0.post ≡ m.0.post → m'.0.duty ≡ m.0.duty → m'.0.numbers ≡ m.0.numbers
      → m'.0.name ≡ m.0.name → (leads m.0.duty ≡ true → m'.0.seen ≡ m.0.seen) → m'.1 ≡ m.1 → Holds g k heart n number front own m'
  same_holds heart n number front own m m' h live sizes post duty numbers name seen same =
      let v : View = m.0 in let w : View = m'.0 in let mine : mine_of w ≡ mine_of v = ap mine_in post in record {
        live = live ∙ h.live;
        sized = ap length sizes ∙ h.sized;
        post = post_keeps v w heart n number post h.post;
        first = h.first;
        second = h.second;
        third = h.third;
        hand = same ∙ h.hand;
        counted = h.counted;
        leading = subst (λ d. DutyHand w g k n d h.first h.second) (sym duty) (leads_keeps v w n v.duty h.first h.second seen sizes numbers name h.leading);
        own_is = h.own_is ∙ ap (λ (y : Mine). y.ready) (sym mine);
        owned = own_keeps v w number own h.third mine (ap (λ l. slice_index l number) sizes) name h.owned;
      }

  pub asked_holds : (packed : List ℕ → List Entry → ℕ) (heart : Bool) (n number front r : ℕ) (own : Bool) (m m' : Sat C T) → Holds g k heart n number front own m → AsksAt packed m.0 r m'.0 → m'.1 ≡ m.1 → Holds g k heart n number front own m'
  asked_holds packed heart n number front r own m m' h t same = let at = t.view in
      same_holds heart n number front own m m' h (ap (λ (y : View). y.live) at) (ap (λ (y : View). y.sizes) at) (ap (λ (y : View). y.post) at) (ap (λ (y : View). y.duty) at) (ap (λ (y : View). y.numbers) at) (ap (λ (y : View). y.name) at) t.leads same

  -- ---- its own slot

  -- it has its own slot, with this parcel
  pub own_at : (heart : Bool) (n number front : ℕ) (own : Bool) (m : Sat C T) → (h : Holds g k heart n number front own m) → own ≡ true
      → (p : Parcel T) × (h.third ≡ (number, full p) ∷ []) × (m.1 ≡ (h.first ++ h.second) ++ (number, full p) ∷ []) × (IsEmptyOwn m.0 k number p ⊎ IsFullOwn m.0 number p) × (size_of m.0 number ≢ 0)
  own_at heart n number front own m h on = let t = subst (λ b. OwnHand m.0 k number b h.third) on h.owned in
      (t.0, t.1, h.hand ∙ ap (λ l. h.first ++ h.second ++ l) t.1, t.2, t.3)

  -- with an empty one, where no items are seen there
  pub empty_at : (v : View) (i : ℕ) (p : Parcel T) → IsEmptyOwn v k i p ⊎ IsFullOwn v i p → p.buffer.items ≡ [] → IsEmptyOwn v k i p
  empty_at v i p t none_there = ⊎_elim (λ e. e) (λ e. let some = e.0.0 in let nothing = ap length none_there in absurd (omega arith)) t

  pub full_at : (v : View) (i : ℕ) (p : Parcel T) → IsEmptyOwn v k i p ⊎ IsFullOwn v i p → p.buffer.items ≢ [] → IsFullOwn v i p
  full_at v i p t some-there = ⊎_elim (λ e. absurd (some-there e.0)) (λ e. e) t

  -- another parcel is put there
  pub put_own : (heart : Bool) (n number front : ℕ) (own : Bool) (m : Sat C T) (q : Parcel T) (hand : List (ℕ × Slot C T)) → (h : Holds g k heart n number front own m) → own ≡ true → IsEmptyOwn m.0 k number q ⊎ IsFullOwn m.0 number q
      → hand ≡ (h.first ++ h.second) ++ (number, full q) ∷ [] → Holds g k heart n number front own (m.0, hand)
  put_own heart n number front own m q hand h on has is = let t = subst (λ b. OwnHand m.0 k number b h.third) on h.owned in record {
    live = h.live;
    sized = h.sized;
    post = h.post;
    first = h.first;
    second = h.second;
    third = (number, full q) ∷ [];
    hand = is;
    counted = h.counted;
    leading = h.leading;
    own_is = h.own_is;
    owned = subst (λ b. OwnHand m.0 {C = C} {T = T} k number b ((number, full q) ∷ [])) (sym on) (q, refl, has, t.3);
  }

  -- its place in hand
  pub own_placed : (heart : Bool) (n number front : ℕ) (own : Bool) (m : Sat C T) → (h : Holds g k heart n number front own m) → own ≡ true → LiesAt number front 0 m.1
  own_placed heart n number front own m h on = let p = own_at heart n number front own m h on in (h.first ++ h.second, full p.0, [], p.2, length-append h.first h.second ∙ h.counted, refl)

  -- what an exchange there gives
  pub own_put : (heart : Bool) (n number front : ℕ) (own : Bool) (m : Sat C T) (old new : Slot C T) (hand : List (ℕ × Slot C T)) → (h : Holds g k heart n number front own m) → own ≡ true → IsPut number front 0 m.1 old new hand
      → (p : Parcel T) × (old ≡ full p) × (own_in h.third ≡ own_in {C = C} {T = T} ((number, full p) ∷ [])) × (IsEmptyOwn m.0 k number p ⊎ IsFullOwn m.0 number p) × (hand ≡ (h.first ++ h.second) ++ (number, new) ∷ [])
  own_put heart n number front own m old new hand h on put = let p = own_at heart n number front own m h on in
      let t = put (h.first ++ h.second) (full p.0) [] p.2 (length-append h.first h.second ∙ h.counted) refl in (p.0, t.0, ap own_in p.1, p.3, t.1)

  -- what lay there
  pub own_gave : (heart : Bool) (n number front : ℕ) (own : Bool) (m : Sat C T) (old new : Slot C T) (q : Parcel T) (hand : List (ℕ × Slot C T)) → (h : Holds g k heart n number front own m) → own ≡ true → IsPut number front 0 m.1 old new hand → old ≡ full q
      → (own_in h.third ≡ record { items = q.buffer.items; capacity = q.buffer.capacity; told = is_some q.told }) × (IsEmptyOwn m.0 k number q ⊎ IsFullOwn m.0 number q) × (hand ≡ (h.first ++ h.second) ++ (number, new) ∷ [])
  own_gave heart n number front own m old new q hand h on put is = let t = own_put heart n number front own m old new hand h on put in let e : t.0 ≡ q = same_full (sym t.1 ∙ is) in
      (t.2 ∙ (λ a. record { items = (e a).buffer.items; capacity = (e a).buffer.capacity; told = is_some (e a).told }), subst (λ p. IsEmptyOwn m.0 k number p ⊎ IsFullOwn m.0 number p) e t.3, t.4)

  -- of an empty parcel
  pub own_taken : (heart : Bool) (n number front : ℕ) (own : Bool) (m : Sat C T) (table : TableId) (now : SeatState) (old new : Slot C T) (q : Parcel T) (hand : List (ℕ × Slot C T)) → (h : Holds g k heart n number front own m) → own ≡ true → seat_state m.0 table number front m.1 ≡ now
      → now.own.items ≡ [] → IsPut number front 0 m.1 old new hand → old ≡ full q → (now.own ≡ record { items = q.buffer.items; capacity = q.buffer.capacity; told = is_some q.told }) × IsEmptyOwn m.0 k number q
  own_taken heart n number front own m table now old new q hand h on is unswapped put gives =
      let t = own_gave heart n number front own m old new q hand h on put gives in
      let e = sym (own_shown g k heart n number front own m table now h is) ∙ t.0 in
      (e, empty_at m.0 number q t.1 (ap (λ (o : Own). o.items) (sym e) ∙ unswapped))

  -- a seat whose own parcel was exchanged, and which now shows another
  pub exchanged_shown : (heart : Bool) (n number front : ℕ) (own : Bool) (m m' : Sat C T) (table : TableId) (now : SeatState) (q : Parcel T) → (h : Holds g k heart n number front own m) → seat_state m.0 table number front m.1 ≡ now → m'.0 ≡ m.0 → m'.1 ≡ (h.first ++ h.second) ++ (number, full q) ∷ []
      → seat_state m'.0 table number front m'.1 ≡ record now { own = record { items = q.buffer.items; capacity = q.buffer.capacity; told = is_some q.told } }
  exchanged_shown heart n number front own m m' table now q h is same cut =
      shown_with g k heart n number front own m table now h is m'.0 m'.1 ((number, full q) ∷ []) cut
      ∙ λ a. record now { view = (same ∙ ap (λ (s : SeatState). s.view) is) a; own = record { items = q.buffer.items; capacity = q.buffer.capacity; told = is_some q.told } }

  -- it has not
  pub none_own : (heart : Bool) (n number front : ℕ) (own : Bool) (m : Sat C T) → (h : Holds g k heart n number front own m) → own ≡ false → (h.third ≡ []) × (m.1 ≡ h.first ++ h.second)
  none_own heart n number front own m h off = let t = subst (λ b. OwnHand m.0 k number b h.third) off h.owned in (t, h.hand ∙ ap (λ l. h.first ++ h.second ++ l) t ∙ append-nil (h.first ++ h.second))

  -- what it knows as whoever propagates needs only the sizes that it knew
  pub leads_sizes : (v w : View) (n : ℕ) (d : Duty) (first second : List (ℕ × Slot C T)) → w.seen ≡ v.seen → w.numbers ≡ v.numbers → w.name ≡ v.name → length w.sizes ≡ length v.sizes → ((i : ℕ) → size_of v i ≢ 0 → size_of w i ≡ size_of v i)
      → DutyHand v g k n d first second → DutyHand w g k n d first second
  leads_sizes v w n Free first second seen numbers name long sizes t = t
  leads_sizes v w n (Leads Idle left) first second seen numbers name long sizes t = (t.0, tt, ⊎_elim inl (λ e. inr (e.0, e.1, laid e.0 e.2)) t.2)
    where
      laid : (q : Trunk C T) → IsTrunkOf g v.numbers v.name v.seen Idle (size_of v) q → IsTrunkOf g w.numbers w.name w.seen Idle (size_of w) q
      laid q x = record { of_it = subst (g.is_of q.global.value) (sym seen) x.of_it; numbers_are = x.numbers_are ∙ sym numbers; name_is = x.name_is ∙ sym name; held_is = x.held_is }
  leads_sizes v w n (Leads (Busy i batch) left) first second seen numbers name long sizes t = let known = t.1 in let same : size_of w i ≡ size_of v i = sizes i known.1 in (
    slot left t.0,
    (
      subst (λ z. i < z) (sym long) known.0,
      (λ z. known.1 (sym same ∙ z)),
      subst (λ z. IsBatch z batch) (sym same) known.2,
      subst (λ (l : List Entry). length l + length batch ≤ most_entries) (sym seen) known.3,
    ),
    ⊎_elim inl (λ e. inr (e.0, e.1, laid e.0 e.2)) t.2,
  )
    where
      slot : (b : Bool) → StageHand v k (Busy i batch) b first → StageHand w k (Busy i batch) b first
      slot true x = x
      slot false x = ⊎_elim inl (λ e. inr (e.0, e.1, e.2 ∙ ap (λ z. contents batch z) (sym (sizes i t.1.1)))) x

      laid : (q : Trunk C T) → IsTrunkOf g v.numbers v.name v.seen (Busy i batch) (size_of v) q → IsTrunkOf g w.numbers w.name w.seen (Busy i batch) (size_of w) q
      laid q x = let h = x.held_is in
          record { of_it = subst (g.is_of q.global.value) (sym seen) x.of_it; numbers_are = x.numbers_are ∙ sym numbers; name_is = x.name_is ∙ sym name; held_is = (h.0, h.1, h.2, h.3 ∙ ap (λ z. contents batch z) (sym (sizes i t.1.1))) }
  leads_sizes v w n (Leads (Published i) left) first second seen numbers name long sizes t = let known = t.1 in let same : size_of w i ≡ size_of v i = sizes i known.1 in (
    ⊎_elim inl (λ e. inr (e.0, e.1, e.2, e.3 ∙ ap (λ z. contents [] z) (sym same), e.4, subst (λ (y : List ℕ × List Entry). TellsList k y.0 e.1 y.1) (λ a. (sym name a, sym seen a)) e.5)) t.0,
    (subst (λ z. i < z) (sym long) known.0, (λ z. known.1 (sym same ∙ z)), known.2),
    ⊎_elim inl (λ e. absurd e.2.held_is) t.2,
  )

  -- ---- a look

  looked_sees : (hint : List ℕ → List Entry → ℕ) (v w : View) (r i : ℕ) (first second : List (ℕ × Slot C T)) (n : ℕ) → RenewsAt hint v r w i → DutyHand v g k n v.duty first second → DutyHand w g k n w.duty first second
  looked_sees hint v w r i first second n t leading = let at = t.view in
      subst (λ d. DutyHand w g k n d first second) (ap (λ (y : View). y.duty) (sym at)) (leads_keeps v w n v.duty first second t.leads (ap (λ (y : View). y.sizes) at) (ap (λ (y : View). y.numbers) at) (ap (λ (y : View). y.name) at) leading)

  -- that took no slot
  pub looked_holds : (hint : List ℕ → List Entry → ℕ) (n number front r : ℕ) (own : Bool) (m m' : Sat C T) → (h : Holds g k false n number front own m) → (own_in h.third).items ≡ [] → LooksAt hint m.0 r m'.0 number → LookHand k m r m' number → (r ≡ 0) ⊎ (own ≡ true)
      → Holds g k false n number front own m'
  looked_holds hint n number front r own m m' h unswapped t hand why = dite (ℕ_discrete r 0)
      (λ z. let at = (t.1 z).view in
      same_holds false n number front own m m' h (ap (λ (y : View). y.live) at) (ap (λ (y : View). y.sizes) at) (ap (λ (y : View). y.post) at) (ap (λ (y : View). y.duty) at) (ap (λ (y : View). y.numbers) at) (ap (λ (y : View). y.name) at)
      (λ _. ap (λ (y : View). y.seen) at) (hand.waits z))
      (λ ne. let on : own ≡ true = ⊎_elim (λ z. absurd (ne z)) (λ e. e) why in
      let v : View = m.0 in let w : View = m'.0 in let y = t.0 ne in let at = y.view in let p = own_at false n number front own m h on in
      let empty = empty_at v number p.0 p.3 (ap (λ l. (own_in l).items) (sym p.1) ∙ unswapped) in
      let ready : (mine_of v).ready ≡ true = sym h.own_is ∙ on in let size : size_of w number ≡ size_of v number = ap (λ (q : View). size_of q number) at in let mine : mine_of w ≡ looked_mine (mine_of v) (mine_of w).base = ap mine_of at in record {
        live = ap (λ (q : View). q.live) at ∙ h.live;
        sized = ap (λ (q : View). length q.sizes) at ∙ h.sized;
        post = (ap (λ (q : View). q.post) at ∙ ap (Updater number) (sym mine), h.post.1, ap (λ (q : Mine). q.rested) mine, ap (λ (q : Mine). q.picked) mine ∙ h.post.3);
        first = h.first;
        second = h.second;
        third = h.third;
        hand = hand.stays ready ∙ h.hand;
        counted = h.counted;
        leading = looked_sees hint v w r number h.first h.second n y h.leading;
        own_is = on ∙ ap (λ (q : Mine). q.ready) (sym mine);
        owned = subst (λ b. OwnHand w k number b h.third) (sym on) (
          p.0,
          p.1,
          inl (
            empty.0,
            (λ x is. let q = empty.1 x is in (
              (λ e. q.0 (ap (λ (z : Mine). z.handed) (sym mine) ∙ e)),
              subst (λ (z : List ℕ × List Entry). TellsList k z.0 x z.1) (λ a. ((ap (λ (u : View). u.name) (sym at)) a, sym (y.again ready) a)) q.1,
            )),
            ⊎_elim (λ c. inl (c ∙ sym size)) (λ c. inr (c.0, c.1, ap (λ (z : Mine). z.handed) mine ∙ c.2)) empty.2,
          ),
          λ z. p.4 (sym size ∙ z),
        );
      })

  -- that took its slot, which then goes after the others
  pub looked_takes : (hint : List ℕ → List Entry → ℕ) (n number front r : ℕ) (own : Bool) (m m' : Sat C T) → (h : Holds g k false n number front own m) → LooksAt hint m.0 r m'.0 number → LookHand k m r m' number → r ≢ 0 → own ≡ false → size_of m.0 number ≢ 0
      → Holds g k false n number front true (m'.0, turned m'.1)
  looked_takes hint n number front r own m m' h t hand ne off there =
      let v : View = m.0 in let w : View = m'.0 in let y = t.0 ne in let at = y.view in let p = hand.takes ne (sym h.own_is ∙ off) in let none_there = none_own false n number front own m h off in
      let size : size_of w number ≡ size_of v number = ap (λ (q : View). size_of q number) at in let mine : mine_of w ≡ looked_mine (mine_of v) (mine_of w).base = ap mine_of at in
      let told = p.2.1 h.post.3 in record {
        live = ap (λ (q : View). q.live) at ∙ h.live;
        sized = ap (λ (q : View). length q.sizes) at ∙ h.sized;
        post = (ap (λ (q : View). q.post) at ∙ ap (Updater number) (sym mine), h.post.1, ap (λ (q : Mine). q.rested) mine, ap (λ (q : Mine). q.picked) mine ∙ h.post.3);
        first = h.first;
        second = h.second;
        third = (number, full p.0) ∷ [];
        hand = ap turned p.1 ∙ ap (λ l. l ++ (number, full p.0) ∷ []) none_there.1;
        counted = h.counted;
        leading = looked_sees hint v w r number h.first h.second n y h.leading;
        own_is = ap (λ (q : Mine). q.ready) (sym mine);
        owned = (
          p.0,
          refl,
          inl (
            ap (λ (q : Contents). q.items) p.2.0,
            (λ x is. let q = told.1 x is in ((λ e. q.0 (ap (λ (z : Mine). z.handed) (sym mine) ∙ e)), subst (λ (z : List ℕ). TellsList k z x (mine_of w).base) (ap (λ (u : View). u.name) (sym at)) q.1)),
            inl (ap (λ (q : Contents). q.capacity) p.2.0 ∙ sym size),
          ),
          λ z. there (sym size ∙ z),
        );
      }

  told_there : (p : Parcel T) (name handed : List ℕ) (base : List Entry) → TellsGiven k name p handed base → is_some p.told ≡ not (is_empty handed)
  told_there p name handed base told = go p.told handed told.0 (λ t e. (told.1 t e).0)
    where
      go : (x : Option T) (xs : List ℕ) → (x ≡ None → xs ≡ []) → ((t : T) → x ≡ Some t → xs ≢ []) → is_some x ≡ not (is_empty xs)
      go None [] a b = refl
      go None (y ∷ ys) a b = absurd (cons_is_not (a refl))
      go (Some t) [] a b = absurd (b t refl refl)
      go (Some t) (y ∷ ys) a b = refl

  looked_own : (v : View) (r i : ℕ) (o : Own) → r ≢ 0 → (mine_of v).ready ≡ false → own_looked r v i o ≡ record { items = []; capacity = size_of v i; told = not (is_empty (mine_of v).handed) }
  looked_own v r i o ne off = (λ a. if ne_eqb r 0 ne a then o else (if off a then o else record { items = []; capacity = size_of v i; told = not (is_empty (mine_of v).handed) }))

  pub looked_shown : (hint : List ℕ → List Entry → ℕ) (n number front r : ℕ) (own : Bool) (m m' : Sat C T) (table : TableId) (now : SeatState) → (h : Holds g k false n number front own m) → seat_state m.0 table number front m.1 ≡ now → LooksAt hint m.0 r m'.0 number → LookHand k m r m' number → r ≢ 0
      → own ≡ false → seat_state m'.0 table number front (turned m'.1) ≡ record now { view = m'.0; own = own_looked r now.view now.number now.own }
  looked_shown hint n number front r own m m' table now h is t hand ne off =
      let v : View = m.0 in let ready : (mine_of v).ready ≡ false = sym h.own_is ∙ off in let p = hand.takes ne ready in let none_there = none_own false n number front own m h off in
      let third : List (ℕ × Slot C T) = (number, full p.0) ∷ [] in
      let cut : turned m'.1 ≡ h.first ++ h.second ++ third = ap turned p.1 ∙ ap (λ l. l ++ (number, full p.0) ∷ []) none_there.1 in
      let told = told_there p.0 v.name (mine_of v).handed (mine_of m'.0).base (p.2.1 h.post.3) in
      let has : own_in third ≡ record { items = []; capacity = size_of v number; told = not (is_empty (mine_of v).handed) } = λ a. record { items = (p.2.0 a).items; capacity = (p.2.0 a).capacity; told = told a } in
      let o : own_in third ≡ own_looked r now.view now.number now.own = has ∙ sym (looked_own v r number (own_in (drop front m.1)) ne ready) ∙ ap (λ (s : SeatState). own_looked r s.view s.number s.own) is in
      shown_with g k false n number front own m table now h is m'.0 (turned m'.1) third cut ∙ λ a. record now { view = m'.0; own = o a }

  -- ---- a hand

  pub handed_holds : (n number front : ℕ) (own : Bool) (m m' : Sat C T) (batch : List ℕ) → (h : Holds g k false n number front own m) → HandsAt m.0 m'.0 number batch → m'.1 ≡ h.first ++ h.second → Holds g k false n number front false m'
  handed_holds n number front own m m' batch h t hand = let v : View = m.0 in let w : View = m'.0 in let mine : mine_of w ≡ handed_mine (mine_of v) batch = ap mine_of t in record {
    live = ap (λ (q : View). q.live) t ∙ h.live;
    sized = ap (λ (q : View). length q.sizes) t ∙ h.sized;
    post = (ap (λ (q : View). q.post) t ∙ ap (Updater number) (sym mine), h.post.1, ap (λ (q : Mine). q.rested) mine, ap (λ (q : Mine). q.picked) mine);
    first = h.first;
    second = h.second;
    third = [];
    hand = hand ∙ sym (append-nil (h.first ++ h.second));
    counted = h.counted;
    leading = subst (λ d. DutyHand w g k n d h.first h.second) (ap (λ (q : View). q.duty) (sym t))
        (leads_keeps v w n v.duty h.first h.second (λ _. ap (λ (q : View). q.seen) t) (ap (λ (q : View). q.sizes) t) (ap (λ (q : View). q.numbers) t) (ap (λ (q : View). q.name) t) h.leading);
    own_is = ap (λ (q : Mine). q.ready) (sym mine);
    owned = refl;
  }

  -- items are seen in its own slot
  pub own_there : (heart : Bool) (n number front : ℕ) (own : Bool) (m : Sat C T) (table : TableId) (now : SeatState) (h : Holds g k heart n number front own m) → seat_state m.0 table number front m.1 ≡ now → now.own.items ≢ [] → own ≡ true
  own_there heart n number front own m table now h is some_there = ⊎_elim (λ e. e)
      (λ (off : own ≡ false). absurd (some_there (ap (λ (o : Own). o.items) (sym (own_shown g k heart n number front own m table now h is) ∙ ap own_in (none_own heart n number front own m h off).0))))
      (cases_Bool own)

  rotated_own : (heart : Bool) (n number front : ℕ) (own : Bool) (m m₁ : Sat C T) → (h : Holds g k heart n number front own m) → own ≡ true → m₁ ≡ (m.0, rotated front m.1)
      → (p : Parcel T) × (m₁ ≡ (m.0, (number, full p) ∷ (h.first ++ h.second))) × (own_in h.third ≡ own_in {C = C} {T = T} ((number, full p) ∷ [])) × (IsEmptyOwn m.0 k number p ⊎ IsFullOwn m.0 number p) × (size_of m.0 number ≢ 0)
  rotated_own heart n number front own m m₁ h on turned = let t = own_at heart n number front own m h on in
      let first = placed_first front m.1 (h.first ++ h.second) number (full t.0) [] t.2 (length-append h.first h.second ∙ h.counted) in
      (t.0, turned ∙ (λ a. (m.0, first a)), ap own_in t.1, t.3, t.4)

  pub hands_at : (hint packed : List ℕ → List Entry → ℕ) (slots id n number front : ℕ) (own : Bool) (m m₁ : Sat C T) (table : TableId) (now : SeatState) → (h : Holds g k false n number front own m) → seat_state m.0 table number front m.1 ≡ now → now.own.items ≢ [] → slots ≡ n + 1 → m₁ ≡ (m.0, rotated front m.1)
      → Allows (KeepsRule hint packed g k) slots id m₁ (number + 1) (λ _. 0) (λ _. handed (step slots (number + 1) 0 0 none) m₁ 0)
  hands_at hint packed slots id n number front own m m₁ table now h is some_there size turned =
      let on = own_there false n number front own m table now h is some_there in let t = rotated_own false n number front own m m₁ h on turned in let p : Parcel T = t.0 in
      let items : p.buffer.items ≢ [] = λ e. some_there (ap (λ (o : Own). o.items) (sym (own_shown g k false n number front own m table now h is) ∙ t.2) ∙ e) in
      let has = full_at m.0 number p t.3 items in
      subst (λ (x : Sat C T). Allows (KeepsRule hint packed g k) slots id x (number + 1) (λ _. 0) (λ _. handed (step slots (number + 1) 0 0 none) x 0)) (sym t.1)
      (hands hint packed g k slots id n m.0 number p (h.first ++ h.second) size h.live h.post.0 (sym h.own_is ∙ on) t.4 has.3 has.0 has.1 has.2)

  pub handed_after : (n number front : ℕ) (own : Bool) (m m₁ m' : Sat C T) (table : TableId) (now : SeatState) → (h : Holds g k false n number front own m) → seat_state m.0 table number front m.1 ≡ now → now.own.items ≢ [] → m₁ ≡ (m.0, rotated front m.1) → handed (step 0 0 0 0 none) m₁ 0 m'
      → HandsAt m.0 m'.0 number now.own.items × (m'.1 ≡ h.first ++ h.second)
  handed_after n number front own m m₁ m' table now h is some_there turned t =
      let on = own_there false n number front own m table now h is some_there in let r = rotated_own false n number front own m m₁ h on turned in let p : Parcel T = r.0 in
      let view : m₁.0 ≡ m.0 = ap (λ (x : Sat C T). x.0) r.1 in
      let post : m₁.0.post ≡ Updater number (mine_of m₁.0) = ap (λ (v : View). v.post) view ∙ h.post.0 ∙ ap (λ (v : View). Updater number (mine_of v)) (sym view) in
      let y = t number p (h.first ++ h.second) post (ap (λ (x : Sat C T). x.1) r.1) in
      let items : p.buffer.items ≡ now.own.items = ap (λ (o : Own). o.items) (sym r.2 ∙ own_shown g k false n number front own m table now h is) in
      (subst (λ (z : View × List ℕ). HandsAt z.0 m'.0 number z.1) (λ a. (view a, items a)) y.0, y.1)

  -- ---- the look by which it is admitted

  pub admitted_holds : (hint : List ℕ → List Entry → ℕ) (n number front r b : ℕ) (own : Bool) (m m' : Sat C T) (p : Parcel T) → (h : Holds g k false n number front own m) → own ≡ false → size_of m.0 number ≡ 0 → 1 ≤ b → AdmitsAt hint m.0 r m'.0 number b
      → m'.1 ≡ (number, full p) ∷ m.1 → p.buffer ≡ contents [] 1 → p.told ≡ None → Holds g k false n number front true (m'.0, turned m'.1)
  admitted_holds hint n number front r b own m m' p h off vacant least t has empty told =
      let v : View = m.0 in let w : View = m'.0 in let at = t.view in let none_there = none_own false n number front own m h off in let long = h.sized in let inside = h.post.1 in
      let mine : mine_of w ≡ looked_mine (mine_of v) [] = ap mine_of at in let sizes : w.sizes ≡ set v.sizes number b = ap (λ (q : View). q.sizes) at in
      let size : size_of w number ≡ b = ap (λ l. slice_index l number) sizes ∙ get_or-set_same v.sizes number b 0 (omega arith) in record {
        live = ap (λ (q : View). q.live) at ∙ h.live;
        sized = ap length sizes ∙ length-set v.sizes number b ∙ h.sized;
        post = (ap (λ (q : View). q.post) at ∙ ap (Updater number) (sym mine), h.post.1, ap (λ (q : Mine). q.rested) mine, ap (λ (q : Mine). q.picked) mine ∙ h.post.3);
        first = h.first;
        second = h.second;
        third = (number, full p) ∷ [];
        hand = ap turned has ∙ ap (λ l. l ++ (number, full p) ∷ []) none_there.1;
        counted = h.counted;
        leading = subst (λ d. DutyHand w g k n d h.first h.second) (ap (λ (q : View). q.duty) (sym at))
            (leads_sizes v w n v.duty h.first h.second (ap (λ (q : View). q.seen) at) (ap (λ (q : View). q.numbers) at) (ap (λ (q : View). q.name) at) (ap length sizes ∙ length-set v.sizes number b)
            (λ i there. ap (λ l. slice_index l i) sizes ∙ get_or-set_other v.sizes number i b 0 (λ e. there (ap (size_of v) e ∙ vacant))) h.leading);
        own_is = ap (λ (q : Mine). q.ready) (sym mine);
        owned = (
          p,
          refl,
          inl (
            ap (λ (q : Contents). q.items) empty,
            (λ x is. absurd (some_is_not (sym told ∙ is))),
            inr (ap (λ (q : Contents). q.capacity) empty, told, ap (λ (q : Mine). q.handed) mine ∙ t.none),
          ),
          λ z. omega arith,
        );
      }

  -- one that is not admitted has not its own slot
  pub own_vacant : (heart : Bool) (n number front : ℕ) (own : Bool) (m : Sat C T) → Holds g k heart n number front own m → size_of m.0 number ≡ 0 → own ≡ false
  own_vacant heart n number front own m h vacant = ⊎_elim (λ (on : own ≡ true). absurd ((own_at heart n number front own m h on).4 vacant)) (λ e. e) (cases_Bool own)

  pub admitted_shown : (n number front : ℕ) (own : Bool) (m m' : Sat C T) (table : TableId) (now : SeatState) (p : Parcel T) → (h : Holds g k false n number front own m) → seat_state m.0 table number front m.1 ≡ now → size_of m.0 number ≡ 0
      → m'.1 ≡ (number, full p) ∷ m.1 → p.buffer ≡ contents [] 1 → p.told ≡ None → seat_state m'.0 table number front (turned m'.1) ≡ record now { view = m'.0; own = record { items = []; capacity = 1; told = false } }
  admitted_shown n number front own m m' table now p h is vacant has empty told =
      let none_there = none_own false n number front own m h (own_vacant false n number front own m h vacant) in
      shown_with g k false n number front own m table now h is m'.0 (turned m'.1) ((number, full p) ∷ []) (ap turned has ∙ ap (λ l. l ++ (number, full p) ∷ []) none_there.1)
      ∙ λ a. record now { view = m'.0; own = record { items = (empty a).items; capacity = (empty a).capacity; told = is_some (told a) } }
