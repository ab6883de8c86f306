-- What stays true of the slots of whoever propagates, over its calls.
use Rattle.std.proofs.Common.{◌≡◌, ◌≢◌, ℕ, ◌+◌, ◌-◌, ◌<◌, ◌≤◌, eqb, eq-eqb, ne_eqb, Bool, true, false, true≢false, List, [], ◌∷◌, ◌++◌, length, Some, None, sym, refl, ap, ◌∙◌, subst, ⊎_elim, inl, inr, arith, append_assoc, length-append, length-set, get_or-set_same, get_or-set_other, set}
use Rattle.std.proofs.lemmas.Bool.{cases_Bool}
use Rattle.std.specs.Prelude.{slice_index}
use mir.Val.{bool_byte}
use mathlib.Core.Logic.{dite}
use native.Mathlib.Decide.{ℕ_discrete}
use mathlib.Core.Option.{none}
use Rattle.atomic_table.specs.Table.{Allows, step, rest}
use Rattle.atomic_table.specs.Seated.{TableId}
use Rattle.sk_model.specs.Entries.{Entry, tagged}
use Rattle.sk_compose.specs.declared.buffer.Parcel.{Parcel}
use Rattle.sk_machine.specs.Coarse.{most_entries, IsBatch}
use Rattle.sk_machine.specs.declared.views.Stage.{Stage}
use Rattle.sk_machine.specs.declared.views.Stage.TheVariants.{Idle, Busy, Published}
use Rattle.sk_machine.specs.declared.views.Move.{Move}
use Rattle.sk_machine.specs.declared.views.Move.TheVariants.{Find, Publish, GiveBack, Turn, Yield}
use Rattle.sk_machine.specs.declared.views.Duty.{Duty}
use Rattle.sk_machine.specs.declared.views.Duty.TheVariants.{Free, Leads}
use Rattle.sk_machine.specs.declared.views.View.{View}
use Rattle.sk_gate.specs.declared.load.Load.TheVariants as load
use Rattle.sk_gate.specs.declared.load.Trunk.{Trunk}
use Rattle.sk_gate.specs.Slots.{Slot, full, trunk, contents, Sketching, Telling, TellsList, IsTrunkOf}
use Rattle.sk_gate.specs.Views.{size_of, mine_in, seat_in, leads, stage_in, left_in, batch_of, IsAtRest}
use Rattle.sk_gate.specs.Moves.{MayResume, LearnsSize, TakesTurnAt, MissesTurnAt, YieldsAt, FindsBatchAt, FindsAt, LeavesAt, PublishesAt, GivesBackAt}
use Rattle.sk_gate.specs.Plays.{Sat, gave_back, left_it, yielded}
use Rattle.sk_gate.specs.Rule.{KeepsRule}
use Rattle.sk_gate.specs.Hands.{has_parcel, LiesAt, IsPut, SeatState, seat_state, StageHand, StageKnown, TrunkHand, DutyHand, OwnHand, IsPost, Holds}
use Rattle.sk_gate.proofs.Own.{post_keeps, leads_keeps, own_keeps}
use Rattle.sk_gate.proofs.Rounds.{leaves, gives_back}
use Rattle.sk_gate.proofs.Turns.{yields}
use Rattle.sk_gate.proofs.SeatState.{is_lifted, shown_of, seat_state_parts, seat_state_at, leads_shape}

-- a new view that says the same of the seat's own updater
record KeepsOwn (v w : View) (i : ℕ) : Type 0 where
  pub live : w.live ≡ v.live
  pub post : w.post ≡ v.post
  pub name : w.name ≡ v.name
  pub long : length w.sizes ≡ length v.sizes
  pub size : size_of v i ≢ 0 → size_of w i ≡ size_of v i

keeps_own : (v w : View) (i : ℕ) (seen' : List Entry) (steps' : List Move) (duty' : Duty) (given' : List (List Entry)) → w ≡ record v { seen = seen'; steps = steps'; duty = duty'; given = given' } → KeepsOwn v w i
keeps_own v w i seen' steps' duty' given' is = record {
  live = ap (λ (y : View). y.live) is;
  post = ap (λ (y : View). y.post) is;
  name = ap (λ (y : View). y.name) is;
  long = ap (λ (y : View). length y.sizes) is;
  size = λ _. ap (λ (y : View). size_of y i) is;
}

-- a size that is set at one place, where it was not known before or is the same
sized_own : (l : List ℕ) (j b i : ℕ) → j < length l → (slice_index l j ≢ 0 → b ≡ slice_index l j) → slice_index l i ≢ 0 → slice_index (set l j b) i ≡ slice_index l i
sized_own l j b i inside same there = dite (ℕ_discrete i j)
    (λ e. ap (slice_index (set l j b)) e ∙ get_or-set_same l j b 0 inside ∙ same (λ z. there (ap (slice_index l) e ∙ z)) ∙ ap (slice_index l) (sym e))
    (λ ne. get_or-set_other l j i b 0 ne)

-- the number of the seat, as the turn has it
pub seat_at : (v : View) (heart : Bool) (n number : ℕ) → IsPost v heart n number → (number ≡ seat_in n v.post) × (number ≤ n)
seat_at v true n number t = let same = t.1 in (t.1 ∙ ap (seat_in n) (sym t.0), omega arith)
seat_at v false n number t = let less = t.1 in (ap (seat_in n) (sym t.0), omega arith)

led_duty : (d : Duty) → leads d ≡ true → d ≡ Leads (stage_in d) (left_in d)
led_duty Free led = absurd (true≢false (sym led))
led_duty (Leads stage left) led = refl

module _ {C T : Type 0} where
  abbrev trunk_or : Trunk C T → Slot C T → Trunk C T
  trunk_or t None = t
  trunk_or t (Some (load.Parcel p)) = t
  trunk_or t (Some (load.Trunk u)) = u

  pub same_trunk : {t u : Trunk C T} → trunk {C = C} {T = T} t ≡ trunk u → t ≡ u
  same_trunk {t = t} e = ap (trunk_or t) e

  abbrev parcel_or : Parcel T → Slot C T → Parcel T
  parcel_or p None = p
  parcel_or p (Some (load.Parcel q)) = q
  parcel_or p (Some (load.Trunk t)) = p

  pub same_parcel : {p q : Parcel T} → full {C = C} {T = T} p ≡ full q → p ≡ q
  same_parcel {p = p} e = ap (parcel_or p) e

  own_sized : (k : Telling T) (v w : View) (i : ℕ) (own : Bool) (hand : List (ℕ × Slot C T)) → KeepsOwn v w i → OwnHand v k i own hand → OwnHand w k i own hand
  own_sized k v w i false hand same t = t
  own_sized k v w i true hand same t = own_keeps (record { is_of = λ (c : C) _. ⊥; numbers = λ _. []; name = λ _. [] }) k v w i true hand (ap mine_in same.post) (same.size t.3) same.name t

  -- ---- the propagator's slots, by what is seen of them

  trunk_out : (g : Sketching C) (v : View) (n : ℕ) (stage : Stage) (second : List (ℕ × Slot C T)) → TrunkHand v g n stage second → is_lifted second ≡ true → second ≡ (n, None) ∷ []
  trunk_out g v n stage second t seen = ⊎_elim (λ e. e) (λ e. absurd (true≢false (sym seen ∙ ap is_lifted e.1))) t

  trunk_in : (g : Sketching C) (v : View) (n : ℕ) (stage : Stage) (second : List (ℕ × Slot C T)) → TrunkHand v g n stage second → is_lifted second ≡ false
      → (t : Trunk C T) × (second ≡ (n, trunk t) ∷ []) × IsTrunkOf g v.numbers v.name v.seen stage (size_of v) t
  trunk_in g v n stage second t seen = ⊎_elim (λ e. absurd (true≢false (sym (ap is_lifted e) ∙ seen))) (λ e. e) t

  trunk_one : (g : Sketching C) (v : View) (n : ℕ) (stage : Stage) (second : List (ℕ × Slot C T)) → TrunkHand v g n stage second → (x : Slot C T) × (second ≡ (n, x) ∷ [])
  trunk_one g v n stage second t = ⊎_elim (λ e. (None, e)) (λ e. (trunk e.0, e.1)) t

  busy_in : (k : Telling T) (v : View) (i : ℕ) (batch : List ℕ) (first : List (ℕ × Slot C T)) → StageHand v k (Busy i batch) false first → has_parcel first ≡ true
      → (p : Parcel T) × (first ≡ (i, full p) ∷ []) × (p.buffer ≡ contents batch (size_of v i))
  busy_in k v i batch first t seen = ⊎_elim (λ e. absurd (true≢false (sym seen ∙ ap has_parcel e))) (λ e. e) t

  busy_out : (k : Telling T) (v : View) (i : ℕ) (batch : List ℕ) (first : List (ℕ × Slot C T)) → StageHand v k (Busy i batch) false first → has_parcel first ≡ false → first ≡ (i, None) ∷ []
  busy_out k v i batch first t seen = ⊎_elim (λ e. e) (λ e. absurd (true≢false (sym (ap has_parcel e.1) ∙ seen))) t

  published_in : (k : Telling T) (v : View) (i : ℕ) (left : Bool) (first : List (ℕ × Slot C T)) → StageHand v k (Published i) left first → has_parcel first ≡ true
      → (p : Parcel T) × (t : T) × (first ≡ (i, full p) ∷ []) × (p.buffer ≡ contents [] (size_of v i)) × (p.told ≡ Some t) × TellsList k v.name t v.seen
  published_in k v i left first t seen = ⊎_elim (λ e. absurd (true≢false (sym seen ∙ ap has_parcel e))) (λ e. e) t

  published_out : (k : Telling T) (v : View) (i : ℕ) (left : Bool) (first : List (ℕ × Slot C T)) → StageHand v k (Published i) left first → has_parcel first ≡ false → first ≡ (i, None) ∷ []
  published_out k v i left first t seen = ⊎_elim (λ e. e) (λ e. absurd (true≢false (sym (ap has_parcel e.2) ∙ seen))) t

  -- nothing of the stage is in hand where the turn may be yielded
  yields_none : (k : Telling T) (v : View) (stage : Stage) (left : Bool) (first : List (ℕ × Slot C T)) → IsAtRest (Leads stage left) → StageHand v k stage left first → first ≡ []
  yields_none k v Idle left first may t = t
  yields_none k v (Busy i batch) true first may t = t
  yields_none k v (Busy i batch) false first may t = absurd (true≢false (sym may))
  yields_none k v (Published i) left first may t = absurd may

-- a turn finds the slot of the stage at home
resumed_hand : (C : Type 0) {T : Type 0} (k : Telling T) (w : View) (stage : Stage) (left : Bool) → MayResume w stage left → StageHand w {C = C} k stage left []
resumed_hand C k w Idle left t = refl
resumed_hand C k w (Busy i batch) left t = subst (λ b. StageHand w {C = C} k (Busy i batch) b []) (sym t.0) refl
resumed_hand C k w (Published i) left t = absurd t

resumed_known : (v w : View) (stage : Stage) (left : Bool) → length w.sizes ≡ length v.sizes → MayResume w stage left → LearnsSize v w stage → StageKnown w stage left
resumed_known v w Idle left long t learns = tt
resumed_known v w (Busy i batch) left long t learns = (subst (λ z. i < z) (sym long) learns.0, (λ z. let least = t.1.0 in let most = t.1.1 in omega arith), t.1, t.2)
resumed_known v w (Published i) left long t learns = absurd t

resumed_own : (v w : View) (stage : Stage) (i : ℕ) → LearnsSize v w stage → (length w.sizes ≡ length v.sizes) × (size_of v i ≢ 0 → size_of w i ≡ size_of v i)
resumed_own v w Idle i t = (ap length t, λ _. ap (λ l. slice_index l i) t)
resumed_own v w (Busy j batch) i t = (ap length t.1 ∙ length-set v.sizes j (size_of w j), λ there. ap (λ l. slice_index l i) t.1 ∙ sized_own v.sizes j (size_of w j) i t.0 t.2 there)
resumed_own v w (Published j) i t = absurd t

-- a turn keeps how many sizes there are
pub taken_sizes : (v w : View) → TakesTurnAt v w → length w.sizes ≡ length v.sizes
taken_sizes v w told = (resumed_own v w (stage_in w.duty) 0 told.learns).0

-- ---- over each call

-- of a seat that is seen as `old`
module _ {C T : Type 0} (g : Sketching C) (k : Telling T) {heart : Bool} {n number front : ℕ} {own : Bool} {m : Sat C T} {table : TableId} {old : SeatState} (h : Holds g k heart n number front own m) (e : seat_state m.0 table number front m.1 ≡ old) where
  shown : shown_of m.0 table number h.first h.second h.third ≡ old
  shown = sym (seat_state_at g k heart n number front own m table h) ∙ e

  pub view_is : m.0 ≡ old.view
  view_is = ap (λ (z : SeatState). z.view) e

  pub within : (i : ℕ) → i < length old.view.sizes → i < n
  within i inside = subst (λ z. i < z) (ap (λ (y : View). length y.sizes) (sym view_is) ∙ h.sized) inside

  filled_is : has_parcel h.first ≡ old.filled
  filled_is = ap (λ (z : SeatState). z.filled) shown

  lifted_is : is_lifted h.second ≡ old.lifted
  lifted_is = ap (λ (z : SeatState). z.lifted) shown

  -- it has its own slot or not, as its field says
  own_behind : (b : Bool) (hand : List (ℕ × Slot C T)) → OwnHand m.0 k number b hand → bool_byte b ≡ length hand
  own_behind false hand t = ap length (sym t)
  own_behind true hand t = ap length (sym t.1)

  behind_is : bool_byte own ≡ length h.third
  behind_is = own_behind own h.third h.owned

  -- what is true of it, and seen of it, after a call
  abbrev pub Next : Sat C T → TableId → ℕ → View → Bool → Bool → Type 0
  Next m' table' front' view' filled' lifted' = Holds g k heart n number front' own m' × (seat_state m'.0 table' number front' m'.1 ≡ record { view = view'; table = old.table; number = old.number; own = old.own; filled = filled'; lifted = lifted' })

  next : (m' : Sat C T) (table' : TableId) (front' : ℕ) (view' : View) (first second : List (ℕ × Slot C T)) (filled' lifted' : Bool) → table' ≡ table → KeepsOwn m.0 m'.0 number → m'.0 ≡ view' → DutyHand m'.0 g k n m'.0.duty first second
      → m'.1 ≡ first ++ second ++ h.third → length first + length second ≡ front' → has_parcel first ≡ filled' → is_lifted second ≡ lifted' → Next m' table' front' view' filled' lifted'
  next m' table' front' view' first second filled' lifted' tables same views leading hand counted fills lifts = (
    record {
      live = same.live ∙ h.live;
      sized = same.long ∙ h.sized;
      post = post_keeps m.0 m'.0 heart n number same.post h.post;
      first = first;
      second = second;
      third = h.third;
      hand = hand;
      counted = counted;
      leading = leading;
      own_is = h.own_is ∙ ap (λ p. (mine_in p).ready) (sym same.post);
      owned = own_sized k m.0 m'.0 number own h.third same h.owned;
    },
    seat_state_parts m'.0 table' number front' m'.1 first second h.third hand counted (leads_shape m'.0 g k n m'.0.duty first second leading)
        ∙ (λ a. record {
          view = views a;
          table = (tables ∙ ap (λ (z : SeatState). z.table) shown) a;
          number = ap (λ (z : SeatState). z.number) shown a;
          own = ap (λ (z : SeatState). z.own) shown a;
          filled = fills a;
          lifted = lifts a;
        }),
  )

  -- a step after which the view is this, and its own updater's part of it as before
  by_view : (w w' : View) (first second : List (ℕ × Slot C T)) → w ≡ w' → DutyHand w' g k n w'.duty first second → DutyHand w g k n w.duty first second
  by_view w w' first second is t = subst (λ (y : View). DutyHand y g k n y.duty first second) (sym is) t

  free_hand : (d : Duty) (first second : List (ℕ × Slot C T)) → leads d ≡ false → DutyHand m.0 g k n d first second → (first ≡ []) × (second ≡ [])
  free_hand Free first second free t = t
  free_hand (Leads stage left) first second free t = absurd (true≢false free)

  -- a seat that does not propagate has none of these slots
  pub free_shown : leads old.view.duty ≡ false → (old.filled ≡ false) × (old.lifted ≡ false)
  free_shown free = let none-there = free_hand m.0.duty h.first h.second (ap (λ (y : View). leads y.duty) view_is ∙ free) h.leading in
      (sym filled_is ∙ ap has_parcel none-there.0, sym lifted_is ∙ ap is_lifted none-there.1)

  pub turned_next : (m' : Sat C T) (table' : TableId) (t : Trunk C T) → leads old.view.duty ≡ false → table' ≡ table → TakesTurnAt m.0 m'.0 → m'.1 ≡ (n, trunk t) ∷ m.1
      → IsTrunkOf g m'.0.numbers m'.0.name m'.0.seen (stage_in m'.0.duty) (size_of m'.0) t → Next m' table' 1 m'.0 old.filled old.lifted
  turned_next m' table' t free tables told hand laid =
      let none-there = free_hand m.0.duty h.first h.second (ap (λ (y : View). leads y.duty) view_is ∙ free) h.leading in
      let w : View = m'.0 in
      let stage : Stage = stage_in w.duty in
      let left : Bool = left_in w.duty in
      let is = told.view in
      let sizes = resumed_own m.0 w stage number told.learns in
      let whole : m.1 ≡ h.third = h.hand ∙ (λ a. none-there.0 a ++ none-there.1 a ++ h.third) in
      next m' table' 1 w [] ((n, trunk t) ∷ []) old.filled old.lifted tables
      (record { live = ap (λ (y : View). y.live) is; post = ap (λ (y : View). y.post) is; name = ap (λ (y : View). y.name) is; long = sizes.0; size = sizes.1 })
      refl
      (subst (λ d. DutyHand w g k n d [] ((n, trunk t) ∷ [])) (sym (ap (λ (y : View). y.duty) is)) (resumed_hand C k w stage left told.resumes, resumed_known m.0 w stage left sizes.0 told.resumes told.learns, inr (t, refl, laid)))
      (hand ∙ ap (λ l. (n, trunk t) ∷ l) whole) refl (ap has_parcel (sym none-there.0) ∙ filled_is) (ap is_lifted (sym none-there.1) ∙ lifted_is)

  pub missed_next : (m' : Sat C T) (table' : TableId) (found : ℕ) → leads old.view.duty ≡ false → table' ≡ table → MissesTurnAt m.0 found m'.0 → m'.1 ≡ m.1 → Next m' table' front m'.0 old.filled old.lifted
  missed_next m' table' found free tables told hand =
      let v : View = m.0 in
      let steps' : List Move = v.steps ++ Turn found ∷ [] in
      let none-there = free_hand v.duty h.first h.second (ap (λ (y : View). leads y.duty) view_is ∙ free) h.leading in
      next m' table' front m'.0 h.first h.second old.filled old.lifted tables (keeps_own v m'.0 number v.seen steps' v.duty v.given told.view) refl
      (by_view m'.0 (record v { steps = steps' }) h.first h.second told.view (leads_keeps g k v (record v { steps = steps' }) n v.duty h.first h.second (λ _. refl) refl refl refl h.leading))
      (hand ∙ h.hand) h.counted filled_is lifted_is

  -- ---- slots in hand

  led : leads old.view.duty ≡ true → m.0.duty ≡ Leads (stage_in m.0.duty) (left_in m.0.duty)
  led is = led_duty m.0.duty (ap (λ (y : View). leads y.duty) view_is ∙ is)

  parts : (stage : Stage) (left : Bool) → m.0.duty ≡ Leads stage left → StageHand m.0 k stage left h.first × StageKnown m.0 stage left × TrunkHand m.0 g n stage h.second
  parts stage left is = subst (λ d. DutyHand m.0 g k n d h.first h.second) is h.leading

  join : (stage : Stage) (left : Bool) (first second : List (ℕ × Slot C T)) → m.0.duty ≡ Leads stage left → StageHand m.0 k stage left first → StageKnown m.0 stage left → TrunkHand m.0 g n stage second → DutyHand m.0 g k n m.0.duty first second
  join stage left first second is a b c = subst (λ d. DutyHand m.0 g k n d first second) (sym is) (a, b, c)

  same_view : (m' : Sat C T) → m'.0 ≡ m.0 → KeepsOwn m.0 m'.0 number
  same_view m' is = keeps_own m.0 m'.0 number m.0.seen m.0.steps m.0.duty m.0.given is

  -- the trunk's slot: where it is, and with another load
  trunk_place : (x : Slot C T) → h.second ≡ (n, x) ∷ [] → (m.1 ≡ h.first ++ (n, x) ∷ h.third) × (length h.first ≡ front - 1)
  trunk_place x is = (h.hand ∙ ap (λ l. h.first ++ l ++ h.third) is ∙ append_assoc h.first ((n, x) ∷ []) h.third, let c = h.counted in let one = ap length is in omega arith)

  pub trunk_at : (behind : ℕ) → leads old.view.duty ≡ true → behind ≡ bool_byte own → LiesAt n (front - 1) behind m.1
  trunk_at behind is long = let l = led is in let x = trunk_one g m.0 n (stage_in m.0.duty) h.second (parts _ _ l).2 in let p = trunk_place x.0 x.1 in (h.first, x.0, h.third, p.0, p.1, sym (long ∙ behind_is))

  pub lifted_next : (m' : Sat C T) (table' : TableId) (behind : ℕ) (result : Slot C T) → leads old.view.duty ≡ true → old.lifted ≡ false → behind ≡ bool_byte own → table' ≡ table → m'.0 ≡ m.0 → IsPut n (front - 1) behind m.1 result None m'.1
      → ((t : Trunk C T) × (result ≡ trunk t) × IsTrunkOf g old.view.numbers old.view.name old.view.seen (stage_in old.view.duty) (size_of old.view) t) × StageKnown old.view (stage_in old.view.duty) (left_in old.view.duty) × Next m' table' front old.view old.filled true
  lifted_next m' table' behind result is laid long tables views put =
      let l = led is in
      let stage : Stage = stage_in m.0.duty in
      let left : Bool = left_in m.0.duty in
      let its = parts stage left l in
      let t = trunk_in g m.0 n stage h.second its.2 (lifted_is ∙ laid) in
      let p = trunk_place (trunk t.0) t.1 in
      let now = put h.first (trunk t.0) h.third p.0 p.1 (sym (long ∙ behind_is)) in (
        (t.0, now.0, subst (λ (y : View). IsTrunkOf g y.numbers y.name y.seen (stage_in y.duty) (size_of y) t.0) view_is t.2),
        subst (λ (y : View). StageKnown y (stage_in y.duty) (left_in y.duty)) view_is its.1,
        next m' table' front old.view h.first ((n, None) ∷ []) old.filled true tables (same_view m' views) (views ∙ view_is)
            (by_view m'.0 m.0 h.first ((n, None) ∷ []) views (join stage left h.first ((n, None) ∷ []) l its.0 its.1 (inl refl)))
            (now.1 ∙ sym (append_assoc h.first ((n, None) ∷ []) h.third)) (let c = h.counted in let one = ap length t.1 in omega arith) filled_is refl,
      )

  pub laid_next : (m' : Sat C T) (table' : TableId) (behind : ℕ) (result : Slot C T) (t : Trunk C T) → leads old.view.duty ≡ true → old.lifted ≡ true → IsTrunkOf g old.view.numbers old.view.name old.view.seen (stage_in old.view.duty) (size_of old.view) t
      → behind ≡ bool_byte own → table' ≡ table → m'.0 ≡ m.0 → IsPut n (front - 1) behind m.1 result (trunk t) m'.1 → Next m' table' front old.view old.filled false
  laid_next m' table' behind result t is out ok long tables views put =
      let l = led is in
      let stage : Stage = stage_in m.0.duty in
      let left : Bool = left_in m.0.duty in
      let its = parts stage left l in
      let away = trunk_out g m.0 n stage h.second its.2 (lifted_is ∙ out) in
      let p = trunk_place None away in
      let now = put h.first None h.third p.0 p.1 (sym (long ∙ behind_is)) in
      let laid = subst (λ (y : View). IsTrunkOf g y.numbers y.name y.seen (stage_in y.duty) (size_of y) t) (sym view_is) ok in
      next m' table' front old.view h.first ((n, trunk t) ∷ []) old.filled false tables (same_view m' views) (views ∙ view_is)
      (by_view m'.0 m.0 h.first ((n, trunk t) ∷ []) views (join stage left h.first ((n, trunk t) ∷ []) l its.0 its.1 (inr (t, refl, laid))))
      (now.1 ∙ sym (append_assoc h.first ((n, trunk t) ∷ []) h.third)) (let c = h.counted in let one = ap length away in omega arith) filled_is refl

  pub duty_as : (d : Duty) → old.view.duty ≡ d → m.0.duty ≡ d
  duty_as d is = ap (λ (y : View). y.duty) view_is ∙ is

  -- ---- the slot of the stage

  pub found_next : (m' : Sat C T) (table' : TableId) (x i : ℕ) (p : Parcel T) → old.view.duty ≡ Leads Idle false → old.lifted ≡ true → i < length old.view.sizes → table' ≡ table → x ≡ 0 → FindsBatchAt m.0 m'.0 i → m'.1 ≡ (i, full p) ∷ m.1
      → p.buffer ≡ contents (batch_of m'.0) (size_of m'.0 i) → Next m' table' 2 m'.0 (eqb x 0) old.lifted
  found_next m' table' x i p is out inside tables nil told hand buffer =
      let v : View = m.0 in
      let w : View = m'.0 in
      let its = parts Idle false (duty_as (Leads Idle false) is) in
      let away = trunk_out g v n Idle h.second its.2 (lifted_is ∙ out) in
      let view = told.view in
      let b : ℕ = size_of w i in
      let wide : i < length v.sizes = subst (λ (y : View). i < length y.sizes) (sym view_is) inside in
      let long : length w.sizes ≡ length v.sizes = ap (λ (y : View). length y.sizes) view ∙ length-set v.sizes i b in
      let seen : w.seen ≡ v.seen = ap (λ (y : View). y.seen) view in
      let rest_is : m.1 ≡ h.second ++ h.third = h.hand ∙ ap (λ l. l ++ h.second ++ h.third) its.0 in
      next m' table' 2 w ((i, full p) ∷ []) h.second (eqb x 0) old.lifted tables
      (record {
        live = ap (λ (y : View). y.live) view;
        post = ap (λ (y : View). y.post) view;
        name = ap (λ (y : View). y.name) view;
        long = long;
        size = λ there. ap (λ (y : View). size_of y number) view ∙ sized_own v.sizes i b number wide told.same there;
      })
      refl
      (subst (λ d. DutyHand w g k n d ((i, full p) ∷ []) h.second) (sym (ap (λ (y : View). y.duty) view)) (
        inr (p, refl, buffer),
        (subst (λ z. i < z) (sym long) wide, (λ z. let least = told.batch.0 in let most = told.batch.1 in omega arith), told.batch, subst (λ (l : List Entry). length l + length (batch_of w) ≤ most_entries) (sym seen) told.few),
        inl away,
      ))
      (hand ∙ ap (λ l. (i, full p) ∷ l) rest_is) (let one = ap length away in omega arith) (sym (eq-eqb x 0 nil)) lifted_is

  pub unfound_next : (m' : Sat C T) (table' : TableId) (x i : ℕ) → old.view.duty ≡ Leads Idle false → old.lifted ≡ true → table' ≡ table → x ≢ 0 → FindsAt m.0 x m'.0 i → m'.1 ≡ m.1 → Next m' table' front m'.0 (eqb x 0) old.lifted
  unfound_next m' table' x i is out tables ne told hand =
      let v : View = m.0 in
      let steps' : List Move = v.steps ++ Find i x ∷ [] in
      let view = told.0 ne in
      let its = parts Idle false (duty_as (Leads Idle false) is) in
      next m' table' front m'.0 h.first h.second (eqb x 0) old.lifted tables (keeps_own v m'.0 number v.seen steps' v.duty v.given view) refl
      (by_view m'.0 (record v { steps = steps' }) h.first h.second view (leads_keeps g k v (record v { steps = steps' }) n v.duty h.first h.second (λ _. refl) refl refl refl h.leading))
      (hand ∙ h.hand) h.counted (ap has_parcel its.0 ∙ sym (ne_eqb x 0 ne)) lifted_is

  -- the slot of the stage is the first, with the trunk's and its own after it
  first_place : (i : ℕ) (x y : Slot C T) → h.first ≡ (i, x) ∷ [] → h.second ≡ (n, y) ∷ [] → (m.1 ≡ (i, x) ∷ (h.second ++ h.third)) × (length (h.second ++ h.third) ≡ 1 + length h.third) × (front ≡ 2)
  first_place i x y is second = (
    h.hand ∙ ap (λ l. l ++ h.second ++ h.third) is,
    length-append h.second h.third ∙ ap (λ l. length l + length h.third) second,
    (let c = h.counted in let a = ap length is in let b = ap length second in omega arith),
  )

  pub taken_at : (i behind : ℕ) → old.view.duty ≡ Leads (Busy i (batch_of old.view)) false → old.filled ≡ true → behind ≡ 1 + bool_byte own → LiesAt i 0 behind m.1
  taken_at i behind is there long =
      let its = parts _ _ (duty_as _ is) in
      let p = busy_in k m.0 i (batch_of old.view) h.first its.0 (filled_is ∙ there) in
      let x = trunk_one g m.0 n _ h.second its.2 in
      let place = first_place i (full p.0) x.0 p.1 x.1 in ([], full p.0, h.second ++ h.third, place.0, refl, place.1 ∙ sym (long ∙ ap (λ a. 1 + a) behind_is))

  pub taken_next : (m' : Sat C T) (table' : TableId) (i behind : ℕ) (result : Slot C T) → old.view.duty ≡ Leads (Busy i (batch_of old.view)) false → old.filled ≡ true → behind ≡ 1 + bool_byte own → table' ≡ table → m'.0 ≡ m.0 → IsPut i 0 behind m.1 result None m'.1
      → ((p : Parcel T) × (result ≡ full p) × (p.buffer ≡ contents (batch_of old.view) (size_of old.view i))) × IsBatch (size_of old.view i) (batch_of old.view) × (length old.view.seen + length (batch_of old.view) ≤ most_entries) × Next m' table' front old.view false old.lifted
  taken_next m' table' i behind result is there long tables views put =
      let batch : List ℕ = batch_of old.view in
      let l = duty_as _ is in
      let its = parts (Busy i batch) false l in
      let p = busy_in k m.0 i batch h.first its.0 (filled_is ∙ there) in
      let x = trunk_one g m.0 n (Busy i batch) h.second its.2 in
      let place = first_place i (full p.0) x.0 p.1 x.1 in
      let now = put [] (full p.0) (h.second ++ h.third) place.0 refl (place.1 ∙ sym (long ∙ ap (λ a. 1 + a) behind_is)) in (
        (p.0, now.0, p.2 ∙ ap (λ (y : View). contents batch (size_of y i)) view_is),
        subst (λ (y : View). IsBatch (size_of y i) batch) view_is its.1.2,
        subst (λ (y : View). length y.seen + length batch ≤ most_entries) view_is its.1.3,
        next m' table' front old.view ((i, None) ∷ []) h.second false old.lifted tables (same_view m' views) (views ∙ view_is)
            (by_view m'.0 m.0 ((i, None) ∷ []) h.second views (join (Busy i batch) false ((i, None) ∷ []) h.second l (inl refl) its.1 its.2))
            now.1 (let c = place.2 in let b = ap length x.1 in omega arith) refl lifted_is,
      )

  published_leads : (w : View) (x i : ℕ) (left : Bool) → old.view.duty ≡ Leads (Busy i (batch_of old.view)) left → PublishesAt m.0 x w i → old.lifted ≡ true → DutyHand w g k n w.duty ((i, None) ∷ []) h.second
  published_leads w x i left is told out =
      let v : View = m.0 in
      let its = parts _ left (duty_as _ is) in
      let away = trunk_out g v n _ h.second its.2 (lifted_is ∙ out) in
      by_view w (record v { seen = v.seen ++ tagged i (batch_of v); steps = v.steps ++ Publish x (length (batch_of v)) ∷ []; duty = Leads (Published i) false }) ((i, None) ∷ []) h.second told (inl refl, (its.1.0, its.1.1, refl), inl away)

  pub published_next : (m' : Sat C T) (table' : TableId) (x i : ℕ) → old.view.duty ≡ Leads (Busy i (batch_of old.view)) (left_in old.view.duty) → old.filled ≡ false → old.lifted ≡ true → table' ≡ table
      → (m.0.duty ≡ Leads (Busy i (batch_of m.0)) false → PublishesAt m.0 x m'.0 i × (m'.1 ≡ m.1)) → (m.0.duty ≡ Leads (Busy i (batch_of m.0)) true → PublishesAt m.0 x m'.0 i × (m'.1 ≡ (i, None) ∷ m.1))
      → PublishesAt m.0 x m'.0 i × Next m' table' 2 m'.0 old.filled old.lifted
  published_next m' table' x i is away out tables kept took =
      let v : View = m.0 in
      let batch : List ℕ = batch_of old.view in
      let left : Bool = left_in old.view.duty in
      let seen' : List Entry = v.seen ++ tagged i (batch_of v) in
      let steps' : List Move = v.steps ++ Publish x (length (batch_of v)) ∷ [] in
      let same : batch ≡ batch_of v = ap batch_of (sym view_is) in
      let l : v.duty ≡ Leads (Busy i batch) left = duty_as _ is in
      let its = parts (Busy i batch) left l in
      let lay = trunk_out g v n (Busy i batch) h.second its.2 (lifted_is ∙ out) in
      let done : (told : PublishesAt v x m'.0 i) → m'.1 ≡ (i, None) ∷ (h.second ++ h.third) → PublishesAt v x m'.0 i × Next m' table' 2 m'.0 old.filled old.lifted
      = λ told hand. (
        told,
        next m' table' 2 m'.0 ((i, None) ∷ []) h.second old.filled old.lifted tables (keeps_own v m'.0 number seen' steps' (Leads (Published i) false) v.given told) refl (published_leads m'.0 x i left is told out)
            hand (let b = ap length lay in omega arith) (sym away) lifted_is,
      ) in
      ⊎_elim
      (λ (on : left ≡ true).
      let t = took (l ∙ (λ a. Leads (Busy i (same a)) (on a))) in
      let nothing : h.first ≡ [] = subst (λ b. StageHand v k (Busy i batch) b h.first) on its.0 in
      done t.0 (t.1 ∙ ap (λ l. (i, None) ∷ l) (h.hand ∙ ap (λ l. l ++ h.second ++ h.third) nothing)))
      (λ (off : left ≡ false).
      let t = kept (l ∙ (λ a. Leads (Busy i (same a)) (off a))) in
      let none-in : h.first ≡ (i, None) ∷ [] = busy_out k v i batch h.first (subst (λ b. StageHand v k (Busy i batch) b h.first) off its.0) (filled_is ∙ away) in
      done t.0 (t.1 ∙ h.hand ∙ ap (λ l. l ++ h.second ++ h.third) none-in))
      (cases_Bool left)

  pub put_at : (i behind : ℕ) → old.view.duty ≡ Leads (Published i) false → old.filled ≡ false → behind ≡ 1 + bool_byte own → LiesAt i 0 behind m.1
  put_at i behind is away long =
      let its = parts _ _ (duty_as _ is) in
      let none-in = published_out k m.0 i false h.first its.0 (filled_is ∙ away) in
      let x = trunk_one g m.0 n _ h.second its.2 in
      let place = first_place i None x.0 none-in x.1 in ([], None, h.second ++ h.third, place.0, refl, place.1 ∙ sym (long ∙ ap (λ a. 1 + a) behind_is))

  pub put_next : (m' : Sat C T) (table' : TableId) (i behind : ℕ) (result : Slot C T) (p : Parcel T) (t : T) → old.view.duty ≡ Leads (Published i) false → old.filled ≡ false → p.buffer ≡ contents [] (size_of old.view i) → p.told ≡ Some t → TellsList k old.view.name t old.view.seen
      → behind ≡ 1 + bool_byte own → table' ≡ table → m'.0 ≡ m.0 → IsPut i 0 behind m.1 result (full p) m'.1 → Next m' table' front old.view true old.lifted
  put_next m' table' i behind result p t is away empty told tells long tables views put =
      let l = duty_as _ is in
      let its = parts (Published i) false l in
      let none-in = published_out k m.0 i false h.first its.0 (filled_is ∙ away) in
      let x = trunk_one g m.0 n (Published i) h.second its.2 in
      let place = first_place i None x.0 none-in x.1 in
      let now = put [] None (h.second ++ h.third) place.0 refl (place.1 ∙ sym (long ∙ ap (λ a. 1 + a) behind_is)) in
      next m' table' front old.view ((i, full p) ∷ []) h.second true old.lifted tables (same_view m' views) (views ∙ view_is)
      (by_view m'.0 m.0 ((i, full p) ∷ []) h.second views (join (Published i) false ((i, full p) ∷ []) h.second l
      (inr (p, t, refl, empty ∙ ap (λ (y : View). contents [] (size_of y i)) (sym view_is), told, subst (λ (y : View). TellsList k y.name t y.seen) (sym view_is) tells)) its.1 its.2))
      now.1 (let c = place.2 in let b = ap length x.1 in omega arith) refl lifted_is

  -- the parcel that lies in the slot of the stage, to be given back
  pub given_at : (i : ℕ) → old.view.duty ≡ Leads (Published i) false → old.filled ≡ true
      → (p : Parcel T) × (t : T) × (m.1 ≡ (i, full p) ∷ (h.second ++ h.third)) × (p.buffer ≡ contents [] (size_of m.0 i)) × (p.told ≡ Some t) × TellsList k m.0.name t m.0.seen × (i < n) × (size_of m.0 i ≢ 0)
  given_at i is there =
      let its = parts (Published i) false (duty_as _ is) in
      let p = published_in k m.0 i false h.first its.0 (filled_is ∙ there) in
      (p.0, p.1, h.hand ∙ ap (λ l. l ++ h.second ++ h.third) p.2, p.3, p.4, p.5, subst (λ z. i < z) h.sized its.1.0, its.1.1)

  pub gave_next : (m' : Sat C T) (table' : TableId) (x i : ℕ) → old.view.duty ≡ Leads (Published i) false → old.filled ≡ true → old.lifted ≡ true → table' ≡ table → GivesBackAt m.0 x m'.0 i → m'.1 ≡ rest m.1 → Next m' table' 1 m'.0 false old.lifted
  gave_next m' table' x i is there out tables told hand =
      let v : View = m.0 in
      let its = parts (Published i) false (duty_as _ is) in
      let away = trunk_out g v n (Published i) h.second its.2 (lifted_is ∙ out) in
      let p = published_in k v i false h.first its.0 (filled_is ∙ there) in
      let steps' : List Move = v.steps ++ GiveBack i x ∷ [] in
      let given' : List (List Entry) = set v.given i v.seen in
      next m' table' 1 m'.0 [] h.second false old.lifted tables (keeps_own v m'.0 number v.seen steps' (Leads Idle false) given' told) refl
      (by_view m'.0 (record v { steps = steps'; duty = Leads Idle false; given = given' }) [] h.second told (refl, tt, inl away))
      (hand ∙ ap rest (h.hand ∙ ap (λ l. l ++ h.second ++ h.third) p.2)) (let b = ap length away in omega arith) refl lifted_is

  -- the slot of the updater that is left, without its parcel
  pub left_at : (i : ℕ) → old.view.duty ≡ Leads (Busy i (batch_of old.view)) false → old.filled ≡ false → (m.1 ≡ (i, None) ∷ (h.second ++ h.third)) × (i < n) × (m.0.duty ≡ Leads (Busy i (batch_of m.0)) false)
  left_at i is away =
      let l = duty_as _ is in
      let its = parts _ false l in
      let none-in = busy_out k m.0 i (batch_of old.view) h.first its.0 (filled_is ∙ away) in
      (h.hand ∙ ap (λ l. l ++ h.second ++ h.third) none-in, subst (λ z. i < z) h.sized its.1.0, l ∙ ap (λ y. Leads (Busy i (batch_of y)) false) (sym view_is))

  pub left_next : (m' : Sat C T) (table' : TableId) (i : ℕ) → old.view.duty ≡ Leads (Busy i (batch_of old.view)) false → old.filled ≡ false → old.lifted ≡ false → table' ≡ table → LeavesAt m.0 m'.0 i → m'.1 ≡ rest m.1 → Next m' table' 1 m'.0 old.filled old.lifted
  left_next m' table' i is away laid tables told hand =
      let v : View = m.0 in
      let place = left_at i is away in
      let l = place.2 in
      let batch : List ℕ = batch_of v in
      let its = parts (Busy i batch) false l in
      let t = trunk_in g v n (Busy i batch) h.second its.2 (lifted_is ∙ laid) in
      let steps' : List Move = v.steps ++ Find i 0 ∷ [] in
      next m' table' 1 m'.0 [] h.second old.filled old.lifted tables (keeps_own v m'.0 number v.seen steps' (Leads (Busy i batch) true) v.given told) refl
      (by_view m'.0 (record v { steps = steps'; duty = Leads (Busy i batch) true }) [] h.second told (refl, its.1, inr (t.0, t.1, record { of_it = t.2.of_it; numbers_are = t.2.numbers_are; name_is = t.2.name_is; held_is = t.2.held_is })))
      (hand ∙ ap rest place.0) (let b = ap length t.1 in omega arith) (sym away) lifted_is

  -- the trunk that is given back, where nothing of the stage is in hand
  pub yielded_at : IsAtRest old.view.duty → old.lifted ≡ false
      → (t : Trunk C T) × (m.1 ≡ (n, trunk t) ∷ h.third) × IsTrunkOf g m.0.numbers m.0.name m.0.seen (stage_in m.0.duty) (size_of m.0) t × StageKnown m.0 (stage_in m.0.duty) (left_in m.0.duty) × IsAtRest m.0.duty × (h.first ≡ [])
  yielded_at may laid =
      let v : View = m.0 in
      let may' : IsAtRest v.duty = subst (λ (y : View). IsAtRest y.duty) (sym view_is) may in
      let l : v.duty ≡ Leads (stage_in v.duty) (left_in v.duty) = yielding v.duty may' in
      let its = parts (stage_in v.duty) (left_in v.duty) l in
      let t = trunk_in g v n (stage_in v.duty) h.second its.2 (lifted_is ∙ laid) in
      let nothing = yields_none k v (stage_in v.duty) (left_in v.duty) h.first (subst IsAtRest l may') its.0 in
      (t.0, h.hand ∙ (λ a. nothing a ++ t.1 a ++ h.third), t.2, its.1, may', nothing)
    where
      yielding : (d : Duty) → IsAtRest d → d ≡ Leads (stage_in d) (left_in d)
      yielding Free may = absurd may
      yielding (Leads stage left) may = refl

  pub yielded_next : (m' : Sat C T) (table' : TableId) → IsAtRest old.view.duty → old.lifted ≡ false → table' ≡ table → YieldsAt m.0 m'.0 → m'.1 ≡ rest m.1 → Next m' table' 0 m'.0 old.filled old.lifted
  yielded_next m' table' may laid tables told hand =
      let v : View = m.0 in
      let place = yielded_at may laid in
      let steps' : List Move = v.steps ++ Yield ∷ [] in
      next m' table' 0 m'.0 [] [] old.filled old.lifted tables (keeps_own v m'.0 number v.seen steps' Free v.given told) refl
      (by_view m'.0 (record v { steps = steps'; duty = Free }) [] [] told (refl, refl))
      (hand ∙ ap rest place.1) refl (ap has_parcel (sym place.5) ∙ filled_is) (sym laid)

  -- ---- steps that give the first slot back

  pub found_as : (i : ℕ) (left : View → Bool) → old.view.duty ≡ Leads (Busy i (batch_of old.view)) (left old.view) → m.0.duty ≡ Leads (Busy i (batch_of m.0)) (left m.0)
  found_as i left is = subst (λ (y : View). y.duty ≡ Leads (Busy i (batch_of y)) (left y)) (sym view_is) is

  pub gives_back_at : (hint packed : List ℕ → List Entry → ℕ) (slots id i x : ℕ) → slots ≡ n + 1 → old.view.duty ≡ Leads (Published i) false → old.filled ≡ true → x ≡ hint old.view.numbers old.view.seen → 1 ≤ x
      → Allows (KeepsRule hint packed g k) slots id m (i + 1) (λ _. x) (λ _. gave_back (step slots (i + 1) x 0 none) m x)
  gives_back_at hint packed slots id i x size is there value lower =
      let p = given_at i is there in
      let whole : m ≡ (m.0, (i, full p.0) ∷ (h.second ++ h.third)) = λ a. (m.0, p.2 a) in
      subst (λ (y : Sat C T). Allows (KeepsRule hint packed g k) slots id y (i + 1) (λ _. x) (λ _. gave_back (step slots (i + 1) x 0 none) y x)) (sym whole)
      (gives_back hint packed g k slots id n i x m.0 p.0 p.1 (h.second ++ h.third) size p.6 h.live (duty_as _ is) p.7 (value ∙ ap (λ (y : View). hint y.numbers y.seen) (sym view_is)) (λ z. omega arith) p.3 p.4 p.5)

  pub leaves_at : (hint packed : List ℕ → List Entry → ℕ) (slots id i : ℕ) → slots ≡ n + 1 → old.view.duty ≡ Leads (Busy i (batch_of old.view)) false → old.filled ≡ false
      → Allows (KeepsRule hint packed g k) slots id m (i + 1) (λ x. x) (left_it (step slots (i + 1) 0 0 none) m)
  leaves_at hint packed slots id i size is away =
      let p = left_at i is away in
      let whole : m ≡ (m.0, (i, None) ∷ (h.second ++ h.third)) = λ a. (m.0, p.0 a) in
      subst (λ (y : Sat C T). Allows (KeepsRule hint packed g k) slots id y (i + 1) (λ x. x) (left_it (step slots (i + 1) 0 0 none) y)) (sym whole)
      (leaves hint packed g k slots id n i m.0 (h.second ++ h.third) size p.1 h.live p.2)

  pub yields_at : (hint packed : List ℕ → List Entry → ℕ) (slots id : ℕ) → slots ≡ n + 1 → IsAtRest old.view.duty → old.lifted ≡ false → Allows (KeepsRule hint packed g k) slots id m (n + 1) (λ _. 0) (λ _. yielded (step slots (n + 1) 0 0 none) m 0)
  yields_at hint packed slots id size may laid =
      let p = yielded_at may laid in
      let whole : m ≡ (m.0, (n, trunk p.0) ∷ h.third) = λ a. (m.0, p.1 a) in
      subst (λ (y : Sat C T). Allows (KeepsRule hint packed g k) slots id y (n + 1) (λ _. 0) (λ _. yielded (step slots (n + 1) 0 0 none) y 0)) (sym whole)
      (yields hint packed g k slots id n m.0 p.0 h.third size h.live p.4 p.3 p.2)
