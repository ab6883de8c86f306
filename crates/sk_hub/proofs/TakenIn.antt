-- An updater's seat is taken in, and the heart asks.
use Rattle.std.proofs.Common.{◌≡◌, ◌≢◌, ℕ, ◌<◌, List, [], ◌∷◌, ◌++◌, ◌+◌, arith, length, map, get_or, set, All, Bool, true, false, not, if◌then◌else◌, Option, Some, None, is_some, subst, sym, ap, refl, ◌∙◌, append-nil, length-set, get_or-set_same, get_or-set_other}
use Rattle.std.specs.Prelude.{Contains}
use Rattle.std.proofs.lemmas.List.{map-set}
use Rattle.std.proofs.lemmas.List.Elements.{Contains-push}
use mathlib.Core.Logic.{dite}
use native.Mathlib.Decide.{ℕ_discrete}
use Rattle.sk_model.specs.Entries.{Entry, entries_by}
use Rattle.sk_model.specs.Missing.{Begins}
use Rattle.sk_model.proofs.Missing.{begins_trans}
use Rattle.sk_machine.specs.Coarse.{IsEntry}
use Rattle.sk_compose.specs.Buffers.{Contents}
use Rattle.sk_compose.specs.declared.buffer.Parcel.{Parcel}
use Rattle.sk_machine.specs.declared.views.Mine.{Mine}
use Rattle.sk_machine.specs.declared.views.Move.TheVariants.{Ask}
use Rattle.sk_machine.specs.declared.views.Post.TheVariants.{Updater}
use Rattle.sk_machine.specs.declared.views.Duty.TheVariants.{Free}
use Rattle.sk_machine.specs.declared.views.View.{View}
use Rattle.sk_gate.specs.Slots.{Telling}
use Rattle.sk_gate.specs.Views.{known_of, mine_of, size_of, after_join}
use Rattle.sk_gate.specs.Moves.{AsksAt, IsSeen}
use Rattle.sk_gate.specs.Plays.{is_picked, rested_mine}
use Rattle.sk_gate.specs.Hands.{no_own, own_empty, is_empty, rested_of, SeatState, TellsBase}
use Rattle.sk_gate.proofs.Merged.{sizes_length}
use Rattle.sk_hub.specs.Updaters.{IsFree, IsUpdater, TellsItems, state_of, items_in}
use Rattle.sk_hub.specs.Hearts.{IsHeart, heart_of}
use Rattle.sk_hub.specs.Drains.{IsDrained}
use Rattle.sk_hub.proofs.Views.{seen_again}
use Rattle.sk_hub.proofs.Knowledge.{hears_own, hears_other}

-- the heart's view after both, and the updater's mine
abbrev joined_view : View → View → ℕ → View
joined_view v w number = after_join (record v { duty = Free }) (record w { post = Updater number (rested_mine (mine_of w) (is_picked (mine_of w).handed false)) })

abbrev asked_view : View → List Entry → ℕ → View
asked_view v seen word = record v { seen = seen; steps = v.steps ++ Ask word ∷ [] }

module _ {T : Type 0} (hint_of packed : List ℕ → List Entry → ℕ) (k : Telling T) (hs us us' hj ha : SeatState) (word : ℕ) (vacant : List SeatState) (told : List (Option T)) (n admitted number updaters size : ℕ) (fill : Option Contents) (ut : Option T) (hint taken last : ℕ) (p : Parcel T)
    (h : IsHeart k hs vacant told n admitted) (u : IsUpdater hint_of k us number updaters size fill ut hint taken last) (picks : us' ≡ record us { own = own_empty (size_of us.view us.number) }) (tells : TellsBase us.view k p) (some : is_some p.told ≡ us.own.told)
    (joins : hj ≡ record hs { view = after_join hs.view (rested_of us') }) (asks : AsksAt packed hj.view word ha.view) (stays : ha ≡ record hj { view = ha.view })
    (ready : (mine_of us.view).ready ≡ true) (empty : items_in fill ≡ []) (table : us.table ≡ hs.table) where
  -- one table has one number of updaters
  same_count : updaters ≡ n
  same_count =
      let there : us.table.slots ≡ updaters + 1 = u.slots in
      let here : hs.table.slots ≡ n + 1 = h.slots in
      let same : us.table.slots ≡ hs.table.slots = ap (λ t. t.slots) table in
      omega arith

  all : entries_by number (mine_of us.view).base ≡ (mine_of us.view).handed
  all = u.view.settled ready

  within : number < n
  within = subst (λ z. number < z) same_count u.within

  sized : length us.view.sizes ≡ n
  sized = u.sized ∙ same_count

  joined_is : hj.view ≡ joined_view hs.view us.view number
  joined_is = ap (λ s. s.view) joins ∙ ap (λ s. after_join hs.view (rested_of s)) picks ∙ λ d. after_join (record hs.view { duty = h.free.duty d }) (record us.view { post = Updater (u.number_is d) (rested_mine (mine_of us.view) (is_picked (mine_of us.view).handed false)) })

  view_is : ha.view ≡ asked_view (joined_view hs.view us.view number) ha.view.seen word
  view_is = asks.view ∙ λ d. asked_view (joined_is d) ha.view.seen word

  -- the ask shows it of those that were taken in
  name : us.view.name ≡ hs.view.name
  name = asks.named us.view.name (subst (λ z. Contains z.names us.view.name) (sym joined_is) (Contains-push hs.view.names us.view.name)) ∙ ap (λ z. z.name) joined_is

  heart_is : record hs { view = asked_view (joined_view hs.view us.view number) ha.view.seen word } ≡ ha
  heart_is = sym (stays ∙ λ d. record (joins d) { view = view_is d })

  -- what is known of updater i after that
  told_then : (known : List (List ℕ)) → length known ≡ n → known ≡ set hs.view.known number (mine_of us.view).handed → (i : ℕ) (t : T) → get_or (set told number p.told) i None ≡ Some t → (get_or known i [] ≢ []) × TellsItems k hs.view.name i (get_or known i []) t
  told_then known long is i t there = dite (ℕ_discrete i number)
      (λ same.
      let wide : number < length hs.view.known = subst (λ z. number < z) (sym h.known_sized) within in
      let deep : number < length told = subst (λ z. number < z) (sym h.told_sized) within in
      let here : get_or known i [] ≡ (mine_of us.view).handed = (λ d. get_or (is d) (same d) []) ∙ get_or-set_same hs.view.known number (mine_of us.view).handed [] wide in
      let its : p.told ≡ Some t = sym (get_or-set_same told number p.told None deep) ∙ ap (λ z. get_or (set told number p.told) z None) (sym same) ∙ there in
      let told_base = tells t its in
      let tells_it : TellsItems k hs.view.name number (mine_of us.view).handed t = subst (λ z. TellsItems k z number (mine_of us.view).handed t) name ((mine_of us.view).base, all, told_base.1) in
      (subst (λ z. z ≢ []) (sym here) told_base.0, subst (λ z. TellsItems k hs.view.name i z t) (sym here) (subst (λ z. TellsItems k hs.view.name z (mine_of us.view).handed t) (sym same) tells_it)))
      (λ ne.
      let here : get_or known i [] ≡ get_or hs.view.known i [] = ap (λ z. get_or z i []) is ∙ get_or-set_other hs.view.known number i (mine_of us.view).handed [] ne in
      let before = h.told_is i t (sym (get_or-set_other told number i p.told None ne) ∙ there) in
      (subst (λ z. z ≢ []) (sym here) before.0, subst (λ z. TellsItems k hs.view.name i z t) (sym here) before.1))

  -- it sees what the hub's updaters handed over
  sees_then : IsSeen (asked_view (joined_view hs.view us.view number) ha.view.seen word) ha.view.seen
  sees_then = seen_again hj.view (asked_view (joined_view hs.view us.view number) ha.view.seen word) ha.view.seen (sym (ap (λ v. v.post) joined_is)) (sym (ap (λ v. length v.sizes) joined_is)) asks.is_seen

  pub heart_then : IsHeart k ha vacant (set told number p.told) n admitted
  heart_then =
      let x : SeatState = record hs { view = asked_view (joined_view hs.view us.view number) ha.view.seen word } in
      let free : IsFree x = record { duty = refl; filled = h.free.filled; lifted = h.free.lifted } in
      let long : length x.view.known ≡ n = length-set hs.view.known number (mine_of us.view).handed ∙ h.known_sized in
      let is : IsHeart k x vacant (set told number p.told) n admitted = record {
        free = free;
        few = h.few;
        slots = h.slots;
        sized = sizes_length n hs.view.sizes us.view.sizes h.sized sized;
        known_sized = long;
        sees = sees_then;
        told_sized = length-set told number p.told ∙ h.told_sized;
        all = h.all;
        vacant_are = h.vacant_are;
        told_is = told_then x.view.known long refl;
      } in
      subst (λ z. IsHeart k z vacant (set told number p.told) n admitted) heart_is is

  -- the heart has seen all that it had seen before
  pub seen_then : Begins hs.view.seen ha.view.seen
  seen_then = asks.heard hs.view.seen (subst (λ z. Contains z.heard hs.view.seen) (sym joined_is) (hears_own hs.view.heard us.view.heard hs.view.seen us.view.seen))

  -- and all that the updater had seen
  pub hears_then : Begins us.view.seen ha.view.seen
  hears_then = asks.heard us.view.seen (subst (λ z. Contains z.heard us.view.seen) (sym joined_is) (hears_other hs.view.heard us.view.heard hs.view.seen us.view.seen))

  kept_is : (mine_of us.view).handed ++ items_in fill ≡ (mine_of us.view).handed
  kept_is = ap (λ l. (mine_of us.view).handed ++ l) empty ∙ append-nil (mine_of us.view).handed

  own_told : us.own.told ≡ not (is_empty (mine_of us.view).handed)
  own_told = ap (λ o. o.told) (u.own ∙ λ d. if ready d then record { items = []; capacity = size; told = not (is_empty (mine_of us.view).handed) } else no_own)

  pub drained_then : (eager ueager : Bool) → IsDrained (heart_of hs n admitted told eager) (state_of us number size fill ut hint last ueager) (heart_of ha n admitted (set told number p.told) eager)
  drained_then eager ueager =
      let mine : Mine = mine_of us.view in
      let x : SeatState = record hs { view = asked_view (joined_view hs.view us.view number) ha.view.seen word } in
      let wide : number < length hs.view.known = subst (λ z. number < z) (sym h.known_sized) within in
      let known_is : known_of hj.view number ≡ mine.handed = ap (λ z. known_of z number) joined_is ∙ get_or-set_same hs.view.known number mine.handed [] wide in
      let in_it : Contains hj.view.drained number = subst (λ z. Contains z.drained number) (sym joined_is) (Contains-push hs.view.drained number) in
      let held : Option T → Bool = λ t. is_some t in
      let news : map held (set told number p.told) ≡ set (map held told) number (not (is_empty (mine.handed ++ items_in fill))) =
      map-set held told number p.told ∙ ap (λ z. set (map held told) number z) (some ∙ own_told ∙ ap (λ l. not (is_empty l)) (sym kept_is)) in
      record {
        seen = asks.drained number in_it ∙ known_is ∙ sym kept_is;
        grows = seen_then;
        hears = hears_then;
        base = begins_trans _ _ _ u.view.based hears_then;
        entries = subst (λ z. All (IsEntry z) ha.view.seen) (ap (λ v. length v.sizes) joined_is ∙ sizes_length n hs.view.sizes us.view.sizes h.sized sized) asks.is_seen.entries;
        known = ap (λ z. known_of z number) view_is ∙ get_or-set_same hs.view.known number mine.handed [] wide ∙ sym kept_is;
        others = λ i ne. ap (λ z. known_of z i) view_is ∙ get_or-set_other hs.view.known number i mine.handed [] ne;
        drained = ap (λ z. z.drained) view_is;
        news = news;
        numbers = ap (λ z. z.numbers) view_is;
        name = ap (λ z. z.name) view_is;
        stays = λ d. record (heart_of (sym heart_is d) n admitted (set told number p.told) eager) { view = ha.view };
      }
