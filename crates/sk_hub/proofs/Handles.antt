-- What is true of an updater and of the heart stays true where their seats know no more.
use Rattle.std.proofs.Common.{◌≡◌, ◌≢◌, ℕ, ◌<◌, ◌≤◌, List, [], ◌∷◌, ◌++◌, All, length, map, get_or, set, Bool, false, Option, Some, None, is_some, subst, sym, ap, refl, ◌∙◌, arith, length-set, get_or-set_same, get_or-set_other}
use Rattle.std.proofs.lemmas.List.{map-set, length-map}
use mathlib.Core.Logic.{dite}
use native.Mathlib.Decide.{ℕ_discrete}
use Rattle.sk_model.specs.Entries.{Entry}
use Rattle.sk_compose.specs.Buffers.{Contents}
use Rattle.sk_gate.specs.Slots.{Telling}
use Rattle.sk_machine.specs.Coarse.{IsEntry}
use Rattle.sk_machine.specs.declared.views.Move.TheVariants.{Ask}
use Rattle.sk_gate.specs.Views.{size_of}
use Rattle.sk_gate.specs.Moves.{AsksAt}
use Rattle.sk_gate.specs.Hands.{SeatState}
use Rattle.sk_hub.specs.Updaters.{IsFree, IsViewOf, IsUpdater}
use Rattle.sk_hub.specs.Hearts.{heart_of, IsHeart, IsWholeHeart}
use Rattle.sk_hub.specs.Rounds.{KnowsAsMuch}
use Rattle.sk_hub.proofs.Views.{seen_again, view_knows}
use Rattle.sk_hub.proofs.Steps.{asks_knows}

-- the seat with what it knows now, written out
known_more : (s s' : SeatState) → s' ≡ record s { view = s'.view } → KnowsAsMuch s.view s'.view → record s { view = record s.view { seen = s'.view.seen; steps = s'.view.steps; given = s'.view.given; sizes = s'.view.sizes } } ≡ s'
known_more s s' stays knows = (λ a. record s { view = sym knows.view a }) ∙ sym stays

pub updater_stays : {T : Type 0} (hint_of : List ℕ → List Entry → ℕ) (k : Telling T) (s s' : SeatState) (number updaters size : ℕ) (fill : Option Contents) (told : Option T) (hint taken last : ℕ) → s' ≡ record s { view = s'.view } → KnowsAsMuch s.view s'.view
    → IsUpdater hint_of k s number updaters size fill told hint taken last → IsUpdater hint_of k s' number updaters size fill told hint taken last
updater_stays hint_of k s s' number updaters size fill told hint taken last stays knows i =
    let least : 1 ≤ size = i.buffer.least in
    let is : size_of s.view number ≡ size = i.size_is in
    let there : size_of s.view number ≢ 0 = omega arith in
    let x : SeatState = record s { view = record s.view { seen = s'.view.seen; steps = s'.view.steps; given = s'.view.given; sizes = s'.view.sizes } } in
    let free : IsFree x = record { duty = i.free.duty; filled = i.free.filled; lifted = i.free.lifted } in
    let i_view : IsViewOf number x.view = subst (IsViewOf number) knows.view (view_knows number s.view s'.view knows i.view) in
    let as_before : IsUpdater hint_of k x number updaters size fill told hint taken last = record {
      number_is = i.number_is;
      view = i_view;
      free = free;
      own = i.own;
      within = i.within;
      few = i.few;
      slots = i.slots;
      sized = knows.sized ∙ i.sized;
      size_is = knows.sizes_stay number there ∙ is;
      fill_is = i.fill_is;
      buffer = i.buffer;
      hint_is = i.hint_is;
      taken_is = i.taken_is;
      most = i.most;
      last_is = i.last_is;
      told_is = i.told_is;
    } in
    subst (λ z. IsUpdater hint_of k z number updaters size fill told hint taken last) (known_more s s' stays knows) as_before

-- an ask of its seat
pub updater_asks : {T : Type 0} (hint_of packed : List ℕ → List Entry → ℕ) (k : Telling T) (s s' : SeatState) (word number updaters size : ℕ) (fill : Option Contents) (told : Option T) (hint taken last : ℕ) → s' ≡ record s { view = s'.view } → AsksAt packed s.view word s'.view
    → IsUpdater hint_of k s number updaters size fill told hint taken last → IsUpdater hint_of k s' number updaters size fill told hint taken last
updater_asks hint_of packed k s s' word number updaters size fill told hint taken last stays asks i =
    let seen = s'.view.seen in
    let x : SeatState = record s { view = record s.view { seen = seen; steps = s.view.steps ++ Ask word ∷ [] } } in
    let same : x ≡ s' = (λ a. record s { view = sym asks.view a }) ∙ sym stays in
    let free : IsFree x = record { duty = i.free.duty; filled = i.free.filled; lifted = i.free.lifted } in
    let i_view : IsViewOf number x.view = subst (IsViewOf number) asks.view (view_knows number s.view s'.view (asks_knows packed s.view s'.view word asks) i.view) in
    let is : IsUpdater hint_of k x number updaters size fill told hint taken last = record {
      number_is = i.number_is;
      view = i_view;
      free = free;
      own = i.own;
      within = i.within;
      few = i.few;
      slots = i.slots;
      sized = i.sized;
      size_is = i.size_is;
      fill_is = i.fill_is;
      buffer = i.buffer;
      hint_is = i.hint_is;
      taken_is = i.taken_is;
      most = i.most;
      last_is = i.last_is;
      told_is = i.told_is;
    } in
    subst (λ z. IsUpdater hint_of k z number updaters size fill told hint taken last) same is

pub heart_stays : {T : Type 0} (k : Telling T) (s s' : SeatState) (vacant : List SeatState) (told : List (Option T)) (updaters admitted : ℕ) → s' ≡ record s { view = s'.view } → KnowsAsMuch s.view s'.view
    → IsHeart k s vacant told updaters admitted → IsHeart k s' vacant told updaters admitted
heart_stays k s s' vacant told updaters admitted stays knows i =
    let x : SeatState = record s { view = record s.view { seen = s'.view.seen; steps = s'.view.steps; given = s'.view.given; sizes = s'.view.sizes } } in
    let free : IsFree x = record { duty = i.free.duty; filled = i.free.filled; lifted = i.free.lifted } in
    let as_before : IsHeart k x vacant told updaters admitted = record {
      free = free;
      few = i.few;
      slots = i.slots;
      sized = knows.sized ∙ i.sized;
      known_sized = i.known_sized;
      sees = seen_again s'.view x.view s'.view.seen (sym (ap (λ v. v.post) knows.view)) refl (knows.sees i.sees);
      told_sized = i.told_sized;
      all = i.all;
      vacant_are = i.vacant_are;
      told_is = i.told_is;
    } in
    subst (λ z. IsHeart k z vacant told updaters admitted) (known_more s s' stays knows) as_before

-- ---- what is true of every handle

pub heart_whole : {T : Type 0} (k : Telling T) (s : SeatState) (vacant : List SeatState) (told : List (Option T)) (updaters admitted : ℕ) (eager : Bool) → IsHeart k s vacant told updaters admitted → IsWholeHeart (heart_of s updaters admitted told eager)
heart_whole k s vacant told updaters admitted eager i = record {
  few = i.few;
  within = let all = i.all in omega arith;
  slots = i.slots;
  sized = i.sized;
  news = length-map told (λ t. is_some t) ∙ i.told_sized;
  entries = subst (λ n. All (IsEntry n) s.view.seen) i.sized i.sees.entries;
}

-- ---- told values

-- the told value of updater i was given out
pub told_given : {T : Type 0} (k : Telling T) (s : SeatState) (vacant : List SeatState) (told : List (Option T)) (updaters admitted i : ℕ) (o : Option T) → i < length told → o ≡ None
    → IsHeart k s vacant told updaters admitted → IsHeart k s vacant (set told i o) updaters admitted
told_given {T} k s vacant told updaters admitted i o within none h = record {
  free = h.free;
  few = h.few;
  slots = h.slots;
  sized = h.sized;
  known_sized = h.known_sized;
  sees = h.sees;
  told_sized = length-set told i o ∙ h.told_sized;
  all = h.all;
  vacant_are = h.vacant_are;
  told_is = λ j t is. dite (ℕ_discrete j i)
      (λ same. let here : get_or (set told i o) i None ≡ o = get_or-set_same told i o None within in let no : None ≡ Some t = sym none ∙ sym here ∙ ap (λ z. get_or (set told i o) z None) (sym same) ∙ is in absurd (cc))
      (λ ne. h.told_is j t (sym (get_or-set_other told i j o None ne) ∙ is));
}

-- that updater's told value is not held any more
pub news_given : {T : Type 0} (s : SeatState) (updaters admitted : ℕ) (told : List (Option T)) (eager : Bool) (i : ℕ) (o : Option T) → o ≡ None
    → heart_of s updaters admitted (set told i o) eager ≡ record (heart_of s updaters admitted told eager) { news = set (map (λ t. is_some t) told) i false }
news_given {T} s updaters admitted told eager i o none =
    let held : Option T → Bool = λ t. is_some t in
    let same : map held (set told i o) ≡ set (map held told) i false = map-set held told i o ∙ ap (λ z. set (map held told) i (is_some z)) none in
    λ a. record (heart_of s updaters admitted told eager) { news = same a }
