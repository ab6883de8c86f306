-- Desks in lanes, and the stretches that are gathered for them.
use Rattle.std.proofs.Common.{◌≡◌, ℕ, ◌+◌, ◌<◌, ◌≤◌, Bool, true, Option, Result, Ok, Err, IsErrAnd, OnOk, List, [], ◌∷◌, ◌++◌, length, get_or, map, All, refl, sym, ap, subst, ◌∙◌, arith, length-append}
use Rattle.std.proofs.lemmas.Grind.{flat_map-append}
use Rattle.std.proofs.lemmas.List.{length-map, get_or-map}
use Rattle.std.proofs.lemmas.Result.{on_ok_weaker}
use Rattle.sk_read.specs.Reading.{Reading, HasRead}
use Rattle.sk_read.specs.declared.kind.Kind.{Kind}
use Rattle.sk_model.specs.Limits.{most_kept}
use Rattle.sk_fill.specs.Blocks.{block_of, blocks_of}
use Rattle.sk_fill.specs.Windows.{all_lines}
use Rattle.sk_fill.specs.Stretches.{StretchState}
use Rattle.sk_fill.proofs.Filled.{read_number}
use Rattle.sk_feed.specs.Deliveries.{windows_of}
use Rattle.sk_feed.proofs.DeliveryLaws.{windows_append, windows_one}
use Rattle.sk_feed.proofs.Done.{DoneTo, done_all}
use Rattle.sk_feed.proofs.Rooms.{few_blocks}
use Rattle.sk_feed.proofs.Rounds.{of_images}
use Rattle.sk_lanes.specs.Rings.{Outlet, GaveEach}
use Rattle.sk_lanes.specs.Lanes.{TakeAll}
use Rattle.sk_lanes.proofs.RingLaws.{gave_none, gave_both}
use Rattle.sk_label.specs.declared.fault.LabelFault.{LabelFault}
use Rattle.sk_label.specs.declared.fault.LabelFault.TheVariants as label
use Rattle.sk_tenant.specs.Desks.{DeskState}
use Rattle.sk_desks.specs.declared.taker.DeskTaker.{DeskTaker}
use Rattle.sk_desks.specs.Feeds.{seed_of, HasRoom, HasRoomAfter, TakesLines, TakeBlocks}
use Rattle.sk_desks.specs.Gathers.{GivesNext, Gathers}
use Rattle.sk_desks.specs.Lanes.{took, GathersAndGives, FeedsAndGathers}
use Rattle.sk_desks.proofs.GatherLaws.{gathers_not}
use Rattle.sk_desks.proofs.StretchLaws.{HasGathered, gathered_none, gathered, gathers_both, gathers_passed, gathers_then_none, none_on_err, no_memory}
use Rattle.sk_desks.proofs.Taking.{takes_no_line, takes_more, has_still, room_after}

-- ---- takers as desks

abbrev pub desks : List DeskTaker → List DeskState
desks ts = map (λ t. t.desk) ts

-- what holds of each desk
pub all_desks : (P : DeskState → Type 0) (ts : List DeskTaker) → ((i : ℕ) (d : DeskState) → i < length (desks ts) → P (get_or (desks ts) i d)) → All (λ t. P t.desk) ts
all_desks P ts each = λ i t within. subst P (get_or-map (λ (x : DeskTaker). x.desk) ts i t t.desk within) (each i t.desk (omega (arith, within, length-map ts (λ (x : DeskTaker). x.desk))))

-- each took its blocks of windows
each_took : (seed : ℕ) (windows : List (List (List ℕ))) (ts ts' : List DeskTaker) → length ts' ≡ length ts → ((i : ℕ) (t : DeskTaker) → i < length ts → TakesLines seed (get_or ts i t).desk (blocks_of windows i (length ts)) (get_or ts' i t).desk)
    → TakeBlocks seed (desks ts) windows (desks ts')
each_took seed windows ts ts' same each =
    let f : DeskTaker → DeskState = λ t. t.desk in
    let count : length (desks ts) ≡ length ts = length-map ts f in record {
      count = length-map ts' f ∙ same ∙ sym count;
      each = of_images f (λ i d d'. TakesLines seed d (blocks_of windows i (length (desks ts))) d') ts ts' same
          (λ i t inside. subst (λ (n : ℕ). TakesLines seed (get_or ts i t).desk (blocks_of windows i n) (get_or ts' i t).desk) (sym count) (each i t inside));
    }

pub taken_all : (kind : Kind) (windows : List (List (List ℕ))) (ts ts' : List DeskTaker) → TakeAll (took kind) windows ts ts' → TakeBlocks (seed_of kind) (desks ts) windows (desks ts')
taken_all kind windows ts ts' all = each_took (seed_of kind) windows ts ts' all.count (λ i t inside. all.each i t inside (get_or ts i t) [] (takes_no_line (seed_of kind) (get_or ts i t).desk))

pub taken_in_turn : (seed : ℕ) (windows : List (List (List ℕ))) (ts ts' : List DeskTaker) (n m : ℕ) → n ≡ length ts → m ≡ length ts → DoneTo (λ i t u. TakesLines seed t.desk (blocks_of windows i n) u.desk) ts ts' m → TakeBlocks seed (desks ts) windows (desks ts')
taken_in_turn seed windows ts ts' n m is all done =
    each_took seed windows ts ts' done.count
    (λ i t inside. subst (λ (k : ℕ). TakesLines seed (get_or ts i t).desk (blocks_of windows i k) (get_or ts' i t).desk) is
    (done_all (λ i t u. TakesLines seed t.desk (blocks_of windows i n) u.desk) ts ts' m all done i t inside))

-- ---- a taker on its way

blocks_both : (windows more : List (List (List ℕ))) (i n : ℕ) → blocks_of (windows ++ more) i n ≡ blocks_of windows i n ++ blocks_of more i n
blocks_both windows more i n = flat_map-append (λ (w : List (List ℕ)). block_of w i n) windows more

-- whatever it took before, it took these after it
pub takes_on : (kind : Kind) (i n : ℕ) (windows : List (List (List ℕ))) (d d' : DeskState) (seed : ℕ) → seed ≡ seed_of kind → TakesLines seed d (blocks_of windows i n) d'
    → (start : DeskTaker) (before : List (List (List ℕ))) → TakesLines (seed_of kind) start.desk (blocks_of before i n) d → TakesLines (seed_of kind) start.desk (blocks_of (before ++ windows) i n) d'
takes_on kind i n windows d d' seed is now start before took =
    subst (λ (l : List (List ℕ)). TakesLines (seed_of kind) start.desk l d') (sym (blocks_both before windows i n))
    (takes_more (seed_of kind) start.desk d d' (blocks_of before i n) (blocks_of windows i n) took (subst (λ (m : ℕ). TakesLines m d (blocks_of windows i n) d') is now))

pub room_now : (count : ℕ) (windows : List (List (List ℕ))) (d : DeskState) → HasRoomAfter count d → count + length (all_lines windows) ≤ most_kept → HasRoom (length (all_lines windows)) d
room_now count windows d room few = room.room (length (all_lines windows)) few

-- there is room for all that comes after them
pub room_on : (seed count : ℕ) (windows : List (List (List ℕ))) (i n : ℕ) (d d' : DeskState) → i < n → HasRoomAfter count d → TakesLines seed d (blocks_of windows i n) d' → HasRoomAfter (count + length (all_lines windows)) d'
room_on seed count windows i n d d' within room took = record {
  has = has_still seed d d' (blocks_of windows i n) took room.has;
  room = λ m few.
      let all : HasRoom (length (all_lines windows) + m) d = room.room (length (all_lines windows) + m) (omega (arith, few)) in
      let its : HasRoom (length (blocks_of windows i n) + m) d = λ t u inside. omega (arith, all t u inside, few_blocks windows n i within) in
      room_after seed d d' (blocks_of windows i n) m room.has took its;
}

-- ---- stretches that are gathered and given

-- stretches were gathered and given, and no more so far
pub record GatherGoes (names : List (List ℕ)) (os os' : List Outlet) (r q : Reading) (old mid : Option (List ℕ)) : Type 0 where
  pub given : List StretchState
  pub gave : GaveEach os os' given
  pub goes : HasGathered names (all_lines (windows_of given)) r q old mid

pub gather_starts : (names : List (List ℕ)) (os : List Outlet) (r : Reading) (old : Option (List ℕ)) → GatherGoes names os os r r old old
gather_starts names os r old = record { given = []; gave = gave_none os; goes = gathered_none names [] r old refl }

lines_of_both : (given : List StretchState) (next : StretchState) → all_lines (windows_of (given ++ next ∷ [])) ≡ all_lines (windows_of given) ++ all_lines next.windows
lines_of_both given next =
    ap all_lines (windows_append given (next ∷ []) ∙ ap (λ (l : List (List (List ℕ))). windows_of given ++ l) (windows_one next)) ∙ flat_map-append (λ (w : List (List ℕ)). w) (windows_of given) next.windows

module _ (names : List (List ℕ)) (os ms : List Outlet) (next : StretchState) (r q s : Reading) (old mid new : Option (List ℕ)) (before : GatherGoes names os ms r q old mid) (went : Result Bool LabelFault) (gathers : Gathers names q s mid new (all_lines next.windows) went) where
  abbrev lines : List (List ℕ)
  lines = all_lines (windows_of before.given) ++ all_lines next.windows

  both : Gathers names r s old new lines went
  both = gathers_both names (all_lines (windows_of before.given)) (all_lines next.windows) r q s old mid new before.goes went gathers

  -- one that is given to all
  pub gather_goes : (ns : List Outlet) → went ≡ Ok true → GaveEach ms ns (next ∷ []) → GatherGoes names os ns r s old new
  gather_goes ns is gave = record {
    given = before.given ++ next ∷ [];
    gave = gave_both os ms ns before.given (next ∷ []) before.gave gave;
    goes = subst (λ (l : List (List ℕ)). HasGathered names l r s old new) (sym (lines_of_both before.given next)) (gathered names lines r s old new went both is);
  }

  -- the last, which is not given
  pub gather_ends : (given : List (List ℕ)) (taken : List ℕ) → HasRead r old given taken → next.first ≡ q.cutter.number → GathersAndGives names os ms next r s old new went
  gather_ends given taken has first = record {
    given = before.given;
    gave = on_ok_weaker went (λ _. before.gave) gathers.gives;
    lines = lines;
    gathers = both;
    joined = on_ok_weaker went (λ _. refl) gathers.gives;
    last = on_ok_weaker went number gathers.gives;
  }
    where
      number : GivesNext (all_lines next.windows) q s mid new → next.first + length (all_lines next.windows) ≡ s.cutter.number
      number gives =
          let on = before.goes.gives given taken has in
          let front : List (List ℕ) = given ++ all_lines (windows_of before.given) in
          let now = gives front (taken ++ on.0) on.2 in
          omega (arith, first, read_number q mid front (taken ++ on.0) on.2, read_number s new (front ++ all_lines next.windows) ((taken ++ on.0) ++ now.0) now.2, length-append front (all_lines next.windows))

  -- a fault of the reading is passed on
  pub gather_passed : (ns : List Outlet) (last : StretchState) (f : LabelFault) (result : Result Bool LabelFault) → went ≡ Err f → IsErrAnd result (λ x. x ≡ f) → GathersAndGives names os ns last r s old new result
  gather_passed ns last f result was is = record {
    given = before.given;
    gave = none_on_err _ result (λ (x : LabelFault). x ≡ f) is;
    lines = lines;
    gathers = gathers_passed names r s old new lines f went result both was is;
    joined = none_on_err _ result (λ (x : LabelFault). x ≡ f) is;
    last = none_on_err _ result (λ (x : LabelFault). x ≡ f) is;
  }

  -- no memory was found for it
  pub gather_fails : (ns : List Outlet) (last : StretchState) (b : Bool) (result : Result Bool LabelFault) → went ≡ Ok b → IsErrAnd result (λ x. x ≡ label.OutOfMemory) → GathersAndGives names os ns last r s old new result
  gather_fails ns last b result was is = record {
    given = before.given;
    gave = none_on_err _ result (λ (x : LabelFault). x ≡ label.OutOfMemory) is;
    lines = lines;
    gathers = gathers_then_none names lines lines r s old new b went result both was is;
    joined = none_on_err _ result (λ (x : LabelFault). x ≡ label.OutOfMemory) is;
    last = none_on_err _ result (λ (x : LabelFault). x ≡ label.OutOfMemory) is;
  }

-- ---- stretches that are fed

module _ (kind : Kind) (names : List (List ℕ)) (s next : StretchState) (ts ts' : List DeskTaker) (r : Reading) (old : Option (List ℕ)) where
  -- no memory was found before anything was read
  pub nothing_fed : (result : Result Bool LabelFault) → IsErrAnd result (λ x. x ≡ label.OutOfMemory) → FeedsAndGathers kind names s next ts ts' r r old old result
  nothing_fed result is = record {
    more = [];
    fed = none_on_err _ result (λ (x : LabelFault). x ≡ label.OutOfMemory) is;
    lines = [];
    gathers = gathers_not names r r old old [] refl result label.OutOfMemory is (λ same. cc) (no_memory names r old);
    joined = none_on_err _ result (λ (x : LabelFault). x ≡ label.OutOfMemory) is;
    last = none_on_err _ result (λ (x : LabelFault). x ≡ label.OutOfMemory) is;
  }

  module _ (os os' : List Outlet) (r' : Reading) (new : Option (List ℕ)) (went : Result Bool LabelFault) (gives : GathersAndGives names os os' next r r' old new went) where
    pub feeds_passed : (f : LabelFault) (result : Result Bool LabelFault) → went ≡ Err f → IsErrAnd result (λ x. x ≡ f) → FeedsAndGathers kind names s next ts ts' r r' old new result
    feeds_passed f result was is = record {
      more = windows_of gives.given;
      fed = none_on_err _ result (λ (x : LabelFault). x ≡ f) is;
      lines = gives.lines;
      gathers = gathers_passed names r r' old new gives.lines f went result gives.gathers was is;
      joined = none_on_err _ result (λ (x : LabelFault). x ≡ f) is;
      last = none_on_err _ result (λ (x : LabelFault). x ≡ f) is;
    }

    pub feeds_then_none : (b : Bool) (result : Result Bool LabelFault) → went ≡ Ok b → IsErrAnd result (λ x. x ≡ label.OutOfMemory) → FeedsAndGathers kind names s next ts ts' r r' old new result
    feeds_then_none b result was is = record {
      more = windows_of gives.given;
      fed = none_on_err _ result (λ (x : LabelFault). x ≡ label.OutOfMemory) is;
      lines = gives.lines;
      gathers = gathers_then_none names gives.lines gives.lines r r' old new b went result gives.gathers was is;
      joined = none_on_err _ result (λ (x : LabelFault). x ≡ label.OutOfMemory) is;
      last = none_on_err _ result (λ (x : LabelFault). x ≡ label.OutOfMemory) is;
    }

    pub feeds : (b : Bool) → went ≡ Ok b → TakeAll (took kind) (s.windows ++ windows_of gives.given) ts ts' → FeedsAndGathers kind names s next ts ts' r r' old new (Ok b)
    feeds b was fed = record {
      more = windows_of gives.given;
      fed = fed;
      lines = gives.lines;
      gathers = subst (Gathers names r r' old new gives.lines) was gives.gathers;
      joined = subst (λ (x : Result Bool LabelFault). OnOk x (gives.lines ≡ all_lines (windows_of gives.given) ++ all_lines next.windows)) was gives.joined;
      last = subst (λ (x : Result Bool LabelFault). OnOk x (next.first + length (all_lines next.windows) ≡ r'.cutter.number)) was gives.last;
    }
