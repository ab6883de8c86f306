-- Stretches that are read and given to all rings.
use Rattle.std.proofs.Common.{◌≡◌, ℕ, ◌+◌, ◌≤◌, Bool, true, List, [], ◌∷◌, ◌++◌, length, All, Option, Result, Ok, Err, IsErrAnd, sym, ap, refl, ◌∙◌, subst, arith, append-nil, append_assoc}
use Rattle.std.proofs.lemmas.List.Elements.{All-append}
use Rattle.std.proofs.KnownBytes.{Consumes-trans}
use Rattle.sk_model.specs.Limits.{most_kept}
use Rattle.sk_read.specs.Items.{IsGood}
use Rattle.sk_read.specs.Reading.{Reading, HasRead}
use Rattle.sk_read.specs.declared.fault.Fault.{Fault}
use Rattle.sk_read.specs.declared.fault.Fault.TheVariants as fault
use Rattle.sk_read.specs.declared.kind.Kind.{Kind}
use Rattle.sk_fill.specs.Windows.{IsFullWindow, all_lines}
use Rattle.sk_fill.specs.Stretches.{StretchState, StretchGoes, ReadsStretch}
use Rattle.sk_ingest.specs.FedAndRead.{FeedsAndReads}
use Rattle.sk_feed.specs.Deliveries.{windows_of}
use Rattle.sk_lanes.specs.Rings.{Outlet, GaveEach}
use Rattle.sk_ingest.specs.FedAndRead.{HasStarted}
use Rattle.sk_ingest.specs.Supplies.{Supplies}
use Rattle.sk_lanes.proofs.RingLaws.{gave_none, gave_both}
use Rattle.sk_feed.proofs.Rounds.{ok_then}
use Rattle.sk_feed.proofs.DeliveryLaws.{windows_append, windows_one}
use Rattle.sk_hub.proofs.Calls.{on_ok}
use Rattle.sk_fill.proofs.Filled.{read_few}
use Rattle.sk_fill.proofs.StretchLaws.{on_ok_at, none_on_err, stretch_starts, stretch_passed, read_then_none, nothing_read}
use Rattle.sk_ingest.proofs.StretchLaws.{both_joined}

-- ---- what was read

-- stretches were read and given, and no more so far
pub record SupplyGoes (kind : Kind) (most : ℕ) (os os' : List Outlet) (r between : Reading) (old mid : Option (List ℕ)) : Type 0 where
  pub given : List StretchState
  pub gave : GaveEach os os' given
  pub goes : StretchGoes kind most (windows_of given) r between old mid

pub supply_starts : (kind : Kind) (most : ℕ) (os : List Outlet) (r : Reading) (old : Option (List ℕ)) → SupplyGoes kind most os os r r old old
supply_starts kind most os r old = record { given = []; gave = gave_none os; goes = stretch_starts kind most [] r old refl }

-- windows that were read after others
pub goes_both : (kind : Kind) (most : ℕ) (xs ys : List (List (List ℕ))) (r q s : Reading) (old mid new : Option (List ℕ)) → StretchGoes kind most xs r q old mid → StretchGoes kind most ys q s mid new → StretchGoes kind most (xs ++ ys) r s old new
goes_both kind most xs ys r q s old mid new a b = record {
  full = All-append (IsFullWindow most) xs ys a.full b.full;
  good = subst (All (IsGood kind)) (sym (both_joined xs ys)) (All-append (IsGood kind) (all_lines xs) (all_lines ys) a.good b.good);
  read = λ given taken has.
      let before = a.read given taken has in
      let now = b.read (given ++ all_lines xs) (taken ++ before.0) before.2 in (
        before.0 ++ now.0,
        Consumes-trans _ _ _ _ _ before.1 now.1,
        subst (λ l. HasRead s new l (taken ++ (before.0 ++ now.0))) (append_assoc given (all_lines xs) (all_lines ys) ∙ ap (λ l. given ++ l) (sym (both_joined xs ys)))
            (subst (λ bytes. HasRead s new ((given ++ all_lines xs) ++ all_lines ys) bytes) (append_assoc taken before.0 now.0) now.2),
      );
  bound = b.bound ∙ a.bound;
  progress = omega (arith, a.progress, b.progress);
}

-- a full stretch
pub goes_full : (kind : Kind) (most : ℕ) (windows : List (List (List ℕ))) (r r' : Reading) (old new : Option (List ℕ)) (result : Result Bool Fault) → ReadsStretch kind most windows r r' old new result → result ≡ Ok true → StretchGoes kind most windows r r' old new
goes_full kind most windows r r' old new result reads was = record {
  full = reads.full was;
  good = on_ok_at result true _ was reads.good;
  read = on_ok_at result true _ was reads.read;
  bound = reads.bound;
  progress = let later = reads.progress was in omega (arith, later);
}

-- a stretch that is given to all, after those that were
pub supply_goes : (kind : Kind) (most : ℕ) (os ms ns : List Outlet) (r q s : Reading) (old mid new : Option (List ℕ)) (next : StretchState) (result : Result Bool Fault) → SupplyGoes kind most os ms r q old mid → ReadsStretch kind most next.windows q s mid new result → result ≡ Ok true → GaveEach ms ns (next ∷ [])
    → SupplyGoes kind most os ns r s old new
supply_goes kind most os ms ns r q s old mid new next result before reads was gave = record {
  given = before.given ++ next ∷ [];
  gave = gave_both os ms ns before.given (next ∷ []) before.gave gave;
  goes = subst (λ l. StretchGoes kind most l r s old new) (sym (windows_append before.given (next ∷ []) ∙ ap (λ l. windows_of before.given ++ l) (windows_one next)))
      (goes_both kind most (windows_of before.given) next.windows r q s old mid new before.goes (goes_full kind most next.windows q s mid new result reads was));
}

-- it ends where a stretch was read that is not given
pub supply_ends : (kind : Kind) (most : ℕ) (os ms : List Outlet) (next : StretchState) (r q s : Reading) (old mid new : Option (List ℕ)) (result : Result Bool Fault) → SupplyGoes kind most os ms r q old mid → ReadsStretch kind most next.windows q s mid new result → next.first ≡ q.cutter.number
    → Supplies kind most os ms next r s old new result
supply_ends kind most os ms next r q s old mid new result before reads first = record {
  given = before.given;
  gave = on_ok result before.gave;
  between = q;
  mid = mid;
  goes = before.goes;
  last = next.windows;
  reads = reads;
  is = on_ok result refl;
  first = on_ok result first;
}

-- or if a fault came after it
pub supply_fails : (kind : Kind) (most : ℕ) (os ms ns : List Outlet) (next : StretchState) (last : List (List (List ℕ))) (r q s : Reading) (old mid new : Option (List ℕ)) (why : Fault) (result : Result Bool Fault) → SupplyGoes kind most os ms r q old mid → ReadsStretch kind most last q s mid new result → IsErrAnd result (λ e. e ≡ why)
    → Supplies kind most os ns next r s old new result
supply_fails kind most os ms ns next last r q s old mid new why result before reads is = record {
  given = before.given;
  gave = none_on_err _ result (λ e. e ≡ why) is;
  between = q;
  mid = mid;
  goes = before.goes;
  last = last;
  reads = reads;
  is = none_on_err _ result (λ e. e ≡ why) is;
  first = none_on_err _ result (λ e. e ≡ why) is;
}

-- ---- what was read and fed

module _ (Fed : List (List (List ℕ)) → Type 0) (kind : Kind) (most : ℕ) (s next : StretchState) (r : Reading) (old : Option (List ℕ)) where
  -- no memory was found before anything was read
  pub nothing_fed : (result : Result Bool Fault) → IsErrAnd result (λ e. e ≡ fault.OutOfMemory) → 1 ≤ most → FeedsAndReads Fed kind most s next r r old old result
  nothing_fed result is least = record {
    more = [];
    between = r;
    mid = old;
    goes = stretch_starts kind most [] r old refl;
    fed = none_on_err _ result (λ e. e ≡ fault.OutOfMemory) is;
    last = [];
    reads = nothing_read kind most r old result is least;
    is = none_on_err _ result (λ e. e ≡ fault.OutOfMemory) is;
    first = none_on_err _ result (λ e. e ≡ fault.OutOfMemory) is;
  }

  module _ (os os' : List Outlet) (r' : Reading) (new : Option (List ℕ)) (read : Result Bool Fault) (supplies : Supplies kind most os os' next r r' old new read) where
    -- a fault of the reading is passed on
    pub supplies_passed : (why : Fault) (result : Result Bool Fault) → read ≡ Err why → IsErrAnd result (λ e. e ≡ why) → FeedsAndReads Fed kind most s next r r' old new result
    supplies_passed why result was is = record {
      more = windows_of supplies.given;
      between = supplies.between;
      mid = supplies.mid;
      goes = supplies.goes;
      fed = none_on_err _ result (λ e. e ≡ why) is;
      last = supplies.last;
      reads = stretch_passed kind most supplies.last supplies.between r' supplies.mid new why read result supplies.reads was is;
      is = none_on_err _ result (λ e. e ≡ why) is;
      first = none_on_err _ result (λ e. e ≡ why) is;
    }

    -- no memory was found after it
    pub supplies_then_none : (full : Bool) (result : Result Bool Fault) → read ≡ Ok full → IsErrAnd result (λ e. e ≡ fault.OutOfMemory) → 1 ≤ most → FeedsAndReads Fed kind most s next r r' old new result
    supplies_then_none full result was is least = record {
      more = windows_of supplies.given;
      between = supplies.between;
      mid = supplies.mid;
      goes = supplies.goes;
      fed = none_on_err _ result (λ e. e ≡ fault.OutOfMemory) is;
      last = supplies.last;
      reads = read_then_none kind most supplies.last supplies.between r' supplies.mid new full read result least supplies.reads was is;
      is = none_on_err _ result (λ e. e ≡ fault.OutOfMemory) is;
      first = none_on_err _ result (λ e. e ≡ fault.OutOfMemory) is;
    }

    pub supplies_fed : (full : Bool) → read ≡ Ok full → Fed (s.windows ++ windows_of supplies.given) → FeedsAndReads Fed kind most s next r r' old new (Ok full)
    supplies_fed full was fed = record {
      more = windows_of supplies.given;
      between = supplies.between;
      mid = supplies.mid;
      goes = supplies.goes;
      fed = fed;
      last = supplies.last;
      reads = subst (ReadsStretch kind most supplies.last supplies.between r' supplies.mid new) was supplies.reads;
      is = on_ok_at read full _ was supplies.is;
      first = on_ok_at read full _ was supplies.first;
    }

-- if windows take at most this many lines
pub supplies_at_most : (Fed : List (List (List ℕ)) → Type 0) (kind : Kind) (m most : ℕ) (s next : StretchState) (r : Reading) (old : Option (List ℕ)) (os os' : List Outlet) (r' : Reading) (new : Option (List ℕ)) (read : Result Bool Fault) (supplies : Supplies kind m os os' next r r' old new read) → m ≡ most → (full : Bool) → read ≡ Ok full
    → Fed (s.windows ++ windows_of supplies.given) → FeedsAndReads Fed kind most s next r r' old new (Ok full)
supplies_at_most Fed kind m most s next r old os os' r' new read supplies same full was fed = subst (λ n. FeedsAndReads Fed kind n s next r r' old new (Ok full)) same (supplies_fed Fed kind m s next r old os os' r' new read supplies full was fed)

-- what was fed is said otherwise
pub told_otherwise : (Fed Fed' : List (List (List ℕ)) → Type 0) (kind : Kind) (most : ℕ) (s next : StretchState) (r r' : Reading) (old new : Option (List ℕ)) (result : Result Bool Fault) → ((windows : List (List (List ℕ))) → Fed windows → Fed' windows) → FeedsAndReads Fed kind most s next r r' old new result → FeedsAndReads Fed' kind most s next r r' old new result
told_otherwise Fed Fed' kind most s next r r' old new result f a = record {
  more = a.more;
  between = a.between;
  mid = a.mid;
  goes = a.goes;
  fed = ok_then result a.fed (f (s.windows ++ a.more));
  last = a.last;
  reads = a.reads;
  is = a.is;
  first = a.first;
}

-- a stretch was fed, and then the next one was read into its place
pub next_read : (Fed : List (List (List ℕ)) → Type 0) (kind : Kind) (most : ℕ) (s next : StretchState) (r r' : Reading) (old new : Option (List ℕ)) (result : Result Bool Fault) → ReadsStretch kind most next.windows r r' old new result → Fed s.windows → next.first ≡ r.cutter.number → FeedsAndReads Fed kind most s next r r' old new result
next_read Fed kind most s next r r' old new result reads fed first = record {
  more = [];
  between = r;
  mid = old;
  goes = stretch_starts kind most [] r old refl;
  fed = on_ok result (subst Fed (sym (append-nil s.windows)) fed);
  last = next.windows;
  reads = reads;
  is = on_ok result refl;
  first = on_ok result first;
}

-- the lines of a stretch that was read are few enough to be counted
pub started_few : (s : StretchState) (r : Reading) (left : Option (List ℕ)) → HasStarted s r left → s.first + length (all_lines s.windows) ≤ most_kept
started_few s r left start = omega (arith, start.count, read_few r left start.given start.taken start.read)
