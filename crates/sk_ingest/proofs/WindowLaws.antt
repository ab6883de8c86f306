-- Windows of lines that come full, one after another.
use Rattle.std.proofs.Common.{◌≡◌, ℕ, ◌+◌, ◌≤◌, List, [], ◌∷◌, ◌++◌, length, Some, All, inl, refl, sym, ap, ◌∙◌, subst, arith, append-nil, length-append}
use Rattle.std.proofs.lemmas.List.{take-append-le}
use Rattle.std.proofs.lemmas.List.Elements.{All-append, All-pop}
use Rattle.sk_model.specs.Limits.{most_kept}
use Rattle.sk_read.specs.Items.{IsGood}
use Rattle.sk_read.specs.declared.fault.Fault.{Fault}
use Rattle.sk_read.specs.declared.fault.Fault.TheVariants as fault
use Rattle.sk_fill.specs.Windows.{fills, FillsNone, IsFullWindow, all_lines}
use Rattle.sk_feed.specs.Rounds.{HaveRoom}
use Rattle.sk_feed.proofs.HubLaws.{few_room}
use Rattle.sk_fill.specs.Fills.{RefusesLine}
use Rattle.sk_feed.specs.Hubs.{Hub}
use Rattle.sk_ingest.specs.Ingests.{Terms, GoesThrough, GoesSoFar, StopsAtUnit}
use Rattle.sk_ingest.specs.Takers.{WindowsWent, StopsPassing}
use Rattle.sk_read.specs.Faults.{IsOfTaker}

-- the beginning of a full window fills none
pub front_unfilled : (most : ℕ) (front : List (List ℕ)) (line : List ℕ) → IsFullWindow most (front ++ line ∷ []) → FillsNone most front
front_unfilled most front line full = λ n within.
    sym (ap (fills most) (take-append-le n front (line ∷ []) within)) ∙ full.first n (omega (arith, within, length-append front (line ∷ [])))

-- lines that fill none wait in the window
pub lines_wait : {R : Type 0} (t : Terms R) (units lines : List (List ℕ)) (a b : Hub) (r s : R) → WindowsWent t units a r [] b s → length (units ++ lines) ≤ most_kept → All (IsGood t.plan.kind) lines → FillsNone t.plan.window lines → WindowsWent t (units ++ lines) a r lines b s
lines_wait t units lines a b r s went small good unfilled = record {
  goes = record {
    windows = went.goes.windows;
    cut = record {
      joined = ap (λ l. l ++ lines) (went.goes.cut.joined ∙ append-nil (all_lines went.goes.windows));
      full = went.goes.cut.full;
      unfilled = unfilled;
    };
    good = All-append (IsGood t.plan.kind) units lines went.goes.good good;
    reported = went.goes.reported;
  };
  hub = went.hub;
  small = small;
  few = λ i d within. let here = went.few i d within in omega (arith, here, length-append units lines);
}

-- all but the last line of a full window
pub front_waits : {R : Type 0} (t : Terms R) (units front : List (List ℕ)) (line : List ℕ) (a b : Hub) (r s : R) → WindowsWent t units a r [] b s → length (units ++ front) + 1 ≤ most_kept → All (IsGood t.plan.kind) (front ++ line ∷ []) → IsFullWindow t.plan.window (front ++ line ∷ [])
    → WindowsWent t (units ++ front) a r front b s
front_waits t units front line a b r s went small good full =
    let fine = All-pop (IsGood t.plan.kind) (front ++ line ∷ []) front (Some line) refl good in
    lines_wait t units front a b r s went (omega (arith, small)) fine.0 (front_unfilled t.plan.window front line full)

-- there is room for them in each updater
pub window_room : {R : Type 0} (t : Terms R) (units lines : List (List ℕ)) (a b : Hub) (r s : R) → WindowsWent t units a r [] b s → length (units ++ lines) ≤ most_kept → HaveRoom lines b.updaters
window_room t units lines a b r s went small =
    few_room (length (units ++ lines)) lines b.updaters (λ i d within. let here = went.few i d within in omega (arith, here, length-append units lines)) small

-- where a window is not filled for a fault, the reading ends so
pub filling_goes : {R : Type 0} (t : Terms R) (units lines : List (List ℕ)) (a b : Hub) (r s : R) → WindowsWent t units a r [] b s → All (IsGood t.plan.kind) lines → FillsNone t.plan.window lines → (given : List (List ℕ)) → given ≡ units ++ lines → GoesSoFar t a r s given
filling_goes {R} t units lines a b r s went good unfilled given is = (
  lines,
  b,
  subst (λ g. Goes g) (sym is) (record {
    windows = went.goes.windows;
    cut = record {
      joined = ap (λ l. l ++ lines) (went.goes.cut.joined ∙ append-nil (all_lines went.goes.windows));
      full = went.goes.cut.full;
      unfilled = unfilled;
    };
    good = All-append (IsGood t.plan.kind) units lines went.goes.good good;
    reported = went.goes.reported;
  }),
)
  where
    Goes : List (List ℕ) → Type 0
    Goes g = GoesThrough t g a r lines b s

pub filling_stops : {R : Type 0} (t : Terms R) (units lines : List (List ℕ)) (a b : Hub) (r s : R) → WindowsWent t units a r [] b s → All (IsGood t.plan.kind) lines → FillsNone t.plan.window lines
    → (why : Fault) (given : List (List ℕ)) (line : List ℕ) → RefusesLine t.plan.kind (units ++ lines) why given line → StopsAtUnit t a r s why given line
filling_stops t units lines a b r s went good unfilled (fault.BadItem n) given line bad = (filling_goes t units lines a b r s went good unfilled given bad.0, bad.1, bad.2)
filling_stops t units lines a b r s went good unfilled fault.OutOfMemory given line is = inl (filling_goes t units lines a b r s went good unfilled given is)
filling_stops t units lines a b r s went good unfilled fault.WriteFault given line none = absurd none
filling_stops t units lines a b r s went good unfilled fault.ReadFault given line none = absurd none
filling_stops t units lines a b r s went good unfilled fault.TooMuch given line none = absurd none
filling_stops t units lines a b r s went good unfilled (fault.LongLine n) given line none = absurd none
filling_stops t units lines a b r s went good unfilled (fault.BadCsv n) given line none = absurd none

-- what a full window that was passed on did not stop for
pub passing_is_of_a_taker : {R : Type 0} (t : Terms R) (lines : List (List ℕ)) (line : ℕ) (a : Hub) (r s : R) (why : Fault) → StopsPassing t lines line a r s why → IsOfTaker line why
passing_is_of_a_taker t lines line a r s fault.OutOfMemory stops = tt
passing_is_of_a_taker t lines line a r s fault.WriteFault stops = tt
passing_is_of_a_taker t lines line a r s fault.ReadFault stops = absurd stops
passing_is_of_a_taker t lines line a r s fault.TooMuch stops = absurd stops
passing_is_of_a_taker t lines line a r s (fault.LongLine n) stops = absurd stops
passing_is_of_a_taker t lines line a r s (fault.BadItem n) stops = absurd stops
passing_is_of_a_taker t lines line a r s (fault.BadCsv n) stops = absurd stops
