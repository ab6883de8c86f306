-- Units of which the items are held, window after window.
use Rattle.std.proofs.Common.{◌≡◌, inl, ℕ, ◌+◌, ◌<◌, ◌≤◌, Bool, true, false, List, [], ◌∷◌, ◌++◌, length, map, Option, Result, All, IsNone, sym, ap, refl, ◌∙◌, subst, arith, append-nil, append_assoc, length-append}
use Rattle.std.proofs.lemmas.List.Elements.{All-append}
use Rattle.sk_model.specs.Entries.{Entry}
use Rattle.sk_model.specs.Limits.{most_kept}
use Rattle.sk_read.specs.declared.fault.Fault.{Fault}
use Rattle.sk_read.specs.declared.fault.Fault.TheVariants as fault
use Rattle.sk_read.specs.declared.items.Intake.{Intake}
use Rattle.sk_read.specs.declared.units.Units.{Units}
use Rattle.sk_read.specs.Items.{item_of, IsGood}
use Rattle.sk_read.specs.Reads.{Reads}
use Rattle.sk_fill.specs.Windows.{fills, FillsNone, all_lines}
use Rattle.sk_feed.specs.Rounds.{HaveRoom, HaveFew}
use Rattle.sk_feed.specs.Hubs.{Hub, FeedsWindow}
use Rattle.sk_ingest.specs.Ingests.{Terms, Ingests, GoesSoFar, StopsAtUnit}
use Rattle.sk_ingest.specs.Takers.{WindowsWent, unreported}
use Rattle.sk_ingest.specs.ItemWindows.{ItemWindowState, held_of, Holds, HoldsMore, has_filled, IsOfPlan, ItemsWent}
use Rattle.sk_fill.proofs.Readings.{reads_by}
use Rattle.sk_feed.proofs.HubLaws.{few_left, few_room}
use Rattle.sk_ingest.proofs.Ingestion.{unit_waits, unit_goes, not_full}
use Rattle.sk_ingest.proofs.Unreported.{quiet_so}
use Rattle.sk_ingest.proofs.ItemWindows.{holds_next, fills_by_held, held_unfilled}

-- lines that fill none go to the rest
lines_left : {R : Type 0} (t : Terms R) (units lines rest : List (List ℕ)) (a b : Hub) (r s : R) → WindowsWent t units a r rest b s → length (units ++ lines) ≤ most_kept → All (IsGood t.plan.kind) lines → FillsNone t.plan.window (rest ++ lines) → WindowsWent t (units ++ lines) a r (rest ++ lines) b s
lines_left t units lines rest a b r s went small good unfilled = record {
  goes = record {
    windows = went.goes.windows;
    cut = record {
      joined = ap (λ l. l ++ lines) went.goes.cut.joined ∙ append_assoc (all_lines went.goes.windows) rest lines;
      full = went.goes.cut.full;
      unfilled = unfilled;
    };
    good = All-append (IsGood t.plan.kind) units lines went.goes.good good;
    reported = went.goes.reported;
  };
  hub = went.hub;
  small = small;
  few = λ i d within. let here = went.few i d within in omega (arith, here, length-append units lines, length-append rest lines);
}

module _ (t : Terms (Unit {0})) (units : List (List ℕ)) (a b : Hub) (w : ItemWindowState) (went : ItemsWent t units a w b) (same : w.most ≡ t.plan.window) where
  -- lines more are held that do not fill the window
  pub lines_wait_held : (lines : List (List ℕ)) (w' : ItemWindowState) → HoldsMore t.plan.kind lines w w' → length (units ++ lines) ≤ most_kept → ItemsWent t (units ++ lines) a w' b
  lines_wait_held lines w' more small =
      let holds = holds_next t.plan.kind went.rest lines w w' went.holds more.items more.bytes in record {
        rest = went.rest ++ lines;
        went = lines_left t units lines went.rest a b tt tt went.went small more.good (held_unfilled t.plan.kind (went.rest ++ lines) w' t.plan.window holds (more.most ∙ same) more.few more.small);
        holds = holds;
      }

  -- it is not full, then
  pub not_filled : has_filled w ≡ false
  not_filled = fills_by_held t.plan.kind went.rest w went.holds ∙ not_full t.plan.window w.most units went.went.goes.windows went.rest same went.went.goes.cut

  pub so_far : GoesSoFar t a tt tt units
  so_far = (went.rest, b, went.went.goes)

  -- a unit more is held
  module _ (unit : List ℕ) (item : ℕ) (w' : ItemWindowState) (good : IsGood t.plan.kind unit) (is : item ≡ held_of t.plan.kind unit) (items : w'.items ≡ w.items ++ item ∷ []) (bytes : w'.bytes ≡ w.bytes + length unit) (most : w'.most ≡ w.most) (small : length units + 1 ≤ most_kept) where
    pub unit_holds : Holds t.plan.kind (went.rest ++ unit ∷ []) w'
    unit_holds = holds_next t.plan.kind went.rest (unit ∷ []) w w' went.holds (items ∙ ap (λ x. w.items ++ x ∷ []) is) (omega (arith, bytes, ap length (append-nil unit)))

    filled_is : fills t.plan.window (went.rest ++ unit ∷ []) ≡ has_filled w'
    filled_is = ap (λ m. fills m (went.rest ++ unit ∷ [])) (sym (most ∙ same)) ∙ sym (fills_by_held t.plan.kind (went.rest ++ unit ∷ []) w' unit_holds)

    pub unit_room : HaveRoom (went.rest ++ unit ∷ []) b.updaters
    unit_room = few_room (length units + 1) (went.rest ++ unit ∷ []) b.updaters (few_left (length units) went.rest unit b.updaters went.went.few) small

    pub unit_waits_held : has_filled w' ≡ false → ItemsWent t (units ++ unit ∷ []) a w' b
    unit_waits_held still = record {
      rest = went.rest ++ unit ∷ [];
      went = unit_waits t units unit a b tt tt went.rest went.went small good (filled_is ∙ still);
      holds = unit_holds;
    }

    -- and fills the window, which is fed
    pub unit_fills_held : (x : Hub) (v : ItemWindowState) → has_filled w' ≡ true → 1 ≤ t.plan.window → t.plan.interim ≡ false
        → ((lines : List (List ℕ)) → Holds t.plan.kind lines w' → FeedsWindow t.plan.propagator t.keeps t.hint_of t.plan.kind lines b x) → Holds t.plan.kind [] v → ItemsWent t (units ++ unit ∷ []) a v x
    unit_fills_held x v full least off fed cleared = record {
      rest = [];
      went = unit_goes t units unit a b x x tt tt tt went.rest went.went small good least (filled_is ∙ full) (fed (went.rest ++ unit ∷ []) unit_holds) (quiet_so t (length units + 1) x tt off);
      holds = cleared;
    }

-- ---- its reading

-- at the window and the hub that it left
pub fields_read : (last : ℕ) (keeps : ℕ → ℕ → Bool) (hint_of : List ℕ → List Entry → ℕ) (plan own : Intake) (units u : Units) (most : ℕ) (a x b : Hub) (v w : ItemWindowState) (old new : Option (List ℕ)) (result : Result ℕ Fault) → u ≡ units → x ≡ b → v ≡ w
    → Reads last u most (λ l. (own ≡ plan) × IsOfPlan own v × ItemsWent (unreported keeps hint_of own) l a v x) (λ why l unit. (own ≡ plan) × StopsAtUnit (unreported keeps hint_of own) a tt tt why l unit) old new result
    → Reads last units most (λ l. ItemsWent (unreported keeps hint_of plan) l a w b) (StopsAtUnit (unreported keeps hint_of plan) a tt tt) old new result
fields_read last keeps hint_of plan own units u most a x b v w old new result unit_is hub_is window_is reads =
    subst (λ z. Reads last z most (λ l. ItemsWent (unreported keeps hint_of plan) l a w b) (StopsAtUnit (unreported keeps hint_of plan) a tt tt) old new result) unit_is
    (reads_by _ u most Went (λ l. ItemsWent (unreported keeps hint_of plan) l a w b) Stops (StopsAtUnit (unreported keeps hint_of plan) a tt tt) old new result
    (λ (given : List (List ℕ)) (went : Went given). subst (λ p. ItemsWent (unreported keeps hint_of p) given a w b) went.0
    (subst (λ h. ItemsWent (unreported keeps hint_of own) given a w h) hub_is (subst (λ z. ItemsWent (unreported keeps hint_of own) given a z x) window_is went.2)))
    (λ (why : Fault) (given : List (List ℕ)) (unit : List ℕ) (stops : Stops why given unit). subst (λ p. StopsAtUnit (unreported keeps hint_of p) a tt tt why given unit) stops.0 stops.1)
    reads)
  where
    Went : List (List ℕ) → Type 0
    Went = λ l. (own ≡ plan) × IsOfPlan own v × ItemsWent (unreported keeps hint_of own) l a v x

    Stops : Fault → List (List ℕ) → List ℕ → Type 0
    Stops = λ why l unit. (own ≡ plan) × StopsAtUnit (unreported keeps hint_of own) a tt tt why l unit
