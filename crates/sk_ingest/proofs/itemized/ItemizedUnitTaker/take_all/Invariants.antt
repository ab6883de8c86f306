use Rattle.std.proofs.Common.{◌≡◌, ◌+◌, ℕ, List, [], ◌∷◌, ◌++◌, Some, length, take}
use Rattle.sk_lines.specs.Spans.{lines_at}
use Rattle.sk_read.specs.Standing.{Standing}
use Rattle.sk_feed.specs.Hubs.{hub_of}
use Rattle.sk_ingest.specs.Takers.{unreported}
use Rattle.sk_ingest.specs.ItemWindows.{IsOfPlan, ItemsWent}
use Rattle.sk_ingest.specs.declared.itemized.Itemized.{Itemized}
use Rattle.sk_ingest.proofs.itemized.ItemizedUnitTaker.take_all.Given.{Over}
use Rattle.sk_ingest.proofs.itemized.ItemizedUnitTaker.take_all.Given as goal

abbrev pub State : Over → Type 0
State g = Itemized g.row.C.Denot g.row.R.Denot g.row.C-Told.Denot

-- from one state to another it was given these units
abbrev pub Went : (g : Over) → State g → State g → List (List ℕ) → Type 0
Went g s t units =
    (t.plan ≡ s.plan) × IsOfPlan t.plan t.window.now
    × ItemsWent (unreported g.C.Composable.keeps_of g.C.Composable.hint_of t.plan) units (hub_of s.opened.now) t.window.now (hub_of t.opened.now)

abbrev pub standing_of : (g : Over) → State g → Standing
standing_of g s = record { kind = Some s.plan.kind; borrows = s.window.ghost_name ∷ s.opened.ghost_name ∷ []; numbers = [] }

abbrev pub invariant-unit : goal.invariant-unit
invariant-unit g l = record {
  number : l.number ≡ l.before + l.span-index;
  went : (start : State g) (units : List (List ℕ)) → length units ≡ l.before → Went g start l.initial.self units → Went g start l.self (units ++ lines_at (take l.span-index l.spans) l.text);
  stays : standing_of g l.self ≡ standing_of g l.initial.self;
}
