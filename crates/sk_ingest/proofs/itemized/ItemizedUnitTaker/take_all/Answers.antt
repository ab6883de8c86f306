use Rattle.std.proofs.Common.{◌≡◌, ◌+◌, ◌<◌, ◌≤◌, ℕ, List, [], ◌∷◌, ◌++◌, length, take, take_all, slice_range, sym, ap, ◌∙◌, subst, arith, append_assoc, length-append}
use Rattle.std.proofs.lemmas.List.{map_more, length-map}
use Rattle.sk_model.specs.Limits.{line_limit, most_kept}
use Rattle.sk_lines.specs.declared.spans.Span.{Span}
use Rattle.sk_lines.specs.Spans.{lines_at}
use Rattle.sk_read.specs.declared.fault.Fault.{Fault}
use Rattle.sk_read.specs.Reads.{StopsAmong}
use Rattle.sk_read.proofs.GroupLaws.{nth_line, short_line, given_before, stops_at, with_fault}
use Rattle.sk_feed.specs.Hubs.{hub_of}
use Rattle.sk_ingest.specs.Ingests.{StopsAtUnit}
use Rattle.sk_ingest.specs.Takers.{unreported}
use Rattle.sk_ingest.specs.ItemWindows.{ItemWindowState, IsOfPlan, ItemsWent}
use Rattle.sk_ingest.proofs.ItemizedLaws.{not_filled, lines_wait_held}
use Rattle.sk_ingest.proofs.itemized.ItemizedUnitTaker.take_all.Given.{Over}
use Rattle.sk_ingest.proofs.itemized.ItemizedUnitTaker.take_all.Invariants.{State, Went}
use Rattle.sk_ingest.proofs.itemized.ItemizedUnitTaker.take_all.Goals as goal

-- from one state to another it was given these units, and stopped at the next one
abbrev Stopped : (g : Over) → State g → State g → Fault → List (List ℕ) → List ℕ → Type 0
Stopped g s t why units unit =
    (t.plan ≡ s.plan)
    × StopsAtUnit (unreported g.C.Composable.keeps_of g.C.Composable.hint_of t.plan) (hub_of s.opened.now) tt tt why units unit

-- what it was given before a group that is not held at once
before_each : (g : Over) (s start : State g) (units : List (List ℕ)) (w : ItemWindowState) → w ≡ s.window.now → Went g start s units
    → (s.plan ≡ start.plan) × IsOfPlan s.plan w × ItemsWent (unreported g.C.Composable.keeps_of g.C.Composable.hint_of s.plan) units (hub_of start.opened.now) w (hub_of s.opened.now)
before_each g s start units w same went =
    subst (λ v. (s.plan ≡ start.plan) × IsOfPlan s.plan v × ItemsWent (unreported g.C.Composable.keeps_of g.C.Composable.hint_of s.plan) units (hub_of start.opened.now) v (hub_of s.opened.now)) (sym same) went

pub push_all-requires-clause-room : goal.push_all-requires-clause-room
push_all-requires-clause-room g c =
    let k = g.C.Composable in let known = c.requires.behind in let s = c.args.self.now in
    not_filled (unreported k.keeps_of k.hint_of s.plan) known.1 (hub_of known.0.opened.now) (hub_of s.opened.now) s.window.now known.3.2 known.3.1.most

pub returns-then-push_all-clause-went : goal.returns-then-push_all-clause-went
returns-then-push_all-clause-went g c = λ start units count went.
    let k = g.C.Composable in let s = c.args.self.now in let lines = lines_at c.args.spans.now c.args.text.now in
    let held = c.push_all.ensures.held c.if-push_all.true in
    let small : length (units ++ lines) ≤ most_kept = omega (arith, count, c.requires.room, length-append units lines, length-map c.args.spans.now (λ (span : Span). slice_range c.args.text.now span.from span.to)) in (
      went.0,
      record { least = went.1.least; most = held.most ∙ went.1.most; unreported = went.1.unreported },
      lines_wait_held (unreported k.keeps_of k.hint_of s.plan) units (hub_of start.opened.now) (hub_of s.opened.now) s.window.now went.2 went.1.most lines c.push_all.new.self held small,
    )

pub take-requires-clause-short : goal.take-requires-clause-short
take-requires-clause-short g c = short_line line_limit c.args.text.now c.args.spans.now c.unit.span-index (omega (arith, c.unit-test.true)) c.requires.short

pub take-requires-clause-behind : goal.take-requires-clause-behind
take-requires-clause-behind g c =
    let known = c.requires.behind in
    let text = c.args.text.now in
    let spans = c.args.spans.now in
    let i = c.unit.span-index in
    let inside : i < length spans = omega (arith, c.unit-test.true) in
    let given = known.1 ++ lines_at (take i spans) text in
    let long : length given + 1 ≡ c.unit.number + 1 = omega (arith, known.2, c.unit.invariant.number, given_before text spans i known.1 inside) in
    (known.0, given, long, c.unit.invariant.went known.0 known.1 known.2 (before_each g c.args.self.now known.0 known.1 c.push_all.new.self (c.push_all.ensures.refused c.if-push_all.false) known.3))

pub returns-in_err-take-clause-stopped : goal.returns-in_err-take-clause-stopped
returns-in_err-take-clause-stopped g c =
    let text = c.args.text.now in
    let spans = c.args.spans.now in
    let i = c.unit.span-index in
    let f = c.in_err-take.field-0.0 in
    let inside : i < length spans = omega (arith, c.unit-test.true) in
    let Stops : Fault → Type 0 = λ why. (start : State g) (units : List (List ℕ)) → length units ≡ c.args.before → Went g start c.args.self.now units →
    StopsAmong (Stopped g start c.take.new.self) why units (lines_at spans text) in
    with_fault Stops f c.from_residual.result c.from_residual.ensures.1 (λ start units count went.
    let given = units ++ lines_at (take i spans) text in
    let long : length given + 1 ≡ c.unit.number + 1 = omega (arith, count, c.unit.invariant.number, given_before text spans i units inside) in
    stops_at (Stopped g start c.take.new.self) f units text spans i (c.unit.number + 1) inside (omega (arith, count, c.unit.invariant.number))
    (c.in_err-take.ensures.stopped start given long (c.unit.invariant.went start units count (before_each g c.args.self.now start units c.push_all.new.self (c.push_all.ensures.refused c.if-push_all.false) went))) c.in_err-take.ensures.fault)

-- one line more of them
one_more : (text : List ℕ) (spans : List Span) (i : ℕ) (given : List (List ℕ)) → i < length spans →
    (given ++ lines_at (take i spans) text) ++ nth_line text spans i ∷ [] ≡ given ++ lines_at (take (i + 1) spans) text
one_more text spans i given inside =
    append_assoc given (lines_at (take i spans) text) (nth_line text spans i ∷ [])
    ∙ ap (λ (l : List (List ℕ)). given ++ l) (sym (map_more (λ (span : Span). slice_range text span.from span.to) spans i (record { from = 0; to = 0 }) inside))

pub unit-preserved : goal.unit-preserved
unit-preserved g c =
    let text = c.args.text.now in
    let spans = c.args.spans.now in
    let i = c.unit.span-index in
    let inv = c.unit.invariant in
    let inside : i < length spans = omega (arith, c.unit-test.true) in
    record {
      number = omega (arith, inv.number);
      went = λ start units count went.
          let given = units ++ lines_at (take i spans) text in
          let long : length given + 1 ≡ c.unit.number + 1 = omega (arith, count, inv.number, given_before text spans i units inside) in
          subst (Went g start c.take.new.self) (one_more text spans i units inside) (c.in_ok-take.ensures.went start given long (inv.went start units count went));
      stays = c.in_ok-take.ensures.stays ∙ inv.stays;
    }

pub returns-clause-went : goal.returns-clause-went
returns-clause-went g c = λ start units count went.
    let spans = c.args.spans.now in
    let whole : take c.unit.span-index spans ≡ spans = take_all c.unit.span-index spans (omega (arith, c.unit-test.false)) in
    subst (λ (l : List Span). Went g start c.unit.self (units ++ lines_at l c.args.text.now)) whole (c.unit.invariant.went start units count (before_each g c.args.self.now start units c.push_all.new.self (c.push_all.ensures.refused c.if-push_all.false) went))
