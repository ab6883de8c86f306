use Rattle.std.proofs.Common.{◌≡◌, ◌+◌, ◌<◌, ℕ, List, [], ◌∷◌, ◌++◌, length, take, take_all, slice_range, sym, ap, ◌∙◌, subst, arith, append_assoc}
use Rattle.std.proofs.lemmas.List.{map_more}
use Rattle.sk_model.specs.Limits.{line_limit}
use Rattle.sk_lines.specs.declared.spans.Span.{Span}
use Rattle.sk_lines.specs.Spans.{lines_at}
use Rattle.sk_read.specs.declared.fault.Fault.{Fault}
use Rattle.sk_read.specs.Reads.{StopsAmong}
use Rattle.sk_read.proofs.GroupLaws.{nth_line, short_line, given_before, stops_at, with_fault}
use Rattle.sk_feed.specs.Hubs.{hub_of}
use Rattle.sk_ingest.specs.Ingests.{terms_of, StopsAtUnit}
use Rattle.sk_ingest.specs.Takers.{ReportStops}
use Rattle.sk_ingest.proofs.windowed.WindowedUnitTaker.take_all.Given.{Over}
use Rattle.sk_ingest.proofs.windowed.WindowedUnitTaker.take_all.Invariants.{State, Went}
use Rattle.sk_ingest.proofs.windowed.WindowedUnitTaker.take_all.Goals as goal

-- from one state to another it was given these units, and stopped at the next one
abbrev Stopped : (g : Over) → State g → State g → Fault → List (List ℕ) → List ℕ → Type 0
Stopped g s t why units unit =
    (t.plan ≡ s.plan)
    × StopsAtUnit (terms_of g.C.Composable.keeps_of g.C.Composable.hint_of g.P.Report.reports g.P.Report.breaks t.plan) (hub_of s.opened.now) s.report.now t.report.now why units unit
    × ReportStops g.P.Report.faults g.P.Report.stands_on g.P.Report.sketch s.report.now t.report.now why

pub take-requires-clause-short : goal.take-requires-clause-short
take-requires-clause-short g c = short_line line_limit c.args.text.now c.args.spans.now c.unit.span-index (omega (arith, c.unit-test.true)) c.requires.short

pub take-requires-clause-behind : goal.take-requires-clause-behind
take-requires-clause-behind g c =
    let known = c.requires.behind in
    let text = c.args.text.now in
    let spans = c.args.spans.now in
    let i = c.unit.span-index in
    let inside : i < length spans = omega (arith, c.unit-test.true) in
    let given = known.1 ++ lines_at (take i spans) text in
    let long : length given + 1 ≡ c.unit.number + 1 = omega (arith, known.2, c.unit.invariant.number, given_before text spans i known.1 inside) in
    (known.0, given, long, c.unit.invariant.went known.0 known.1 known.2 known.3)

pub returns-in_err-take-clause-stopped : goal.returns-in_err-take-clause-stopped
returns-in_err-take-clause-stopped g c =
    let text = c.args.text.now in
    let spans = c.args.spans.now in
    let i = c.unit.span-index in
    let f = c.in_err-take.field-0.0 in
    let inside : i < length spans = omega (arith, c.unit-test.true) in
    let Stops : Fault → Type 0 = λ why. (start : State g) (units : List (List ℕ)) → length units ≡ c.args.before → Went g start c.args.self.now units →
    StopsAmong (Stopped g start c.take.new.self) why units (lines_at spans text) in
    with_fault Stops f c.from_residual.result c.from_residual.ensures.1 (λ start units count went.
    let given = units ++ lines_at (take i spans) text in
    let long : length given + 1 ≡ c.unit.number + 1 = omega (arith, count, c.unit.invariant.number, given_before text spans i units inside) in
    stops_at (Stopped g start c.take.new.self) f units text spans i (c.unit.number + 1) inside (omega (arith, count, c.unit.invariant.number))
    (c.in_err-take.ensures.stopped start given long (c.unit.invariant.went start units count went)) c.in_err-take.ensures.fault)

-- one line more of them
one_more : (text : List ℕ) (spans : List Span) (i : ℕ) (given : List (List ℕ)) → i < length spans →
    (given ++ lines_at (take i spans) text) ++ nth_line text spans i ∷ [] ≡ given ++ lines_at (take (i + 1) spans) text
one_more text spans i given inside =
    append_assoc given (lines_at (take i spans) text) (nth_line text spans i ∷ [])
    ∙ ap (λ (l : List (List ℕ)). given ++ l) (sym (map_more (λ (span : Span). slice_range text span.from span.to) spans i (record { from = 0; to = 0 }) inside))

pub unit-preserved : goal.unit-preserved
unit-preserved g c =
    let text = c.args.text.now in
    let spans = c.args.spans.now in
    let i = c.unit.span-index in
    let inv = c.unit.invariant in
    let inside : i < length spans = omega (arith, c.unit-test.true) in
    record {
      number = omega (arith, inv.number);
      went = λ start units count went.
          let given = units ++ lines_at (take i spans) text in
          let long : length given + 1 ≡ c.unit.number + 1 = omega (arith, count, inv.number, given_before text spans i units inside) in
          subst (Went g start c.take.new.self) (one_more text spans i units inside) (c.in_ok-take.ensures.went start given long (inv.went start units count went));
      stays = c.in_ok-take.ensures.stays ∙ inv.stays;
    }

pub returns-clause-went : goal.returns-clause-went
returns-clause-went g c = λ start units count went.
    let spans = c.args.spans.now in
    let whole : take c.unit.span-index spans ≡ spans = take_all c.unit.span-index spans (omega (arith, c.unit-test.false)) in
    subst (λ (l : List Span). Went g start c.unit.self (units ++ lines_at l c.args.text.now)) whole (c.unit.invariant.went start units count went)
