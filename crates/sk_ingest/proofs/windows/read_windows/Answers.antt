use Rattle.std.proofs.Common.{◌≡◌, ◌≤◌, ◌+◌, ℕ, List, [], ◌∷◌, ◌++◌, length, Bool, true, false, Result, Ok, Some, OnOk, All, refl, sym, ap, ◌∙◌, subst, arith, length-append}
use Rattle.std.proofs.KnownBytes.{Consumes-nil, Consumes-trans}
use Rattle.std.proofs.lemmas.List.Elements.{All-pop}
use Rattle.sk_read.specs.Items.{IsGood}
use Rattle.sk_read.specs.Reads.{Reads, ReadsAll, Ends}
use Rattle.sk_read.specs.Units.{units_by}
use Rattle.sk_read.specs.declared.fault.Fault.TheVariants as fault
use Rattle.sk_read.specs.declared.units.Units.TheVariants.{Lines}
use Rattle.sk_read.proofs.LineEnds.{ends_read, line_missed, all_lines}
use Rattle.sk_model.specs.Limits.{most_kept}
use Rattle.sk_read.specs.declared.fault.Fault.{Fault}
use Rattle.sk_fill.specs.Windows.{FillsNone, IsFullWindow}
use Rattle.sk_fill.specs.Fills.{RefusesLine}
use Rattle.sk_feed.specs.Hubs.{hub_of, FeedsWindow}
use Rattle.sk_ingest.specs.Ingests.{terms_of, IsReported, StopsAtUnit}
use Rattle.sk_ingest.specs.Takers.{WindowsWent, StopsPassing}
use Rattle.sk_fill.proofs.Filled.{read_few, line_number}
use Rattle.sk_ingest.proofs.Ingestion.{unit_goes, pass_stops}
use Rattle.sk_fill.proofs.Readings.{nothing_came, ends_by, steady_on_ok}
use Rattle.sk_ingest.proofs.WindowLaws.{lines_wait, front_waits, window_room, filling_stops, passing_is_of_a_taker}
use Rattle.sk_ingest.proofs.windows.read_windows.Goals as goal

lines_are : (column : ℕ) → column ≤ 0 → column ≡ 0
lines_are column none = omega arith

not_both : {r : Result Bool Fault} → r ≡ Ok false → r ≡ Ok true → ⊥
not_both none some = cc

pub returns-in_err-reader-clause-read : goal.returns-in_err-reader-clause-read
returns-in_err-reader-clause-read g c =
    let k = g.C.Composable in let p = g.P.Report in let plan = c.args.plan.now in let hub = hub_of c.args.opened.now in let r = c.args.report.now in let left = g.S.Source.left c.args.source.now in
    let t = terms_of k.keeps_of k.hint_of p.reports p.breaks plan in
    let Gave : List (List ℕ) → Type 0 = λ units. WindowsWent t units hub r c.args.round.now.window.lines hub r in
    let last = g.S.Source.last c.args.source.now in
    ends_read Gave (StopsAtUnit t hub r r) plan.most last last (units_by plan.column) left left fault.OutOfMemory c.from_residual.result c.from_residual.ensures.1 (omega arith)
    (nothing_came _ Gave (StopsAtUnit t hub r r) (units_by plan.column) plan.most left (subst (λ l. WindowsWent t [] hub r l hub r) (sym c.requires.empty) c.requires.start))

pub window-init : goal.window-init
window-init g c = record {
  given = [];
  taken = [];
  read = c.in_ok-reader.ensures.read (g.S.Source.left c.args.source.now);
  consumed = Consumes-nil (g.S.Source.left c.args.source.now);
  went = c.requires.start;
  empty = c.requires.empty;
  setup = c.requires.setup;
  most = c.in_ok-reader.ensures.most;
  piece = omega (arith, c.in_ok-reader.ensures.piece);
  steady = refl;
  stays = refl;
  feeders = refl;
  same = record { steady = refl; stands = refl; named = refl };
}

pub returns-in_err-fill-clause-read : goal.returns-in_err-fill-clause-read
returns-in_err-fill-clause-read g c =
    let k = g.C.Composable in let p = g.P.Report in let plan = c.args.plan.now in let hub = hub_of c.args.opened.now in let r = c.args.report.now in
    let t = terms_of k.keeps_of k.hint_of p.reports p.breaks plan in
    let inv = c.window.invariant in let b = hub_of c.window.opened in let s = c.window.report in
    let old = g.S.Source.left c.args.source.now in let left = g.S.Source.left c.fill.new.source in
    let lines = c.fill.new.window.lines in let f = c.in_err-fill.field-0.0 in
    let Gave : List (List ℕ) → Type 0 = λ units. WindowsWent t units hub r lines b s in
    let unfilled = subst (λ m. FillsNone m lines) (c.fill.ensures.most ∙ inv.setup.most) (c.in_err-fill.ensures.unfilled (λ same. cc)) in
    let small = c.fill.ensures.few inv.given inv.taken inv.read in
    let q = c.fill.new.reader.last in let last = g.S.Source.last c.fill.new.source in
    let ends = subst (λ m. Ends q Lines m (λ l. l ≡ inv.given ++ lines) (RefusesLine plan.kind (inv.given ++ lines)) old left f) inv.most (c.in_err-fill.ensures.stopped old inv.given inv.taken inv.consumed inv.read) in
    subst (λ u. Reads last u plan.most Gave (StopsAtUnit t hub r s) old left c.from_residual-in_err-fill.result) (sym (ap units_by (lines_are c.args.plan.now.column c.if-plan-gt0.false)))
    (ends_read Gave (StopsAtUnit t hub r s) plan.most q last Lines old left f c.from_residual-in_err-fill.result c.from_residual-in_err-fill.ensures.1 (c.fill.ensures.piece inv.piece)
    (ends_by _ Lines plan.most (λ l. l ≡ inv.given ++ lines) Gave (RefusesLine plan.kind (inv.given ++ lines)) (StopsAtUnit t hub r s) old left f
    (λ given is. subst Gave (sym is) (lines_wait t inv.given lines hub b r s inv.went small c.fill.ensures.good unfilled))
    (filling_stops t inv.given lines hub b r s inv.went c.fill.ensures.good unfilled) ends))

pub pass_on-requires-clause-room : goal.pass_on-requires-clause-room
pass_on-requires-clause-room g c κs within =
    let k = g.C.Composable in let p = g.P.Report in let inv = c.window.invariant in
    window_room (terms_of k.keeps_of k.hint_of p.reports p.breaks c.args.plan.now) inv.given c.fill.new.window.lines (hub_of c.args.opened.now) (hub_of c.window.opened) c.args.report.now c.window.report inv.went
    (c.fill.ensures.few inv.given inv.taken inv.read)

pub window-preserved : goal.window-preserved
window-preserved g c =
    let k = g.C.Composable in let p = g.P.Report in let plan = c.args.plan.now in let hub = hub_of c.args.opened.now in let r = c.args.report.now in
    let t = terms_of k.keeps_of k.hint_of p.reports p.breaks plan in
    let inv = c.window.invariant in let b = hub_of c.window.opened in let s = c.window.report in
    let y = hub_of c.pass_on.new.opened in let q = c.pass_on.new.report in
    let gave : c.fill.result ≡ Ok true = c.in_ok-fill.was ∙ ap (λ (x : Bool). Ok x) c.if-branch.true in
    let last = c.fill.ensures.last gave inv.given inv.taken inv.read in let front = last.0 in let line = last.1 in
    let one = last.3 in let units = inv.given ++ front in
    let full = subst (λ m. IsFullWindow m (front ++ line ∷ [])) (c.fill.ensures.most ∙ inv.setup.most) (subst (IsFullWindow c.fill.new.window.most) last.2 (c.fill.ensures.full gave)) in
    let good = subst (All (IsGood plan.kind)) last.2 c.fill.ensures.good in
    let small : length units + 1 ≤ most_kept = omega (arith, read_few c.fill.new.reader (g.S.Source.left c.fill.new.source) (units ++ line ∷ []) (inv.taken ++ one.more) one.read, length-append units (line ∷ [])) in
    let passed = c.in_ok-pass_on.ensures.passes.passed in
    let place = line_number c.fill.new.reader (g.S.Source.left c.window.source) (g.S.Source.left c.fill.new.source) units line inv.taken c.number-number.result one c.number-number.ensures in
    record {
      given = units ++ line ∷ [];
      taken = inv.taken ++ one.more;
      read = one.read;
      consumed = Consumes-trans _ _ _ _ _ inv.consumed one.consumed;
      went = unit_goes t units line hub b passed.0 y r s q front (front_waits t inv.given front line hub b r s inv.went small good full) small
          (All-pop (IsGood plan.kind) (front ++ line ∷ []) front (Some line) refl good).1 inv.setup.least full.full
          (subst (λ l. FeedsWindow plan.propagator k.keeps_of k.hint_of plan.kind l b passed.0) last.2 passed.1)
          (subst (λ n. IsReported t n passed.0 s y q) place passed.2);
      empty = c.in_ok-pass_on.ensures.cleared;
      setup = c.in_ok-pass_on.ensures.setup;
      most = c.fill.ensures.bound ∙ inv.most;
      piece = c.fill.ensures.piece inv.piece;
      steady = subst (λ x. OnOk x (g.S.Source.faults c.fill.new.source ≡ g.S.Source.faults c.window.source)) c.in_ok-fill.was
          (steady_on_ok _ (g.S.Source.faults c.window.source) (g.S.Source.faults c.fill.new.source) c.fill.result c.fill.ensures.cause) ∙ inv.steady;
      stays = c.fill.ensures.stays ∙ inv.stays;
      feeders = c.pass_on.ensures.feeders ∙ inv.feeders;
      same = record {
        steady = subst (λ x. OnOk x (p.faults q ≡ p.faults s)) c.in_ok-pass_on.was (steady_on_ok _ (p.faults s) (p.faults q) c.pass_on.result c.pass_on.ensures.report.cause) ∙ inv.same.steady;
        stands = c.pass_on.ensures.report.stands ∙ inv.same.stands;
        named = c.pass_on.ensures.report.named ∙ inv.same.named;
      };
    }

pub returns-in_err-pass_on-clause-read : goal.returns-in_err-pass_on-clause-read
returns-in_err-pass_on-clause-read g c =
    let k = g.C.Composable in let p = g.P.Report in let plan = c.args.plan.now in let hub = hub_of c.args.opened.now in let r = c.args.report.now in
    let t = terms_of k.keeps_of k.hint_of p.reports p.breaks plan in
    let inv = c.window.invariant in let b = hub_of c.window.opened in let s = c.window.report in
    let y = hub_of c.pass_on.new.opened in let q = c.pass_on.new.report in
    let old = g.S.Source.left c.args.source.now in let left = g.S.Source.left c.fill.new.source in
    let gave : c.fill.result ≡ Ok true = c.in_ok-fill.was ∙ ap (λ (x : Bool). Ok x) c.if-branch.true in
    let last = c.fill.ensures.last gave inv.given inv.taken inv.read in let front = last.0 in let line = last.1 in
    let one = last.3 in let units = inv.given ++ front in
    let full = subst (λ m. IsFullWindow m (front ++ line ∷ [])) (c.fill.ensures.most ∙ inv.setup.most) (subst (IsFullWindow c.fill.new.window.most) last.2 (c.fill.ensures.full gave)) in
    let good = subst (All (IsGood plan.kind)) last.2 c.fill.ensures.good in
    let small : length units + 1 ≤ most_kept = omega (arith, read_few c.fill.new.reader left (units ++ line ∷ []) (inv.taken ++ one.more) one.read, length-append units (line ∷ [])) in
    let n = c.number-number.result in let f = c.in_err-pass_on.field-0.0 in
    let place = line_number c.fill.new.reader (g.S.Source.left c.window.source) left units line inv.taken n one c.number-number.ensures in
    let stops = c.in_err-pass_on.ensures.passes.stopped in
    let Gave : List (List ℕ) → Type 0 = λ l. WindowsWent t l hub r c.pass_on.new.round.window.lines y q in
    let stopped = pass_stops t units line hub b r s q front f (front_waits t inv.given front line hub b r s inv.went small good full)
    (All-pop (IsGood plan.kind) (front ++ line ∷ []) front (Some line) refl good).1 inv.setup.least full.full
    (subst (λ l. StopsPassing t l (length units + 1) b s q f) last.2 (subst (λ m. StopsPassing t c.fill.new.window.lines m b s q f) place stops)) in
    let last = g.S.Source.last c.fill.new.source in
    subst (λ u. Reads last u plan.most Gave (StopsAtUnit t hub r q) old left c.from_residual-in_err-pass_on.result) (sym (ap units_by (lines_are c.args.plan.now.column c.if-plan-gt0.false)))
    (ends_read Gave (StopsAtUnit t hub r q) plan.most c.fill.new.reader.last last Lines old left f c.from_residual-in_err-pass_on.result c.from_residual-in_err-pass_on.ensures.1 (c.fill.ensures.piece inv.piece)
    (line_missed Gave (StopsAtUnit t hub r q) plan.most c.fill.new.reader old left units line (inv.taken ++ one.more) n f (c.fill.ensures.bound ∙ inv.most)
    (Consumes-trans _ _ _ _ _ inv.consumed one.consumed) place (passing_is_of_a_taker t c.fill.new.window.lines n b s q f stops) stopped one.read one.in_time))

pub returns-clause-read : goal.returns-clause-read
returns-clause-read g c =
    let k = g.C.Composable in let p = g.P.Report in let plan = c.args.plan.now in let hub = hub_of c.args.opened.now in let r = c.args.report.now in
    let t = terms_of k.keeps_of k.hint_of p.reports p.breaks plan in
    let inv = c.window.invariant in let b = hub_of c.window.opened in let s = c.window.report in
    let old = g.S.Source.left c.args.source.now in let left = g.S.Source.left c.fill.new.source in
    let lines = c.fill.new.window.lines in
    let none : c.fill.result ≡ Ok false = c.in_ok-fill.was ∙ ap (λ (x : Bool). Ok x) c.if-branch.false in
    let rest = c.fill.ensures.rest none inv.given inv.taken inv.read in
    let Gave : List (List ℕ) → Type 0 = λ units. WindowsWent t units hub r lines b s in
    let unfilled = subst (λ m. FillsNone m lines) (c.fill.ensures.most ∙ inv.setup.most) (c.fill.ensures.unfilled (λ same. not_both none same)) in
    subst (λ u. ReadsAll u plan.most c.number.result Gave old left) (sym (ap units_by (lines_are c.args.plan.now.column c.if-plan-gt0.false)))
    (all_lines Gave (StopsAtUnit t hub r s) plan.most c.fill.new.reader old left (inv.given ++ lines) (inv.taken ++ rest.0) c.number.result (c.fill.ensures.bound ∙ inv.most)
    (Consumes-trans _ _ _ _ _ inv.consumed rest.1)
    (lines_wait t inv.given lines hub b r s inv.went (c.fill.ensures.few inv.given inv.taken inv.read) c.fill.ensures.good unfilled) (rest.2, c.fill.ensures.end none) c.number.ensures)
