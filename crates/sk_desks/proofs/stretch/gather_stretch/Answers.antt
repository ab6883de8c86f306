use Rattle.std.proofs.Common.{◌≡◌, ◌++◌, ◌∙◌, ℕ, List, Bool, Ok, OnOk, length, ap, refl, subst, arith}
use Rattle.std.proofs.lemmas.Result.{on_ok_weaker}
use Rattle.sk_fill.specs.Windows.{all_lines}
use Rattle.sk_fill.specs.Stretches.{HaveFewer, StopsAtEnough}
use Rattle.sk_fill.proofs.StretchLaws.{one_more}
use Rattle.sk_fill.proofs.Readings.{steady_on_ok}
use Rattle.sk_desks.specs.Gathers.{Gathers}
use Rattle.sk_desks.proofs.StretchLaws.{gathered_none, gathered, gathers_window, gathers_passed}
use Rattle.sk_desks.proofs.stretch.gather_stretch.Given.{Over}
use Rattle.sk_desks.proofs.stretch.gather_stretch.Goals.{After-gather_more}
use Rattle.sk_desks.proofs.stretch.gather_stretch.Goals as goal

pub window-init : goal.window-init
window-init g c = record {
  goes = gathered_none c.args.gatherer.now.names.now (all_lines c.clear.new.self.windows) c.args.gatherer.now.reader (g.S.Source.left c.args.source.now) (ap all_lines c.clear.ensures.windows);
  fewer = λ some. let none = ap length c.clear.ensures.windows in absurd (omega arith);
  most = c.clear.ensures.most ∙ c.requires.most;
  first = c.clear.ensures.first ∙ c.number.ensures;
  piece = λ within. within;
  names = refl;
  steady = refl;
  stays = refl;
}

pub gather_more-requires-clause-started : goal.gather_more-requires-clause-started
gather_more-requires-clause-started g c =
    let start = c.requires.started in let now = c.window.invariant.goes.gives start.0 start.1 start.2 in
    (start.0 ++ all_lines c.window.stretch.windows, start.1 ++ now.0, now.2)

-- how it went with the window, after those before
went : (g : Over) (c : After-gather_more g) → Gathers c.args.gatherer.now.names.now c.args.gatherer.now.reader c.gather_more.new.gatherer.reader (g.S.Source.left c.args.source.now) (g.S.Source.left c.gather_more.new.source) (all_lines c.gather_more.new.stretch.windows) c.gather_more.result
went g c =
    let inv = c.window.invariant in let names = c.args.gatherer.now.names.now in let windows = c.window.stretch.windows in
    let old = g.S.Source.left c.args.source.now in let mid = g.S.Source.left c.window.source in let new = g.S.Source.left c.gather_more.new.source in
    let q = c.window.gatherer.reader in let s = c.gather_more.new.gatherer.reader in
    let reads = c.gather_more.ensures.gathers in
    let one = subst (λ (ns : List (List ℕ)). Gathers ns q s mid new reads.0 c.gather_more.result) inv.names reads.2 in
    gathers_window names (all_lines windows) reads.0 c.args.gatherer.now.reader q s old mid new inv.goes c.gather_more.result one windows c.gather_more.new.stretch.windows refl reads.1

pub returns-in_err-gather_more-clause-gathers : goal.returns-in_err-gather_more-clause-gathers
returns-in_err-gather_more-clause-gathers g c =
    let at = (goal.at.returns-in_err-gather_more-clause-gathers g c).After-gather_more in
    gathers_passed c.args.gatherer.now.names.now c.args.gatherer.now.reader c.gather_more.new.gatherer.reader (g.S.Source.left c.args.source.now) (g.S.Source.left c.gather_more.new.source) (all_lines c.gather_more.new.stretch.windows)
    c.in_err-gather_more.field-0.0 c.gather_more.result c.from_residual.result (went g at) c.in_err-gather_more.was c.from_residual.ensures.1

pub returns-then-is_full-clause-gathers : goal.returns-then-is_full-clause-gathers
returns-then-is_full-clause-gathers g c =
    let at = (goal.at.returns-then-is_full-clause-gathers g c).After-gather_more in
    subst (Gathers c.args.gatherer.now.names.now c.args.gatherer.now.reader c.gather_more.new.gatherer.reader (g.S.Source.left c.args.source.now) (g.S.Source.left c.gather_more.new.source) (all_lines c.gather_more.new.stretch.windows))
    (c.in_ok-gather_more.was ∙ ap (λ (b : Bool). Ok b) c.if-branch.true) (went g at)

-- those before the last window are not enough
stops : (g : Over) (c : After-gather_more g) → OnOk c.gather_more.result (StopsAtEnough 32768 524288 c.gather_more.new.stretch.windows)
stops g c =
    let reads = c.gather_more.ensures.gathers in
    on_ok_weaker c.gather_more.result (λ added. one_more 32768 524288 c.window.stretch.windows c.gather_more.new.stretch.windows reads.0 added c.window.invariant.fewer) reads.1

pub returns-then-is_full-clause-few : goal.returns-then-is_full-clause-few
returns-then-is_full-clause-few g c =
    let at = (goal.at.returns-then-is_full-clause-few g c).After-gather_more in
    subst (λ r. OnOk r (StopsAtEnough 32768 524288 c.gather_more.new.stretch.windows)) (c.in_ok-gather_more.was ∙ ap (λ (b : Bool). Ok b) c.if-branch.true) (stops g at)

pub returns-clause-few : goal.returns-clause-few
returns-clause-few g c =
    let at = (goal.at.returns-clause-few g c).After-gather_more in
    subst (λ r. OnOk r (StopsAtEnough 32768 524288 c.gather_more.new.stretch.windows)) (c.in_ok-gather_more.was ∙ ap (λ (b : Bool). Ok b) c.if-branch.false) (stops g at)

pub window-preserved : goal.window-preserved
window-preserved g c =
    let at = (goal.at.window-preserved g c).After-gather_more in let inv = c.window.invariant in
    record {
      goes = gathered c.args.gatherer.now.names.now (all_lines c.gather_more.new.stretch.windows) c.args.gatherer.now.reader c.gather_more.new.gatherer.reader (g.S.Source.left c.args.source.now) (g.S.Source.left c.gather_more.new.source) c.gather_more.result (went g at)
          (c.in_ok-gather_more.was ∙ ap (λ (b : Bool). Ok b) c.if-branch.true);
      fewer = λ some. record { lines = (c.is_full.ensures.few c.if-is_full.false).lines; bytes = omega (arith, c.size.ensures) };
      most = c.gather_more.ensures.most;
      first = c.gather_more.ensures.first ∙ inv.first;
      piece = λ within. c.gather_more.ensures.piece (inv.piece within);
      names = c.gather_more.ensures.names ∙ inv.names;
      steady = subst (λ x. OnOk x (g.S.Source.faults c.gather_more.new.source ≡ g.S.Source.faults c.window.source)) c.in_ok-gather_more.was
          (steady_on_ok _ (g.S.Source.faults c.window.source) (g.S.Source.faults c.gather_more.new.source) c.gather_more.result c.gather_more.ensures.cause) ∙ inv.steady;
      stays = c.gather_more.ensures.stays ∙ inv.stays;
    }

pub returns-clause-gathers : goal.returns-clause-gathers
returns-clause-gathers g c =
    let at = (goal.at.returns-clause-gathers g c).After-gather_more in
    subst (Gathers c.args.gatherer.now.names.now c.args.gatherer.now.reader c.gather_more.new.gatherer.reader (g.S.Source.left c.args.source.now) (g.S.Source.left c.gather_more.new.source) (all_lines c.gather_more.new.stretch.windows))
    (c.in_ok-gather_more.was ∙ ap (λ (b : Bool). Ok b) c.if-branch.false) (went g at)
