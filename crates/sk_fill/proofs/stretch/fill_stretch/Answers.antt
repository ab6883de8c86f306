use Rattle.std.proofs.Common.{◌≡◌, [], ◌∷◌, ◌++◌, Bool, true, false, length, Ok, OnOk, refl, ap, ◌∙◌, subst, arith}
use Rattle.sk_fill.specs.Windows.{all_lines}
use Rattle.sk_fill.specs.Stretches.{stretch_bytes, ReadsWindow}
use Rattle.sk_fill.proofs.StretchLaws.{one_more, stretch_starts, stretch_goes, stretch_full, stretch_ended, stretch_failed}
use Rattle.sk_fill.proofs.Readings.{steady_on_ok}
use Rattle.sk_fill.proofs.stretch.fill_stretch.Goals as goal

pub window-init : goal.window-init
window-init g c = record {
  goes = stretch_starts c.args.kind c.args.stretch.now.most c.clear.new.self.windows c.args.reader.now (g.S.Source.left c.args.source.now) c.clear.ensures.windows;
  fewer = λ some. let none = ap length c.clear.ensures.windows in absurd (omega arith);
  most = c.clear.ensures.most;
  first = c.clear.ensures.first ∙ c.number.ensures;
  piece = λ within. within;
  steady = refl;
  stays = refl;
}

pub read_window-requires : goal.read_window-requires
read_window-requires g c =
    let start = c.requires.started in let now = c.window.invariant.goes.read start.0 start.1 start.2 in
    record { started = (start.0 ++ all_lines c.window.stretch.windows, start.1 ++ now.0, now.2) }

pub returns-in_err-read_window-clause-reads : goal.returns-in_err-read_window-clause-reads
returns-in_err-read_window-clause-reads g c =
    let inv = c.window.invariant in let most = c.args.stretch.now.most in
    let old = g.S.Source.left c.args.source.now in let mid = g.S.Source.left c.window.source in let new = g.S.Source.left c.read_window.new.source in
    let reads = c.read_window.ensures.reads in
    let one = subst (λ m. ReadsWindow c.args.kind m reads.0 c.window.reader c.read_window.new.reader mid new c.read_window.result) inv.most reads.2 in
    stretch_failed c.args.kind most c.window.stretch.windows reads.0 c.args.reader.now c.window.reader c.read_window.new.reader old mid new inv.goes c.read_window.new.self.windows c.in_err-read_window.field-0.0 c.read_window.result c.from_residual.result one
    c.in_err-read_window.was c.from_residual.ensures.1

pub returns-then-is_full-clause-reads : goal.returns-then-is_full-clause-reads
returns-then-is_full-clause-reads g c =
    let inv = c.window.invariant in let most = c.args.stretch.now.most in
    let old = g.S.Source.left c.args.source.now in let mid = g.S.Source.left c.window.source in let new = g.S.Source.left c.read_window.new.source in
    let reads = c.read_window.ensures.reads in
    let gave : c.read_window.result ≡ Ok true = c.in_ok-read_window.was ∙ ap (λ (b : Bool). Ok b) c.if-branch.true in
    let one = subst (λ m. ReadsWindow c.args.kind m reads.0 c.window.reader c.read_window.new.reader mid new c.read_window.result) inv.most reads.2 in
    stretch_full c.args.kind most c.window.stretch.windows reads.0 c.args.reader.now c.window.reader c.read_window.new.reader old mid new inv.goes c.read_window.new.self.windows c.read_window.result one gave
    (subst (λ x. OnOk x (c.read_window.new.self.windows ≡ c.window.stretch.windows ++ reads.0 ∷ [])) gave reads.1)

pub returns-then-is_full-clause-few : goal.returns-then-is_full-clause-few
returns-then-is_full-clause-few g c =
    let reads = c.read_window.ensures.reads in
    let gave : c.read_window.result ≡ Ok true = c.in_ok-read_window.was ∙ ap (λ (b : Bool). Ok b) c.if-branch.true in
    one_more c.args.enough stretch_bytes c.window.stretch.windows c.read_window.new.self.windows reads.0
    (subst (λ x. OnOk x (c.read_window.new.self.windows ≡ c.window.stretch.windows ++ reads.0 ∷ [])) gave reads.1) c.window.invariant.fewer

pub window-preserved : goal.window-preserved
window-preserved g c =
    let inv = c.window.invariant in let most = c.args.stretch.now.most in
    let old = g.S.Source.left c.args.source.now in let mid = g.S.Source.left c.window.source in let new = g.S.Source.left c.read_window.new.source in
    let reads = c.read_window.ensures.reads in
    let gave : c.read_window.result ≡ Ok true = c.in_ok-read_window.was ∙ ap (λ (b : Bool). Ok b) c.if-branch.true in
    let one = subst (λ m. ReadsWindow c.args.kind m reads.0 c.window.reader c.read_window.new.reader mid new c.read_window.result) inv.most reads.2 in
    record {
      goes = stretch_goes c.args.kind most c.window.stretch.windows reads.0 c.args.reader.now c.window.reader c.read_window.new.reader old mid new inv.goes c.read_window.new.self.windows c.read_window.result one gave
          (subst (λ x. OnOk x (c.read_window.new.self.windows ≡ c.window.stretch.windows ++ reads.0 ∷ [])) gave reads.1);
      fewer = λ some. c.is_full.ensures.few c.if-is_full.false;
      most = c.read_window.ensures.most ∙ inv.most;
      first = c.read_window.ensures.first ∙ inv.first;
      piece = λ within. c.read_window.ensures.piece (inv.piece within);
      steady = subst (λ x. OnOk x (g.S.Source.faults c.read_window.new.source ≡ g.S.Source.faults c.window.source)) c.in_ok-read_window.was
          (steady_on_ok _ (g.S.Source.faults c.window.source) (g.S.Source.faults c.read_window.new.source) c.read_window.result c.read_window.ensures.cause) ∙ inv.steady;
      stays = c.read_window.ensures.stays ∙ inv.stays;
    }

pub returns-clause-few : goal.returns-clause-few
returns-clause-few g c =
    let reads = c.read_window.ensures.reads in
    let gave : c.read_window.result ≡ Ok false = c.in_ok-read_window.was ∙ ap (λ (b : Bool). Ok b) c.if-branch.false in
    one_more c.args.enough stretch_bytes c.window.stretch.windows c.read_window.new.self.windows reads.0
    (subst (λ x. OnOk x (c.read_window.new.self.windows ≡ c.window.stretch.windows ++ reads.0 ∷ [])) gave reads.1) c.window.invariant.fewer

pub returns-clause-reads : goal.returns-clause-reads
returns-clause-reads g c =
    let inv = c.window.invariant in let most = c.args.stretch.now.most in
    let old = g.S.Source.left c.args.source.now in let mid = g.S.Source.left c.window.source in let new = g.S.Source.left c.read_window.new.source in
    let reads = c.read_window.ensures.reads in
    let gave : c.read_window.result ≡ Ok false = c.in_ok-read_window.was ∙ ap (λ (b : Bool). Ok b) c.if-branch.false in
    let one = subst (λ m. ReadsWindow c.args.kind m reads.0 c.window.reader c.read_window.new.reader mid new c.read_window.result) inv.most reads.2 in
    stretch_ended c.args.kind most c.window.stretch.windows reads.0 c.args.reader.now c.window.reader c.read_window.new.reader old mid new inv.goes c.read_window.new.self.windows c.read_window.result one gave
    (subst (λ x. OnOk x (c.read_window.new.self.windows ≡ c.window.stretch.windows ++ reads.0 ∷ [])) gave reads.1)
