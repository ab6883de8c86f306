use Rattle.std.proofs.Common.{◌≡◌, ◌≤◌, ◌+◌, ◌∷◌, [], ◌++◌, length, Bool, true, Ok, OnOk, refl, sym, ap, ◌∙◌, subst, arith, length-append}
use Rattle.sk_model.specs.Limits.{most_kept}
use Rattle.sk_read.specs.declared.fault.Fault.TheVariants as fault
use Rattle.sk_fill.specs.Windows.{all_lines}
use Rattle.sk_fill.specs.Stretches.{ReadsStretch}
use Rattle.sk_feed.specs.Deliveries.{windows_of}
use Rattle.sk_lanes.specs.Rings.{GaveEach, AllEnd}
use Rattle.sk_lanes.proofs.RingLaws.{all_end}
use Rattle.sk_fill.proofs.Filled.{read_few, read_number}
use Rattle.sk_fill.proofs.Readings.{steady_on_ok}
use Rattle.sk_fill.proofs.StretchLaws.{on_ok_at, read_then_none}
use Rattle.sk_ingest.proofs.SupplyLaws.{supply_starts, supply_goes, supply_fails}
use Rattle.sk_ingest.proofs.supply.read_and_give.Goals as goal

pub stretch-init : goal.stretch-init
stretch-init g c = record {
  goes = supply_starts c.args.kind c.args.next.now.most c.args.supply.now.outlets c.args.reader.now (g.S.Source.left c.args.source.now);
  most = refl;
  same = refl;
  piece = λ within. within;
  steady = refl;
  stays = refl;
}

pub fill_stretch-requires : goal.fill_stretch-requires
fill_stretch-requires g c =
    let start = c.requires.given in let inv = c.stretch.invariant.goes in let now = inv.goes.read start.given start.taken start.read in
    record { started = (start.given ++ all_lines (windows_of inv.given), start.taken ++ now.0, now.2) }

pub give-requires-clause-next : goal.give-requires-clause-next
give-requires-clause-next g c =
    let start = c.requires.given in let inv = c.stretch.invariant.goes in let given = start.given ++ all_lines (windows_of inv.given) in
    let now = inv.goes.read start.given start.taken start.read in
    let number = read_number c.stretch.reader (g.S.Source.left c.stretch.source) given (start.taken ++ now.0) now.2 in
    let ends = all_end c.args.supply.now.outlets c.stretch.supply.outlets inv.given (length start.given) (length given) start.ends inv.gave (length-append start.given (all_lines (windows_of inv.given))) in
    subst (λ o. AllEnd o c.replace-full.result.first) (sym (ap (λ z. z.outlets) c.wait_for_one.ensures.stays))
    (subst (AllEnd c.stretch.supply.outlets) (sym (ap (λ z. z.first) c.replace-full.ensures.value ∙ c.fill_stretch.ensures.first ∙ number)) ends)

pub give-requires-clause-few : goal.give-requires-clause-few
give-requires-clause-few g c =
    let start = c.requires.given in let inv = c.stretch.invariant.goes in let given = start.given ++ all_lines (windows_of inv.given) in
    let now = inv.goes.read start.given start.taken start.read in
    let s = c.fill_stretch.new.stretch in let mid = g.S.Source.left c.stretch.source in
    let full : c.in_ok-fill_stretch.field-0 ≡ true = c.if-not-branch.false in
    let gave : c.fill_stretch.result ≡ Ok true = c.in_ok-fill_stretch.was ∙ ap (λ (b : Bool). Ok b) full in
    let read = on_ok_at c.fill_stretch.result true _ gave c.fill_stretch.ensures.reads.read given (start.taken ++ now.0) now.2 in
    let number = read_number c.stretch.reader mid given (start.taken ++ now.0) now.2 in
    let few : s.first + length (all_lines s.windows) ≤ most_kept
    = omega (arith, c.fill_stretch.ensures.first, number, read_few c.fill_stretch.new.reader (g.S.Source.left c.fill_stretch.new.source) (given ++ all_lines s.windows) ((start.taken ++ now.0) ++ read.0) read.2, length-append given (all_lines s.windows)) in
    subst (λ z. z.first + length (all_lines z.windows) ≤ most_kept) (sym c.replace-full.ensures.value) few

pub returns-in_err-give-clause-supplies : goal.returns-in_err-give-clause-supplies
returns-in_err-give-clause-supplies g c =
    let inv = c.stretch.invariant in let most = c.args.next.now.most in let result = c.from_residual-in_err-give.result in let s = c.fill_stretch.new.stretch in
    let old = g.S.Source.left c.args.source.now in let mid = g.S.Source.left c.stretch.source in let new = g.S.Source.left c.fill_stretch.new.source in
    let reads = subst (λ m. ReadsStretch c.args.kind m s.windows c.stretch.reader c.fill_stretch.new.reader mid new c.fill_stretch.result) inv.most c.fill_stretch.ensures.reads in
    supply_fails c.args.kind most c.args.supply.now.outlets c.stretch.supply.outlets c.give.new.self.outlets c.replace-full.new.dest s.windows c.args.reader.now c.stretch.reader c.fill_stretch.new.reader old mid new fault.OutOfMemory result inv.goes
    (read_then_none c.args.kind most s.windows c.stretch.reader c.fill_stretch.new.reader mid new c.in_ok-fill_stretch.field-0 c.fill_stretch.result result c.requires.least reads c.in_ok-fill_stretch.was c.from_residual-in_err-give.ensures.1)
    c.from_residual-in_err-give.ensures.1

pub stretch-preserved : goal.stretch-preserved
stretch-preserved g c =
    let inv = c.stretch.invariant in let most = c.args.next.now.most in let s = c.fill_stretch.new.stretch in
    let old = g.S.Source.left c.args.source.now in let mid = g.S.Source.left c.stretch.source in let new = g.S.Source.left c.fill_stretch.new.source in
    let full : c.in_ok-fill_stretch.field-0 ≡ true = c.if-not-branch.false in
    let was : c.fill_stretch.result ≡ Ok true = c.in_ok-fill_stretch.was ∙ ap (λ (b : Bool). Ok b) full in
    let reads = subst (λ m. ReadsStretch c.args.kind m s.windows c.stretch.reader c.fill_stretch.new.reader mid new c.fill_stretch.result) inv.most c.fill_stretch.ensures.reads in
    let gave = subst (λ o. GaveEach o c.give.new.self.outlets (s ∷ [])) (ap (λ z. z.outlets) c.wait_for_one.ensures.stays)
    (subst (λ z. GaveEach c.wait_for_one.new.self.outlets c.give.new.self.outlets (z ∷ [])) c.replace-full.ensures.value c.in_ok-give.ensures.gave) in record {
      goes = supply_goes c.args.kind most c.args.supply.now.outlets c.stretch.supply.outlets c.give.new.self.outlets c.args.reader.now c.stretch.reader c.fill_stretch.new.reader old mid new s c.fill_stretch.result inv.goes reads was gave;
      most = ap (λ z. z.most) c.replace-full.ensures.after ∙ c.in-Some-wait_for_one.ensures.most ∙ inv.same ∙ c.requires.same;
      piece = λ within. c.fill_stretch.ensures.piece (inv.piece within);
      same = c.give.ensures.most ∙ ap (λ z. z.most) c.wait_for_one.ensures.stays ∙ inv.same;
      steady = subst (λ x. OnOk x (g.S.Source.faults c.fill_stretch.new.source ≡ g.S.Source.faults c.stretch.source)) c.in_ok-fill_stretch.was
          (steady_on_ok _ (g.S.Source.faults c.stretch.source) (g.S.Source.faults c.fill_stretch.new.source) c.fill_stretch.result c.fill_stretch.ensures.cause) ∙ inv.steady;
      stays = c.fill_stretch.ensures.stays ∙ inv.stays;
    }
