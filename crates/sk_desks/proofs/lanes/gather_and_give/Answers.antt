use Rattle.std.proofs.Common.{◌≡◌, ◌≤◌, ◌+◌, ◌∷◌, [], ◌++◌, List, ℕ, length, Bool, true, false, Ok, OnOk, refl, sym, ap, ◌∙◌, subst, arith, length-append}
use Rattle.sk_model.specs.Limits.{most_kept}
use Rattle.sk_fill.specs.Windows.{all_lines}
use Rattle.sk_fill.specs.Stretches.{StretchState}
use Rattle.sk_fill.proofs.Filled.{read_few, read_number}
use Rattle.sk_fill.proofs.Readings.{steady_on_ok}
use Rattle.sk_feed.specs.Deliveries.{windows_of}
use Rattle.sk_lanes.specs.Rings.{GaveEach, AllEnd}
use Rattle.sk_lanes.proofs.RingLaws.{all_end}
use Rattle.sk_desks.specs.Gathers.{GivesNext, Gathers}
use Rattle.sk_desks.specs.Lanes.{GathersAndGives}
use Rattle.sk_desks.proofs.LaneLaws.{gather_starts, gather_goes, gather_ends, gather_passed, gather_fails}
use Rattle.sk_desks.proofs.lanes.gather_and_give.Goals as goal

pub stretch-init : goal.stretch-init
stretch-init g c = record {
  goes = gather_starts c.args.gatherer.now.names.now c.args.supply.now.outlets c.args.gatherer.now.reader (g.S.Source.left c.args.source.now);
  most = c.requires.most;
  same = c.requires.same;
  piece = λ within. within;
  names = refl;
  steady = refl;
  stays = refl;
}

pub gather_stretch-requires-clause-started : goal.gather_stretch-requires-clause-started
gather_stretch-requires-clause-started g c =
    let start = c.requires.given in let inv = c.stretch.invariant.goes in let now = inv.goes.gives start.given start.taken start.read in
    (start.given ++ all_lines (windows_of inv.given), start.taken ++ now.0, now.2)

pub returns-in_err-gather_stretch-clause-gives : goal.returns-in_err-gather_stretch-clause-gives
returns-in_err-gather_stretch-clause-gives g c =
    let inv = c.stretch.invariant in let names = c.args.gatherer.now.names.now in let next = c.gather_stretch.new.stretch in
    let old = g.S.Source.left c.args.source.now in let mid = g.S.Source.left c.stretch.source in let new = g.S.Source.left c.gather_stretch.new.source in
    let q = c.stretch.gatherer.reader in let s = c.gather_stretch.new.gatherer.reader in
    let gathers = subst (λ (ns : List (List ℕ)). Gathers ns q s mid new (all_lines next.windows) c.gather_stretch.result) inv.names c.gather_stretch.ensures.gathers in
    gather_passed names c.args.supply.now.outlets c.stretch.supply.outlets next c.args.gatherer.now.reader q s old mid new inv.goes c.gather_stretch.result gathers
    c.stretch.supply.outlets next c.in_err-gather_stretch.field-0.0 c.from_residual.result c.in_err-gather_stretch.was c.from_residual.ensures.1

pub returns-then-not-branch-clause-gives : goal.returns-then-not-branch-clause-gives
returns-then-not-branch-clause-gives g c =
    let start = c.requires.given in
    let inv = c.stretch.invariant in let names = c.args.gatherer.now.names.now in let next = c.gather_stretch.new.stretch in
    let old = g.S.Source.left c.args.source.now in let mid = g.S.Source.left c.stretch.source in let new = g.S.Source.left c.gather_stretch.new.source in
    let q = c.stretch.gatherer.reader in let s = c.gather_stretch.new.gatherer.reader in
    let gathers = subst (λ (ns : List (List ℕ)). Gathers ns q s mid new (all_lines next.windows) c.gather_stretch.result) inv.names c.gather_stretch.ensures.gathers in
    let gave : c.gather_stretch.result ≡ Ok false = c.in_ok-gather_stretch.was ∙ ap (λ (b : Bool). Ok b) c.if-not-branch.true in
    subst (GathersAndGives names c.args.supply.now.outlets c.stretch.supply.outlets next c.args.gatherer.now.reader s old new) gave
    (gather_ends names c.args.supply.now.outlets c.stretch.supply.outlets next c.args.gatherer.now.reader q s old mid new inv.goes c.gather_stretch.result gathers start.given start.taken start.read c.gather_stretch.ensures.first)

pub returns-in_default-clause-gives : goal.returns-in_default-clause-gives
returns-in_default-clause-gives g c =
    let start = c.requires.given in
    let inv = c.stretch.invariant in let names = c.args.gatherer.now.names.now in let next = c.gather_stretch.new.stretch in
    let old = g.S.Source.left c.args.source.now in let mid = g.S.Source.left c.stretch.source in let new = g.S.Source.left c.gather_stretch.new.source in
    let q = c.stretch.gatherer.reader in let s = c.gather_stretch.new.gatherer.reader in let os = c.args.supply.now.outlets in
    let gathers = subst (λ (ns : List (List ℕ)). Gathers ns q s mid new (all_lines next.windows) c.gather_stretch.result) inv.names c.gather_stretch.ensures.gathers in
    let gave : c.gather_stretch.result ≡ Ok true = c.in_ok-gather_stretch.was ∙ ap (λ (b : Bool). Ok b) c.if-not-branch.false in
    subst (GathersAndGives names os c.wait_for_one.new.self.outlets next c.args.gatherer.now.reader s old new) gave
    (subst (λ o. GathersAndGives names os o next c.args.gatherer.now.reader s old new c.gather_stretch.result) (sym (ap (λ z. z.outlets) c.wait_for_one.ensures.stays))
    (gather_ends names os c.stretch.supply.outlets next c.args.gatherer.now.reader q s old mid new inv.goes c.gather_stretch.result gathers start.given start.taken start.read c.gather_stretch.ensures.first))

pub give-requires-clause-next : goal.give-requires-clause-next
give-requires-clause-next g c =
    let start = c.requires.given in let inv = c.stretch.invariant.goes in let given = start.given ++ all_lines (windows_of inv.given) in
    let now = inv.goes.gives start.given start.taken start.read in
    let number = read_number c.stretch.gatherer.reader (g.S.Source.left c.stretch.source) given (start.taken ++ now.0) now.2 in
    let ends = all_end c.args.supply.now.outlets c.stretch.supply.outlets inv.given (length start.given) (length given) start.ends inv.gave (length-append start.given (all_lines (windows_of inv.given))) in
    subst (λ o. AllEnd o c.replace-full.result.first) (sym (ap (λ z. z.outlets) c.wait_for_one.ensures.stays))
    (subst (AllEnd c.stretch.supply.outlets) (sym (ap (λ (z : StretchState). z.first) c.replace-full.ensures.value ∙ c.gather_stretch.ensures.first ∙ number)) ends)

pub give-requires-clause-few : goal.give-requires-clause-few
give-requires-clause-few g c =
    let start = c.requires.given in let inv = c.stretch.invariant.goes in let given = start.given ++ all_lines (windows_of inv.given) in
    let now = inv.goes.gives start.given start.taken start.read in
    let next = c.gather_stretch.new.stretch in let lines = all_lines next.windows in
    let mid = g.S.Source.left c.stretch.source in let new = g.S.Source.left c.gather_stretch.new.source in let q = c.stretch.gatherer.reader in let s = c.gather_stretch.new.gatherer.reader in
    let gave : c.gather_stretch.result ≡ Ok true = c.in_ok-gather_stretch.was ∙ ap (λ (b : Bool). Ok b) c.if-not-branch.false in
    let gives : GivesNext lines q s mid new = subst (λ x. OnOk x (GivesNext lines q s mid new)) gave c.gather_stretch.ensures.gathers.gives in
    let on = gives given (start.taken ++ now.0) now.2 in
    let few : next.first + length lines ≤ most_kept
    = omega (arith, c.gather_stretch.ensures.first, read_number q mid given (start.taken ++ now.0) now.2, read_few s new (given ++ lines) ((start.taken ++ now.0) ++ on.0) on.2, length-append given lines) in
    subst (λ (z : StretchState). z.first + length (all_lines z.windows) ≤ most_kept) (sym c.replace-full.ensures.value) few

pub returns-in_err-give-clause-gives : goal.returns-in_err-give-clause-gives
returns-in_err-give-clause-gives g c =
    let inv = c.stretch.invariant in let names = c.args.gatherer.now.names.now in let next = c.gather_stretch.new.stretch in
    let old = g.S.Source.left c.args.source.now in let mid = g.S.Source.left c.stretch.source in let new = g.S.Source.left c.gather_stretch.new.source in
    let q = c.stretch.gatherer.reader in let s = c.gather_stretch.new.gatherer.reader in
    let gathers = subst (λ (ns : List (List ℕ)). Gathers ns q s mid new (all_lines next.windows) c.gather_stretch.result) inv.names c.gather_stretch.ensures.gathers in
    gather_fails names c.args.supply.now.outlets c.stretch.supply.outlets next c.args.gatherer.now.reader q s old mid new inv.goes c.gather_stretch.result gathers
    c.give.new.self.outlets c.replace-full.new.dest c.in_ok-gather_stretch.field-0 c.from_residual-in_err-give.result c.in_ok-gather_stretch.was c.from_residual-in_err-give.ensures.1

pub stretch-preserved : goal.stretch-preserved
stretch-preserved g c =
    let inv = c.stretch.invariant in let names = c.args.gatherer.now.names.now in let next = c.gather_stretch.new.stretch in
    let old = g.S.Source.left c.args.source.now in let mid = g.S.Source.left c.stretch.source in let new = g.S.Source.left c.gather_stretch.new.source in
    let q = c.stretch.gatherer.reader in let s = c.gather_stretch.new.gatherer.reader in
    let gathers = subst (λ (ns : List (List ℕ)). Gathers ns q s mid new (all_lines next.windows) c.gather_stretch.result) inv.names c.gather_stretch.ensures.gathers in
    let went : c.gather_stretch.result ≡ Ok true = c.in_ok-gather_stretch.was ∙ ap (λ (b : Bool). Ok b) c.if-not-branch.false in
    let gave = subst (λ o. GaveEach o c.give.new.self.outlets (next ∷ [])) (ap (λ z. z.outlets) c.wait_for_one.ensures.stays)
    (subst (λ z. GaveEach c.wait_for_one.new.self.outlets c.give.new.self.outlets (z ∷ [])) c.replace-full.ensures.value c.in_ok-give.ensures.gave) in record {
      goes = gather_goes names c.args.supply.now.outlets c.stretch.supply.outlets next c.args.gatherer.now.reader q s old mid new inv.goes c.gather_stretch.result gathers c.give.new.self.outlets went gave;
      most = ap (λ (z : StretchState). z.most) c.replace-full.ensures.after ∙ c.in-Some-wait_for_one.ensures.most ∙ inv.same;
      same = c.give.ensures.most ∙ ap (λ z. z.most) c.wait_for_one.ensures.stays ∙ inv.same;
      piece = λ within. c.gather_stretch.ensures.piece (inv.piece within);
      names = c.gather_stretch.ensures.names ∙ inv.names;
      steady = subst (λ x. OnOk x (g.S.Source.faults c.gather_stretch.new.source ≡ g.S.Source.faults c.stretch.source)) c.in_ok-gather_stretch.was
          (steady_on_ok _ (g.S.Source.faults c.stretch.source) (g.S.Source.faults c.gather_stretch.new.source) c.gather_stretch.result c.gather_stretch.ensures.cause) ∙ inv.steady;
      stays = c.gather_stretch.ensures.stays ∙ inv.stays;
    }
