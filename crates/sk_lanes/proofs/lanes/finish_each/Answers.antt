use Rattle.std.proofs.Common.{◌≡◌, ◌<◌, length, refl, sym, subst, arith}
use Rattle.std.specs.Prelude.{IsOk}
use Rattle.sk_lanes.specs.Lanes.{Finishes}
use Rattle.sk_lanes.proofs.LaneLaws.{finishes_none, finishes_next, finishes_all}
use Rattle.sk_lanes.proofs.lanes.finish_each.Goals as goal

pub lane-init : goal.lane-init
lane-init g c = let k = g.T.TakesStretches in let lanes = c.args.lanes.now.items in let os = c.args.outlets.now.items in finishes_none (k.took c.args.kind) k.keeps_at_most lanes lanes os os

pub lane-preserved : goal.lane-preserved
lane-preserved g c =
    let k = g.T.TakesStretches in let i = c.lane.i in let lanes = c.args.lanes.now.items in let x = c.index_mut-lane.result.now in let y = c.finish.new.self in let o = c.index_mut-outlet.result.now in
    let n : c.len-n.result ≡ length lanes = omega (arith, c.len-n.ensures) in
    let within : i < length lanes = omega (arith, c.lane-test.true, n) in
    let ok : IsOk x.fed = subst (λ r. IsOk r) (sym c.in_ok-lane.was) refl in
    let finishes = subst (λ m. Finishes (k.took c.args.kind i m) k.keeps_at_most x o y) n (record { ok = ok; fed = c.in_ok-finish.ensures.taken; all = c.in_ok-finish.ensures.all }) in
    finishes_next (k.took c.args.kind) k.keeps_at_most lanes c.lane.lanes.items c.args.outlets.now.items c.lane.outlets.items i x y o c.finish.new.outlet c.lane.invariant within c.requires.same c.index_mut-lane.ensures.value c.index_mut-outlet.ensures.value finishes

pub returns : goal.returns
returns g c =
    let k = g.T.TakesStretches in let lanes = c.args.lanes.now.items in
    let n : c.len-n.result ≡ length lanes = omega (arith, c.len-n.ensures) in
    finishes_all (k.took c.args.kind) k.keeps_at_most lanes c.lane.lanes.items c.args.outlets.now.items c.lane.outlets.items c.lane.i (omega (arith, c.lane-test.false, n)) c.lane.invariant
