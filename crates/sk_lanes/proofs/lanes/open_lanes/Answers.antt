use Rattle.std.proofs.Common.{◌+◌, [], length, sym, ap, subst}
use Rattle.sk_fill.specs.Windows.{all_lines}
use Rattle.sk_feed.specs.Deliveries.{IsNext}
use Rattle.sk_lanes.proofs.LaneLaws.{comes_first, open_behind, open_ends}
use Rattle.sk_lanes.proofs.lanes.open_lanes.Goals as goal

pub open_each-requires-clause-next : goal.open_each-requires-clause-next
open_each-requires-clause-next g c = subst (IsNext []) (sym c.in_ok-first.ensures) (comes_first c.args.first c.requires.lines)

pub returns-clause-behind : goal.returns-clause-behind
returns-clause-behind g c = open_behind g.T.TakesStretches.keeps_at_most c.in_ok-first.first c.in_ok-lanes.lanes.items c.in_ok-lanes.outlets.items c.in_ok-lanes.ensures.open

pub returns-clause-ends : goal.returns-clause-ends
returns-clause-ends g c =
    open_ends g.T.TakesStretches.keeps_at_most c.in_ok-first.first c.in_ok-lanes.lanes.items c.in_ok-lanes.outlets.items (c.args.first.first + length (all_lines c.args.first.windows)) c.in_ok-lanes.ensures.open
    (ap (λ s. s.first + length (all_lines s.windows)) (sym c.in_ok-first.ensures))
