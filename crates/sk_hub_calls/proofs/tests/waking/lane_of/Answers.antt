use Rattle.sk_hub_calls.proofs.tests.waking.lane_of.Goals as goal

pub returns : goal.returns
returns c = c.in_ok-lane.ensures.open.up_to
