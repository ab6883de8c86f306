use Rattle.sk_hub.proofs.Taking as laws
use Rattle.sk_hub.proofs.laws.taken_in_stays.Goals as goal

pub returns : goal.returns
returns c = record {
  drained = laws.taken_after_drain;
  served = laws.taken_after_serving;
  asked = laws.taken_after_ask;
  same = laws.taken_with_view;
}
