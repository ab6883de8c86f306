use Rattle.std.proofs.Common.{refl, ◌∙◌}
use Rattle.sk_hub.proofs.Leaves.{knows_none, knows_trans}
use Rattle.sk_hub_calls.proofs.tests.hub.beside.HeartSweeping.sweep_often.Goals as goal

pub sweep-init : goal.sweep-init
sweep-init g c = record { knows = knows_none c.args.self.now.view; stays = refl }

pub sweep-preserved : goal.sweep-preserved
sweep-preserved g c = let i = c.sweep.invariant in let s = c.sweep-in-sweep in record {
  knows = knows_trans c.args.self.now.view c.sweep.self.view s.new.self.view i.knows s.ensures.knows;
  stays = s.ensures.stays ∙ λ e. record (i.stays e) { view = s.new.self.view };
}
