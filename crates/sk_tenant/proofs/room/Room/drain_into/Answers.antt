use Rattle.std.proofs.Common.{◌∙◌}
use Rattle.sk_tenant.proofs.Rooms.{table_of_next, one_drained}
use Rattle.sk_tenant.proofs.room.Room.drain_into.Goals as goal

pub drain_one-requires : goal.drain_one-requires
drain_one-requires g c = record {
  table = table_of_next c.args.heart.now c.first.heart c.args.self.now.items c.first.self-inside.updaters.items c.pop.new.self.items c.in-Some.updater c.requires.all c.in-Some.ensures.items c.first.invariant.drained;
}

pub first-preserved : goal.first-preserved
first-preserved g c = record {
  drained = one_drained c.args.heart.now c.first.heart c.args.self.now.items c.first.self-inside.updaters.items c.pop.new.self.items c.in-Some.updater c.requires.all c.in-Some.ensures.items c.first.invariant.drained
      c.drain_one.new.heart c.drain_one.ensures;
  most = c.pop.ensures.capacity ∙ c.first.invariant.most;
}
