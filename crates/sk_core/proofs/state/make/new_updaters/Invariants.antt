use Rattle.std.proofs.Common.{◌≡◌, replicate, vec_capacity}
use Rattle.sk_core.specs.Stored.{blank_updater}
use Rattle.sk_core.proofs.state.make.new_updaters.Given as goal

abbrev pub invariant-updaters : goal.invariant-updaters
invariant-updaters l = record { items : l.updaters.items ≡ replicate l.counter (blank_updater l.size); room : vec_capacity l.updaters ≡ l.n }
