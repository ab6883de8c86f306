use Rattle.std.proofs.Common.{◌≡◌, ◌++◌, take, vec_capacity}
use Rattle.sk_model.specs.Entries.{tagged}
use Rattle.sk_core.proofs.state.propagator.append_batch.Given as goal

abbrev pub invariant-append : goal.invariant-append
invariant-append l = record { entries : l.entries.items ≡ l.initial.entries.items ++ tagged l.i (take l.item-index l.batch); room : vec_capacity l.entries ≡ vec_capacity l.initial.entries }
