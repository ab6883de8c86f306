use Rattle.std.proofs.Common.{◌≡◌, length}
use Rattle.sk_machine.specs.declared.views.Post.TheVariants.{Root}
use Rattle.sk_gate.specs.Starts.{IsBlank, AreNew}
use Rattle.sk_gate.proofs.start.all_updaters.Given as goal

abbrev pub invariant-number : goal.invariant-number
invariant-number g l =
    (l.seat.table_id ≡ l.initial.seat.table_id) × IsBlank l.initial.seat.me.0 (Root l.number) l.number l.seat.me × (length l.updaters.items ≡ l.number) × AreNew l.initial.seat.me.0 l.initial.seat.table_id l.updaters.items
