-- The board after a server.
use Rattle.std.proofs.Common.{◌≡◌, ℕ, List, [], map, Result, Ok, Err, refl, ap, ◌∙◌}
use Rattle.sk_model.specs.Entries.{Entry}
use Rattle.sk_watch.specs.Places.{Place, told}
use Rattle.sk_report.specs.declared.remains.Remains.{Remains}
use Rattle.sk_report.specs.Texts.{armed_with, reply_of}
use Rattle.sk_serve.specs.Around.{Surroundings}
use Rattle.sk_serve.specs.Serves.{ServesPlan}
use Rattle.sk_serve.specs.declared.fault.ServeFault.{ServeFault}
use Rattle.sk_serve.specs.declared.fault.ServeFault.TheVariants as serve
use Rattle.sk_serve.specs.declared.plan.ServePlan.{ServePlan}
use Rattle.sk_cli.specs.Beside.{cleared}
use Rattle.sk_cli.proofs.WatcherLaws.{none_armed, told_cleared}

-- a board without marks that was told a reply
none_told : (plan : ServePlan) (places places' : List Place) (list : List Entry) → places' ≡ map (told (reply_of plan.k list)) (armed_with plan.k plan.alarms places) → plan.alarms ≡ [] → places' ≡ cleared places
none_told plan places places' list is none =
    is ∙ ap (map (told (reply_of plan.k list))) (none_armed plan.k plan.alarms places _ refl none) ∙ told_cleared (reply_of plan.k list) places

-- without marks all watchers are gone
pub none_served : (plan : ServePlan) (most : ℕ) (old new : Surroundings) (served : Result Remains ServeFault) → ServesPlan plan most old new served → plan.alarms ≡ [] → new.places ≡ cleared old.places
none_served plan most old new (Ok left) went none = none_told plan old.places new.places went.list went.board none
none_served plan most old new (Err serve.NetFault) went none = none_armed plan.k plan.alarms old.places new.places went.1 none
none_served plan most old new (Err serve.OutOfMemory) went none = none_armed plan.k plan.alarms old.places new.places went.1 none
none_served plan most old new (Err serve.WriteFault) went none = none_told plan old.places new.places went.heart.view.seen went.places none
