use Rattle.sk_hub.specs.Calls.{KeepsNone}
use Rattle.sk_feed.specs.Hubs.{HeartGoesOn}
use Rattle.sk_feed.proofs.settle.settle.Given as goal

abbrev pub invariant-settle : goal.invariant-settle
invariant-settle g l = record { none : KeepsNone l.initial.u l.u; heart : HeartGoesOn l.initial.heart l.heart }
