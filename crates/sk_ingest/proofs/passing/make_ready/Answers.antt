use Rattle.std.proofs.Common.{◌≡◌, ℕ, Bool, List, [], refl}
use Rattle.sk_model.specs.Entries.{Entry}
use Rattle.sk_hub.proofs.Calls.{on_ok}
use Rattle.sk_read.specs.declared.kind.Kind.{Kind}
use Rattle.sk_feed.specs.Hubs.{Hub, hub_of, IsHub, HeartMayGoOn}
use Rattle.sk_feed.specs.Shares.{KeepNone}
use Rattle.sk_feed.proofs.HubLaws.{hub_fed, no_window}
use Rattle.sk_feed.proofs.Rounds.{ok_then}
use Rattle.sk_feed.proofs.Settling.{fed_and_settled}
use Rattle.sk_ingest.proofs.passing.make_ready.Goals as goal

hub_settled : (on : Bool) (keeps : ℕ → ℕ → Bool) (hint_of : List ℕ → List Entry → ℕ) (kind : Kind) (x y : Hub) → IsHub x → HeartMayGoOn on x.heart y.heart → KeepNone x.updaters y.updaters → y.token ≡ x.token → IsHub y
hub_settled on keeps hint_of kind x y hub heart none token = hub_fed on keeps hint_of kind [] x y hub (fed_and_settled on keeps hint_of kind [] x x y (no_window on keeps hint_of kind x) heart none token)

pub returns-clause-fed : goal.returns-clause-fed
returns-clause-fed g c = on_ok c.settle_all.result
    (λ a lines was.
    let k = g.C.Composable in let x = hub_of c.args.opened.now in
    let y : Hub = record x { heart = c.settle_all.new.heart; updaters = c.settle_all.new.updaters.items } in
    fed_and_settled c.args.plan.now.propagator k.keeps_of k.hint_of c.args.plan.now.kind lines a x y was (record { goes = c.settle_all.ensures.heart; quiet = λ off. cc }) c.settle_all.ensures.none refl)

pub returns-clause-hub : goal.returns-clause-hub
returns-clause-hub g c =
    let k = g.C.Composable in let x = hub_of c.args.opened.now in
    let y : Hub = record x { heart = c.settle_all.new.heart; updaters = c.settle_all.new.updaters.items } in
    on_ok c.settle_all.result (hub_settled c.args.plan.now.propagator k.keeps_of k.hint_of c.args.plan.now.kind x y c.requires.hub (record { goes = c.settle_all.ensures.heart; quiet = λ off. cc }) c.settle_all.ensures.none refl)

pub returns-clause-ready : goal.returns-clause-ready
returns-clause-ready g c =
    let k = g.C.Composable in let x = hub_of c.args.opened.now in
    let y : Hub = record x { heart = c.settle_all.new.heart; updaters = c.settle_all.new.updaters.items } in
    ok_then c.settle_all.result c.settle_all.ensures.settled (λ settled. λ interim. record {
      hub = hub_settled c.args.plan.now.propagator k.keeps_of k.hint_of c.args.plan.now.kind x y c.requires.hub (record { goes = c.settle_all.ensures.heart; quiet = λ off. cc }) c.settle_all.ensures.none refl;
      settled = λ propagator. settled;
    })
