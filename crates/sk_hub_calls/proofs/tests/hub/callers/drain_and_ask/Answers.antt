use Rattle.std.proofs.Common.{rules, Contains, sym, subst, ◌∙◌}
use Rattle.std.proofs.lemmas.List.Elements.{Contains-push}
use Rattle.sk_hub.specs.Drains.{IsDrained}
use Rattle.sk_hub_calls.proofs.tests.hub.callers.drain_and_ask.Goals as goal

pub returns-clause-kept : goal.returns-clause-kept
returns-clause-kept g c =
    let d : IsDrained c.args.heart.now c.args.u c.drain.new.self = search rules in let h = c.args.heart.now.view in let i = c.args.u.number in
    let drained : Contains c.drain.new.self.view.drained i = subst (λ l. Contains l i) (sym d.drained) (Contains-push h.drained i) in
    c.ask-word.ensures.drained i drained ∙ d.known
