use Rattle.std.proofs.Common.{rules, ◌∙◌}
use Rattle.sk_core.specs.Inside.{stored_of}
use Rattle.sk_core.proofs.Tokens.{joins_at}
use Rattle.sk_core.proofs.state.State.join.Goals as goal

pub invariant_of-self : goal.invariant_of-self
invariant_of-self c =
    let k = c.self.invariant in
    let o = joins_at c.args.self.now (stored_of c.self.inside) c.self.view_is k.stored c.args.t c.args.other c.len.result c.index.result.now c.index-2.result.now c.longest-token.result c.index.ensures c.index-2.ensures (c.len.ensures ∙ c.self.inside.published.ok.0) c.longest-token.ensures (c.may_join.ensures.0 (search rules)) in
    record { stored = o.0; sketch = k.sketch; room_offers = k.room_offers; room_published = k.room_published; room_in_hand = k.room_in_hand; room_tokens = k.room_tokens }

pub returns : goal.returns
returns c =
    let k = c.self.invariant in
    let o = joins_at c.args.self.now (stored_of c.self.inside) c.self.view_is k.stored c.args.t c.args.other c.len.result c.index.result.now c.index-2.result.now c.longest-token.result c.index.ensures c.index-2.ensures (c.len.ensures ∙ c.self.inside.published.ok.0) c.longest-token.ensures (c.may_join.ensures.0 (search rules)) in
    o.1
