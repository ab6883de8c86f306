use Rattle.std.proofs.Common.{rules, arith, ◌∙◌}
use Rattle.sk_core.specs.Inside.{stored_of}
use Rattle.sk_core.proofs.Tokens.{splits_at}
use Rattle.sk_core.proofs.state.State.split.Goals as goal

pub invariant_of-self : goal.invariant_of-self
invariant_of-self c =
    let k = c.self.invariant in
    let capacity = c.push_reserved.ensures.capacity in
    let room = k.room_tokens in
    let o = splits_at c.args.self.now (stored_of c.self.inside) c.self.view_is k.stored c.args.t c.len-number.result c.len.result c.index-token.result.now c.push_reserved.new.self.items c.index-token.ensures (c.len.ensures ∙ c.self.inside.published.ok.0) c.push_reserved.ensures.items (c.len-number.ensures ∙ c.self.inside.tokens.ok.0) (c.may_split.ensures.0 (search rules)) in
    record { stored = o.0; sketch = k.sketch; room_offers = k.room_offers; room_published = k.room_published; room_in_hand = k.room_in_hand; room_tokens = omega arith }

pub returns : goal.returns
returns c =
    let k = c.self.invariant in
    let capacity = c.push_reserved.ensures.capacity in
    let room = k.room_tokens in
    let o = splits_at c.args.self.now (stored_of c.self.inside) c.self.view_is k.stored c.args.t c.len-number.result c.len.result c.index-token.result.now c.push_reserved.new.self.items c.index-token.ensures (c.len.ensures ∙ c.self.inside.published.ok.0) c.push_reserved.ensures.items (c.len-number.ensures ∙ c.self.inside.tokens.ok.0) (c.may_split.ensures.0 (search rules)) in
    o.1
