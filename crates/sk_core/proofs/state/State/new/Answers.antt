use Rattle.std.proofs.Common.{◌≤◌, List, [], ◌∷◌, ◌++◌, ap, ◌∙◌, sym, subst, arith, ℕ}
use Rattle.sk_model.specs.Entries.{items_of_entries}
use Rattle.sk_model.specs.Sketch.{packed_of}
use Rattle.sk_theta.specs.Kept.{Sketch, StandsFor}
use Rattle.sk_machine.specs.Fine.{fine_start}
use Rattle.sk_core.specs.Stored.{blank_token, hint_by, word_by, sizes_of}
use Rattle.sk_core.proofs.Start.{no_items, starts_stored, starts_as, starts_meeting}
use Rattle.sk_core.proofs.state.State.new.Goals as goal
use Rattle.sk_model.specs.Limits.{most_k}

pub invariant_of-result-2 : goal.invariant_of-result-2
invariant_of-result-2 c =
    let inside = c.sketch.inside in
    let k = ap (λ (s : Sketch). s.k) c.sketch.view_is ∙ c.in_ok-sketch.ensures.numbers in
    let stands = subst (λ (s : Sketch). StandsFor s []) (sym c.sketch.view_is) c.in_ok-sketch.ensures.stands in
    let two = subst (λ n. 2 ≤ n) (sym k) c.requires.least in
    let word = c.packed-word.ensures.value [] c.in_ok-sketch.ensures.stands ∙ ap (λ n. packed_of n []) (sym (ap (λ (s : Sketch). s.k) c.sketch.view_is)) ∙ ap (packed_of inside.k) (sym no_items) in
    let tokens = c.push_reserved.ensures.items ∙ ap (λ l. l ++ blank_token ∷ []) c.in_ok-tokens.ensures.items in
    let stored = starts_stored inside.k c.args.n c.args.b c.packed-word.result c.in_ok-with_capacity.field-0.items c.in_ok-with_capacity-2.field-0.items c.in_ok-new_updaters.field-0.items c.in_ok-with_capacity-3.field-0.items c.push_reserved.new.self.items two word c.in_ok-with_capacity.ensures.items c.in_ok-with_capacity-2.ensures.items c.in_ok-new_updaters.ensures c.in_ok-with_capacity-3.ensures.items tokens (subst (λ n. n ≤ most_k) (sym k) c.requires.most) c.requires.updaters in
    let offers = c.in_ok-with_capacity.ensures.exact in
    let published = c.in_ok-with_capacity-2.ensures.exact in
    let hand = c.in_ok-with_capacity-3.ensures.exact in
    let made = c.in_ok-tokens.ensures.exact in
    let same = c.push_reserved.ensures.capacity in
    record {
      stored = stored;
      sketch = subst (λ (l : List ℕ). StandsFor (record { k = inside.k; kept = inside.kept.items }) l) (sym (ap items_of_entries c.in_ok-with_capacity-2.ensures.items ∙ no_items)) stands;
      room_offers = omega arith;
      room_published = omega arith;
      room_in_hand = omega arith;
      room_tokens = omega arith;
    }

pub returns-clause-machine : goal.returns-clause-machine
returns-clause-machine c =
    let inside = c.sketch.inside in
    let k = ap (λ (s : Sketch). s.k) c.sketch.view_is ∙ c.in_ok-sketch.ensures.numbers in
    let stands = subst (λ (s : Sketch). StandsFor s []) (sym c.sketch.view_is) c.in_ok-sketch.ensures.stands in
    let two = subst (λ n. 2 ≤ n) (sym k) c.requires.least in
    let word = c.packed-word.ensures.value [] c.in_ok-sketch.ensures.stands ∙ ap (λ n. packed_of n []) (sym (ap (λ (s : Sketch). s.k) c.sketch.view_is)) ∙ ap (packed_of inside.k) (sym no_items) in
    let tokens = c.push_reserved.ensures.items ∙ ap (λ l. l ++ blank_token ∷ []) c.in_ok-tokens.ensures.items in
    starts_as inside.k c.args.n c.args.b c.packed-word.result c.in_ok-with_capacity.field-0.items c.in_ok-with_capacity-2.field-0.items c.in_ok-new_updaters.field-0.items c.in_ok-with_capacity-3.field-0.items c.push_reserved.new.self.items two word c.in_ok-with_capacity.ensures.items c.in_ok-with_capacity-2.ensures.items c.in_ok-new_updaters.ensures c.in_ok-with_capacity-3.ensures.items tokens ∙ ap (λ n. fine_start (hint_by n) (word_by n) c.args.n (sizes_of c.args.n c.args.b)) k

pub returns-clause-invariant : goal.returns-clause-invariant
returns-clause-invariant c =
    let inside = c.sketch.inside in
    let k = ap (λ (s : Sketch). s.k) c.sketch.view_is ∙ c.in_ok-sketch.ensures.numbers in
    let stands = subst (λ (s : Sketch). StandsFor s []) (sym c.sketch.view_is) c.in_ok-sketch.ensures.stands in
    let two = subst (λ n. 2 ≤ n) (sym k) c.requires.least in
    let word = c.packed-word.ensures.value [] c.in_ok-sketch.ensures.stands ∙ ap (λ n. packed_of n []) (sym (ap (λ (s : Sketch). s.k) c.sketch.view_is)) ∙ ap (packed_of inside.k) (sym no_items) in
    let tokens = c.push_reserved.ensures.items ∙ ap (λ l. l ++ blank_token ∷ []) c.in_ok-tokens.ensures.items in
    starts_meeting inside.k c.args.n c.args.b c.packed-word.result c.in_ok-with_capacity.field-0.items c.in_ok-with_capacity-2.field-0.items c.in_ok-new_updaters.field-0.items c.in_ok-with_capacity-3.field-0.items c.push_reserved.new.self.items two word c.in_ok-with_capacity.ensures.items c.in_ok-with_capacity-2.ensures.items c.in_ok-new_updaters.ensures c.in_ok-with_capacity-3.ensures.items tokens
