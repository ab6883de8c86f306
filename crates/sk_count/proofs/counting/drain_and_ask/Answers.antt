use Rattle.std.proofs.Common.{ℕ, List, ap, ◌∙◌}
use Rattle.sk_model.specs.Entries.{Entry, items_of_entries}
use Rattle.sk_model.specs.Sketch.{packed_of}
use Rattle.sk_compose.specs.Numbers.{k_of}
use Rattle.sk_feed.proofs.Drained.{asked, has_all}
use Rattle.sk_count.proofs.counting.drain_and_ask.Goals as goal

pub returns : goal.returns
returns g c =
    let h = c.args.heart.now in let us = c.args.updaters.items in let h1 = c.drain_all.new.heart in let h2 = c.ask.new.self in
    let packed : List ℕ → List Entry → ℕ = λ numbers list. packed_of (k_of numbers) (items_of_entries list) in
    let t = c.in-Ok.ensures.drained in record {
      drains = asked packed h h1 h2 us c.ask.result t c.ask.ensures.reply c.ask.ensures.stays;
      has = has_all packed h h1 h2 us c.ask.result t c.requires.all c.admitted-admitted.ensures.whole.sized c.ask.ensures.reply c.ask.ensures.drained;
      word_is = c.ask.ensures.reply.value ∙ ap (λ z. packed_of (k_of z) (items_of_entries h2.view.seen)) t.numbers;
      steps = (h1.view.steps, ap (λ v. v.steps) c.ask.ensures.reply.stays);
    }
