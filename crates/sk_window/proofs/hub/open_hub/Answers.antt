use Rattle.std.proofs.Common.{◌∷◌, [], ap, sym, ◌∙◌}
use Rattle.sk_snap.specs.History.{name_of}
use Rattle.sk_window.proofs.Fresh.{fresh_hub}
use Rattle.sk_window.proofs.hub.open_hub.Goals as goal

pub returns : goal.returns
returns g c = record {
  fresh = fresh_hub _ c.args.shape.now _ (name_of c.in_ok-sketch.sketch.known.book) c.in_ok-heart.field-0.heart c.in_ok-heart.field-0.updaters.items c.in_ok-sketch.reader
      c.in_ok-heart.ensures.heart (c.in_ok-sketch.ensures.numbers.0 ∙ ap (λ k. k ∷ []) c.k.ensures.value) c.in_ok-heart.ensures.count c.in_ok-heart.ensures.updaters (ap name_of (sym c.in_ok-sketch.ensures.name))
      (c.in_ok-sketch.ensures.numbers.1 ∙ ap (λ k. k ∷ []) c.k.ensures.value) c.in_ok-sketch.ensures.learnt;
}
