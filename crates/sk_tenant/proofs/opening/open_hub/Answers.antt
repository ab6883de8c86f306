use Rattle.std.proofs.Common.{◌≡◌, ◌∷◌, [], ap, subst, ◌∙◌, arith}
use Rattle.std.proofs.lemmas.List.{length-map}
use Rattle.sk_model.specs.Entries.{items_of_entries}
use Rattle.sk_hub.specs.Starts.{IsNewHeart}
use Rattle.sk_tenant.specs.Sketches.{sketch_of}
use Rattle.sk_tenant.proofs.Dealt.{new_updater}
use Rattle.sk_tenant.proofs.opening.open_hub.Goals as goal

pub open-requires : goal.open-requires
unfolding items_of_entries
open-requires c = record { fresh = c.in_ok-sketch.ensures.stands }

pub returns-clause-deals : goal.returns-clause-deals
returns-clause-deals c =
    let shape = c.args.shape.now in let h = c.in_ok-heart.field-0.heart in let us = c.in_ok-heart.field-0.updaters.items in
    let same : (sketch_of c.in_ok-sketch.sketch).k ∷ [] ≡ shape.k ∷ [] = ap (λ k. k ∷ []) (c.in_ok-sketch.ensures.numbers ∙ c.k.ensures.value) in record {
      hub = subst (λ numbers. IsNewHeart shape.n numbers [] shape.eager h) same c.in_ok-heart.ensures.heart;
      dealt_updaters = us;
      dealt = c.deal.ensures.dealt;
      new_ones = λ i u within. new_updater shape ((sketch_of c.in_ok-sketch.sketch).k ∷ []) h us same c.in_ok-heart.ensures.heart c.in_ok-heart.ensures.count c.in_ok-heart.ensures.updaters i u
          (omega (arith, within, c.in_ok-heart.ensures.count, c.requires.count, length-map c.args.rooms.now.items (λ room. room.items)));
    }
