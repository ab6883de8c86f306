use Rattle.std.proofs.Common.{◌∷◌, [], ◌++◌, map, reverse, length, refl, ap, ◌∙◌, arith, length-append}
use Rattle.std.proofs.lemmas.List.{map-append, reverse-reverse, length-reverse}
use Rattle.sk_feed.proofs.Moved.{map_reverse, moved_one}
use Rattle.sk_feed.proofs.feeders.give_back.Goals as goal

pub back-init : goal.back-init
back-init g c =
    let fs = c.args.feeders.now.items in let turned = c.back_to_front.ensures.reversed in record {
      moved = ap (λ l. l ++ reverse (map (λ f. f.updater) c.back_to_front.new.elements.items)) c.requires.none
          ∙ ap (λ l. reverse (map (λ f. f.updater) l)) turned ∙ ap (λ l. reverse l) (map_reverse (λ f. f.updater) fs) ∙ reverse-reverse (map (λ f. f.updater) fs);
      count = omega (arith, ap length c.requires.none, ap length turned, length-reverse fs);
      places = c.back_to_front.ensures.capacity;
      capacity = refl;
    }

pub back-preserved : goal.back-preserved
back-preserved g c =
    let items = c.in-Some.ensures.items in let pushed = c.push_reserved.ensures.items in record {
      moved = ap (λ l. l ++ reverse (map (λ f. f.updater) c.pop.new.self.items)) pushed
          ∙ moved_one c.back.updaters.items (map (λ f. f.updater) c.pop.new.self.items) (map (λ f. f.updater) c.back.feeders.items) c.in-Some.feeder.updater
          (ap (map (λ f. f.updater)) items ∙ map-append (λ f. f.updater) c.pop.new.self.items (c.in-Some.feeder ∷ []))
          ∙ c.back.invariant.moved;
      count = omega (arith, ap length items, ap length pushed, length-append c.pop.new.self.items (c.in-Some.feeder ∷ []), length-append c.back.updaters.items (c.in-Some.feeder.updater ∷ []), c.back.invariant.count);
      places = c.pop.ensures.capacity ∙ c.back.invariant.places;
      capacity = c.push_reserved.ensures.capacity ∙ c.back.invariant.capacity;
    }
