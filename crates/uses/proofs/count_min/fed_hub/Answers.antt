use Rattle.std.proofs.Common.{◌∙◌, map}
use Rattle.std.proofs.lemmas.List.{length-map}
use Rattle.uses.proofs.Parts.{none_kept}
use Rattle.uses.proofs.Tallied.{have_kept}
use Rattle.uses.proofs.count_min.fed_hub.Goals as goal

pub feed_streams-requires-clause-none : goal.feed_streams-requires-clause-none
feed_streams-requires-clause-none g c κs within =
    none_kept (λ _ _. 1) _ c.in_ok-heart.field-0.heart c.in_ok-heart.field-0.updaters.items c.in_ok-heart.ensures.updaters

pub returns-clause-kept : goal.returns-clause-kept
returns-clause-kept g c =
    let opened = c.in_ok-heart.field-0 in
    have_kept (λ _ _. 1) c.args.shape.now.n c.args.shape.now.b opened.heart opened.updaters.items c.feed_streams.result.items (map (λ stream. stream.items) c.args.streams.now)
    c.in_ok-heart.ensures.updaters c.in_ok-heart.ensures.count (length-map c.args.streams.now (λ stream. stream.items) ∙ c.requires.count) c.feed_streams.ensures
