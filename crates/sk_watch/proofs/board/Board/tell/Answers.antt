use Rattle.std.proofs.Common.{◌∙◌, None, refl, ap, arith}
use Rattle.std.proofs.lemmas.List.{length-set}
use Rattle.sk_watch.specs.Places.{answers_at, told}
use Rattle.sk_watch.proofs.Masks.{no_places, mask_within, mask_more}
use Rattle.sk_watch.proofs.Places.{seen_inside, seen_next, seen_more}
use Rattle.sk_watch.proofs.board.Board.tell.Goals as goal

pub tell-init : goal.tell-init
tell-init g c = (refl, refl, no_places)

pub with_bit-gone-requires-clause-below : goal.with_bit-gone-requires-clause-below
with_bit-gone-requires-clause-below g c = let h = c.tell.invariant in rw h.2 (mask_within _ _ _ (seen_inside _ _ _ (omega (arith, h.0))))

pub tell-preserved : goal.tell-preserved
tell-preserved g c = let h = c.tell.invariant in (
  length-set _ _ _ ∙ h.0,
  seen_more _ (told c.args.reply) _ _ _ _ _ (omega (arith, h.0)) h.0 h.1 c.index_mut.ensures.value c.tell_at.ensures.told,
  c.with_bit-gone.ensures.value
      ∙ mask_more (answers_at c.args.reply) _ _ _ _ None (seen_inside _ _ _ (omega (arith, h.0))) h.2
      (c.tell_at.ensures.answer ∙ ap (answers_at c.args.reply) (seen_next _ (told c.args.reply) _ _ _ _ None (omega (arith, h.0)) h.0 h.1 c.index_mut.ensures.value)),
)
