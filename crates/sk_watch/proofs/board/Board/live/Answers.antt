use Rattle.std.proofs.Common.{◌∙◌, map, is_some, ap, take_all, arith}
use Rattle.sk_watch.specs.Masks.{mask_of}
use Rattle.sk_watch.proofs.Masks.{no_places, mask_within, mask_more}
use Rattle.sk_watch.proofs.Places.{seen-is_some}
use Rattle.sk_watch.proofs.board.Board.live.Goals as goal

pub live-init : goal.live-init
live-init g c = no_places

pub with_bit-live-requires-clause-below : goal.with_bit-live-requires-clause-below
with_bit-live-requires-clause-below g c = rw c.live.invariant (mask_within is_some _ _ (omega arith))

pub live-preserved : goal.live-preserved
live-preserved g c = c.with_bit-live.ensures.value ∙ mask_more is_some _ _ _ _ c.index.result.now (omega arith) c.live.invariant (c.is_some.ensures ∙ ap is_some c.index.ensures)

pub returns : goal.returns
returns g c = c.live.invariant ∙ ap (λ l. mask_of (map is_some l)) (take_all c.live.place c.args.self.now.boxes.items (omega arith)) ∙ ap mask_of (seen-is_some _ _)
