use Rattle.sk_watch.proofs.Masks.{bits_of_masks}
use Rattle.sk_watch.proofs.laws.masks_tell_the_places.Goals as goal

pub returns : goal.returns
returns c = bits_of_masks
