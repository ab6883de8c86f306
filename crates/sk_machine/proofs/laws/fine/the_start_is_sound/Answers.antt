use Rattle.sk_machine.proofs.Parts.{starts_sound}
use Rattle.sk_machine.proofs.laws.fine.the_start_is_sound.Goals as goal

pub returns : goal.returns
returns c = starts_sound
