use Rattle.sk_machine.proofs.Parts.{eight_parts}
use Rattle.sk_machine.proofs.laws.fine.sound_machines_meet_the_invariant.Goals as goal

pub returns : goal.returns
returns c = eight_parts
