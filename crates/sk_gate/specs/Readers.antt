-- Tokens and notes: seats that have no slot, and lead and speak for nobody.
use Rattle.std.specs.Prelude.{◌≡◌, [], true}
use Rattle.sk_machine.specs.declared.views.Post.TheVariants.{Guest}
use Rattle.sk_machine.specs.declared.views.Duty.TheVariants.{Free}
use Rattle.sk_gate.specs.Plays.{Sat}

pub record Reads {C T : Type 0} (m : Sat C T) : Type 0 where
  pub live : m.0.live ≡ true
  pub post : m.0.post ≡ Guest
  pub duty : m.0.duty ≡ Free
  pub hand : m.1 ≡ []
