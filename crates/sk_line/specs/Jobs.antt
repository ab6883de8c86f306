-- A session that was run beside others.
use Rattle.std.specs.Prelude.{◌≡◌, ◌≢◌, ℕ, Option, Some}
use Rattle.sk_model.specs.Causes.{Rose}
use Rattle.sk_theta.specs.Sizes.{Sizes}
use Rattle.sk_line.specs.Sessions.{SessionState, SessionEnds}
use Rattle.sk_line.specs.declared.sessions.End.{End}
use Rattle.sk_line.specs.declared.sessions.End.TheVariants.{LinkFault, OutOfMemory}

-- how it ended is told, and the link's count of faults rose exactly by the fault that ended it; where its memory and its
-- link were sound nothing waits to be sent
pub record IsJobDone (shape : Sizes) (most : ℕ) (a b : SessionState) (before now waiting : ℕ) (told : Option End) : Type 0 where
  pub end : End
  pub is : told ≡ Some end
  pub ends : SessionEnds shape most a b end
  pub fault : end ≡ LinkFault → Rose before now
  pub steady : end ≢ LinkFault → now ≡ before
  pub sent : end ≢ LinkFault → end ≢ OutOfMemory → waiting ≡ 0
