use Rattle.std.proofs.Common.{◌≢◌, All, take}
use Rattle.sk_line.specs.declared.sessions.End.TheVariants.{OutOfMemory}
use Rattle.sk_serve.proofs.serving.had_memory.Given as goal

abbrev pub invariant-end : goal.invariant-end
invariant-end l = All (λ end. end ≢ OutOfMemory) (take l.end-index l.ends)
