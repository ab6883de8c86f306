use Rattle.std.proofs.Common.{◌≢◌, All, take}
use Rattle.sk_image.proofs.lines.split_at_blank.Given as goal

abbrev pub invariant-find : goal.invariant-find
invariant-find l = All (λ byte. byte ≢ 32) (take l.at l.bytes)
