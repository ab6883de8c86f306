use Rattle.std.proofs.Common.{ℕ, List, ◌++◌, take}
use Rattle.sk_image.specs.Inside.{HasTaken}
use Rattle.sk_image.proofs.draft.Draft.with_bytes.Given as goal

abbrev pub invariant-byte : goal.invariant-byte
invariant-byte l = (text : List ℕ) → HasTaken l.fn.self text → HasTaken l.draft (text ++ take l.byte-index l.bytes)
