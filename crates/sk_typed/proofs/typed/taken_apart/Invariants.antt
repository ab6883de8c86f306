use Rattle.std.proofs.Common.{◌≡◌, take, flat_map}
use Rattle.sk_cli.specs.Options.{texts_of}
use Rattle.sk_typed.specs.Meanings.{apart}
use Rattle.sk_typed.proofs.typed.taken_apart.Given as goal

abbrev pub invariant-word : goal.invariant-word
invariant-word l = texts_of l.parts.items ≡ flat_map apart (texts_of (take l.word-index l.words))
