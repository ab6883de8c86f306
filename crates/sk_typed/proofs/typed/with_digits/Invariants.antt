use Rattle.std.proofs.Common.{◌≡◌, ◌++◌, take}
use Rattle.sk_cli.specs.Options.{texts_of}
use Rattle.sk_typed.proofs.typed.with_digits.Given as goal

abbrev pub invariant-word : goal.invariant-word
invariant-word l = texts_of l.words.items ≡ texts_of l.initial.words.items ++ texts_of (take l.word-index l.others)
