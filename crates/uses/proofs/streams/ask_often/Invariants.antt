use Rattle.std.proofs.Common.{◌≡◌, length}
use Rattle.uses.specs.Words.{AreWords}
use Rattle.uses.proofs.streams.ask_often.Given as goal

abbrev pub invariant-ask : goal.invariant-ask
invariant-ask g l = let k = g.C.Composable in record {
  count : length l.words.items ≡ l.counter;
  numbers : l.token.view.numbers ≡ l.fn.token.view.numbers;
  sizes : l.token.view.sizes ≡ l.fn.token.view.sizes;
  words : AreWords (k.packed_of l.fn.token.view.numbers) (length l.fn.token.view.sizes) l.fn.token.view.seen l.words.items l.token.view.seen;
}
