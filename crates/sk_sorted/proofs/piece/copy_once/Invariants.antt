use Rattle.std.proofs.Common.{◌≡◌, ◌≤◌, ◌∷◌, length, take, get_or}
use Rattle.sk_model.specs.Sketch.{rising}
use Rattle.sk_sorted.proofs.piece.copy_once.Given as goal

abbrev pub invariant-hash : goal.invariant-hash
invariant-hash l = record {
  long : length l.once ≡ 512;
  few : l.count ≤ l.hash-index;
  last : l.last ≡ get_or (0 ∷ l.sorted) l.hash-index 0;
  once : take l.count l.once ≡ rising (take l.hash-index l.sorted);
}
