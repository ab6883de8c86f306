use Rattle.std.proofs.Common.{◌≡◌, ◌<◌, ◌∷◌, ltb, length, get_or, refl, sym, ap, ◌∙◌, arith, length-set}
use Rattle.sk_sorted.proofs.Members.{rising_nil}
use Rattle.sk_sorted.proofs.Once.{write_step, at_most_one, last_is}
use Rattle.sk_sorted.proofs.piece.copy_once.Goals as goal
use mir.Val.{bool_byte}

pub hash-init : goal.hash-init
hash-init c = record {
  long = c.told-once;
  few = omega arith;
  last = refl;
  once = sym rising_nil;
}

pub hash-preserved : goal.hash-preserved
hash-preserved c =
    let sorted = c.args.sorted.now in
    let i = c.hash.hash-index in
    let room : c.hash.count < length c.hash.once = omega (arith, c.hash.invariant.long, c.hash.invariant.few, c.hash-test.true, c.requires.few) in
    let byte : c.from-count.result ≡ bool_byte (ltb (get_or (0 ∷ sorted) i 0) (get_or sorted i 0)) = c.from-count.ensures ∙ ap (λ n. bool_byte (ltb n (get_or sorted i 0))) c.hash.invariant.last in
    record {
      long = length-set c.hash.once c.hash.count (get_or sorted i 0) ∙ c.hash.invariant.long;
      few = omega (arith, byte, c.hash.invariant.few, at_most_one (ltb (get_or (0 ∷ sorted) i 0) (get_or sorted i 0)));
      last = last_is sorted i;
      once = rw byte (write_step sorted c.hash.once i c.hash.count c.hash-test.true room c.requires.items c.requires.order c.hash.invariant.once);
    }
