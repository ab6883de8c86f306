use Rattle.std.proofs.Common.{◌≡◌, ℕ, ◌+◌, ◌-◌, ◌≤◌, List, ◌++◌, length, take, drop, sym, ap, ◌∙◌, arith, append_assoc, length-take}
use borrow.Rule.Slice.PartMut.{post_of, put_mid, same_len_mid}
use Rattle.sk_lines.proofs.Digits.{written_behind}
use Rattle.sk_make.proofs.source.MakeSourceSource.read.Goals as goal

-- bytes were given behind those that were given before
given_more : (buf piece old mid new : List ℕ) (at n : ℕ) → at ≤ length buf → n ≤ length piece → old ≡ take at buf ++ mid → mid ≡ take n piece ++ new → old ≡ take (at + n) (put_mid at (length buf - at) buf piece) ++ new
given_more buf piece old mid new at n within fits before here =
    let long : length (take at buf) ≡ at = omega (arith, length-take at buf, within) in
    before ∙ ap (λ (l : List ℕ). take at buf ++ l) here ∙ sym (append_assoc (take at buf) (take n piece) new)
    ∙ ap (λ (l : List ℕ). l ++ new) (sym (written_behind (take at buf) piece (post_of at (length buf - at) buf) at n long fits))

pub fill-preserved : goal.fill-preserved
fill-preserved c =
    let auto = c.give-n.auto.buf in
    let same = same_len_mid c.fill.at (length c.fill.buf - c.fill.at) c.fill.buf c.give-n.new.buf auto in
    let few = length-take (length c.fill.buf - c.fill.at) (drop c.fill.at c.fill.buf) in
    record {
      within = omega (arith, same, auto, few, c.give-n.ensures.fits, c.fill.invariant.within);
      bytes = given_more c.fill.buf c.give-n.new.buf c.args.self.now.left c.fill.self.left c.give-n.new.self.left c.fill.at c.give-n.result c.fill.invariant.within c.give-n.ensures.fits c.fill.invariant.bytes c.give-n.ensures.bytes;
    }
