use Rattle.std.proofs.Common.{◌<◌, List, ℕ, slice_index, subst, sym}
use Rattle.sk_read.proofs.Pairs as pairs
use Rattle.sk_read.proofs.wide.fours.Goals as goal

pub returns : goal.returns
returns c =
    let value = pairs.by_four_of_bytes c.args.twos c.fits-twos.0 c.requires in
    record {
      value = value;
      small = λ k. subst (λ (l : List ℕ). slice_index l k < 10000) (sym value) (pairs.small_fours c.args.twos c.requires k);
    }
