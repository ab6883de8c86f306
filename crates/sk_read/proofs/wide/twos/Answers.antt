use Rattle.std.proofs.Common.{◌<◌, List, ℕ, slice_index, subst, sym}
use Rattle.sk_read.proofs.Pairs as pairs
use Rattle.sk_read.proofs.wide.twos.Goals as goal

pub returns : goal.returns
returns c =
    let value = pairs.by_two c.args.lanes c.fits-lanes.0 c.requires in
    record {
      value = value;
      small = λ k. subst (λ (l : List ℕ). slice_index l k < 100) (sym value) (pairs.small_twos c.args.lanes c.requires k);
    }
