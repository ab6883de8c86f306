use Rattle.std.proofs.Common.{◌-◌, ℕ, [], List, replicate, arith, subst}
use Rattle.std.proofs.lemmas.List.{length-replicate}
use Rattle.sk_window.specs.Intervals.{StandForEach}
use Rattle.sk_window.proofs.Standing.{stand_count, all_k}
use Rattle.sk_window.proofs.panes.Panes.new.Goals as goal

pub invariant_of-panes : goal.invariant_of-panes
invariant_of-panes g c =
    let lists : List (List ℕ) = replicate (c.args.frame.last - 1) [] in
    let closed = c.in_ok-closed.closed.items in
    let fresh = c.in_ok-heart.ensures.fresh in
    let each : StandForEach c.args.shape.k closed lists = subst (λ (n : ℕ). StandForEach n closed lists) c.k.ensures.value c.in_ok-closed.ensures.stand in (
      record {
        frame_is = c.requires.frame;
        name = fresh.name;
        numbers = fresh.numbers;
        count = omega (arith, stand_count c.args.shape.k closed lists each, length-replicate {A = List ℕ} (c.args.frame.last - 1) [], c.requires.frame.least);
        same_k = all_k c.args.shape.k closed lists each;
      },
      omega (arith, c.in_ok-closed.ensures.capacity, stand_count c.args.shape.k closed lists each, length-replicate {A = List ℕ} (c.args.frame.last - 1) []),
      λ hub wrong. absurd (cc wrong),
      λ room wrong. absurd (cc wrong),
    )
