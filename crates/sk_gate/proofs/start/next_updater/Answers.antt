use Rattle.std.proofs.Common.{rules, ◌∙◌, ◌+◌, [], false, refl, ap, sym, subst}
use Rattle.sk_machine.specs.Coarse.{blank_mine}
use Rattle.sk_machine.specs.declared.views.Post.TheVariants.{Updater}
use Rattle.sk_gate.specs.Slots.{sketching, telling}
use Rattle.sk_gate.specs.Hands.{Holds}
use Rattle.sk_gate.proofs.Seats.{makes}
use Rattle.sk_gate.proofs.Starts.{new_blank, blank_holds}
use Rattle.sk_gate.proofs.start.next_updater.Goals as goal

pub split_seat-seat-requires : goal.split_seat-seat-requires
split_seat-seat-requires g c = let k = g.C.Composable in let is = ap (λ m. m.0) c.requires.blank in (
  search rules,
  search rules,
  makes k.hint_of k.packed_of (sketching k.is_of k.numbers k.name) (telling k.tells k.told_name k.told_of) _ c.args.updaters _ c.args.number
      (ap (λ v. v.live) is) (ap (λ v. v.post) is) (ap (λ v. v.duty) is) (ap (λ v. v.drained) is) c.requires.sizes c.requires.within,
)

pub invariant_of-result : goal.invariant_of-result
invariant_of-result g c = let k = g.C.Composable in let gs = sketching k.is_of k.numbers k.name in let ts = telling k.tells k.told_name k.told_of in let v = c.args.seat.now.me.0 in let n = c.args.number in
    let is = ap (λ m. m.0) c.requires.blank in (
      search rules,
      search rules,
      search rules,
      search rules,
      subst (Holds gs ts false c.args.updaters n 0 false) (sym (c.split_seat-seat.ensures.4 ∙ λ a. (new_blank v n is a, []))) (blank_holds gs ts false c.args.updaters n (n + 1) v (Updater n blank_mine) c.requires.sizes (refl, c.requires.within, refl, refl) refl),
    )
