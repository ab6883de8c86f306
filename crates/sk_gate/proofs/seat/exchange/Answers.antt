use Rattle.std.proofs.Common.{rules, ◌∷◌, ◌∙◌, ap, sym}
use Rattle.atomic_table.specs.Table.{rest}
use Rattle.sk_gate.proofs.Rotated.{placed_first, placed_again, same_slot}
use Rattle.sk_gate.proofs.seat.exchange.Goals as goal

pub exchange-old-requires : goal.exchange-old-requires
exchange-old-requires g c =
    let p = c.requires.placed in
    let first = ap (λ m. m.1) c.rotate.ensures.me ∙ placed_first c.args.before _ p.0 c.args.slot p.1 p.2 p.3 p.4 in
    (search rules, (p.1, first ∙ ap (λ l. (c.args.slot, p.1) ∷ rest l) (sym first)))

pub returns-clause-old : goal.returns-clause-old
returns-clause-old g c = λ front x back is before after.
    let first = ap (λ m. m.1) c.rotate.ensures.me ∙ placed_first c.args.before _ front c.args.slot x back is before in
    let e = c.exchange-old.ensures in
    let has = sym e.2 ∙ first in
    let now = ap (λ m. m.1) e.3 ∙ ap (λ l. (c.args.slot, c.args.new) ∷ rest l) first in
    (same_slot has, ap (λ m. m.1) c.rotate-2.ensures.me ∙ placed_again c.args.after _ front c.args.slot c.args.new back now after)
