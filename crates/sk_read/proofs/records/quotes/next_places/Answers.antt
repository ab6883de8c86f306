use Rattle.std.proofs.Common.{◌≡◌, ◌+◌, ◌-◌, ◌*◌, ◌%◌, ◌^◌, ap, arith}
use Rattle.std.specs.Int.{bit_at}
use Rattle.std.proofs.lemmas.Nat.{pow_pos}
use Rattle.std.proofs.lemmas.Nat.Bits.{bit_at_or, bit_at_lowest, bit_at_above}
use Rattle.sk_read.proofs.Quotes.{shifted_low, shifted_high}
use Rattle.sk_read.proofs.records.quotes.next_places.Goals as goal

pub returns-clause-first : goal.returns-clause-first
returns-clause-first c set =
    let shifted = c.args.marks * 2 ^ 1 % 2 ^ 64 in
    c.first_place.ensures.set (omega (arith, set, bit_at_or shifted c.first_place.result 0, shifted_low c.args.marks 1 0 (omega arith) (omega arith), bit_at_lowest c.first_place.result, c.first_place.ensures.bit))

pub returns-clause-next : goal.returns-clause-next
returns-clause-next c k below set =
    let shifted = c.args.marks * 2 ^ 1 % 2 ^ 64 in
    let place : k + 1 - 1 ≡ k = omega arith in
    omega (
      arith,
      set,
      bit_at_or shifted c.first_place.result (k + 1),
      shifted_high c.args.marks 1 (k + 1) (omega arith) (omega (arith, below)) (pow_pos 1),
      ap (bit_at c.args.marks) place,
      bit_at_above c.first_place.result 1 (k + 1) c.first_place.ensures.bit (omega arith),
    )
