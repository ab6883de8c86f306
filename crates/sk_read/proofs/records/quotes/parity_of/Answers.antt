use Rattle.std.proofs.Common.{refl}
use Rattle.sk_read.proofs.Quotes.{HasParity, parity_of_1, parity_twice, parity_first, parity_next}
use Rattle.sk_read.proofs.records.quotes.parity_of.Goals.{After-with_below}
use Rattle.sk_read.proofs.records.quotes.parity_of.Goals as goal

whole : (c : After-with_below) → HasParity c.args.marks 64 c.with_below.result
whole c =
    let marks = c.args.marks in
    let of_2 = parity_twice marks 1 2 marks c.with_below-of_2.result refl (parity_of_1 marks) c.with_below-of_2.ensures.low c.with_below-of_2.ensures.high in
    let of_4 = parity_twice marks 2 4 c.with_below-of_2.result c.with_below-of_4.result refl of_2 c.with_below-of_4.ensures.low c.with_below-of_4.ensures.high in
    let of_8 = parity_twice marks 4 8 c.with_below-of_4.result c.with_below-of_8.result refl of_4 c.with_below-of_8.ensures.low c.with_below-of_8.ensures.high in
    let of_16 = parity_twice marks 8 16 c.with_below-of_8.result c.with_below-of_16.result refl of_8 c.with_below-of_16.ensures.low c.with_below-of_16.ensures.high in
    let of_32 = parity_twice marks 16 32 c.with_below-of_16.result c.with_below-of_32.result refl of_16 c.with_below-of_32.ensures.low c.with_below-of_32.ensures.high in
    parity_twice marks 32 64 c.with_below-of_32.result c.with_below.result refl of_32 c.with_below.ensures.low c.with_below.ensures.high

pub returns-clause-first : goal.returns-clause-first
returns-clause-first c = parity_first c.args.marks c.with_below.result (whole c)

pub returns-clause-next : goal.returns-clause-next
returns-clause-next c k below = parity_next c.args.marks c.with_below.result k (whole c) below
