use Rattle.std.proofs.Common.{ℕ, ◌/◌, ◌^◌, bit_and, w64, arith}
use Rattle.std.specs.Int.{bit_not}
use Rattle.sk_read.proofs.Rows as rows
use Rattle.sk_read.proofs.short_numbers.has_long_line.Goals as goal

pub returns : goal.returns
returns c =
    let one : ℕ = bit_not w64 c.args.lfs in
    let two : ℕ = bit_and one (one / 2 ^ 1) in
    let four : ℕ = bit_and two (two / 2 ^ 2) in
    let eight : ℕ = bit_and four (four / 2 ^ 4) in
    let by_one = rows.rows_of_one one in
    let by_two = rows.more_rows one one 1 1 (omega arith) by_one in
    let by_four = rows.more_rows one two 2 2 (omega arith) by_two in
    let by_eight = rows.more_rows one four 4 4 (omega arith) by_four in
    let by_fifteen = rows.more_rows one eight 8 7 (omega arith) by_eight in
    record {
      some = rows.a_long_row c.args.lfs _ c.ranges.lfs.fits by_fifteen;
      none = rows.no_long_row c.args.lfs _ c.ranges.lfs.fits by_fifteen;
    }
