use Rattle.sk_lines.proofs.Digits as digits
use Rattle.sk_report.proofs.text.write_number.Goals as goal

pub put_decimal-len-requires : goal.put_decimal-len-requires
put_decimal-len-requires g c = digits.decimal_is_short c.args.number c.ranges.number.fits
