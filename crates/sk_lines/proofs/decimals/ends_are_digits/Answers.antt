use Rattle.std.proofs.Common.{◌&&◌, take, ap, ◌∙◌, Bool}
use Rattle.std.specs.List.{list_all}
use Rattle.std.specs.Char.{is_ascii_digit}
use Rattle.sk_lines.proofs.Digits.{digits_of_ends}
use Rattle.sk_lines.proofs.decimals.ends_are_digits.Goals as goal

pub returns : goal.returns
returns c =
    ap (λ (b : Bool). b && c.each_is_digit-2.result) c.each_is_digit.ensures ∙ ap (λ (b : Bool). list_all is_ascii_digit (take c.args.n c.args.bytes.now) && b) c.each_is_digit-2.ensures
    ∙ digits_of_ends c.args.bytes.now c.args.n c.requires.within c.requires.meet
