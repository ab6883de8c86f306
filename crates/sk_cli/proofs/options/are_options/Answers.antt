use Rattle.std.proofs.Common.{◌≡◌, ◌∙◌, sym, ap, arith, length, is_some}
use Rattle.sk_cli.proofs.OptionLaws.{none_left}
use Rattle.sk_cli.proofs.options.are_options.Goals as goal

pub returns : goal.returns
returns c =
    let empty : length c.option.rest.now ≡ 0 = grind arith in
    let none = none_left c.args.verb c.option.rest.now empty in
    sym (c.option.invariant ∙ ap (λ given. is_some given) none)
