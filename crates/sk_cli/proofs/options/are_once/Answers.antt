use Rattle.std.proofs.Common.{◌≡◌, ◌∙◌, sym, ap, arith, length, unwrap_or, []}
use Rattle.sk_cli.specs.Options.{is_once}
use Rattle.sk_cli.proofs.OptionLaws.{none_left}
use Rattle.sk_cli.proofs.options.are_once.Goals as goal

pub returns : goal.returns
returns c =
    let empty : length c.option.rest.now ≡ 0 = grind arith in
    let none = none_left c.args.verb c.option.rest.now empty in
    sym (c.option.invariant.once ∙ ap (λ given. is_once (unwrap_or given [])) none)
