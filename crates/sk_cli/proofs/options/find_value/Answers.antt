use Rattle.std.proofs.Common.{rules, ◌≡◌, ◌∙◌, sym, ap, subst, arith, length, unwrap_or, List, [], Option, IsSome}
use Rattle.sk_cli.specs.Options.{Given, value_behind}
use Rattle.sk_cli.proofs.OptionLaws.{none_left, spelled_behind, passed_over}
use Rattle.sk_cli.proofs.options.find_value.Goals as goal

pub returns : goal.returns
returns c =
    let empty : length c.option.rest.now ≡ 0 = grind arith in
    let none = none_left c.args.verb c.option.rest.now empty in
    sym (c.option.invariant.behind ∙ ap (λ given. value_behind c.args.name (unwrap_or given [])) none)

pub option-preserved : goal.option-preserved
option-preserved c =
    let split = c.in_ok-first.ensures.spelled in
    let differ : c.in_ok-first.first ≡ c.args.name → ⊥ = search rules in
    record {
      spelled = spelled_behind _ _ (subst (λ (o : Option (List Given)). IsSome o) split c.option.invariant.spelled);
      behind = c.option.invariant.behind ∙ ap (λ (o : Option (List Given)). value_behind c.args.name (unwrap_or o [])) split ∙ passed_over c.args.name c.in_ok-first.first c.in_ok-first.value.now _ differ;
    }
