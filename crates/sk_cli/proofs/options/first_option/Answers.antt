use Rattle.std.proofs.Common.{rules, ◌≡◌, ◌∙◌, ap, ◌∷◌, true, false, Some, None, Option, IfNone, string_bytes, sym}
use Rattle.sk_cli.specs.Options.{texts_of, options_of, allows, takes_value, name_of}
use Rattle.sk_cli.proofs.OptionLaws.{valued, flagged, not_allowed, not_named}
use Rattle.sk_cli.proofs.options.first_option.Goals as goal

pub returns-in_ok-value-clause-spelled : goal.returns-in_ok-value-clause-spelled
returns-in_ok-value-clause-spelled c =
    let named : name_of (string_bytes c.in_ok-word.word.now) ≡ Some c.in_ok-name.name = search rules in
    let has : allows c.args.verb c.in_ok-name.name ≡ true = search rules in
    let takes : takes_value c.in_ok-name.name ≡ true = search rules in
    let front = c.in_ok-word.ensures.cases.0 in
    let next = c.in_ok-value.ensures.cases.0 in
    let value = c.as_str.ensures.value in
    let split : texts_of c.args.words.now ≡ string_bytes c.in_ok-word.word.now ∷ c.as_str.result.now ∷ texts_of c.in_ok-value.behind.now =
    ap texts_of front ∙ ap (λ l. string_bytes c.in_ok-word.word.now ∷ texts_of l) next ∙ ap (λ w. string_bytes c.in_ok-word.word.now ∷ w ∷ texts_of c.in_ok-value.behind.now) (sym value) in
    ap (options_of c.args.verb) split ∙ valued _ _ _ _ _ named has takes

pub returns-else-takes_value-clause-spelled : goal.returns-else-takes_value-clause-spelled
returns-else-takes_value-clause-spelled c =
    let named : name_of (string_bytes c.in_ok-word.word.now) ≡ Some c.in_ok-name.name = search rules in
    let has : allows c.args.verb c.in_ok-name.name ≡ true = search rules in
    let takes : takes_value c.in_ok-name.name ≡ false = search rules in
    ap (λ l. options_of c.args.verb (texts_of l)) c.in_ok-word.ensures.cases.0 ∙ flagged _ _ _ _ named has takes

pub returns-then-not-allows-clause-none : goal.returns-then-not-allows-clause-none
returns-then-not-allows-clause-none c =
    let named : name_of (string_bytes c.in_ok-word.word.now) ≡ Some c.in_ok-name.name = search rules in
    let has : allows c.args.verb c.in_ok-name.name ≡ false = search rules in
    ap (λ l. options_of c.args.verb (texts_of l)) c.in_ok-word.ensures.cases.0 ∙ not_allowed _ _ _ _ named has

of_none : {X : Type 0} (r : Option X) (P : Type 0) → P → IfNone r P
of_none None P holds = holds
of_none (Some x) P holds = tt

pub returns-in_err-name-clause-none : goal.returns-in_err-name-clause-none
returns-in_err-name-clause-none c =
    let named : name_of (string_bytes c.in_ok-word.word.now) ≡ None = search rules in
    of_none c.from_residual-in_err-name.result _ (ap (λ l. options_of c.args.verb (texts_of l)) c.in_ok-word.ensures.cases.0 ∙ not_named _ _ _ named)
