use Rattle.std.proofs.Common.{Some, ap, sym, ◌∙◌}
use Rattle.std.specs.Option.{option_map}
use Rattle.std.proofs.lemmas.Option.{slice_get-map}
use Rattle.sk_tenant.proofs.guesses.Guesses.mixed_by.Goals as goal

pub put_guess-requires-clause-place : goal.put_guess-requires-clause-place
put_guess-requires-clause-place c =
    slice_get-map (λ own. own.items) c.args.names.now.keys c.name.place
    ∙ sym (ap (option_map (λ own. own.items)) c.in-Some.ensures.key)
    ∙ ap Some (sym c.as_slice-then-not-contains.ensures.value)
