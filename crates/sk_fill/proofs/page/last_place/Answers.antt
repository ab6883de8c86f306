use Rattle.std.proofs.Common.{rules, nat_le, sym, ap, ◌∙◌, subst, Option}
use Rattle.std.specs.Option.{unwrap_or}
use Rattle.std.proofs.lemmas.Iterator.Adapters.{YieldsList-from_rev_slice}
use Rattle.std.proofs.lemmas.Iterator.Search.{find_from_yields_List}
use borrow.Author.Tests.{tests}
use Rattle.sk_fill.specs.declared.page.Place.{Place}
use Rattle.sk_fill.specs.Pages.{Begins}
use Rattle.sk_fill.proofs.PageText as pages
use Rattle.sk_fill.proofs.page.last_place.Goals as goal

pub returns-clause-place : goal.returns-clause-place
returns-clause-place c text each =
    let test = λ (place : Place). nat_le place.line c.args.line in
    let found = find_from_yields_List test _ _ c.find.result c.find.ensures.ran (YieldsList-from_rev_slice c.args.places.now cc) (λ x b q k. search (rules, tests)) in
    let is = c.unwrap_or.ensures ∙ ap (λ (r : Option Place). unwrap_or r (record { line = 0; at = 0 })) (c.copied.ensures ∙ found) in
    subst (λ (place : Place). Begins text place.line place.at) (sym is) (pages.last_begins test c.args.places.now text each)
