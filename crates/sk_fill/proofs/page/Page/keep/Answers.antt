use Rattle.std.proofs.Common.{rules, ◌≡◌, ◌≤◌, nat_le, List, ℕ, All, take, ap, ◌∙◌, subst}
use Rattle.std.specs.List.{filter}
use Rattle.std.proofs.lemmas.Fn.{All-from_retain, filter_same}
use Rattle.std.proofs.lemmas.List.Elements.{All-filter, All-same}
use borrow.Author.Tests.{tests}
use Rattle.sk_fill.specs.declared.page.Place.{Place}
use Rattle.sk_fill.specs.Pages.{PageState, Begins, text_in}
use Rattle.sk_fill.proofs.PageText as pages
use Rattle.sk_lines.specs.Padded.{PaddedState}
use Rattle.sk_fill.proofs.EvenPages.{unknown}
use Rattle.sk_fill.proofs.page.Page.keep.Goals as goal

pub invariant_of-self : goal.invariant_of-self
invariant_of-self c =
    let a = c.self.inside in
    let at : ℕ = c.find_line-at.result in
    let begins = subst (λ (l : List ℕ). Begins (text_in l) c.args.count at) c.bytes.ensures c.find_line-at.ensures in
    let right = λ (place : Place). Begins (text_in a.buffer.items) place.line place.at in
    let test = λ (place : Place). nat_le place.at at in
    let kept : c.retain.new.self.items ≡ filter test a.places.items = filter_same _ test _ (λ x b q k. search (rules, tests)) a.places.items c.retain.new.self.items c.retain.ensures.filtered in
    let before : All (λ place. place.at ≤ at) c.retain.new.self.items = All-from_retain _ (λ (place : Place). place.at ≤ at) _ (λ x b q k. search (rules, tests)) a.places.items c.retain.new.self.items c.retain.ensures.filtered in (
      pages.page_cut a.buffer.items c.cut.new.self.items a.places.items c.retain.new.self.items a.count c.args.count at (ap (λ (p : PaddedState). p.items) c.cut.ensures) c.self.invariant.0 begins
          (All-same right c.retain.new.self.items (filter test a.places.items) kept (All-filter test right a.places.items c.self.invariant.0.noted)) before,
      unknown c.args.count _,
    )

pub returns-clause-lines : goal.returns-clause-lines
returns-clause-lines c =
    let a = c.self.inside in
    let at : ℕ = c.find_line-at.result in
    let begins = subst (λ (l : List ℕ). Begins (text_in l) c.args.count at) c.bytes.ensures c.find_line-at.ensures in
    pages.lines_cut a.buffer.items c.cut.new.self.items c.args.count at (ap (λ (p : PaddedState). p.items) c.cut.ensures) c.self.invariant.0.padded begins
    ∙ ap (λ (page : PageState). take c.args.count page.lines) c.self.view_is
