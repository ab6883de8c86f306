use Rattle.std.proofs.Common.{ℕ, List, ap, ◌∙◌}
use Rattle.sk_model.specs.Entries.{Entry}
use Rattle.sk_report.proofs.Results.{if_ok_all}
use Rattle.sk_cms.specs.Counts.{Counts}
use Rattle.sk_cms.specs.ItemCounts.{item_numbers}
use Rattle.sk_tell.proofs.OpeningLaws.{is_opened}
use Rattle.sk_tally.proofs.whole.open_hub.Goals as goal

pub returns-clause-opened : goal.returns-clause-opened
returns-clause-opened c =
    let hint_of : List ℕ → List Entry → ℕ = λ numbers list. 1 in
    if_ok_all c.open.result _ _ _ _ _ c.open.ensures.heart c.open.ensures.count c.open.ensures.updaters c.open.ensures.token
    (λ opened heart count updaters token. is_opened hint_of c.args.plan.now.updaters _ c.in-Ok.shape.n c.in-Ok.shape.b _ _ _ opened.heart opened.updaters.items opened.token (ap (λ s. s.n) c.in-Ok.ensures.ok) (ap (λ s. s.b) c.in-Ok.ensures.ok ∙ c.buffer_size-size.ensures.value) heart count updaters token)

pub returns-clause-numbers : goal.returns-clause-numbers
returns-clause-numbers c =
    let counts = ap (λ (s : Counts). item_numbers s.rows s.width c.in_ok-sketch.sketch.item) c.in_ok-sketch.ensures.counts in
    let item = ap (item_numbers c.args.plan.now.rows c.args.plan.now.width) c.in_ok-sketch.ensures.item in
    if_ok_all c.open.result _ _ _ _ _ c.open.ensures.heart c.open.ensures.count c.open.ensures.updaters c.open.ensures.token
    (λ opened heart count updaters token. heart.numbers_are ∙ counts ∙ item)
