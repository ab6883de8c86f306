use Rattle.std.proofs.Common.{ap, List, ℕ}
use Rattle.sk_model.specs.Entries.{Entry, items_of_entries}
use Rattle.sk_report.proofs.Results.{if_ok_all}
use Rattle.sk_tell.proofs.OpeningLaws.{is_opened}
use Rattle.sk_tell.proofs.opening.open_hub.Goals as goal

pub returns-clause-opened : goal.returns-clause-opened
returns-clause-opened g c =
    let hint_of : List ℕ → List Entry → ℕ = λ numbers list. g.S.Sequential.hint_of numbers (items_of_entries list) in
    if_ok_all c.open.result _ _ _ _ _ c.open.ensures.heart c.open.ensures.count c.open.ensures.updaters c.open.ensures.token
    (λ opened heart count updaters token. is_opened hint_of c.args.updaters c.args.size c.in-Ok.shape.n c.in-Ok.shape.b _ _ _ opened.heart opened.updaters.items opened.token (ap (λ s. s.n) c.in-Ok.ensures.ok) (ap (λ s. s.b) c.in-Ok.ensures.ok) heart count updaters token)
