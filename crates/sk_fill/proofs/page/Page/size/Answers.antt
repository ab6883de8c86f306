use Rattle.std.proofs.Common.{◌≤◌, length, subst}
use Rattle.std.specs.List.{concat}
use Rattle.sk_fill.specs.Pages.{PageState, text_in}
use Rattle.sk_lines.proofs.WholeLines.{bytes_are_few}
use Rattle.sk_fill.proofs.page.Page.size.Goals as goal

pub returns-clause-lines : goal.returns-clause-lines
returns-clause-lines c =
    subst (λ (page : PageState). length (concat page.lines) ≤ page.size) c.self.view_is (bytes_are_few (text_in c.self.inside.buffer.items))
