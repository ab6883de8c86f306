use Rattle.sk_cli.proofs.Showing.{tally_wrote, tenants_wrote, window_wrote}
use Rattle.sk_cli.proofs.laws.texts_are_shown.Goals as goal

pub returns-clause-tally : goal.returns-clause-tally
returns-clause-tally c = λ plan file most old new went. tally_wrote plan file most old new went.done

pub returns-clause-tenants : goal.returns-clause-tenants
returns-clause-tenants c = λ plan file most old new went. tenants_wrote plan file most old new went.done

pub returns-clause-window : goal.returns-clause-window
returns-clause-window c = λ plan file most old new went. window_wrote plan file most old new went.done
