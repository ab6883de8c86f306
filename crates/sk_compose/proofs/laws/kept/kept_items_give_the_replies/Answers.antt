use Rattle.sk_compose.proofs.LeftOut.{all_left_out}
use Rattle.sk_compose.proofs.laws.kept.kept_items_give_the_replies.Goals as goal

pub returns-clause-word : goal.returns-clause-word
returns-clause-word g c = λ numbers. all_left_out g.C.Composable.keeps_of (g.C.Composable.hint_of numbers) (g.C.Composable.packed_of numbers)
    (λ list more rest i item small no. (g.met.C.Composable.idle_replies numbers list more rest i item small no).1)

pub returns-clause-hint : goal.returns-clause-hint
returns-clause-hint g c = λ numbers. all_left_out g.C.Composable.keeps_of (g.C.Composable.hint_of numbers) (g.C.Composable.hint_of numbers)
    (λ list more rest i item small no. (g.met.C.Composable.idle_replies numbers list more rest i item small no).0)
