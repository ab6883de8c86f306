use Rattle.std.proofs.Common.{◌∙◌}
use Rattle.sk_model.specs.Entries.{items_of_entries}
use Rattle.sk_compose.specs.Numbers.{k_of}
use Rattle.sk_compose.proofs.Smallest.{same_word}
use Rattle.sk_fill.specs.Windows.{all_lines, items_in}
use Rattle.sk_feed.proofs.Shares.{smallest_of_shares}
use Rattle.sk_feed.proofs.laws.shares.the_word_is_of_all_that_was_taken.Goals as goal

pub returns : goal.returns
returns g c = λ numbers list kind windows us us' some new taken has.
    g.met.C.ThetaWord.packed_is numbers list
    ∙ same_word (k_of numbers) (items_of_entries list) (items_in kind (all_lines windows))
    (smallest_of_shares (k_of numbers) g.C.Composable.keeps_of g.C.Composable.hint_of numbers list kind windows us us' g.met.C.ThetaWord.keeps_is (g.met.C.ThetaWord.hint_is numbers) some new taken has)
