use Rattle.sk_model.proofs.Sketch.{k_smallest_of_members}
use Rattle.sk_compose.proofs.Smallest.{same_word}
use Rattle.sk_compose.proofs.laws.kept.order_changes_no_word.Goals as goal

pub returns : goal.returns
returns c = λ k xs ys to from. same_word k xs ys (k_smallest_of_members k xs ys to from)
