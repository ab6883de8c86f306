use Rattle.sk_line.proofs.Added.{answers_keep}
use Rattle.sk_line.proofs.laws.answers_keep_items.Goals as goal

pub returns : goal.returns
returns c = record {
  kept = λ shape u answered v each. (answers_keep shape u answered v each).1;
  goes = λ shape u answered v each. (answers_keep shape u answered v each).0;
}
