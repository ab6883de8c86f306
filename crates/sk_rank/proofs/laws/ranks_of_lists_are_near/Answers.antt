use Rattle.sk_rank.proofs.Nearness.{count, rank, near}
use Rattle.sk_rank.proofs.laws.ranks_of_lists_are_near.Goals as goal

pub returns : goal.returns
returns c = record {
  count = λ plan units course list some is. count plan units course list is some;
  rank = λ plan units course list some is. rank plan units course list is some;
  near = λ plan units course list some least few is. near plan units course list is some least few;
}
