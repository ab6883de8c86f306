use Rattle.sk_tell.proofs.Orders.{as_many}
use Rattle.sk_tell.proofs.laws.lists_have_as_many_items.Goals as goal

pub returns : goal.returns
returns c = λ manner units course list some is. as_many manner units course list is some
