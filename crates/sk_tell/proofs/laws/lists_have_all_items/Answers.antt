use Rattle.sk_tell.proofs.Orders.{all_items}
use Rattle.sk_tell.proofs.laws.lists_have_all_items.Goals as goal

pub returns : goal.returns
returns c = λ manner units course list some is. all_items manner units course list is some
