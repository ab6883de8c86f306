use Rattle.sk_tell.proofs.Orders.{in_order_of_one}
use Rattle.sk_tell.proofs.laws.one_updater_keeps_the_order.Goals as goal

pub returns : goal.returns
returns c = λ manner units course list one is. in_order_of_one manner units course list is one
