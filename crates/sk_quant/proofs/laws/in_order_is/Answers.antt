use Rattle.sk_quant.proofs.Orders as lemmas
use Rattle.sk_quant.proofs.laws.in_order_is.Goals as goal

pub returns : goal.returns
returns c = record { same = lemmas.IsPermutation-in_order; rises = lemmas.in_order_rises; one = lemmas.in_order_of_permutation }
