use Rattle.sk_tenant.specs.Calls.{items_taken}
use Rattle.sk_tenant.specs.Desks.{calls_for}
use Rattle.sk_tenant.proofs.LastWord.{word_of_fed, used_is_fed, place_within}
use Rattle.sk_tenant.proofs.laws.the_last_word_is_of_all_calls.Goals as goal

pub returns : goal.returns
returns c = λ opened hosts hosts' shape quota t word calls same used asked.
    word_of_fed hosts hosts' t word asked (λ i. items_taken (calls_for t (calls i)))
    (λ i within. used_is_fed opened hosts shape quota t i (calls i) same (place_within hosts hosts' t word asked) (used i within))
