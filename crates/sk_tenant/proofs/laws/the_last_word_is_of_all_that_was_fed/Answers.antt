use Rattle.sk_tenant.proofs.LastWord.{word_of_kept, word_of_fed}
use Rattle.sk_tenant.proofs.laws.the_last_word_is_of_all_that_was_fed.Goals as goal

pub returns-clause-kept : goal.returns-clause-kept
returns-clause-kept c = λ hosts hosts' t word last finished asked. word_of_kept hosts hosts' t word asked last finished

pub returns-clause-fed : goal.returns-clause-fed
returns-clause-fed c = λ hosts hosts' t word items fed asked. word_of_fed hosts hosts' t word asked items fed
