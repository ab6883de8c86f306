use Rattle.sk_machine.proofs.Parts.{eight_parts}
use Rattle.sk_core.specs.Stored.{hint_by, word_by}
use Rattle.sk_core.proofs.Reached.{reached_sound, all_run}
use Rattle.sk_core.proofs.Runs.{relaxed, filtered}
use Rattle.sk_core.proofs.laws.events_keep_the_invariant.Goals as goal

pub returns-clause-invariant : goal.returns-clause-invariant
returns-clause-invariant c = λ k f two is. eight_parts (hint_by k) (word_by k) f (reached_sound k two f is)

pub returns-clause-asks : goal.returns-clause-asks
returns-clause-asks c = λ k t f two is live. relaxed k two f (reached_sound k two f is) t live

pub returns-clause-offers : goal.returns-clause-offers
returns-clause-offers c = λ k i item f two is may. filtered k two f (reached_sound k two f is) i item may

pub returns-clause-runs : goal.returns-clause-runs
returns-clause-runs c = λ k events f two is enabled. all_run k two events f (reached_sound k two f is) enabled
