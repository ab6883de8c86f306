use Rattle.std.proofs.Common.{◌++◌, ap, sym}
use Rattle.sk_hub.specs.Updaters.{handed_of}
use Rattle.sk_hub_calls.proofs.tests.hub.a_token_meets_a_note.Goals as goal

pub meet_and_ask-word-requires-clause-known : goal.meet_and_ask-word-requires-clause-known
meet_and_ask-word-requires-clause-known g c = let u = c.flush-2.new.updater in (handed_of u, ap (λ l. l ++ handed_of u) (sym (c.in_ok-heart.ensures.known u.number)))
