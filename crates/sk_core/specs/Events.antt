-- What the events of a schedule do to the machine, and what they answer.
use Rattle.std.specs.Prelude.{◌≡◌, ℕ, ◌+◌, ◌-◌, nat_lt, ◌==◌, if◌then◌else◌, length, Result, MatchResult}
use Rattle.sk_model.specs.Entries.{items_of_entries}
use Rattle.sk_model.specs.Sketch.{estimate_of}
use Rattle.sk_machine.specs.Fine.{Fine, IsLive, MayOffer, after_offer, MayLook, after_look, MaySwap, after_swap, MayHand, after_hand, MayAdmit, after_admit, MayFind, after_find, MayTake, after_take, MayPublish, after_publish, MayPut, after_put, MayReturn, after_return, MayTurn, after_turn, MayYield, after_yield, after_ask, MaySplit, after_split, MayNote, after_note, MayJoin, after_join}
use Rattle.sk_core.specs.Stored.{Stored, hint_by, word_by, machine_of}
use Rattle.sk_core.specs.declared.event.Event.{Event}
use Rattle.sk_core.specs.declared.event.Event.TheVariants.{Offer, Look, Swap, Hand, Find, Take, Publish, Put, GiveBack, Ask, Split, Note, Join, Turn, YieldTurn, Admit}
use Rattle.sk_core.specs.declared.event.Answer.{Answer}
use Rattle.sk_core.specs.declared.event.Answer.TheVariants as answers
use Rattle.sk_core.specs.declared.event.NotEnabled.{NotEnabled}

-- the condition of an event
abbrev pub IsEnabled : Event → Fine → Type 0
IsEnabled (Offer i x) f = MayOffer i x f
IsEnabled (Look i) f = MayLook i f
IsEnabled (Swap i) f = MaySwap i f
IsEnabled (Hand i) f = MayHand i f
IsEnabled (Find i) f = MayFind i f
IsEnabled (Take i) f = MayTake i f
IsEnabled (Publish i) f = MayPublish i f
IsEnabled (Put i) f = MayPut i f
IsEnabled (GiveBack i) f = MayReturn i f
IsEnabled (Ask t) f = IsLive t f
IsEnabled (Split t) f = MaySplit t f
IsEnabled (Note i) f = MayNote i f
IsEnabled (Join t other) f = MayJoin t other f
IsEnabled (Turn s) f = MayTurn s f
IsEnabled (YieldTurn s) f = MayYield s f
IsEnabled (Admit i b) f = MayAdmit i b f

-- its effect, where the sketch keeps k hashes
abbrev pub after : ℕ → Event → Fine → Fine
after k (Offer i x) f = after_offer i x f
after k (Look i) f = after_look i f
after k (Swap i) f = after_swap i f
after k (Hand i) f = after_hand i f
after k (Find i) f = after_find i f
after k (Take i) f = after_take i f
after k (Publish i) f = after_publish (word_by k) i f
after k (Put i) f = after_put i f
after k (GiveBack i) f = after_return (hint_by k) i f
after k (Ask t) f = after_ask t f
after k (Split t) f = after_split t f
after k (Note i) f = after_note i f
after k (Join t other) f = after_join t other f
after k (Turn s) f = after_turn s f
after k (YieldTurn s) f = after_yield f
after k (Admit i b) f = after_admit i b f

-- the estimate of the published list
abbrev pub estimate_at : ℕ → Fine → ℕ × ℕ
estimate_at k f = estimate_of k (items_of_entries f.published)

-- its answer
abbrev pub answer_of : ℕ → Event → Fine → Answer
answer_of k (Offer i x) f = if nat_lt x (f.updaters i).hint then answers.Kept else answers.Filtered
answer_of k (Look i) f = if (f.updaters i).word == 0 then answers.Busy else answers.Hint (f.updaters i).word
answer_of k (Swap i) f = answers.Swapped
answer_of k (Hand i) f = answers.Handed (length (f.updaters i).slot)
answer_of k (Find i) f = if (f.updaters i).word == 0 then answers.Waiting else answers.Nothing
answer_of k (Take i) f = answers.Took (length (f.updaters i).slot)
answer_of k (Publish i) f = answers.Published (length f.published + length f.in_hand)
answer_of k (Put i) f = answers.Put
answer_of k (GiveBack i) f = answers.Returned (hint_by k f.published)
answer_of k (Ask t) f = answers.Estimate (estimate_at k f).0 (estimate_at k f).1
answer_of k (Split t) f = answers.Token f.made
answer_of k (Note i) f = answers.Token f.made
answer_of k (Join t other) f = answers.Joined
answer_of k (Turn s) f = if f.turn == 0 then answers.Turned else answers.Elsewhere (f.turn - 1)
answer_of k (YieldTurn s) f = answers.Yielded
answer_of k (Admit i b) f = answers.Admitted

-- an event that is enabled happens
pub record Happens (e : Event) (old new : Stored) (answer : Answer) : Type 0 where
  pub enabled : IsEnabled e (machine_of old)
  pub sketch : new.k ≡ old.k
  pub machine : machine_of new ≡ after old.k e (machine_of old)
  pub answer_is : answer ≡ answer_of old.k e (machine_of old)

-- one that is not leaves all as it was
pub record IsRefused (e : Event) (old new : Stored) : Type 0 where
  pub disabled : ¬ IsEnabled e (machine_of old)
  pub unchanged : new ≡ old

-- what a call makes of an event
abbrev pub Plays : Event → Stored → Stored → Result Answer NotEnabled → Type 0
Plays e old new result = MatchResult result (Happens e old new) (λ _. IsRefused e old new)
