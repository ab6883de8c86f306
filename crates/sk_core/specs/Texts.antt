-- How schedules are written: fields parted by one space, a word first and then numbers.
use Rattle.std.specs.Prelude.{ℕ, ◌++◌, ◌==◌, ◌&&◌, nat_le, nat_lt, if◌then◌else◌, List, [], ◌∷◌, codes, decimal, Option, Some, None, option_and_then}
use Rattle.std.specs.Str.{bytes_eq}
use Rattle.sk_model.specs.Numbers.{number_of}
use Rattle.sk_lines.specs.Fractions.{estimate_text}
use Rattle.sk_core.specs.declared.event.Answer.{Answer}
use Rattle.sk_core.specs.declared.event.Answer.TheVariants as answers
use Rattle.sk_core.specs.declared.event.Event.{Event}
use Rattle.sk_core.specs.declared.event.Event.TheVariants.{Offer, Look, Swap, Hand, Find, Take, Publish, Put, GiveBack, Ask, Split, Note, Join, Turn, YieldTurn, Admit}
use Rattle.sk_model.specs.Width.{item_end}
use Rattle.sk_model.specs.Limits.{least_k, most_k, most_size, most_updaters}

-- a byte more at the start of the first one
abbrev pub onto_first : ℕ → List (List ℕ) → List (List ℕ)
onto_first byte [] = (byte ∷ []) ∷ []
onto_first byte (field ∷ fields) = (byte ∷ field) ∷ fields

-- the fields of a line; there is always one
unfoldable pub fields_of : List ℕ → List (List ℕ)
fields_of [] = [] ∷ []
fields_of (byte ∷ bytes) = if byte == 32 then [] ∷ fields_of bytes else onto_first byte (fields_of bytes)

-- the event that a word and one number name
unfoldable pub event_of_one : List ℕ → ℕ → Option Event
event_of_one word n =
    if bytes_eq word (codes "look") then Some (Look n)
    else (if bytes_eq word (codes "swap") then Some (Swap n)
    else (if bytes_eq word (codes "hand") then Some (Hand n)
    else (if bytes_eq word (codes "find") then Some (Find n)
    else (if bytes_eq word (codes "take") then Some (Take n)
    else (if bytes_eq word (codes "publish") then Some (Publish n)
    else (if bytes_eq word (codes "put") then Some (Put n)
    else (if bytes_eq word (codes "return") then Some (GiveBack n)
    else (if bytes_eq word (codes "ask") then Some (Ask n)
    else (if bytes_eq word (codes "split") then Some (Split n)
    else (if bytes_eq word (codes "note") then Some (Note n)
    else (if bytes_eq word (codes "turn") then Some (Turn n)
    else (if bytes_eq word (codes "yield") then Some (YieldTurn n)
    else None))))))))))))

-- the event that a word and two numbers name; none offers 0
unfoldable pub event_of_two : List ℕ → ℕ → ℕ → Option Event
event_of_two word n m =
    if bytes_eq word (codes "offer") && nat_lt 0 m then Some (Offer n m)
    else (if bytes_eq word (codes "join") then Some (Join n m)
    else (if bytes_eq word (codes "admit") then Some (Admit n m)
    else None))

-- the event that fields name, with numbers below the end of the items
abbrev pub event_of_fields : List (List ℕ) → Option Event
event_of_fields [] = None
event_of_fields (word ∷ []) = None
event_of_fields (word ∷ a ∷ []) = option_and_then (event_of_one word) (number_of item_end a)
event_of_fields (word ∷ a ∷ b ∷ []) = option_and_then (λ n. option_and_then (event_of_two word n) (number_of item_end b)) (number_of item_end a)
event_of_fields (word ∷ a ∷ b ∷ c ∷ more) = None

-- the event that a line names
abbrev pub event_of : List ℕ → Option Event
event_of line = event_of_fields (fields_of line)

-- ---- the first line

-- a number from low to high
abbrev pub number_from : ℕ → ℕ → List ℕ → Option ℕ
number_from low high bytes = option_and_then (λ n. if nat_le low n && nat_le n high then Some n else None) (number_of item_end bytes)

-- k of the sketch, the items of a buffer, and the updaters
abbrev pub machine_of_fields : List (List ℕ) → Option (ℕ × ℕ × ℕ)
machine_of_fields [] = None
machine_of_fields (word ∷ []) = None
machine_of_fields (word ∷ k ∷ []) = None
machine_of_fields (word ∷ k ∷ b ∷ []) = None
machine_of_fields (word ∷ k ∷ b ∷ n ∷ []) = if bytes_eq word (codes "machine")
    then option_and_then (λ k. option_and_then (λ b. option_and_then (λ n. Some (k, b, n)) (number_from 1 most_updaters n)) (number_from 1 most_size b)) (number_from least_k most_k k)
    else None
machine_of_fields (word ∷ k ∷ b ∷ n ∷ c ∷ more) = None

-- what a first line `machine K B N` says
abbrev pub machine_line_of : List ℕ → Option (ℕ × ℕ × ℕ)
machine_line_of line = machine_of_fields (fields_of line)

abbrev pub vacant_of_fields : List (List ℕ) → Option (ℕ × ℕ)
vacant_of_fields [] = None
vacant_of_fields (word ∷ []) = None
vacant_of_fields (word ∷ k ∷ []) = None
vacant_of_fields (word ∷ k ∷ n ∷ []) = if bytes_eq word (codes "vacant")
    then option_and_then (λ k. option_and_then (λ n. Some (k, n)) (number_from 1 most_updaters n)) (number_from least_k most_k k)
    else None
vacant_of_fields (word ∷ k ∷ n ∷ c ∷ more) = None

-- what a first line `vacant K N` says
abbrev pub vacant_line_of : List ℕ → Option (ℕ × ℕ)
vacant_line_of line = vacant_of_fields (fields_of line)

-- ---- answers

-- how an answer is written
unfoldable pub answer_text : Answer → List ℕ
answer_text answers.Kept = codes "kept"
answer_text answers.Filtered = codes "filtered"
answer_text (answers.Hint word) = codes "hint " ++ decimal word
answer_text answers.Busy = codes "busy"
answer_text answers.Swapped = codes "swapped"
answer_text (answers.Handed count) = codes "handed " ++ decimal count
answer_text answers.Waiting = codes "waiting"
answer_text answers.Nothing = codes "nothing"
answer_text (answers.Took count) = codes "took " ++ decimal count
answer_text (answers.Published count) = codes "published " ++ decimal count
answer_text answers.Put = codes "put"
answer_text (answers.Returned word) = codes "returned " ++ decimal word
answer_text (answers.Estimate n d) = estimate_text n d
answer_text (answers.Token number) = codes "token " ++ decimal number
answer_text answers.Joined = codes "joined"
answer_text answers.Turned = codes "turned"
answer_text (answers.Elsewhere seat) = codes "elsewhere " ++ decimal seat
answer_text answers.Yielded = codes "yielded"
answer_text answers.Admitted = codes "admitted"
