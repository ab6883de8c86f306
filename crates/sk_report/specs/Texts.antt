-- What is written of estimates and alarms, and which watchers a board is left with at the start.
use Rattle.std.specs.Prelude.{ℕ, ◌+◌, ◌==◌, if◌then◌else◌, List, [], ◌∷◌, ◌++◌, flat_map, codes, decimal, None, option_map}
use Rattle.std.specs.List.{range_with_len}
use Rattle.std.specs.Int.{bit_at}
use Rattle.sk_model.specs.Entries.{Entry, items_of_entries}
use Rattle.sk_model.specs.Sketch.{count_of, theta_of}
use Rattle.sk_lines.specs.Fractions.{estimate_line}
use Rattle.sk_theta.specs.declared.reply.Reply.{Reply}
use Rattle.sk_watch.specs.Masks.{most_places}
use Rattle.sk_watch.specs.Places.{Place}
use Rattle.sk_watch.specs.Watching.{armed}

-- ---- lines

-- what stands before a line that is of the first units alone: how many they are
abbrev pub at_units : ℕ → List ℕ
at_units units = codes "at " ++ (decimal units ++ codes " ")

-- the estimate after a number of units
abbrev pub interim_line : ℕ → ℕ × ℕ → List ℕ
interim_line units estimate = at_units units ++ estimate_line estimate

-- an alarm that went off, counted from 1
abbrev pub alarm_line : ℕ → List ℕ
alarm_line number = codes "alarm " ++ (decimal number ++ codes "\n")

-- its line, if a mask has the place
abbrev pub alarm_at : ℕ → ℕ → List ℕ
alarm_at mask place = if bit_at mask place == 1 then alarm_line (place + 1) else []

-- a line for each place that a mask has, rising
unfoldable pub alarm_lines : ℕ → List ℕ
alarm_lines mask = flat_map (alarm_at mask) (range_with_len 0 most_places)

-- ---- the reply of a list

-- how many updates the sketch of a list keeps, and its theta
abbrev pub reply_of : ℕ → List Entry → Reply
reply_of k list = record { count = count_of k (items_of_entries list); theta = theta_of k (items_of_entries list) }

-- ---- the board at the start

-- the first places are armed with these marks, in order, and the others let go
unfoldable pub armed_with : ℕ → List ℕ → List Place → List Place
armed_with k marks [] = []
armed_with k [] (place ∷ places) = None ∷ armed_with k [] places
armed_with k (mark ∷ marks) (place ∷ places) = option_map (armed k mark) place ∷ armed_with k marks places
