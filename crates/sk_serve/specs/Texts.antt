-- What is written of the sessions of a server.
use Rattle.std.specs.Prelude.{ℕ, ◌+◌, List, [], ◌∷◌, ◌++◌, map, codes, decimal}
use Rattle.sk_model.specs.Entries.{Entry, items_of_entries}
use Rattle.sk_model.specs.Sketch.{estimate_of}
use Rattle.sk_lines.specs.Fractions.{estimate_line}
use Rattle.sk_watch.specs.Masks.{mask_of}
use Rattle.sk_watch.specs.Places.{Place, answers_at}
use Rattle.sk_line.specs.declared.sessions.End.{End}
use Rattle.sk_line.specs.declared.sessions.End.TheVariants.{Quit, Closed, LinkFault, Long, TooMuch, OutOfMemory}
use Rattle.sk_report.specs.Texts.{alarm_lines, reply_of}

-- how a session ended. If memory was out nothing is written
abbrev pub end_text : End → List ℕ
end_text Quit = codes "quit"
end_text Closed = codes "closed"
end_text LinkFault = codes "fault"
end_text (Long n) = codes "long " ++ decimal n
end_text TooMuch = codes "much"
end_text OutOfMemory = []

abbrev pub session_line : ℕ → End → List ℕ
session_line i end = codes "session " ++ (decimal i ++ (codes " " ++ (end_text end ++ codes "\n")))

-- a line for each, from this number on
unfoldable pub session_lines : ℕ → List End → List ℕ
session_lines from [] = []
session_lines from (end ∷ ends) = session_line from end ++ session_lines (from + 1) ends

-- what is written after them: a line for each alarm that the list's reply sets off, and its estimate
abbrev pub reply_lines : ℕ → List Place → List Entry → List ℕ
reply_lines k places list = alarm_lines (mask_of (map (answers_at (reply_of k list)) places)) ++ estimate_line (estimate_of k (items_of_entries list))

-- all that is written
abbrev pub served_text : ℕ → List Place → List End → List Entry → List ℕ
served_text k places ends list = session_lines 0 ends ++ reply_lines k places list
