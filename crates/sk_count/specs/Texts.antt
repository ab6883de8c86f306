-- What is written of a count, and which watchers it leaves.
use Rattle.std.specs.Prelude.{ℕ, List, [], ◌∷◌, ◌++◌, map, codes, decimal, Option, None, Some}
use Rattle.sk_model.specs.Entries.{items_of_entries}
use Rattle.sk_model.specs.Sketch.{estimate_of}
use Rattle.sk_lines.specs.Fractions.{estimate_line}
use Rattle.sk_watch.specs.Masks.{mask_of}
use Rattle.sk_watch.specs.Places.{Place, answers_at, told}
use Rattle.sk_read.specs.Items.{items_by}
use Rattle.sk_report.specs.Texts.{interim_line, alarm_lines, reply_of, armed_with}
use Rattle.sk_count.specs.declared.plan.Plan.{Plan}
use Rattle.sk_count.specs.Moments.{Moment}

-- ---- moments

-- the line of a moment, and of each alarm that its reply sets off
abbrev pub moment_text : ℕ → List Place → Moment → List ℕ
moment_text k places m = interim_line m.lines (estimate_of k (items_of_entries m.seen)) ++ alarm_lines (mask_of (map (answers_at (reply_of k m.seen)) places))

-- the places after the reply of a moment
abbrev pub places_behind : ℕ → List Place → Moment → List Place
places_behind k places m = map (told (reply_of k m.seen)) places

-- the text of moments, one after another
unfoldable pub interim_text : ℕ → List Place → List Moment → List ℕ
interim_text k places [] = []
interim_text k places (m ∷ moments) = moment_text k places m ++ interim_text k (places_behind k places m) moments

-- the places after all of them
unfoldable pub places_after : ℕ → List Place → List Moment → List Place
places_after k places [] = places
places_after k places (m ∷ moments) = places_after k (places_behind k places m) moments

-- ---- the end

-- how many lines were made, if that is known
abbrev pub made_line : Option ℕ → List ℕ
made_line None = []
made_line (Some lines) = codes "made " ++ (decimal lines ++ codes "\n")

-- what is written last: that line, and an estimate
abbrev pub last_text : Option ℕ → ℕ × ℕ → List ℕ
last_text made estimate = made_line made ++ estimate_line estimate

-- ---- by a plan

-- the places as they are armed at the start
abbrev pub armed_by : Plan → List Place → List Place
armed_by plan places = armed_with plan.k plan.alarms places

-- the text of moments, with the board as it was before
abbrev pub interim_by : Plan → List Place → List Moment → List ℕ
interim_by plan places moments = interim_text plan.k (armed_by plan places) moments

-- the places after all of them
abbrev pub places_by : Plan → List Place → List Moment → List Place
places_by plan places moments = places_after plan.k (armed_by plan places) moments

-- what is due last: how many lines were made, if the plan has that number, and one thread's estimate of all items
abbrev pub last_lines : Plan → List (List ℕ) → List ℕ
last_lines plan units = last_text plan.made (estimate_of plan.k (items_by plan.kind units))
