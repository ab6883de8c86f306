-- What is due for lines that begin with moments: a pane for each interval, once it has ended.
use Rattle.std.specs.Prelude.{ℕ, ◌+◌, ◌/◌, ◌^◌, ◌&&◌, max, nat_lt, nat_le, if◌then◌else◌, Bool, false, List, [], ◌∷◌, ◌++◌, length, map, filter, fold, flat_map, codes, decimal, unwrap_or, is_some}
use Rattle.sk_model.specs.Murmur.{hash_of}
use Rattle.sk_model.specs.Numbers.{number_of}
use Rattle.sk_model.specs.Sketch.{estimate_of, rising}
use Rattle.sk_lines.specs.Fractions.{estimate_line}
use Rattle.sk_label.specs.Labels.{label_of, item_text_of, is_labelled}
use Rattle.sk_label.specs.Rules.{Rules}
use Rattle.sk_panes.specs.declared.plan.Plan.{Plan}

-- each moment is below this number
abbrev pub moment_end : ℕ
moment_end = 2 ^ 48

-- ---- one line

-- whether a line has the form `MOMENT ITEM`
abbrev pub is_timed : List ℕ → Bool
is_timed line = is_labelled line && is_some (number_of moment_end (label_of line))

-- the moment of a line
abbrev pub moment_of : List ℕ → ℕ
moment_of line = unwrap_or (number_of moment_end (label_of line)) 0

-- the interval that it lies in, counted from 0
abbrev pub interval_of : Plan → List ℕ → ℕ
interval_of plan line = moment_of line / plan.span

-- the item of a line: the hash of the bytes after its first space
abbrev pub item_of : Plan → List ℕ → ℕ
item_of plan line = hash_of plan.seed (item_text_of line)

-- ---- lines

-- the interval that runs after these lines: the latest that one of them lies in, or 0
abbrev pub running_after : Plan → List (List ℕ) → ℕ
running_after plan lines = fold (λ latest line. max latest (interval_of plan line)) 0 lines

-- whether a line that is not empty lies in one of the last intervals up to c
abbrev pub is_in_pane : Plan → ℕ → List ℕ → Bool
is_in_pane plan c line = nat_lt 0 (length line) && nat_le (interval_of plan line) c && nat_lt c (interval_of plan line + plan.last)

-- the items of pane c
abbrev pub pane_items : Plan → ℕ → List (List ℕ) → List ℕ
pane_items plan c lines = map (item_of plan) (filter (is_in_pane plan c) lines)

-- the line of pane c with an estimate
abbrev pub pane_text : ℕ → ℕ × ℕ → List ℕ
pane_text c estimate = codes "pane " ++ (decimal c ++ (codes " " ++ estimate_line estimate))

-- pane c: the estimate of how many distinct items the last intervals up to c have
abbrev pub pane_line : Plan → ℕ → List (List ℕ) → List ℕ
pane_line plan c lines = pane_text c (estimate_of plan.k (pane_items plan c lines))

-- the panes of interval 0 and of each further one that a line lies in, rising
abbrev pub panes_text : Plan → List (List ℕ) → List ℕ
panes_text plan lines = flat_map (λ c. pane_line plan c lines) (rising (0 ∷ map (interval_of plan) lines))

-- ---- the command's rules

-- the pane of the interval that a line after others ends, if it ends one
abbrev pub pane_ended : Plan → List (List ℕ) → List ℕ → List ℕ
pane_ended plan before line = if nat_lt (running_after plan before) (interval_of plan line) then pane_line plan (running_after plan before) before else []

-- each line has the form, and lies in no earlier interval than those before it
abbrev pub pane_rules : Plan → Rules
pane_rules plan = record {
  is_formed = is_timed;
  is_refused = λ before line. nat_lt (interval_of plan line) (running_after plan before);
  due_at = pane_ended plan;
  due_last = λ lines. pane_line plan (running_after plan lines) lines;
  writes_last = false;
}
