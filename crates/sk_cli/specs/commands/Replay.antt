-- Schedules, what is answered to them, and what `replay` does.
use Rattle.std.specs.Prelude.{◌≡◌, ℕ, ◌-◌, ◌<◌, ◌≤◌, max, true, false, flat_map, map, take, length, List, [], ◌∷◌, ◌++◌, Option, None, Some, IfSome}
use Rattle.sk_model.specs.Limits.{line_limit}
use Rattle.sk_model.specs.Lines.{lines_of, open_lines_of, AreWithin}
use Rattle.sk_read.specs.Items.{complete_lines_of}
use Rattle.sk_cli.specs.Behaviour.{Behaviour}
use Rattle.sk_cli.specs.Beside.{NoHub}
use Rattle.sk_cli.specs.Lines.{IsLongLine, line_at, lines_before}
use Rattle.sk_cli.specs.declared.fault.Fault.{Fault}
use Rattle.sk_cli.specs.declared.fault.Fault.TheVariants.{LongLine, BadEvent}
use Rattle.sk_machine.specs.Fine.{Fine, fine_start}
use Rattle.sk_core.specs.Stored.{Stored, machine_of, hint_by, word_by, sizes_of}
use Rattle.sk_core.specs.Events.{IsEnabled, after}
use Rattle.sk_core.specs.Runs.{MeetsAll, IsStep, IsRun}
use Rattle.sk_core.specs.Texts.{event_of, machine_line_of, vacant_line_of, answer_text}
use Rattle.sk_core.specs.declared.event.Event.{Event}
use Rattle.sk_core.specs.declared.event.Answer.{Answer}

-- ---- the first line

-- the k of a sketch, and the machine of n updaters with buffers of b items at its start
abbrev pub start_with : ℕ → ℕ → ℕ → ℕ × Fine
start_with k b n = (k, fine_start (hint_by k) (word_by k) n (sizes_of n b))

-- by a line `machine K B N`, or else by a line `vacant K N`, where nobody is admitted
abbrev pub start_by : Option (ℕ × ℕ × ℕ) → Option (ℕ × ℕ) → Option (ℕ × Fine)
start_by (Some m) vacant = Some (start_with m.0 m.1 m.2)
start_by None (Some v) = Some (start_with v.0 0 v.1)
start_by None None = None

-- the k and the start that a first line names
abbrev pub start_of : List ℕ → Option (ℕ × Fine)
start_of line = start_by (machine_line_of line) (vacant_line_of line)

-- the k of a state, and the machine that it is
abbrev pub started : Stored → ℕ × Fine
started state = (state.k, machine_of state)

-- the machine of a state that is there meets its invariant
abbrev pub MeetsThere : Option Stored → Type 0
MeetsThere state = IfSome state (λ s. MeetsAll s.k (machine_of s))

-- ---- the lines behind it

-- a line names an event, which is enabled, and the machine answers it
pub record IsPlay (line : List ℕ) (k : ℕ) (from : Fine) (answer : Answer) (to : Fine) : Type 0 where
  pub event : Event
  pub named : event_of line ≡ Some event
  pub step : IsStep k from event answer
  pub machine : to ≡ after k event from
  pub invariant : MeetsAll k to

-- a line names no event that is enabled
abbrev pub IsNoPlay : List ℕ → Fine → Type 0
IsNoPlay line f = IfSome (event_of line) (λ event. ¬ IsEnabled event f)

-- a schedule was answered so and led here: its first line names the start, each further line an event, and each event
-- was enabled in its turn and answered by the machine
pub record Played (k : ℕ) (first : List ℕ) (lines : List (List ℕ)) (answers : List Answer) (reached : Fine) : Type 0 where
  pub start : Fine
  pub events : List Event
  pub named_start : start_of first ≡ Some (k, start)
  pub named : map event_of lines ≡ map (λ event. Some event) events
  pub run : IsRun k events answers start reached
  pub invariant : MeetsAll k reached

-- the line of an answer
abbrev pub answer_line : Answer → List ℕ
answer_line answer = answer_text answer ++ 10 ∷ []

-- the answers, a line each
unfoldable pub answers_text : List Answer → List ℕ
answers_text answers = flat_map answer_line answers

-- these are lines of a schedule, and the answers to their events in order are this text
abbrev pub IsAnswered : List (List ℕ) → List ℕ → Type 0
IsAnswered [] due = due ≡ []
IsAnswered (first ∷ lines) due = (k : ℕ) × (answers : List Answer) × (reached : Fine) × Played k first lines answers reached × (due ≡ answers_text answers)

-- these are lines of a schedule that led to this state, and their events were answered by this text
abbrev pub LedTo : Stored → List (List ℕ) → List ℕ → Type 0
LedTo state [] due = ⊥
LedTo state (first ∷ lines) due = (answers : List Answer) × Played state.k first lines answers (machine_of state) × (due ≡ answers_text answers)

pub led_is_due : (state : Stored) (lines : List (List ℕ)) (due : List ℕ) → LedTo state lines due → IsAnswered lines due
led_is_due state [] due led = absurd led
led_is_due state (first ∷ lines) due led = (state.k, led.0, machine_of state, led.1, led.2)

-- these are lines of a schedule: the first names a start, and each further one goes on with those before it
abbrev pub IsSchedule : List (List ℕ) → Type 0
IsSchedule lines = (due : List ℕ) × IsAnswered lines due

-- a line that does not go on with a schedule of these lines: as the first it names no start, and later no event that
-- is enabled in the state reached
abbrev pub IsNoMore : List (List ℕ) → List ℕ → Type 0
IsNoMore [] line = start_of line ≡ None
IsNoMore (first ∷ lines) line = (k : ℕ) × (answers : List Answer) × (reached : Fine) × Played k first lines answers reached × IsNoPlay line reached

-- ---- what it does

-- line n of a schedule does not go on with it, and no line up to it is too long; where there is no line, it is line 1
pub record IsBadLine (n : ℕ) (lines : List (List ℕ)) : Type 0 where
  pub from : 1 ≤ n
  pub to : n ≤ max 1 (length lines)
  pub within : AreWithin line_limit (take n lines)
  pub bad : IsNoMore (take (n - 1) lines) (line_at n lines)

-- the first line of a schedule that is refused is refused by this fault
abbrev pub IsRefusedBy : Fault → List (List ℕ) → Type 0
IsRefusedBy (LongLine n) lines = IsLongLine n lines × IsSchedule (take (n - 1) lines)
IsRefusedBy (BadEvent n) lines = IsBadLine n lines
IsRefusedBy other lines = ⊥

-- it writes the answers to the lines of a read before it reads on
abbrev pub replaying : Behaviour
replaying = record {
  reads = true;
  takes_file = true;
  writes_last = false;
  writes_by_lines = true;
  arms = [];
  makes = NoHub;
  IsFine = λ text. AreWithin line_limit (lines_of text) × IsSchedule (lines_of text) × (0 < length (lines_of text));
  IsFineSoFar = λ taken. AreWithin line_limit (open_lines_of taken) × IsSchedule (complete_lines_of taken);
  Refuses = λ fault text. IsRefusedBy fault (lines_of text);
  IsDue = λ from to text due. IsAnswered (lines_of text) due;
  Leaves = λ from text due to. Unit {0};
  IsDueSoFar = λ from to taken due. IsAnswered (complete_lines_of taken) due;
  IsDueAt = λ from to fault text due. IsAnswered (lines_before fault (lines_of text)) due;
  IsDueBefore = λ from to text due. (n : ℕ) × AreWithin line_limit (take n (lines_of text)) × IsAnswered (take n (lines_of text)) due;
}
