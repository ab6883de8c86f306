-- How a run goes: what it reads and writes, and why it ends.
use Rattle.std.specs.Prelude.{◌≡◌, ◌⊎◌, ℕ, ◌<◌, ◌≤◌, List, [], ◌∷◌, ◌++◌, length, take, flat_map, true, Option, None, Some, IsSomeAnd, Result, Ok, Err, IfErr, IsErrAnd, MatchResult}
use Rattle.std.specs.Bool.{OnTrue}
use Rattle.std.specs.Io.KnownBytes.{Appends, Consumes, IsAtEnd}
use Rattle.sk_model.specs.Causes.{Rose, HasCauseIn, AppendsFront, AppendsPart}
use Rattle.sk_model.specs.Lines.{lines_of}
use Rattle.sk_io.specs.Files.{told_file, IsMissing, Opens}
use Rattle.sk_io.specs.declared.stream.Sink as sink
use Rattle.sk_read.specs.Reads.{piece_limit, IsSettled}
use Rattle.sk_report.specs.Parts.{AppendsPartAfter}
use Rattle.sk_serve.specs.Served.{AreClosed}
use Rattle.sk_cli.specs.Behaviour.{Behaviour}
use Rattle.sk_cli.specs.Beside.{Beside, MadeHub, cleared, LeavesOnly}
use Rattle.sk_cli.specs.Values.{Word}
use Rattle.sk_cli.specs.Outside.{Streams, Outside, over_input, over_file, beside_in, doorways_of}
use Rattle.sk_cli.specs.Command.{OneText, Asked, OfText, OfImages, OfLinks, behaviour_of, armed_at_start, frame_of, IsInOrder}
use Rattle.sk_cli.specs.Fault.{status_of, message_of}
use Rattle.sk_cli.specs.commands.Count.{LeavesHub}
use Rattle.sk_cli.specs.commands.Join.{ReadsBoth, OpensBoth, WritesBoth, EndsJoin, IsToldImage, AreFineFiles, AreRefused}
use Rattle.sk_cli.specs.commands.Serve.{ServesAll, EndsServing}
use Rattle.sk_cli.specs.commands.Make.{text_by, counted_by, made_report}
use Rattle.sk_cli.specs.commands.Quantile.{LeavesRanks}
use Rattle.sk_count.specs.declared.plan.Plan.{Plan as CountPlan}
use Rattle.sk_model.specs.Limits.{source_limit}
use Rattle.sk_rank.specs.declared.plan.Plan.{Plan as RankPlan}
use Rattle.sk_label.specs.Rules.{AreFine}
use Rattle.sk_desks.specs.Desks.{desk_rules, tenant_line}
use Rattle.sk_panes.specs.Panes.{pane_rules, panes_text}
use Rattle.sk_panes.specs.declared.plan.Plan.{Plan as PanePlan}
use Rattle.sk_read.specs.Units.{units_by, units_of}
use Rattle.sk_serve.specs.declared.plan.ServePlan.{ServePlan}
use Rattle.sk_tally.specs.declared.plan.Plan.{Plan as TallyPlan}
use Rattle.sk_tally.specs.Headline.{TalliesAll}
use Rattle.sk_cli.specs.declared.command.Command.{Command}
use Rattle.sk_cli.specs.declared.commands.make.MakePlan.{MakePlan}
use Rattle.sk_cli.specs.declared.commands.tenants.TenantsPlan.{TenantsPlan}
use Rattle.sk_cli.specs.declared.fault.Fault.{Fault}
use Rattle.sk_cli.specs.declared.fault.Fault.TheVariants.{OutOfMemory, Usage, ReadFault, WriteFault, OpenFault, NetFault, TooMuch}

-- ---- one command over a source and a sink

-- this text was taken, which is all that the source had and fewer bytes than may be, nothing of it is refused, and
-- the whole text that is due for it was written; so what is beside it was left
pub record Finishes (b : Behaviour) (most : ℕ) (from to : Beside) (old new : Streams) : Type 0 where
  pub text : List ℕ
  pub due : List ℕ
  pub consumed : Consumes old.left new.left text
  pub end : OnTrue b.reads (IsAtEnd new.left)
  pub size : OnTrue b.reads (length text < most)
  pub fine : b.IsFine text
  pub is_due : b.IsDue from to text due
  pub leaves : b.Leaves from text due to
  pub written : Appends old.written new.written due

-- so many bytes were taken, nothing of them is refused so far, and what is due for what has ended in them was written
pub record Stops (b : Behaviour) (IsSize : ℕ → Type 0) (from to : Beside) (old new : Streams) : Type 0 where
  pub taken : List ℕ
  pub due : List ℕ
  pub reads : b.reads ≡ true
  pub consumed : Consumes old.left new.left taken
  pub size : IsSize (length taken)
  pub fine : b.IsFineSoFar taken
  pub is_due : b.IsDueSoFar from to taken due
  pub written : Appends old.written new.written due

-- of the bytes taken, this is so of those before the last read, which gave this many
pub record IsInTime (last : ℕ) (P : List ℕ → Type 0) (taken : List ℕ) : Type 0 where
  pub front : List ℕ
  pub piece : List ℕ
  pub joined : taken ≡ front ++ piece
  pub size : length piece ≤ last
  pub few : length piece ≤ piece_limit
  pub so_far : P front

-- each text that begins with the bytes taken is refused by this fault, at most the last read after the place, and what is
-- due for what stands before that place was written
pub record Refuses (b : Behaviour) (most : ℕ) (fault : Fault) (from to : Beside) (old new : Streams) : Type 0 where
  pub taken : List ℕ
  pub due : List ℕ
  pub consumed : Consumes old.left new.left taken
  pub size : length taken ≤ most
  pub in_time : IsInTime new.last b.IsFineSoFar taken
  pub refused : IsSettled (λ text. b.Refuses fault text × b.IsDueAt from to fault text due) new.left taken
  pub written : Appends old.written new.written due

-- this is due for the bytes taken, which are the whole text, and of which nothing is refused
pub record IsDueWhole (b : Behaviour) (from to : Beside) (left : Option (List ℕ)) (taken due : List ℕ) : Type 0 where
  pub end : IsAtEnd left
  pub fine : b.IsFine taken
  pub is_due : b.IsDue from to taken due

-- this is due before more is read
abbrev pub IsDueOnTheWay : Behaviour → Beside → Beside → Option (List ℕ) → List ℕ → List ℕ → Type 0
IsDueOnTheWay b from to left taken due = IsSettled (λ text. b.IsDueBefore from to text due) left taken

-- of what is due a part was written, and not all; what was due before the last read, which gave this many bytes, was written
-- whole, with this beside it then
pub record WritesOn (b : Behaviour) (from : Beside) (last : ℕ) (taken due : List ℕ) (old new : Option (List ℕ)) : Type 0 where
  pub earlier : List ℕ
  pub beside : Beside
  pub was_due : IsInTime last (λ front. b.IsFineSoFar front × b.IsDueSoFar from beside front earlier) taken
  pub written : AppendsPartAfter earlier old new due

-- of what is due behind the bytes taken a part was written, and not all, with what is beside it as if all were; a command
-- that writes by lines had written whole what was due before the last read
pub record BreaksOff (b : Behaviour) (most : ℕ) (from to : Beside) (old new : Streams) : Type 0 where
  pub taken : List ℕ
  pub due : List ℕ
  pub consumed : Consumes old.left new.left taken
  pub size : length taken ≤ most
  pub is_due : IsDueWhole b from to new.left taken due ⊎ (OnTrue b.reads (IsInTime new.last b.IsFineSoFar taken) × IsDueOnTheWay b from to new.left taken due)
  pub written : AppendsPart old.written new.written due
  pub by_lines : OnTrue b.writes_by_lines (WritesOn b from new.last taken due old.written new.written)

-- of what is due for the bytes taken, or for a first part of each text that begins with them, a front was written
pub record GivesUp (b : Behaviour) (most : ℕ) (from to : Beside) (old new : Streams) : Type 0 where
  pub taken : List ℕ
  pub due : List ℕ
  pub consumed : Consumes old.left new.left taken
  pub size : length taken ≤ most
  pub is_due : IsDueWhole b from to new.left taken due ⊎ IsDueOnTheWay b from to new.left taken due
  pub written : AppendsFront old.written new.written due

-- where a command may end by a fault, from what stood beside it to what is left there
abbrev pub Ends : Behaviour → ℕ → Beside → Beside → Streams → Streams → Fault → Type 0
Ends b most from to old new OutOfMemory = GivesUp b most from to old new
Ends b most from to old new Usage = ⊥
Ends b most from to old new ReadFault = Stops b (λ size. size < most) from to old new
Ends b most from to old new WriteFault = BreaksOff b most from to old new
Ends b most from to old new OpenFault = ⊥
Ends b most from to old new NetFault = ⊥
Ends b most from to old new TooMuch = Stops b (λ size. size ≡ most) from to old new
Ends b most from to old new refusal = Refuses b most refusal from to old new

-- how a command went, from what stood beside it to what is left there
abbrev pub Executes : Behaviour → ℕ → Beside → Beside → Streams → Streams → Result (Unit {0}) Fault → Type 0
Executes b most from to old new result = MatchResult result (λ _. Finishes b most from to old new) (λ fault. Ends b most from to old new fault)

-- only a fault of the source moved its count of faults, and so of the sink
pub record HasCauses (old new : Streams) (result : Result (Unit {0}) Fault) : Type 0 where
  pub read : HasCauseIn ReadFault old.read_faults new.read_faults result
  pub write : HasCauseIn WriteFault old.write_faults new.write_faults result

-- what a command that arms these and makes this hub left beside its streams
pub record LeavesBeside (arms : List ℕ) (makes : MadeHub) (from to : Beside) (result : Result (Unit {0}) Fault) : Type 0 where
  -- watchers stay for alarms alone
  pub board : arms ≡ [] → to.board ≡ cleared from.board
  -- handles are left of the hub that it makes alone, and only if it ended well
  pub remains : IfErr result (λ _. to.remains ≡ from.remains)
  pub leaves : LeavesOnly makes from.remains to.remains

-- how a command went over a source and a sink, and what it left beside them
pub record ExecutesSo (b : Behaviour) (most : ℕ) (from to : Beside) (old new : Streams) (result : Result (Unit {0}) Fault) : Type 0 where
  pub done : Executes b most from to old new result
  pub causes : HasCauses old new result
  pub beside : LeavesBeside b.arms b.makes from to result

-- ---- a run over the standard input or a file

-- a fact of the streams that a command is over: the file of this name, or the standard input
abbrev pub Over : Option Word → (Streams → Streams → Type 0) → Outside → Outside → Type 0
Over None P old new = P (over_input old) (over_input new)
Over (Some name) P old new = P (over_file (told_file old.files name) old) (over_file new.file_left new)

-- the file that was asked for could not be opened: nothing was written, and the board is armed
abbrev pub CannotOpen : Command → Option Word → Outside → Outside → Type 0
CannotOpen command None old new = ⊥
CannotOpen command (Some name) old new = (new.written ≡ old.written) × (new.board ≡ armed_at_start command old.board)

-- a command over at most one text was done whole
abbrev pub SucceedsText : OneText → ℕ → Outside → Outside → Type 0
SucceedsText asked most old new = Over asked.file (λ a b. Finishes (behaviour_of asked.command) most (beside_in old) (beside_in new) a b) old new

-- where it may end by a fault
abbrev pub FailsText : OneText → ℕ → Outside → Outside → Fault → Type 0
FailsText asked most old new OpenFault = CannotOpen asked.command asked.file old new
FailsText asked most old new fault = Over asked.file (λ a b. Ends (behaviour_of asked.command) most (beside_in old) (beside_in new) a b fault) old new

-- ---- a run

-- what was asked was done whole: a command over at most one text, a join, or a server
abbrev pub Succeeds : Asked → ℕ → Outside → Outside → Type 0
Succeeds (OfText one) most old new = SucceedsText one most old new
Succeeds (OfImages two) most old new = ReadsBoth two most old.files new.file_left (WritesBoth two.as_image old.written new.written)
Succeeds (OfLinks plan) most old new = ServesAll plan most (beside_in old) (beside_in new) old.written new.written (doorways_of old new)

-- where a run may end by a fault, once its words are accepted
abbrev pub Fails : Asked → ℕ → Outside → Outside → Fault → Type 0
Fails (OfText one) most old new fault = FailsText one most old new fault
Fails (OfImages two) most old new fault = EndsJoin two most old.files new.file_left old.written new.written fault
Fails (OfLinks plan) most old new fault = EndsServing plan most (beside_in old) (beside_in new) old.written new.written (doorways_of old new) fault

-- how often a read has failed of what is read in place of the standard input where a file is named, else of that
abbrev pub read_faults_over : Option Word → Outside → ℕ
read_faults_over None o = o.input_faults
read_faults_over (Some name) o = o.file_faults

-- how often a read has failed of what is read for this
abbrev pub read_faults_of : Asked → Outside → ℕ
read_faults_of (OfText one) o = read_faults_over one.file o
read_faults_of (OfImages two) o = o.file_faults
read_faults_of (OfLinks plan) o = o.input_faults

-- ---- the files of a run

-- the files that a command over at most one text opens
abbrev pub named : Option Word → List Word
named None = []
named (Some name) = name ∷ []

-- what is opened for this, each file once
abbrev pub OpensFor : Asked → ℕ → Outside → Outside → Type 0
OpensFor (OfText one) most old new = Opens old.opened new.opened (named one.file)
OpensFor (OfImages two) most old new = OpensBoth two most old.files old.opened new.opened
OpensFor (OfLinks plan) most old new = Opens old.opened new.opened []

-- no file changes, and no other file is opened
pub record UsesFiles (asked : Asked) (most : ℕ) (old new : Outside) : Type 0 where
  pub files : new.files ≡ old.files
  pub opened : OpensFor asked most old new

-- ---- what contracts see of how a run ends

-- the status of a run that ended well, or by this fault
abbrev pub exit_of : Result (Unit {0}) Fault → ℕ
exit_of (Ok _) = 0
exit_of (Err fault) = status_of fault

-- a sink got all of a text and its count of faults stays, or a part of it and the count rose
abbrev pub Reports : {E : Type 0} → sink.Ghosts E → E → E → List ℕ → Type 0
Reports s old new text = (Appends (s.written old) (s.written new) text × (s.faults new ≡ s.faults old))
    ⊎ (AppendsPart (s.written old) (s.written new) text × Rose (s.faults old) (s.faults new))

-- standard error is untouched if a run ended well, and gets the line of its fault if not
abbrev pub Tells : {E : Type 0} → sink.Ghosts E → E → E → Result (Unit {0}) Fault → Type 0
Tells s old new (Ok _) = new ≡ old
Tells s old new (Err fault) = Reports s old new (message_of fault)

-- how a run with `make` went: its whole report was written, and the hub that counted is left; or nothing was written for
-- want of memory; or a write failed, and a part was written
pub record RunsMake (plan : MakePlan) (old new : Outside) (status : ℕ) : Type 0 where
  pub ends : (status ≡ 0) ⊎ (status ≡ 1) ⊎ (status ≡ 4)
  pub whole : status ≡ 0 → Appends old.written new.written (made_report plan)
  pub leaves : status ≡ 0 → LeavesHub (counted_by plan) (beside_in old) (lines_of (text_by plan)) (made_report plan) (beside_in new)
  pub nothing : status ≡ 1 → new.written ≡ old.written
  pub part : status ≡ 4 → AppendsPart old.written new.written (made_report plan)

-- the text that a command is over was taken to its end, and this was written for it
pub record TakesWhole (file : Option Word) (old new : Outside) (Wrote : List ℕ → List ℕ → Type 0) : Type 0 where
  pub text : List ℕ
  pub due : List ℕ
  pub taken : Over file (λ a b. Consumes a.left b.left text × IsAtEnd b.left) old new
  pub written : Appends old.written new.written due
  pub wrote : Wrote text due

-- `count` that ended well
abbrev pub CountsText : CountPlan → Option Word → Outside → Outside → Type 0
CountsText plan file old new = TakesWhole file old new (λ text due. LeavesHub plan (beside_in old) (units_of (units_by plan.column) text) due (beside_in new))

-- `quantile` that ended well
abbrev pub RanksText : RankPlan → Option Word → Outside → Outside → Type 0
RanksText plan file old new = TakesWhole file old new (λ text due. LeavesRanks plan (beside_in old) (units_of (units_by 0) text) due (beside_in new))

-- `tally` that ended well
abbrev pub TalliesText : TallyPlan → Option Word → Outside → Outside → Type 0
TalliesText plan file old new = TakesWhole file old new (λ text due. TalliesAll plan (units_of (units_by plan.column) text) due)

-- `tenants` that ended well: it wrote the estimate of each tenant's items, in the order of the names
abbrev pub EstimatesTenants : TenantsPlan → Option Word → Outside → Outside → Type 0
EstimatesTenants plan file old new = TakesWhole file old new (λ text due.
    AreFine (desk_rules plan.desks plan.names) (lines_of text) × (due ≡ flat_map (tenant_line plan.desks (lines_of text)) plan.names))

-- `window` that ended well: it wrote the pane of interval 0 and of each further one that has a line
abbrev pub WritesPanes : PanePlan → Option Word → Outside → Outside → Type 0
WritesPanes plan file old new = TakesWhole file old new (λ text due. AreFine (pane_rules plan) (lines_of text) × (due ≡ panes_text plan (lines_of text)))

-- `serve` that ended well
abbrev pub ServesLinks : ServePlan → Outside → Outside → Type 0
ServesLinks plan old new = ServesAll plan source_limit (beside_in old) (beside_in new) old.written new.written (doorways_of old new)

-- ---- what a text decides of how a run ends

-- the text that is read for what was asked, where its source tells it
abbrev pub told_text : Option Word → Outside → Option (List ℕ)
told_text None o = o.input
told_text (Some name) o = told_file o.files name

-- the text is told, nothing of it is refused, and it has fewer than so many bytes
pub record IsFineText (asked : OneText) (most : ℕ) (old : Outside) : Type 0 where
  pub text : List ℕ
  pub told : told_text asked.file old ≡ Some text
  pub fine : (behaviour_of asked.command).IsFine text
  pub size : length text < most

-- the text is told and read, and it is refused by this fault within its first bytes
pub record IsRefusedText (asked : OneText) (most : ℕ) (fault : Fault) (old : Outside) : Type 0 where
  pub text : List ℕ
  pub told : told_text asked.file old ≡ Some text
  pub reads : (behaviour_of asked.command).reads ≡ true
  pub refused : (behaviour_of asked.command).Refuses fault text
  pub within : most ≤ length text → ¬ (behaviour_of asked.command).IsFineSoFar (take most text)

-- the text is told and read, it has as many bytes or more, and as far as they go it is a text that is fine
pub record IsLongText (asked : OneText) (most : ℕ) (old : Outside) : Type 0 where
  pub text : List ℕ
  pub told : told_text asked.file old ≡ Some text
  pub reads : (behaviour_of asked.command).reads ≡ true
  pub size : most ≤ length text
  pub other : List ℕ
  pub fine : (behaviour_of asked.command).IsFine other
  pub same : take most other ≡ take most text
  pub whole : length text ≡ most → other ≡ text

-- all that is read for this is told, and nothing of it is refused; of links nothing is refused ever
abbrev pub IsFineFor : Asked → ℕ → Outside → Type 0
IsFineFor (OfText one) most old = IsFineText one most old
IsFineFor (OfImages two) most old = AreFineFiles two most old.files
IsFineFor (OfLinks plan) most old = Unit {0}

-- what is read for this is told up to the place where it is refused by this fault, or is too much
abbrev pub IsRefusedFor : Asked → ℕ → Fault → Outside → Type 0
IsRefusedFor (OfText one) most TooMuch old = IsLongText one most old
IsRefusedFor (OfText one) most fault old = IsRefusedText one most fault old
IsRefusedFor (OfImages two) most fault old = AreRefused two most old.files fault
IsRefusedFor (OfLinks plan) most fault old = ⊥

-- the first file that is opened for this is known not to be there
abbrev pub MissesFirst : Asked → Outside → Type 0
MissesFirst (OfText one) old = IsSomeAnd one.file (λ name. IsMissing old.files name)
MissesFirst (OfImages two) old = IsMissing old.files two.left
MissesFirst (OfLinks plan) old = ⊥

-- the second one is, and the first is an image
abbrev pub MissesSecond : Asked → ℕ → Outside → Type 0
MissesSecond (OfText one) most old = ⊥
MissesSecond (OfLinks plan) most old = ⊥
MissesSecond (OfImages two) most old = IsToldImage most (told_file old.files two.left) × IsMissing old.files two.right

-- a fault that no text decides, before anything is written: out of memory, or a failed read or open
abbrev pub IsOfReads : Fault → Type 0
IsOfReads OutOfMemory = Unit {0}
IsOfReads ReadFault = Unit {0}
IsOfReads OpenFault = Unit {0}
IsOfReads other = ⊥

-- a fault that no text decides: out of memory, or a call that failed, so that its count of faults rose
abbrev pub IsOfCalls : Asked → Outside → Outside → Fault → Type 0
IsOfCalls asked old new OutOfMemory = Unit {0}
IsOfCalls asked old new ReadFault = Rose (read_faults_of asked old) (read_faults_of asked new)
IsOfCalls asked old new WriteFault = Rose old.write_faults new.write_faults
IsOfCalls asked old new OpenFault = Rose old.open_faults new.open_faults
IsOfCalls asked old new NetFault = Rose old.net.faults new.net.faults
IsOfCalls asked old new other = ⊥

-- ---- the whole

-- a count of faults rose by one at an end by its own fault, and stands where it stood at every other
pub record HasCausesFor (asked : Asked) (old new : Outside) (result : Result (Unit {0}) Fault) : Type 0 where
  pub reads : HasCauseIn ReadFault (read_faults_of asked old) (read_faults_of asked new) result
  pub writes : HasCauseIn WriteFault old.write_faults new.write_faults result
  pub opens : HasCauseIn OpenFault old.open_faults new.open_faults result
  pub net : HasCauseIn NetFault old.net.faults new.net.faults result

-- how a run for this went, from what it was handed to what it left
pub record Performs (asked : Asked) (most : ℕ) (old new : Outside) (result : Result (Unit {0}) Fault) : Type 0 where
  -- all was read and written, or a fault has its place
  pub done : MatchResult result (λ _. Succeeds asked most old new) (λ fault. Fails asked most old new fault)
  pub causes : HasCausesFor asked old new result
  -- what is read decides, if it is told, but for calls that fail
  pub complete : IsFineFor asked most old → IfErr result (IsOfCalls asked old new)
  pub refused : (f : Fault) → IsRefusedFor asked most f old → IsErrAnd result (λ end. (status_of end ≡ status_of f) ⊎ IsOfCalls asked old new end)
  -- a file that is known not to be there can't be opened
  pub missing : MissesFirst asked old → result ≡ Err OpenFault
  pub second_missing : MissesSecond asked most old → IsErrAnd result IsOfReads
  -- no file changes, each that is read was opened once, each link that was accepted is closed, and what the input
  -- stands on stays
  pub files : UsesFiles asked most old new
  pub links : AreClosed old.net.accepted new.net.accepted old.net.doorway new.net.doorway
  pub stays : new.input_on ≡ old.input_on
  -- watchers stay for alarms alone, and handles are left of a hub that was made, if all ended well
  pub board : (frame_of asked).arms ≡ [] → new.board ≡ cleared old.board
  pub remains : IfErr result (λ _. new.remains ≡ old.remains)
  pub leaves : LeavesOnly (frame_of asked).makes old.remains new.remains

-- how a run went whose words ask for this, which is within its limits: its end decides the status, and what standard error
-- got
pub record Runs (asked : Asked) (most : ℕ) (old new : Outside) (Told : Result (Unit {0}) Fault → Type 0) (status : ℕ) : Type 0 where
  pub order : IsInOrder asked
  pub result : Result (Unit {0}) Fault
  pub status_is : status ≡ exit_of result
  pub told : Told result
  pub performs : Performs asked most old new result

-- how a run went; if its words ask for nothing, it is the usage that standard error was told
abbrev pub RunsSo : Option Asked → ℕ → Outside → Outside → (Result (Unit {0}) Fault → Type 0) → ℕ → Type 0
RunsSo None most old new Told status = (status ≡ 2) × Told (Err Usage) × (new ≡ old)
RunsSo (Some asked) most old new Told status = Runs asked most old new Told status
