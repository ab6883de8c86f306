-- The words of a command line as a command, and what each command does.
use Rattle.std.specs.Prelude.{◌≡◌, ℕ, Bool, true, false, ◌&&◌, is_none, is_some, List, [], ◌∷◌, codes, if◌then◌else◌, Option, Some, None, option_and_then, option_map, bytes_eq}
use Rattle.std.specs.Option.{option_copied}
use Rattle.sk_cli.specs.declared.options.Verb.TheVariants as verb
use Rattle.sk_cli.specs.declared.command.Request.{Request}
use Rattle.sk_cli.specs.declared.command.Request.TheVariants.{OverText, Join, Serve}
use Rattle.sk_cli.specs.declared.command.Command.{Command}
use Rattle.sk_cli.specs.declared.command.Command.TheVariants.{Count, Hash, Image, Make, Quantile, Replay, Tally, Tenants, Window, Help, Version}
use Rattle.sk_cli.specs.declared.commands.about.TheConstants.{HELP, VERSION}
use Rattle.sk_cli.specs.Behaviour.{Behaviour}
use Rattle.sk_cli.specs.Beside.{MadeHub, NoHub, CountingHub, cleared}
use Rattle.sk_cli.specs.Options.{Given, spelled_by, file_by}
use Rattle.sk_cli.specs.Values.{Word}
use Rattle.sk_cli.specs.commands.About.{about}
use Rattle.sk_cli.specs.commands.Count as count
use Rattle.sk_cli.specs.commands.Hash as hash
use Rattle.sk_cli.specs.commands.Image as image
use Rattle.sk_cli.specs.commands.Join.{TwoImages, images_of, images_by}
use Rattle.sk_cli.specs.commands.Make as make
use Rattle.sk_cli.specs.commands.Quantile as quantile
use Rattle.sk_cli.specs.commands.Replay as replay
use Rattle.sk_cli.specs.commands.Serve as serve
use Rattle.sk_cli.specs.commands.Tally as tally
use Rattle.sk_cli.specs.commands.Tenants as tenants
use Rattle.sk_cli.specs.commands.Window as window
use Rattle.sk_count.specs.Texts.{armed_by}
use Rattle.sk_panes.specs.Plans as panes
use Rattle.sk_rank.specs.Plans as ranks
use Rattle.sk_serve.specs.declared.plan.ServePlan.{ServePlan}
use Rattle.sk_tally.specs.Plans as tallies
use Rattle.sk_watch.specs.Places.{Place}

-- what a command does
abbrev pub behaviour_of : Command → Behaviour
behaviour_of (Count plan) = count.counting plan
behaviour_of (Hash plan) = hash.hashing plan
behaviour_of (Image plan) = image.imaging plan
behaviour_of (Make plan) = make.making plan
behaviour_of (Quantile plan) = quantile.ranking plan
behaviour_of Replay = replay.replaying
behaviour_of (Tally plan) = tally.tallying plan
behaviour_of (Tenants plan) = tenants.hosting plan
behaviour_of (Window plan) = window.paning plan
behaviour_of Help = about HELP.now
behaviour_of Version = about VERSION.now

-- a board as a command arms it before it reads
abbrev pub armed_at_start : Command → List Place → List Place
armed_at_start (Count plan) places = armed_by plan places
armed_at_start other places = cleared places

-- the numbers of a command are within their limits
abbrev pub IsWithin : Command → Type 0
IsWithin (Count plan) = count.IsWithin plan
IsWithin (Image plan) = image.IsWithin plan
IsWithin (Make plan) = make.IsWithin plan
IsWithin (Quantile plan) = ranks.IsWithin plan
IsWithin (Tally plan) = tallies.IsWithin plan
IsWithin (Tenants plan) = tenants.IsWithin plan
IsWithin (Window plan) = panes.IsWithin plan
IsWithin other = Unit {0}

-- a command over at most one text, and the name of the file that it reads in place of the standard input
pub record OneText : Type 0 where
  pub command : Command
  pub file : Option Word

-- what words ask for
pub data Asked : Type 0 where
  OfText : OneText → Asked
  OfImages : TwoImages → Asked
  OfLinks : ServePlan → Asked

-- a request as what its words ask for
abbrev pub asked_of : Request → Asked
asked_of (OverText over) = OfText (record { command = over.command; file = option_copied over.file })
asked_of (Join plan) = OfImages (images_of plan)
asked_of (Serve plan) = OfLinks plan

-- what a request asks for is within its limits, and a command that takes no file has none
abbrev pub IsInOrder : Asked → Type 0
IsInOrder (OfText one) = IsWithin one.command × ((behaviour_of one.command).takes_file ≡ false → one.file ≡ None)
IsInOrder (OfImages two) = Unit {0}
IsInOrder (OfLinks plan) = serve.IsWithin plan

-- words that ask for this command, over this file or the standard input
abbrev pub over_text : Command → Option Word → Asked
over_text command file = OfText (record { command = command; file = file })

-- what a run for this may touch, and what it leaves
pub record Frame : Type 0 where
  -- whether the standard input is read, whether files are opened, and whether links are accepted
  pub reads_input : Bool
  pub opens_files : Bool
  pub accepts_links : Bool
  -- whether nothing is written before all is read
  pub writes_last : Bool
  -- the marks of the alarms that are armed
  pub arms : List ℕ
  -- the hub that is made, and left behind if all ends well
  pub makes : MadeHub

abbrev pub frame_of : Asked → Frame
frame_of (OfText one) = let does = behaviour_of one.command in record {
  reads_input = is_none one.file && does.reads;
  opens_files = is_some one.file;
  accepts_links = false;
  writes_last = does.writes_last;
  arms = does.arms;
  makes = does.makes;
}
frame_of (OfImages two) = record {
  reads_input = false;
  opens_files = true;
  accepts_links = false;
  writes_last = true;
  arms = [];
  makes = NoHub;
}
frame_of (OfLinks plan) = record {
  reads_input = false;
  opens_files = false;
  accepts_links = true;
  writes_last = true;
  arms = plan.alarms;
  makes = CountingHub;
}

-- a command by its options, with its file
abbrev pub asked_by : (List Given → Option Command) → List Given → Option Asked
asked_by by given = option_and_then (λ command. option_map (λ file. OfText (record { command = command; file = file })) (file_by given)) (by given)

-- the command, where no word follows
abbrev pub alone : Command → List Word → Option Asked
alone command [] = Some (OfText (record { command = command; file = None }))
alone command (word ∷ words) = None

-- the commands that options spell
abbrev pub count_by : List Given → Option Command
count_by given = option_map (λ plan. Count plan) (count.plan_by given)

abbrev pub hash_by : List Given → Option Command
hash_by given = option_map (λ plan. Hash plan) (hash.plan_by given)

abbrev pub image_by : List Given → Option Command
image_by given = option_map (λ plan. Image plan) (image.plan_by given)

abbrev pub join_by : List Given → Option Asked
join_by given = option_map (λ two. OfImages two) (images_by given)

abbrev pub make_by : List Given → Option Asked
make_by given = option_map (λ plan. OfText (record { command = Make plan; file = None })) (make.plan_by given)

abbrev pub quantile_by : List Given → Option Command
quantile_by given = option_map (λ plan. Quantile plan) (quantile.plan_by given)

abbrev pub replay_by : List Given → Option Command
replay_by given = Some Replay

abbrev pub serve_by : List Given → Option Asked
serve_by given = option_map (λ plan. OfLinks plan) (serve.plan_by given)

abbrev pub tally_by : List Given → Option Command
tally_by given = option_map (λ plan. Tally plan) (tally.plan_by given)

abbrev pub tenants_by : List Given → Option Command
tenants_by given = option_map (λ plan. Tenants plan) (tenants.plan_by given)

abbrev pub window_by : List Given → Option Command
window_by given = option_map (λ plan. Window plan) (window.plan_by given)

-- what words ask for: a command with its options
abbrev pub request_of : List Word → Option Asked
request_of [] = None
request_of (word ∷ words) =
    if bytes_eq word (codes "count") then option_and_then (asked_by count_by) (spelled_by verb.Count words) else (
    if bytes_eq word (codes "hash") then option_and_then (asked_by hash_by) (spelled_by verb.Hash words) else (
    if bytes_eq word (codes "image") then option_and_then (asked_by image_by) (spelled_by verb.Image words) else (
    if bytes_eq word (codes "join") then option_and_then join_by (spelled_by verb.Join words) else (
    if bytes_eq word (codes "make") then option_and_then make_by (spelled_by verb.Make words) else (
    if bytes_eq word (codes "quantile") then option_and_then (asked_by quantile_by) (spelled_by verb.Quantile words) else (
    if bytes_eq word (codes "replay") then option_and_then (asked_by replay_by) (spelled_by verb.Replay words) else (
    if bytes_eq word (codes "serve") then option_and_then serve_by (spelled_by verb.Serve words) else (
    if bytes_eq word (codes "tally") then option_and_then (asked_by tally_by) (spelled_by verb.Tally words) else (
    if bytes_eq word (codes "tenants") then option_and_then (asked_by tenants_by) (spelled_by verb.Tenants words) else (
    if bytes_eq word (codes "window") then option_and_then (asked_by window_by) (spelled_by verb.Window words) else (
    if bytes_eq word (codes "--help") then alone Help words else (
    if bytes_eq word (codes "--version") then alone Version words else None))))))))))))
