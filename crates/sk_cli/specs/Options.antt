-- The options behind a command.
use Rattle.std.specs.Prelude.{ℕ, ◌-◌, ◌^◌, Bool, true, false, ◌&&◌, List, [], ◌∷◌, map, codes, if◌then◌else◌, Option, Some, None, is_some, option_map, option_and_then, unwrap_or, is_none, ◌==◌, bytes_eq, string_bytes}
use Rattle.std.specs.declared.string.String.{String}
use Rattle.std.specs.declared.alloc.Global.{Global}
use Rattle.sk_model.specs.Limits.{least_k, most_k, most_size, most_updaters}
use Rattle.sk_cli.specs.Beside.{board_places}
use Rattle.sk_cli.specs.Values.{Word, number_from, number_list, yes_or_no}
use Rattle.sk_cli.specs.declared.options.Verb.{Verb}
use Rattle.sk_cli.specs.declared.options.Verb.TheVariants.{Count, Hash, Image, Join, Make, Quantile, Replay, Serve, Tally, Tenants}
use Rattle.sk_cli.specs.declared.options.Verb.TheVariants as verb
use Rattle.sk_cli.specs.declared.options.Name.{Name}
use Rattle.sk_cli.specs.declared.options.Name.TheVariants.{Alarm, AsImage, At, B, Csv, Eager, File, Item, K, Key, Last, Left, N, Port, Propagator, Raw, Right, Rows, Seed, Sessions, Span, TenantNames, Updaters, Wave, Width, Window}

abbrev pub texts_of : List (String Global) → List Word
texts_of words = map string_bytes words

-- the option that a word names
abbrev pub name_of : Word → Option Name
name_of word =
    if bytes_eq word (codes "--alarm") then Some Alarm else (
    if bytes_eq word (codes "--at") then Some At else (
    if bytes_eq word (codes "--b") then Some B else (
    if bytes_eq word (codes "--csv") then Some Csv else (
    if bytes_eq word (codes "--eager") then Some Eager else (
    if bytes_eq word (codes "--file") then Some File else (
    if bytes_eq word (codes "--image") then Some AsImage else (
    if bytes_eq word (codes "--item") then Some Item else (
    if bytes_eq word (codes "--k") then Some K else (
    if bytes_eq word (codes "--key") then Some Key else (
    if bytes_eq word (codes "--last") then Some Last else (
    if bytes_eq word (codes "--left") then Some Left else (
    if bytes_eq word (codes "--n") then Some N else (
    if bytes_eq word (codes "--names") then Some TenantNames else (
    if bytes_eq word (codes "--port") then Some Port else (
    if bytes_eq word (codes "--propagator") then Some Propagator else (
    if bytes_eq word (codes "--raw") then Some Raw else (
    if bytes_eq word (codes "--right") then Some Right else (
    if bytes_eq word (codes "--rows") then Some Rows else (
    if bytes_eq word (codes "--seed") then Some Seed else (
    if bytes_eq word (codes "--sessions") then Some Sessions else (
    if bytes_eq word (codes "--span") then Some Span else (
    if bytes_eq word (codes "--updaters") then Some Updaters else (
    if bytes_eq word (codes "--wave") then Some Wave else (
    if bytes_eq word (codes "--width") then Some Width else (
    if bytes_eq word (codes "--window") then Some Window else None)))))))))))))))))))))))))

-- whether a value stands behind a name
abbrev pub takes_value : Name → Bool
takes_value AsImage = false
takes_value Raw = false
takes_value name = true

-- the options that a command has
abbrev pub allows : Verb → Name → Bool
allows Count Alarm = true
allows Count B = true
allows Count Csv = true
allows Count Eager = true
allows Count File = true
allows Count K = true
allows Count Propagator = true
allows Count Raw = true
allows Count Seed = true
allows Count Updaters = true
allows Count Window = true
allows Count name = false
allows Hash File = true
allows Hash Seed = true
allows Hash name = false
allows Image Csv = true
allows Image File = true
allows Image K = true
allows Image Raw = true
allows Image Seed = true
allows Image name = false
allows Join AsImage = true
allows Join Left = true
allows Join Right = true
allows Join name = false
allows Make B = true
allows Make K = true
allows Make Key = true
allows Make N = true
allows Make Propagator = true
allows Make Updaters = true
allows Make name = false
allows Quantile At = true
allows Quantile B = true
allows Quantile File = true
allows Quantile K = true
allows Quantile Key = true
allows Quantile Propagator = true
allows Quantile Updaters = true
allows Quantile Window = true
allows Quantile name = false
allows Replay File = true
allows Replay name = false
allows Serve Alarm = true
allows Serve B = true
allows Serve Eager = true
allows Serve K = true
allows Serve Port = true
allows Serve Seed = true
allows Serve Sessions = true
allows Serve Wave = true
allows Serve name = false
allows Tally B = true
allows Tally Csv = true
allows Tally File = true
allows Tally Item = true
allows Tally Propagator = true
allows Tally Rows = true
allows Tally Seed = true
allows Tally Updaters = true
allows Tally Width = true
allows Tally Window = true
allows Tally name = false
allows Tenants B = true
allows Tenants File = true
allows Tenants K = true
allows Tenants Seed = true
allows Tenants TenantNames = true
allows Tenants Updaters = true
allows Tenants name = false
allows verb.Window B = true
allows verb.Window File = true
allows verb.Window K = true
allows verb.Window Last = true
allows verb.Window Seed = true
allows verb.Window Span = true
allows verb.Window name = false

-- an option: its name, and the value behind it, empty for a flag
abbrev pub Given : Type 0
Given = Name × Word

-- a number for each name, by which names are told apart
abbrev pub place_of : Name → ℕ
place_of Alarm = 0
place_of AsImage = 1
place_of At = 2
place_of B = 3
place_of Csv = 4
place_of Eager = 5
place_of File = 6
place_of Item = 7
place_of K = 8
place_of Key = 9
place_of Last = 10
place_of Left = 11
place_of N = 12
place_of Port = 13
place_of Propagator = 14
place_of Raw = 15
place_of Right = 16
place_of Rows = 17
place_of Seed = 18
place_of Sessions = 19
place_of Span = 20
place_of TenantNames = 21
place_of Updaters = 22
place_of Wave = 23
place_of Width = 24
place_of Window = 25

-- the name, where the command has it
abbrev pub allowed_by : Verb → Option Name → Option Name
allowed_by verb None = None
allowed_by verb (Some name) = if allows verb name then Some name else None

-- the option of this command that a word names
abbrev pub known : Verb → Word → Option Name
known verb word = allowed_by verb (name_of word)

-- the options where the last word is a name
abbrev pub alone : Option Name → Option (List Given)
alone None = None
alone (Some name) = if takes_value name then None else Some ((name, []) ∷ [])

-- the options where a name comes first: `behind` the next word, which is its value, or `after` the name alone
abbrev pub led : Word → Option Name → Option (List Given) → Option (List Given) → Option (List Given)
led next None behind after = None
led next (Some name) behind after =
    if takes_value name then option_map (λ given. (name, next) ∷ given) behind else option_map (λ given. (name, []) ∷ given) after

-- the options that words spell, or nothing where a word is no name of this command's or a value is missing
unfoldable pub options_of : Verb → List Word → Option (List Given)
options_of verb [] = Some []
options_of verb (word ∷ []) = alone (known verb word)
options_of verb (word ∷ next ∷ words) = led next (known verb word) (options_of verb words) (options_of verb (next ∷ words))

-- the value behind a name, where it is given
abbrev pub value_behind : Name → List Given → Option Word
value_behind name [] = None
value_behind name (given ∷ others) = if place_of given.0 == place_of name then Some given.1 else value_behind name others

-- no name stands twice
abbrev pub is_once : List Given → Bool
is_once [] = true
is_once (given ∷ others) = is_none (value_behind given.0 others) && is_once others

-- the options that words spell, no name twice
abbrev pub spelled_by : Verb → List Word → Option (List Given)
spelled_by verb words = option_and_then (λ given. if is_once given then Some given else None) (options_of verb words)

-- the options that words spell, where they spell some
abbrev pub given_in : Verb → List Word → List Given
given_in verb words = unwrap_or (options_of verb words) []

-- whether a name is given
abbrev pub is_given : Name → List Given → Bool
is_given name given = is_some (value_behind name given)

-- the number in a value from low to high, or the default where there is no value
abbrev pub number_in : ℕ → ℕ → ℕ → Option Word → Option ℕ
number_in low high default None = Some default
number_in low high default (Some word) = number_from low high word

-- the number in a value from low to high, which has to be given
abbrev pub required_in : ℕ → ℕ → Option Word → Option ℕ
required_in low high value = option_and_then (number_from low high) value

-- the numbers in a value, at most so many from low to high, or the default where there is no value
abbrev pub numbers_in : ℕ → ℕ → ℕ → List ℕ → Option Word → Option (List ℕ)
numbers_in most low high default None = Some default
numbers_in most low high default (Some word) = number_list most low high word

-- whether a value is yes, as it is where there is none
abbrev pub is_yes_in : Option Word → Option Bool
is_yes_in None = Some true
is_yes_in (Some word) = yes_or_no word

-- the seed of the hash
abbrev pub seed_by : List Given → Option ℕ
seed_by given = number_in 0 (2 ^ 32 - 1) 0 (value_behind Seed given)

-- the column of the records that are read in place of lines; 0 for lines
abbrev pub column_by : List Given → Option ℕ
column_by given = if is_given Csv given then number_in 1 4096 1 (value_behind Csv given) else Some 0

-- how many hashes the sketch keeps
abbrev pub k_by : List Given → Option ℕ
k_by given = number_in least_k most_k 4096 (value_behind K given)

-- how many items a buffer of each updater has room for
abbrev pub size_by : List Given → Option ℕ
size_by given = number_in 1 most_size 64 (value_behind B given)

-- how many updaters there are
abbrev pub updaters_by : List Given → Option ℕ
updaters_by given = number_in 1 most_updaters 1 (value_behind Updaters given)

-- how many items the buffers of the updaters have room for, the last for all further updaters
abbrev pub sizes_by : List Given → Option (List ℕ)
sizes_by given = numbers_in most_updaters 1 most_size (64 ∷ []) (value_behind B given)

-- after how many lines an estimate is written, where that is asked for
abbrev pub window_by : List Given → Option (Option ℕ)
window_by given = if is_given Window given then option_map (λ n. Some n) (number_in 1 1000000 1 (value_behind Window given)) else Some None

-- whether updaters propagate by themselves while the sketch is small
abbrev pub eager_by : List Given → Option Bool
eager_by given = is_yes_in (value_behind Eager given)

-- whether one thread propagates beside the updaters
abbrev pub propagator_by : List Given → Option Bool
propagator_by given = is_yes_in (value_behind Propagator given)

-- the greatest mark of an alarm
abbrev pub most_mark : ℕ
most_mark = 2 ^ 48 - 1

-- at which estimates an alarm is written, each once
abbrev pub alarms_by : List Given → Option (List ℕ)
alarms_by given = numbers_in board_places 0 most_mark [] (value_behind Alarm given)

-- a name of a file is any word that is not empty
abbrev pub name_by : Option Word → Option (Option Word)
name_by None = Some None
name_by (Some []) = None
name_by (Some (byte ∷ bytes)) = Some (Some (byte ∷ bytes))

-- the name of the file that is read in place of the standard input, if there is one
abbrev pub file_by : List Given → Option (Option Word)
file_by given = name_by (value_behind File given)

-- a word that has to be given, and is not empty
abbrev pub word_in : Option Word → Option Word
word_in None = None
word_in (Some []) = None
word_in (Some (byte ∷ bytes)) = Some (byte ∷ bytes)
