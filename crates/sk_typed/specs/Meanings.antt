-- What words stand for, as people type them.
use Rattle.std.specs.Prelude.{ℕ, ◌==◌, ◌&&◌, ◌||◌, nat_lt, Bool, false, List, [], ◌∷◌, length, codes, flat_map, if◌then◌else◌, bytes_eq, Option, Some, None, is_some, option_map}
use Rattle.std.specs.List.{starts_with, position_or_len, before_first, after_first}
use Rattle.sk_cli.specs.Command.{request_of}
use Rattle.sk_cli.specs.Options.{texts_of}
use Rattle.sk_cli.specs.Values.{Word}
use Rattle.sk_cli.specs.declared.options.Verb.{Verb}
use Rattle.sk_model.specs.Numbers.{number_of}
use Rattle.sk_typed.specs.Words.{verb_of}
use Rattle.sk_typed.specs.declared.typed.Found.{Found}
use Rattle.sk_typed.specs.declared.typed.Typed.{Typed}
use Rattle.sk_typed.specs.declared.typed.Typed.TheVariants as typed

-- what words stand for: words of the program, or a call for the help of one command
pub data Meaning : Type 0 where
  Words : List Word → Meaning
  -- with this many digits after the point of each number that it writes in place of a fraction
  Rounded : ℕ → List Word → Meaning
  HelpOf : Verb → Meaning

-- the words that one word stands for: `--name=value` stands for two
abbrev pub apart : Word → List Word
apart word =
    if starts_with (λ a b. a == b) word (codes "--") && nat_lt (position_or_len (λ byte. byte == 61) word) (length word)
    then before_first (λ byte. byte == 61) word ∷ after_first (λ byte. byte == 61) word ∷ []
    else word ∷ []

-- the digits that the first of these words spells, 0 to 6, and the words after it
abbrev pub digits_first : List Word → Option (ℕ × List Word)
digits_first [] = None
digits_first (value ∷ rest) = option_map (λ digits. (digits, rest)) (number_of 7 value)

-- the digits that `--decimal` asks for, and the words without it and its value
abbrev pub without_decimal : List Word → Option (ℕ × List Word)
without_decimal [] = None
without_decimal (name ∷ rest) =
    if bytes_eq name (codes "--decimal") then digits_first rest
    else option_map (λ found. (found.0, name ∷ found.1)) (without_decimal rest)

-- what was found, as its digits and words
abbrev pub found_of : Found → ℕ × List Word
found_of found = (found.digits.count, texts_of found.words.items)

-- whether a command writes estimates to the standard output and nothing else that is a fraction
abbrev pub writes_estimates : List Word → Bool
writes_estimates [] = false
writes_estimates (verb ∷ rest) = bytes_eq verb (codes "count") || bytes_eq verb (codes "join") || bytes_eq verb (codes "make")
    || bytes_eq verb (codes "tenants") || bytes_eq verb (codes "window")

-- the command whose help is asked for: by its name before `--help`, or after `help`
abbrev pub help_asked : List Word → Option Verb
help_asked (first ∷ second ∷ []) =
    if bytes_eq second (codes "--help") then verb_of first else
    if bytes_eq first (codes "help") then verb_of second else None
help_asked words = None

-- what words stand for, by what `--decimal` asks for in them: a command that writes estimates takes it
abbrev pub rounded_by : List Word → Option (ℕ × List Word) → Meaning
rounded_by words None = Words words
rounded_by words (Some found) = if writes_estimates found.1 && is_some (request_of found.1) then Rounded found.0 found.1 else Words words

-- what words stand for that are no request
abbrev pub otherwise : List Word → Option Verb → Meaning
otherwise words None = rounded_by (flat_map apart words) (without_decimal (flat_map apart words))
otherwise words (Some verb) = HelpOf verb

-- what words stand for: a request for itself
abbrev pub meaning : List Word → Meaning
meaning words = if is_some (request_of words) then Words words else otherwise words (help_asked words)

-- what was found that words stand for
abbrev pub meaning_of : Typed → Meaning
meaning_of (typed.Words words) = Words (texts_of words.items)
meaning_of (typed.Rounded digits words) = Rounded digits.count (texts_of words.items)
meaning_of (typed.HelpOf verb) = HelpOf verb
