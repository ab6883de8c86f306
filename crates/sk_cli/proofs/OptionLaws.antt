-- How the first option of some words parts from those behind it.
use Rattle.std.proofs.Common.{String, Global, length, arith, get_or, ◌≡◌, ◌==◌, ℕ, Bool, true, false, List, [], ◌∷◌, Option, Some, None, IsSome, unwrap_or, refl, sym, ap, ◌∙◌, if◌then◌else◌}
use Rattle.std.specs.Option.{option_map}
use Rattle.std.proofs.lemmas.Bool.Decides.{Decides-eqb}
use Rattle.sk_cli.specs.declared.options.Verb.{Verb}
use Rattle.sk_cli.specs.declared.options.Name.{Name}
use Rattle.sk_cli.specs.Values.{Word}
use Rattle.sk_cli.specs.declared.options.Name.TheVariants.{Alarm, AsImage, At, B, Csv, Eager, File, Item, K, Key, Last, Left, N, Port, Propagator, Raw, Right, Rows, Seed, Sessions, Span, TenantNames, Updaters, Wave, Width, Window}
use Rattle.sk_cli.specs.Options.{Given, texts_of, known, allowed_by, name_of, allows, takes_value, place_of, value_behind, options_of, alone, led}

pub known_is : (verb : Verb) (word : Word) (name : Name) → name_of word ≡ Some name → allows verb name ≡ true → known verb word ≡ Some name
known_is verb word name named allowed = ap (allowed_by verb) named ∙ ap (λ (b : Bool). if b then Some name else None) allowed

pub valued : (verb : Verb) (word next : Word) (words : List Word) (name : Name) → name_of word ≡ Some name → allows verb name ≡ true → takes_value name ≡ true →
    options_of verb (word ∷ next ∷ words) ≡ option_map (λ (given : List Given). (name, next) ∷ given) (options_of verb words)
unfolding options_of
valued verb word next words name named allowed takes =
    ap (λ k. led next k (options_of verb words) (options_of verb (next ∷ words))) (known_is verb word name named allowed)
    ∙ ap (λ (b : Bool). if b then option_map (λ (given : List Given). (name, next) ∷ given) (options_of verb words) else option_map (λ (given : List Given). (name, []) ∷ given) (options_of verb (next ∷ words))) takes

pub flagged : (verb : Verb) (word : Word) (words : List Word) (name : Name) → name_of word ≡ Some name → allows verb name ≡ true → takes_value name ≡ false →
    options_of verb (word ∷ words) ≡ option_map (λ (given : List Given). (name, []) ∷ given) (options_of verb words)
unfolding options_of
flagged verb word [] name named allowed takes =
    ap alone (known_is verb word name named allowed)
    ∙ ap (λ (b : Bool). if b then None else Some ((name, []) ∷ [])) takes
flagged verb word (next ∷ words) name named allowed takes =
    ap (λ k. led next k (options_of verb words) (options_of verb (next ∷ words))) (known_is verb word name named allowed)
    ∙ ap (λ (b : Bool). if b then option_map (λ (given : List Given). (name, next) ∷ given) (options_of verb words) else option_map (λ (given : List Given). (name, []) ∷ given) (options_of verb (next ∷ words))) takes

-- no words spell no options
pub none_left : (verb : Verb) (words : List (String Global)) → length words ≡ 0 → options_of verb (texts_of words) ≡ Some []
unfolding options_of
none_left verb [] empty = refl
none_left verb (word ∷ words) empty = absurd (omega arith)

-- a word that is no name
pub not_named : (verb : Verb) (word : Word) (words : List Word) → name_of word ≡ None → options_of verb (word ∷ words) ≡ None
unfolding options_of
not_named verb word [] none = ap (λ n. alone (allowed_by verb n)) none
not_named verb word (next ∷ words) none = ap (λ n. led next (allowed_by verb n) (options_of verb words) (options_of verb (next ∷ words))) none

-- a name that the command does not have
pub not_allowed : (verb : Verb) (word : Word) (words : List Word) (name : Name) → name_of word ≡ Some name → allows verb name ≡ false → options_of verb (word ∷ words) ≡ None
unfolding options_of
not_allowed verb word [] name named refused = ap alone (ap (allowed_by verb) named ∙ ap (λ (b : Bool). if b then Some name else None) refused)
not_allowed verb word (next ∷ words) name named refused =
    ap (λ k. led next k (options_of verb words) (options_of verb (next ∷ words))) (ap (allowed_by verb) named ∙ ap (λ (b : Bool). if b then Some name else None) refused)

-- names are told apart by their places
abbrev name_at : ℕ → Name
name_at place =
    get_or (Alarm ∷ AsImage ∷ At ∷ B ∷ Csv ∷ Eager ∷ File ∷ Item ∷ K ∷ Key ∷ Last ∷ Left ∷ N ∷ Port ∷ Propagator ∷ Raw ∷ Right ∷ Rows ∷ Seed ∷ Sessions ∷ Span ∷ TenantNames ∷ Updaters ∷ Wave ∷ Width ∷ Window ∷ []) place Window

there_and_back : (name : Name) → name_at (place_of name) ≡ name
there_and_back Alarm = refl
there_and_back AsImage = refl
there_and_back At = refl
there_and_back B = refl
there_and_back Csv = refl
there_and_back Eager = refl
there_and_back File = refl
there_and_back Item = refl
there_and_back K = refl
there_and_back Key = refl
there_and_back Last = refl
there_and_back Left = refl
there_and_back N = refl
there_and_back Port = refl
there_and_back Propagator = refl
there_and_back Raw = refl
there_and_back Right = refl
there_and_back Rows = refl
there_and_back Seed = refl
there_and_back Sessions = refl
there_and_back Span = refl
there_and_back TenantNames = refl
there_and_back Updaters = refl
there_and_back Wave = refl
there_and_back Width = refl
there_and_back Window = refl

other_place : (a b : Name) → (a ≡ b → ⊥) → (place_of a == place_of b) ≡ false
other_place a b differ = by (place_of a == place_of b) refl
  where
    by : (t : Bool) → (place_of a == place_of b) ≡ t → (place_of a == place_of b) ≡ false
    by true same =
        let places : place_of a ≡ place_of b = (Decides-eqb (place_of a) (place_of b)).0 same in
        absurd (differ (sym (there_and_back a) ∙ ap name_at places ∙ there_and_back b))
    by false same = same

-- options behind one are spelled where all are
pub spelled_behind : (first : Given) (o : Option (List Given)) → IsSome (option_map (λ (given : List Given). first ∷ given) o) → IsSome o
spelled_behind first None some = some
spelled_behind first (Some given) some = refl

-- an option of another name is passed over
pub passed_over : (name first : Name) (value : Word) (o : Option (List Given)) → (first ≡ name → ⊥) →
    value_behind name (unwrap_or (option_map (λ (given : List Given). (first, value) ∷ given) o) []) ≡ value_behind name (unwrap_or o [])
passed_over name first value None differ = refl
passed_over name first value (Some given) differ = ap (λ (t : Bool). if t then Some value else value_behind name given) (other_place first name differ)
