-- The records of a text from a place within a record on.
use Rattle.std.specs.Prelude.{ℕ, List, [], ◌∷◌, ◌++◌, if◌then◌else◌}
use Rattle.csv.specs.Machine.{step, is_end, ends_at_end, fields_after, field_after}
use Rattle.csv.specs.Reading.{default_config}
use Rattle.csv.specs.declared.parser.State.{State}
use Rattle.sk_read.specs.Records.{Row}

-- the records of a text from a state, with the fields and the bytes of the field at hand
unfoldable pub run : State → Row → List ℕ → List ℕ → List Row
run s fields field [] = if ends_at_end s then (fields ++ (field ∷ [])) ∷ [] else []
run s fields field (c ∷ rest) =
    if is_end (step default_config s c).1 then fields_after (step default_config s c).1 fields field ∷ run (step default_config s c).0 [] [] rest
    else run (step default_config s c).0 (fields_after (step default_config s c).1 fields field) (field_after (step default_config s c).1 c field) rest
