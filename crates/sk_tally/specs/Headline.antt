-- The headline: what a tally that ends well has written of its lines, in every interleaving of its threads; and its ends.
use Rattle.std.specs.Prelude.{◌≡◌, ℕ, List, [], ◌∷◌, ◌++◌, Result, MatchResult}
use Rattle.std.specs.Io.KnownBytes.{Appends}
use Rattle.sk_model.specs.Entries.{Entry}
use Rattle.sk_read.specs.Items.{items_by}
use Rattle.sk_read.specs.declared.fault.Fault.{Fault}
use Rattle.sk_read.specs.declared.kind.Kind.TheVariants.{Hash}
use Rattle.sk_tell.specs.Texts.{interim_text}
use Rattle.sk_tell.specs.Feeding.{Course}
use Rattle.sk_tell.specs.Headline.{IsListOf, Goes}
use Rattle.sk_tell.specs.Endings.{Setting, ReadsUnits, EndsAt}
use Rattle.sk_tally.specs.declared.plan.Plan.{Plan}
use Rattle.sk_tally.specs.Plans.{tally_manner, tally_line}

pub record TalliesAll (plan : Plan) (lines : List (List ℕ)) (text : List ℕ) : Type 0 where
  -- the lines are full windows and a rest, with a moment after each window if one is asked for: its list lacks at most
  -- the last two buffers of each updater's share, and begins that of the next
  pub course : Course (tally_manner plan) lines
  -- all these lists begin one list, which has of each updater exactly the items of its blocks
  pub list : List Entry
  pub has_all : IsListOf (tally_manner plan) (course.windows ++ course.rest ∷ []) list
  pub goes : Goes course.moments list
  -- it wrote the tally in each moment's list, and last that in the items of all lines
  pub written : text ≡ interim_text (tally_manner plan) course.moments ++ tally_line plan (items_by (Hash plan.seed) lines)

-- the headline of these lines is so of the text that was written
pub record WritesTally (plan : Plan) (old new : Setting) (lines : List (List ℕ)) : Type 0 where
  pub text : List ℕ
  pub written : Appends old.written new.written text
  pub tallies : TalliesAll plan lines text

-- how a tally went over a source whose last read gave this many bytes
abbrev pub Tallies : Plan → ℕ → ℕ → Setting → Setting → Result (Unit {0}) Fault → Type 0
Tallies plan last most old new result = MatchResult result
    (λ _. ReadsUnits plan.column most (WritesTally plan old new) old.left new.left)
    (λ fault. EndsAt (tally_manner plan) last most old new fault)
