use Rattle.std.proofs.Common.{◌≡◌, ◌≤◌, ◌+◌, ℕ, List, [], ◌∷◌, ◌++◌, length, map, Option, None, Some, IsSome, refl, subst, arith}
use Rattle.std.proofs.lemmas.Result.{MatchResult-at_err, MatchResult-weaker}
use Rattle.std.specs.Option.{option_to_list}
use Rattle.sk_model.specs.Missing.{Begins}
use Rattle.sk_read.specs.declared.fault.Fault.TheVariants as fault
use Rattle.sk_read.specs.Units.{units_of, IsSoundUpTo}
use Rattle.sk_read.proofs.LineEnds.{settled_so, settled_told}
use Rattle.sk_text_calls.proofs.tests.read.read_one.Goals as goal

-- the one unit whose length was kept
one_given : (len : Option ℕ) (units : List (List ℕ)) → IsSome len → map length units ≡ option_to_list len → (first : List ℕ) × (units ≡ first ∷ []) × (len ≡ Some (length first))
one_given None units some is = cc
one_given (Some n) [] some is = cc
one_given (Some n) (first ∷ []) some is = (first, refl, cc)
one_given (Some n) (first ∷ second ∷ units) some is = cc

at_most_one : (len : Option ℕ) (units : List (List ℕ)) → map length units ≡ option_to_list len → length units ≤ 1
at_most_one len [] is = omega arith
at_most_one len (first ∷ []) is = omega arith
at_most_one None (first ∷ second ∷ units) is = cc
at_most_one (Some n) (first ∷ second ∷ units) is = cc

pub returns-clause-stopped : goal.returns-clause-stopped
returns-clause-stopped g c = λ is.
    let units = c.args.units in
    let at = MatchResult-at_err _ _ fault.WriteFault is c.read_units.ensures.read in
    let off = at.1 in
    let known = off.known c.requires in
    let one = one_given c.read_units.new.taker.0 off.given known.1 known.2 in
    let Found : List ℕ → Type 0 = λ text. Begins off.given (units_of units text) × (Begins (off.given ++ at.0 ∷ []) (units_of units text) × IsSoundUpTo units (length off.given + 1) text) in
    let Wanted : List ℕ → Type 0 = λ text. (first : List ℕ) × (second : List ℕ) × Begins (first ∷ second ∷ []) (units_of units text) × (c.read_units.new.taker.0 ≡ Some (length first)) in
    settled_told Wanted (g.S.Source.left c.args.source.now) (g.S.Source.left c.read_units.new.source) off.taken off.consumed
    (settled_so Found Wanted (g.S.Source.left c.read_units.new.source) off.taken (λ text found.
    (one.0, at.0, subst (λ (given : List (List ℕ)). Begins (given ++ at.0 ∷ []) (units_of units text)) one.1 found.1.0, one.2)) off.comes)

pub returns-clause-whole : goal.returns-clause-whole
returns-clause-whole g c = MatchResult-weaker c.read_units.result c.read_units.ensures.read
    (λ n all. omega (arith, all.number, at_most_one c.read_units.new.taker.0 (units_of c.args.units all.taken) (all.gave c.requires))) (λ f ends. tt)
