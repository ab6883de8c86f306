use Rattle.std.proofs.Common.{◌≡◌, ℕ, Result, Ok, Err, MatchResult, IfOk, IfErr}
use Rattle.sk_model.specs.Sketch.{placed}
use Rattle.sk_theta.specs.Place.{IsPlace}
use Rattle.sk_theta.proofs.Places.{search_tells}
use Rattle.sk_theta.proofs.place.find.Goals as goal

ok_part : (P Q : ℕ → Type 0) (r : Result ℕ ℕ) → MatchResult r P Q → IfOk r P
ok_part P Q (Ok i) h = h
ok_part P Q (Err i) h = tt

err_part : (P Q : ℕ → Type 0) (r : Result ℕ ℕ) → MatchResult r P Q → IfErr r Q
err_part P Q (Ok i) h = tt
err_part P Q (Err i) h = h

pub returns-clause-found : goal.returns-clause-found
returns-clause-found c = ok_part (λ at. placed c.args.hash c.args.kept.now ≡ c.args.kept.now) (λ at. IsPlace c.args.hash c.args.kept.now at) c.binary_search.result (search_tells c.args.hash c.args.kept.now c.binary_search.result c.requires c.binary_search.ensures.position)

pub returns-clause-absent : goal.returns-clause-absent
returns-clause-absent c = err_part (λ at. placed c.args.hash c.args.kept.now ≡ c.args.kept.now) (λ at. IsPlace c.args.hash c.args.kept.now at) c.binary_search.result (search_tells c.args.hash c.args.kept.now c.binary_search.result c.requires c.binary_search.ensures.position)
