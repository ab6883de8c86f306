use Rattle.std.proofs.Common.{◌≡◌, ◌-◌, ℕ, List, length, take, drop, ap, subst, arith, length-drop}
use Rattle.std.proofs.lemmas.List.{take_all}
use Rattle.sk_read.specs.Scan.{state_of, IsCut}
use Rattle.sk_read.proofs.records.scan.scan_next.Goals as goal

-- the bytes from a place on
rest : (at : ℕ) (bytes : List ℕ) → take (length bytes - at) (drop at bytes) ≡ drop at bytes
rest at bytes = take_all (length bytes - at) (drop at bytes) (omega (arith, length-drop at bytes))

pub returns-clause-cut : goal.returns-clause-cut
returns-clause-cut c =
    let found = c.scan_run.result in
    subst (λ (l : List ℕ). IsCut (state_of c.args.start) (take found.2 l) (state_of found.0) found.1) (rest c.args.at c.args.bytes.now) c.scan_run.ensures.cut

pub returns-clause-len : goal.returns-clause-len
returns-clause-len c = omega (arith, c.requires, c.scan_run.ensures.len, ap length (rest c.args.at c.args.bytes.now), length-drop c.args.at c.args.bytes.now)
