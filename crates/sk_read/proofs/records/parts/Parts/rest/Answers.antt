use Rattle.std.proofs.Common.{◌≡◌, ℕ, List, subst, sym}
use Rattle.csv.specs.Reading.{strip_bom}
use Rattle.sk_read.proofs.PartLaws.{led_plain}
use Rattle.sk_read.proofs.records.parts.Parts.rest.Goals as goal

pub returns-clause-plain : goal.returns-clause-plain
returns-clause-plain c =
    let has = c.requires.2 in
    subst (λ (l : List ℕ). strip_bom l ≡ l) (sym c.deref.ensures.value) (led_plain c.args.self.now.bytes.items has.led)
