use Rattle.std.proofs.Common.{◌≡◌, ℕ, List, take, subst, sym}
use Rattle.csv.specs.Reading.{strip_bom}
use Rattle.sk_read.proofs.PartLaws.{led_plain, led_front}
use Rattle.sk_read.proofs.records.parts.Parts.whole.Goals as goal

pub returns-clause-plain : goal.returns-clause-plain
returns-clause-plain c =
    let has = c.requires.2 in
    let cut = c.args.self.now.cut in
    subst (λ (l : List ℕ). strip_bom (take cut l) ≡ take cut l) (sym c.deref.ensures.value) (led_plain (take cut c.args.self.now.bytes.items) (led_front cut c.args.self.now.bytes.items has.some has.led))
