use Rattle.std.proofs.Common.{ℕ, ◌+◌, List, [], ◌∷◌, refl, ◌∙◌, subst}
use Rattle.csv.specs.declared.parser.State.TheVariants as st
use Rattle.sk_read.specs.declared.records.parts.Parts.{Parts}
use Rattle.sk_read.specs.Scan.{state_of, IsCut}
use Rattle.sk_read.proofs.PartLaws.{started, behind_is}
use Rattle.sk_read.proofs.records.parts.Parts.settle.Goals as goal

pub returns-clause-takes : goal.returns-clause-takes
returns-clause-takes c = λ taken has.
    let dropped = c.drop_mark.ensures 10 taken has.bytes in
    let held = dropped.0 in
    let new : Parts = record {
      bytes = c.drop_mark.new.bytes;
      cut = 1 + c.scan-place.result.1;
      place = c.scan-place.result.0;
      piece = c.args.self.now.piece;
      taken = c.args.self.now.taken;
      last = c.args.self.now.last;
      most = c.args.self.now.most;
      ended = c.args.self.now.ended;
    } in
    let rest = behind_is 1 c.deref.result.now (10 ∷ []) held refl (c.deref.ensures.value ∙ dropped.1) in
    let cut : IsCut st.StartRecord held (state_of c.scan-place.result.0) c.scan-place.result.1 =
    subst (λ (l : List ℕ). IsCut st.StartRecord l (state_of c.scan-place.result.0) c.scan-place.result.1) rest c.scan-place.ensures.cut in
    started c.args.self.now new taken held c.scan-place.result.1 has dropped.2 dropped.1 cut refl refl refl refl
