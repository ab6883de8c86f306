use Rattle.std.proofs.Common.{◌≡◌, ℕ, ◌∙◌, refl, subst, ap, OnOk, IsErrOf}
use Rattle.std.specs.Io.KnownBytes.{Appends}
use Rattle.sk_model.specs.Causes.{AppendsPart}
use Rattle.sk_model.specs.Sketch.{k_smallest}
use Rattle.sk_image.specs.Images.{text_of}
use Rattle.sk_image.specs.Versions.{newest_version}
use Rattle.sk_read.specs.Items.{Gave, Missed}
use Rattle.sk_read.specs.Reads.{ReadsAll, Ends as ReadingEnds}
use Rattle.sk_read.specs.Units.{units_by}
use Rattle.sk_read.specs.declared.items.Intake.{Intake}
use Rattle.sk_theta.specs.Kept.{StandsFor}
use Rattle.sk_cli.specs.Outside.{Streams, streams_of}
use Rattle.sk_cli.specs.Told.{items_of_text}
use Rattle.sk_cli.specs.commands.Image.{imaging, image_of}
use Rattle.sk_cli.specs.declared.fault.Fault.TheVariants as fault
use Rattle.sk_cli.proofs.Endings.{ends_by, nothing_yet}
use Rattle.sk_cli.proofs.ToldItems.{telling_failed, telling_wrote, one_number}
use Rattle.sk_cli.proofs.commands.image.image.Goals as goal

pub returns-in_err-sketch-clause-done : goal.returns-in_err-sketch-clause-done
returns-in_err-sketch-clause-done g c = λ from to.
    let a : Streams = streams_of g.S.Source g.O.Sink c.args.source.now c.args.out.now in
    ends_by (imaging c.args.plan.now) c.args.most from to a a _ fault.OutOfMemory c.from_residual.ensures.1 (nothing_yet (imaging c.args.plan.now) c.args.most from to a _ (λ text. refl))

pub returns-in-Ok-clause-done : goal.returns-in-Ok-clause-done
returns-in-Ok-clause-done g c = λ from to.
    let plan = c.args.plan.now in
    let a : Streams = streams_of g.S.Source g.O.Sink c.args.source.now c.args.out.now in
    let b : Streams = streams_of g.S.Source g.O.Sink c.read_items.new.source c.write_sketch.new.out in
    let sketch = c.read_items.new.taker in
    let all = subst (λ (i : Intake). ReadsAll (units_by i.column) i.most c.in-Ok._units (Gave i.kind (StandsFor sketch)) a.left b.left) c.of_items-intake.ensures c.in-Ok.ensures.read in
    let k : sketch.k ≡ plan.what.k = one_number sketch.k c.in_ok-sketch.sketch.k c.read_items.ensures.numbers ∙ c.in_ok-sketch.ensures.numbers in
    let items = items_of_text plan.what.kind plan.what.column all.taken in
    let r = c.write_sketch.result in
    telling_wrote plan.what.kind plan.what.column (image_of plan) c.args.most from to a b (StandsFor sketch) c.in-Ok._units all r
    (subst (λ (n : ℕ). OnOk r (Appends a.written b.written (text_of newest_version n plan.seed (k_smallest n items)))) k (c.write_sketch.ensures.ok items all.gave.1))
    (subst (λ (n : ℕ). IsErrOf r fault.WriteFault → AppendsPart a.written b.written (text_of newest_version n plan.seed (k_smallest n items))) k (c.write_sketch.ensures.part items all.gave.1))
    (λ none. ap (λ o. g.O.Sink.written o) (c.write_sketch.ensures.memory none)) c.write_sketch.ensures.err

pub returns-clause-done : goal.returns-clause-done
returns-clause-done g c = λ from to.
    let plan = c.args.plan.now in
    let a : Streams = streams_of g.S.Source g.O.Sink c.args.source.now c.args.out.now in
    let b : Streams = streams_of g.S.Source g.O.Sink c.read_items.new.source c.args.out.now in
    let sketch = c.read_items.new.taker in
    let ends = subst (λ (i : Intake). ReadingEnds b.last (units_by i.column) i.most (Gave i.kind (StandsFor sketch)) (Missed i.kind (StandsFor sketch)) a.left b.left c.in-Err.fault) c.of_items-intake.ensures c.in-Err.ensures.read in
    telling_failed plan.what.kind plan.what.column (image_of plan) c.args.most from to a b (StandsFor sketch) c.in-Err.fault c.of_reading.result c.of_reading.ensures ends refl
