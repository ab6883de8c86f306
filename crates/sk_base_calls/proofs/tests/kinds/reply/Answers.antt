use Rattle.std.proofs.Common.{ap, sym, ◌∙◌, ℕ}
use Rattle.sk_model.specs.Entries.{items_of_entries}
use Rattle.sk_model.specs.Sketch.{packed_of, unpacked}
use Rattle.sk_compose.specs.Numbers.{k_of}
use Rattle.sk_base_calls.proofs.tests.kinds.reply.Goals as goal

pub returns : goal.returns
returns g c = λ list is.
    let numbers = g.C.Composable.numbers c.args.sketch.now in
    c.unpack.ensures.value
    ∙ ap (unpacked c.k.result) (c.packed.ensures.value list is ∙ g.met.C.ThetaWord.packed_is numbers list)
    ∙ ap (λ (k : ℕ). unpacked k (packed_of (k_of numbers) (items_of_entries list))) (sym (ap k_of c.k.ensures.value))
