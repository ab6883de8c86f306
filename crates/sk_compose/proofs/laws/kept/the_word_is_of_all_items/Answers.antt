use Rattle.std.proofs.Common.{◌∙◌, flat_map}
use Rattle.std.specs.List.{range_with_len}
use Rattle.sk_model.specs.Entries.{items_of_entries}
use Rattle.sk_compose.specs.Numbers.{k_of}
use Rattle.sk_compose.proofs.Smallest.{smallest_of_all, same_word}
use Rattle.sk_compose.proofs.laws.kept.the_word_is_of_all_items.Goals as goal

pub returns : goal.returns
returns g c = λ numbers list n items below small kept.
    g.met.C.ThetaWord.packed_is numbers list
    ∙ same_word (k_of numbers) (items_of_entries list) (flat_map items (range_with_len 0 n))
    (smallest_of_all (k_of numbers) g.C.Composable.keeps_of (g.C.Composable.hint_of numbers) list n items g.met.C.ThetaWord.keeps_is (g.met.C.ThetaWord.hint_is numbers) below small kept)
