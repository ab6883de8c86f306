use Rattle.std.proofs.Common.{◌≡◌, ◌+◌, ◌-◌, ℕ, List, take, drop, ap, ◌∙◌, arith}
use Rattle.std.proofs.lemmas.List.{take-take}
use Rattle.sk_tenant.proofs.Clearing.{masked, word_size, word_bytes, word_in}
use Rattle.sk_tenant.proofs.ends.cleared.Goals as goal

pub returns : goal.returns
returns c n few by =
    let text : List ℕ = c.args.text.now in
    let word : List ℕ = c.in-Some.word.now in
    let is : word ≡ take 8 (drop c.args.at text) = c.in-Some.ensures.cases.same ∙ take-take 8 (c.args.at + 8 - c.args.at) (drop c.args.at text) (omega arith) in
    ap (take n) c.to_le_bytes.ensures
    ∙ masked word c.from_le_bytes.result c.args.mask n (word_size text word c.args.at c.requires is) (word_bytes text word c.args.at c.requires is (λ i. (c.type_inv.text i).fits)) c.from_le_bytes.ensures few by
    ∙ word_in text word c.args.at c.requires is n few
