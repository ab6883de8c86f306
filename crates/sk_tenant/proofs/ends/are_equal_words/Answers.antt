use Rattle.std.proofs.Common.{◌≡◌, rules, sym, ap, ◌∙◌, w64}
use Rattle.std.specs.Int.{to_le_bytes}
use Rattle.std.proofs.lemmas.Bool.{eqb-true}
use Rattle.std.proofs.lemmas.Nat.{le_bytes_8}
use Rattle.sk_tenant.proofs.ends.are_equal_words.Goals as goal

-- each is the eight bytes of its number
pub returns : goal.returns
returns c = λ passes.
    let same : c.from_le_bytes.result ≡ c.from_le_bytes-2.result = eqb-true c.from_le_bytes.result c.from_le_bytes-2.result passes in
    sym (le_bytes_8 c.args.a c.from_le_bytes.result (search rules) (search rules) c.from_le_bytes.ensures)
    ∙ ap (to_le_bytes w64) same
    ∙ le_bytes_8 c.args.b c.from_le_bytes-2.result (search rules) (search rules) c.from_le_bytes-2.ensures
