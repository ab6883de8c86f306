use Rattle.std.proofs.Common.{◌<◌, ◌≤◌, inl, inr, ⊎_elim, arith}
use Rattle.std.proofs.lemmas.Bool.{cases_lt}
use Rattle.sk_lines.proofs.Ends.{fewer_ends}
use Rattle.sk_lines.proofs.group.cut_group.Goals as goal

pub cut_lines-requires-clause-ends : goal.cut_lines-requires-clause-ends
cut_lines-requires-clause-ends c = fewer_ends c.args.bytes.now c.args.from c.min-found.result c.find_ends.result c.find_ends.new.spans (omega (arith, c.min-found.ensures)) c.find_ends.ensures.ends

pub returns-clause-none : goal.returns-clause-none
returns-clause-none c = λ none wanted. ⊎_elim
    (λ (some : 0 < c.min-found.result). inl (c.cut_lines.ensures.long (omega (arith, none, some))))
    (λ (no : c.min-found.result ≤ 0). inr (c.find_ends.ensures.none (omega (arith, c.min-found.ensures, wanted, no))))
    (cases_lt 0 c.min-found.result)
