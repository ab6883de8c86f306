use Rattle.std.proofs.Common.{◌<◌, ◌≤◌, ◌≡◌, length, get_or, sym, ◌∙◌, arith}
use Rattle.std.proofs.lemmas.List.{get_or_default}
use Rattle.sk_model.proofs.Rising.{placed-insert, placed-there}
use Rattle.sk_model.proofs.plain.place.Goals as goal
use Rattle.sk_model.proofs.plain.place.Goals.{else-at-len-via-then-at-len+else-index-hash, else-at-len-via-else-at-len}

pub returns-then-index-hash : goal.returns-then-index-hash
returns-then-index-hash c =
    let xs = c.args.kept.now.items in
    let at = c.place_of-at.result in
    let inside : at < length xs = omega arith in
    let is : get_or xs at 0 ≡ c.args.hash = get_or_default xs at 0 c.index.result.now inside ∙ sym c.index.ensures ∙ c.if-index-hash.true in
    sym (placed-there c.args.hash xs at inside (rw c.as_slice.ensures.value at c.place_of-at.ensures.below) is)

pub returns : goal.returns
returns c =
    let xs = c.args.kept.now.items in
    let at = c.place_of-at.result in
    let least : at < length xs → c.args.hash ≤ get_or xs at 0 = rw c.as_slice.ensures.value at c.place_of-at.ensures.above in
    let within : at ≤ length xs = rw c.as_slice.ensures.value at c.place_of-at.ensures.within in
    let above : at < length xs → c.args.hash < get_or xs at 0 = λ inside. elim c.else-at-len.branch [
      | else-at-len-via-then-at-len+else-index-hash w ↦
          omega (arith, least inside, w.index.ensures, get_or_default xs at 0 w.index.result.now inside, w.if-index-hash.false)
      | else-at-len-via-else-at-len w ↦ omega arith
    ] in
    c.in_ok-insert.ensures.items
    ∙ sym (placed-insert c.args.hash xs at within (rw c.as_slice.ensures.value at c.place_of-at.ensures.below) above)
