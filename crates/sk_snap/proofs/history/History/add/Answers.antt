use Rattle.std.proofs.Common.{◌≡◌, ap, ◌∙◌, length, length-append, List, ◌++◌, ◌∷◌, [], arith, refl, ◌+◌}
use Rattle.sk_model.specs.Entries.{Entry, tagged}
use Rattle.sk_snap.specs.History.{joined}
use Rattle.sk_snap.proofs.Versions.{count_more}
use Rattle.sk_snap.proofs.history.History.add.Goals as goal

pub invariant_of-result : goal.invariant_of-result
invariant_of-result c =
    let before = c.known.inside.seen.log in
    let batch : List Entry = tagged c.args.from c.args.items.now in
    let log : c.adds.new.seen.log ≡ before ++ batch ∷ [] =
    c.if-not-adds.ensures.added refl ∙ ap (λ s. s.log ++ batch ∷ []) c.again-seen.ensures in
    let turns : length c.adds.new.seen.log ≡ length before + 1 = ap (λ (l : List (List Entry)). length l) log ∙ length-append before (batch ∷ []) in
    let count : length (joined c.adds.new.seen.log) ≡ length (joined before) + length c.args.items.now =
    ap (λ (l : List (List Entry)). length (joined l)) log ∙ count_more before c.args.from c.args.items.now in (
      omega (arith, turns, c.known.invariant.0),
      omega (arith, count, c.known.invariant.1),
    )
