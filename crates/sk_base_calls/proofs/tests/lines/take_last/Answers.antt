use Rattle.std.proofs.Common.{◌≡◌, ℕ, List, refl, sym, ◌∙◌, subst, map}
use Rattle.sk_model.specs.Lines.{lines_of}
use Rattle.sk_lines.specs.Cutter.{IsLongAfter}
use Rattle.sk_base_calls.proofs.tests.lines.take_last.Goals as goal

pub returns-in-Long-clause-long : goal.returns-in-Long-clause-long
returns-in-Long-clause-long c =
    λ n is text follows.
    let same : c.in-Long.n ≡ n = cc in
    let given : List (List ℕ) = map (λ line. line.items) c.args.all.now.items in
    (given, subst (λ (m : ℕ). IsLongAfter c.args.lines.now.limit m given (lines_of text)) same (c.in-Long.ensures.long c.in-Long.n refl given text follows))

pub returns-in_ok-keep_line-in-Line-clause-lines : goal.returns-in_ok-keep_line-in-Line-clause-lines
returns-in_ok-keep_line-in-Line-clause-lines c =
    λ text follows. (c.in-Line.ensures.line refl).lines _ text follows ∙ sym c.in_ok-keep_line-in-Line.ensures
