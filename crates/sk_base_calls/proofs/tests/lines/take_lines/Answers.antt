use Rattle.std.proofs.Common.{◌≡◌, ℕ, List, refl, subst, map}
use Rattle.sk_model.specs.Lines.{open_lines_of}
use Rattle.sk_lines.specs.Cutter.{IsLongAfter}
use Rattle.sk_base_calls.proofs.tests.lines.take_lines.Goals as goal

pub returns-in-Long-clause-long : goal.returns-in-Long-clause-long
returns-in-Long-clause-long c =
    λ n is text follows.
    let same : c.in-Long.n ≡ n = cc in
    let given : List (List ℕ) = map (λ line. line.items) c.lines.all.items in (
      given,
      subst (λ (m : ℕ). IsLongAfter c.args.lines.now.limit m given (open_lines_of text)) same
          (subst (λ (limit : ℕ). IsLongAfter limit c.in-Long.n given (open_lines_of text)) c.lines.invariant.limit
          (c.in-Long.ensures.long c.in-Long.n refl c.lines.invariant.ended given text (c.lines.invariant.follows text follows))),
    )
