use Rattle.std.proofs.Common.{ℕ, List, length, sym, ap, subst, arith}
use Rattle.sk_fill.specs.Pages.{IsEven}
use Rattle.sk_fill.proofs.PageText.{page_of, text_of}
use Rattle.sk_fill.proofs.page.Page.take_front.Goals as goal

pub invariant_of-self-2 : goal.invariant_of-self-2
invariant_of-self-2 c =
    let front : List ℕ = c.args.reader.now.cutter.front in
    let count = c.args.count in
    let items = c.swap.new.other.items in (
      page_of items front c.clear.new.self.items count c.swap.ensures.given c.requires.run (λ k d below. absurd (omega (arith, below, ap length c.clear.ensures.items))),
      subst (IsEven c.args.each count) (sym (text_of items front c.swap.ensures.given)) c.requires.even,
    )
