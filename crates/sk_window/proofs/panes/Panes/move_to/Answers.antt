use Rattle.std.proofs.Common.{◌≡◌, ◌+◌, ℕ, ◌∷◌, [], sym, ap, ◌∙◌}
use Rattle.sk_hub.specs.Hearts.{HeartState}
use Rattle.sk_snap.specs.History.{name_of}
use Rattle.sk_snap.specs.Versions.{Learnt}
use Rattle.sk_window.specs.Panes.{PanesState}
use Rattle.sk_window.proofs.panes.Panes.move_to.Goals as goal

pub invariant_of-self : goal.invariant_of-self
invariant_of-self g c =
    let inv = c.self.invariant.0 in
    let fresh = c.requires.fresh in
    let heart : c.replace-heart.new.dest ≡ c.args.next.heart = c.replace-heart.ensures.after in
    let reader : c.replace-reader.new.dest ≡ c.args.next.reader = c.replace-reader.ensures.after in (
      record {
        frame_is = inv.frame_is;
        name = ap (λ (h : HeartState). h.view.name) heart ∙ fresh.name ∙ ap (λ (r : Learnt). name_of r.known.book) (sym reader);
        numbers = ap (λ (r : Learnt). r.numbers) reader ∙ fresh.numbers ∙ ap (λ (p : PanesState). p.shape.k ∷ []) (sym c.self.view_is);
        count = ap (λ (n : ℕ). n + 1) c.skip.ensures.count ∙ inv.count;
        same_k = c.skip.ensures.same_k c.self.inside.shape.k inv.same_k;
      },
      c.skip.ensures.capacity ∙ c.self.invariant.1 ∙ sym c.skip.ensures.count,
      c.self.invariant.2,
      c.self.invariant.3,
    )
