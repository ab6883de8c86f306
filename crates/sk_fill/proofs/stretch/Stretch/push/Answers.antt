use Rattle.std.proofs.Common.{◌≡◌, ◌+◌, ◌∷◌, All, List, length, take, drop, map, refl, sym, ap, ◌∙◌, subst, arith}
use Rattle.std.proofs.lemmas.List.Edits.{length-insert}
use Rattle.std.proofs.lemmas.List.Elements.{All-append, All-cons, All-drop, All-take}
use Rattle.sk_fill.specs.declared.window.Window.{Window}
use Rattle.sk_fill.proofs.StretchLaws.{window_pushed, counted_more}
use Rattle.sk_fill.proofs.stretch.Stretch.push.Goals as goal

pub invariant_of-self-2 : goal.invariant_of-self-2
invariant_of-self-2 c =
    let a = c.self.inside in
    let old : List Window = a.windows.items in
    let kept = c.self.invariant in
    let same = λ (w : Window). w.most ≡ a.most in
    let its : c.args.window.most ≡ a.most = c.requires.most ∙ ap (λ b. b.most) (sym c.self.view_is) in (
      omega (arith, ap (λ (l : List Window). length l) c.in_ok-insert.ensures.items, length-insert old a.used c.args.window kept.0, kept.0),
      kept.1,
      kept.2,
      subst (All same) (sym c.in_ok-insert.ensures.items) (All-append same (take a.used old) (c.args.window ∷ drop a.used old) (All-take same a.used old kept.3) (All-cons same c.args.window (drop a.used old) its (All-drop same a.used old kept.3))),
      counted_more a.lines a.size c.len.result c.size.result c.saturating_add-lines.result c.saturating_add-size.result (map (λ w. w.lines) (take a.used old)) (map (λ w. w.lines) (take (a.used + 1) c.insert.new.self.items)) c.args.window.lines kept.4
          (ap (λ ws. map (λ w. w.lines) (take (a.used + 1) ws)) c.in_ok-insert.ensures.items ∙ window_pushed old a.used c.args.window (map (λ w. w.lines) (take a.used old)) kept.0 refl) c.len.ensures.value c.size.ensures.least c.saturating_add-lines.ensures c.saturating_add-size.ensures,
    )

pub returns-clause-windows : goal.returns-clause-windows
returns-clause-windows c =
    let used = c.self.inside.used in
    ap (λ ws. map (λ w. w.lines) (take (used + 1) ws)) c.in_ok-insert.ensures.items ∙ window_pushed c.self.inside.windows.items used c.args.window c.args.self.now.windows c.self.invariant.0 (ap (λ b. b.windows) c.self.view_is)
