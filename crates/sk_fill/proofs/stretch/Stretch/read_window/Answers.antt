use Rattle.std.proofs.Common.{◌≡◌, ◌+◌, [], List, length, map, set, take, All, ◌<◌, true, Ok, refl, sym, ap, ◌∙◌, subst, arith}
use Rattle.std.proofs.lemmas.List.{take-set, length-set}
use Rattle.std.proofs.lemmas.List.Elements.{All-set}
use Rattle.sk_read.specs.declared.fault.Fault.TheVariants as fault
use Rattle.sk_fill.specs.declared.window.Window.{Window}
use Rattle.sk_fill.specs.Stretches.{IsCounted, ReadsWindow}
use Rattle.sk_fill.proofs.StretchLaws.{no_ok, window_filled, window_failed, no_window_read, none_on_err, most_at, window_added, counted_more}
use Rattle.sk_fill.proofs.stretch.Stretch.read_window.Goals as goal

pub returns-in_err-reserve-clause-reads : goal.returns-in_err-reserve-clause-reads
returns-in_err-reserve-clause-reads g c =
    let left = g.S.Source.left c.args.source.now in (
      [],
      none_on_err _ c.from_residual.result (λ e. e ≡ fault.OutOfMemory) c.from_residual.ensures.1,
      subst (λ m. ReadsWindow c.args.kind m [] c.args.reader.now c.args.reader.now left left c.from_residual.result) (ap (λ b. b.most) c.self.view_is)
          (no_window_read c.args.kind c.self.inside.most c.args.reader.now left c.from_residual.result c.from_residual.ensures.1 c.self.invariant.1),
    )

pub returns-in_err-full-clause-reads : goal.returns-in_err-full-clause-reads
returns-in_err-full-clause-reads g c =
    let old = g.S.Source.left c.args.source.now in let new = g.S.Source.left c.fill.new.source in
    let w = c.fill.new.window in let why = c.in_err-full.field-0.0 in let result = c.from_residual-in_err-full.result in
    let most : w.most ≡ c.args.self.now.most = c.fill.ensures.most ∙ c.clear.ensures.most
    ∙ most_at c.reserve.new.windows.items c.self.inside.used c.index_mut-window.result.now c.self.inside.most c.in_ok-reserve.ensures.room c.index_mut-window.ensures.value c.reserve.ensures.each ∙ ap (λ b. b.most) c.self.view_is in (
      w.lines,
      none_on_err _ result (λ e. e ≡ why) c.from_residual-in_err-full.ensures.1,
      subst (λ m. ReadsWindow c.args.kind m w.lines c.args.reader.now c.fill.new.reader old new result) most
          (window_failed c.args.kind w.most w.lines c.args.reader.now c.fill.new.reader old new why result c.from_residual-in_err-full.ensures.1 c.fill.ensures.bound (c.fill.ensures.unfilled (no_ok c.fill.result why true c.in_err-full.was))
          c.fill.ensures.good c.in_err-full.ensures.stopped),
    )

pub returns-clause-reads : goal.returns-clause-reads
returns-clause-reads g c =
    let old = g.S.Source.left c.args.source.now in let new = g.S.Source.left c.fill.new.source in
    let w = c.fill.new.window in let full = c.in_ok-full.full in let fill = c.fill.ensures in
    let most : w.most ≡ c.args.self.now.most = fill.most ∙ c.clear.ensures.most
    ∙ most_at c.reserve.new.windows.items c.self.inside.used c.index_mut-window.result.now c.self.inside.most c.in_ok-reserve.ensures.room c.index_mut-window.ensures.value c.reserve.ensures.each ∙ ap (λ b. b.most) c.self.view_is in (
      w.lines,
      window_added c.self.inside.windows.items c.reserve.new.windows.items c.self.inside.used w c.args.self.now.windows c.in_ok-reserve.ensures.room c.reserve.ensures.same (ap (λ b. b.windows) c.self.view_is),
      subst (λ m. ReadsWindow c.args.kind m w.lines c.args.reader.now c.fill.new.reader old new (Ok full)) most
          (window_filled c.args.kind w.most w.lines c.args.reader.now c.fill.new.reader old new full c.fill.result c.in_ok-full.was fill.full fill.unfilled fill.good fill.last fill.rest fill.end fill.progress fill.bound),
    )

pub invariant_of-self-in_err-full : goal.invariant_of-self-in_err-full
invariant_of-self-in_err-full g c =
    let a = c.self.inside in let kept = c.self.invariant in let ws : List Window = c.reserve.new.windows.items in let w = c.fill.new.window in (
      omega (arith, length-set ws a.used w, c.reserve.ensures.used),
      kept.1,
      kept.2,
      All-set (λ (z : Window). z.most ≡ a.most) ws a.used w (c.fill.ensures.most ∙ c.clear.ensures.most ∙ most_at ws a.used c.index_mut-window.result.now a.most c.in_ok-reserve.ensures.room c.index_mut-window.ensures.value c.reserve.ensures.each) c.reserve.ensures.each,
      subst (λ l. IsCounted a.lines a.size (map (λ z. z.lines) l)) (sym (take-set ws a.used w ∙ c.reserve.ensures.same)) kept.4,
    )

pub invariant_of-self-2 : goal.invariant_of-self-2
invariant_of-self-2 g c =
    let a = c.self.inside in let kept = c.self.invariant in let ws : List Window = c.reserve.new.windows.items in let w = c.fill.new.window in
    let before = map (λ (z : Window). z.lines) (take a.used a.windows.items) in (
      omega (arith, length-set ws a.used w, c.in_ok-reserve.ensures.room),
      kept.1,
      kept.2,
      All-set (λ (z : Window). z.most ≡ a.most) ws a.used w (c.fill.ensures.most ∙ c.clear.ensures.most ∙ most_at ws a.used c.index_mut-window.result.now a.most c.in_ok-reserve.ensures.room c.index_mut-window.ensures.value c.reserve.ensures.each) c.reserve.ensures.each,
      counted_more a.lines a.size c.len.result c.size.result c.saturating_add-self-inside.result c.saturating_add-self-inside-2.result before (map (λ z. z.lines) (take (a.used + 1) (set ws a.used w))) w.lines kept.4
          (window_added a.windows.items ws a.used w before c.in_ok-reserve.ensures.room c.reserve.ensures.same refl) c.len.ensures.value c.size.ensures.least c.saturating_add-self-inside.ensures c.saturating_add-self-inside-2.ensures,
    )
