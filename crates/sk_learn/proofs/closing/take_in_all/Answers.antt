use Rattle.std.proofs.Common.{◌≡◌, ◌++◌, ◌∷◌, [], sym, ap, ◌∙◌, append_assoc}
use Rattle.sk_learn.proofs.ClosingLaws.{one_counted, of_rest, next_taken, stopped_early}
use Rattle.sk_learn.proofs.closing.take_in_all.Goals as goal

pub take_in_first-requires-clause-table : goal.take_in_first-requires-clause-table
take_in_first-requires-clause-table g c =
    let inv = c.updater.invariant in
    λ i d within. of_rest (λ u. u.table ≡ c.args.heart.now.table) inv.taken c.updater.updaters.items c.args.updaters.now.items inv.all c.requires.table i d within ∙ sym inv.takes.table

pub returns-in_err-kept-clause-early : goal.returns-in_err-kept-clause-early
returns-in_err-kept-clause-early g c =
    let inv = c.updater.invariant in
    stopped_early c.from_residual.result c.args.heart.now c.updater.heart c.take_in_first.new.heart c.args.updaters.now.items c.updater.updaters.items c.take_in_first.new.updaters.items inv.taken
    c.args.reader.now c.updater.reader c.take_in_first.new.reader c.args.taken.now c.updater.taken inv.all inv.takes inv.count c.in_err-kept.ensures.back c.in_err-kept.ensures.reader

pub updater-preserved : goal.updater-preserved
updater-preserved g c =
    let inv = c.updater.invariant in let first = c.in_ok-kept.ensures.taken in record {
      taken = inv.taken ++ first.first ∷ [];
      all = append_assoc inv.taken (first.first ∷ []) c.take_in_first.new.updaters.items ∙ ap (λ l. inv.taken ++ l) (sym first.all) ∙ inv.all;
      takes = next_taken c.args.heart.now c.updater.heart c.take_in_first.new.heart c.args.updaters.now.items c.updater.updaters.items c.take_in_first.new.updaters.items inv.taken c.args.reader.now c.updater.reader c.take_in_first.new.reader c.in_ok-kept.kept c.requires.apart inv.all inv.takes first;
      count = one_counted c.args.taken.now c.updater.taken c.saturating_add.result c.in_ok-kept.kept inv.taken first.first inv.count first.count c.saturating_add.ensures;
    }
