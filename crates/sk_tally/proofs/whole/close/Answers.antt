use Rattle.std.proofs.Common.{List, length, flat_map, sym, ap, ◌∙◌}
use Rattle.sk_hub.specs.Updaters.{UpdaterState, kept_of}
use Rattle.sk_tally.proofs.WholeLaws.{as_many_kept}
use Rattle.sk_tally.proofs.whole.close.Goals as goal

pub drain_all-requires-clause-table : goal.drain_all-requires-clause-table
drain_all-requires-clause-table g c = λ i d within. (c.requires.hub.updaters i d within).table

pub drain_all-requires-clause-numbers : goal.drain_all-requires-clause-numbers
drain_all-requires-clause-numbers g c = λ i d within. (c.requires.hub.updaters i d within).number

pub returns : goal.returns
returns g c =
    let heart = c.drain_all.new.heart in
    let has = c.in_ok-least.ensures.seen in
    record {
      list = heart.view.seen;
      has_all = has;
      count = c.count_kept-n.ensures ∙ ap (λ (us : List UpdaterState). length (flat_map (λ u. kept_of u) us)) c.as_slice.ensures.value ∙ sym (as_many_kept heart.view.seen _ has);
      value = c.in_ok-least.ensures.word;
    }
