use Rattle.std.proofs.Common.{◌≡◌, ◌++◌, ◌∷◌, [], sym, ap, ◌∙◌, append_assoc}
use Rattle.sk_feed.proofs.Drained.{one_more, next_has}
use Rattle.sk_feed.proofs.drain.take_in_all.Goals as goal

pub drain-requires : goal.drain-requires
drain-requires g c =
    let all = ap (λ l. c.updater.yielded ++ l) (sym c.in-Some.ensures.steps.0) ∙ c.updater.invariant.all in
    record { table = next_has (λ i u. u.table ≡ c.args.heart.now.table) c.args.updaters.items c.updater.yielded c.next.new.self.rest.items c.in-Some.updater all c.requires.table ∙ sym c.updater.invariant.drained.table }

pub updater-preserved : goal.updater-preserved
updater-preserved g c =
    let all = ap (λ l. c.updater.yielded ++ l) (sym c.in-Some.ensures.steps.0) ∙ c.updater.invariant.all in
    let number = next_has (λ i u. u.number ≡ i) c.args.updaters.items c.updater.yielded c.next.new.self.rest.items c.in-Some.updater all c.requires.numbers in
    record {
      drained = one_more c.args.heart.now c.updater.heart c.drain.new.self c.updater.yielded c.in-Some.updater c.updater.invariant.drained number (c.drain.ensures.drained c.in-Drained.is);
      all = append_assoc c.updater.yielded (c.in-Some.updater ∷ []) c.next.new.self.rest.items ∙ all;
    }
