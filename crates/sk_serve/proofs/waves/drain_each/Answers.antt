use Rattle.std.proofs.Common.{◌≡◌, ◌++◌, ◌∷◌, [], sym, ap, subst, refl, ◌∙◌, append_assoc}
use Rattle.sk_serve.specs.Waves.{DrainsFrom}
use Rattle.sk_serve.proofs.Each.{each_next, nothing_left}
use Rattle.sk_serve.proofs.Draining.{one_drained}
use Rattle.sk_serve.proofs.waves.drain_each.Goals as goal

pub updater-preserved : goal.updater-preserved
updater-preserved g c =
    let i = c.updater.invariant in let u = c.in-Some.updater in
    let all = ap (λ l. c.updater.yielded ++ l) (sym c.in-Some.ensures.steps.0) ∙ i.all in
    let d = c.in-Drained.ensures.drained refl in
    record {
      all = append_assoc c.updater.yielded (u ∷ []) c.next.new.self.rest.items ∙ all;
      table = ap (λ z. z.table) d.stays ∙ i.table;
      drained = λ from are. one_drained from c.args.heart.now c.updater.heart c.drain.new.self c.updater.yielded u (i.drained from are)
          (each_next (λ n v. v.number ≡ n) from c.args.updaters.items c.updater.yielded c.next.new.self.rest.items u all are.numbers) d;
    }

pub returns : goal.returns
returns g c = record {
  drained = λ from are. subst (λ l. DrainsFrom from c.args.heart.now l c.updater.heart)
      (nothing_left c.updater.yielded c.updater.updater-iterator.rest.items c.args.updaters.items c.updater.invariant.all (sym c.updater.updater-iterator.rest.ok.0 ∙ c.in-None.ensures.steps.0))
      (c.updater.invariant.drained from are);
}
