use Rattle.std.proofs.Common.{ap, sym, subst, ◌∙◌}
use Rattle.sk_model.specs.Missing.{Begins}
use Rattle.sk_hub.specs.Updaters.{base_of}
use Rattle.sk_hub_calls.proofs.tests.hub.callers.update_or_idle.Goals as goal

pub returns : goal.returns
returns g c = let k = g.C.Composable in let u = c.args.u.now in let front = base_of u in record {
  idle = λ is. let same = c.update.ensures.unchanged is in (
    front,
    subst (λ z. Begins front z.view.seen) (sym same) c.number-number.ensures.whole.view.based,
    ap (λ z. k.keeps_of (k.hint_of z.view.numbers front) c.args.item) same ∙ c.update.ensures.idle is,
  );
}
