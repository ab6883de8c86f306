use Rattle.std.proofs.Common.{◌≡◌, ◌<◌, ◌∙◌, length, get_or, sym, ap, arith}
use Rattle.sk_hub.specs.Updaters.{UpdaterState}
use Rattle.sk_tenant.specs.Calls.{Owes, Asks, Helps, theta_word}
use Rattle.sk_tenant.proofs.Done.{same_count, others_stay, it_owes}
use Rattle.uses.proofs.tenants.help_and_ask.Goals as goal

pub ask-requires : goal.ask-requires
ask-requires g c = record { place = omega (arith, same_count c.args.desk.now c.help.new.self c.args.t (Helps c.help.result) c.help.ensures.done, c.requires.place) }

pub returns : goal.returns
returns g c =
    let a = c.args.desk.now in let e = c.help.new.self in let b = c.ask.new.self in let t = c.args.t in
    let within : t < length e.updaters = omega (arith, same_count a e t (Helps c.help.result) c.help.ensures.done, c.requires.place) in
    let helped : (d : UpdaterState) → Owes a.quota (get_or a.updaters t d) (Helps c.help.result) (get_or e.updaters t d) = λ d. it_owes a e t (Helps c.help.result) c.help.ensures.done d c.requires.place in
    let asked : (d : UpdaterState) → Owes e.quota (get_or e.updaters t d) (Asks c.ask.result) (get_or b.updaters t d) = λ d. it_owes e b t (Asks c.ask.result) c.ask.ensures.done d within in
    record {
      word = λ d. (asked d).reply.value ∙ ap (λ n. theta_word n (get_or b.updaters t d).view.seen) (sym (ap (λ u. u.view.numbers) (asked d).reply.stays));
      kept = λ d. (asked d).none.kept ∙ (helped d).none.kept;
      others = λ s d other. others_stay e b t (Asks c.ask.result) c.ask.ensures.done s d other ∙ others_stay a e t (Helps c.help.result) c.help.ensures.done s d other;
    }
