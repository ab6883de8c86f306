use Rattle.std.proofs.Common.{◌≡◌, ◌++◌, List, OnOk, OnErr, refl, subst}
use Rattle.sk_hub.specs.Updaters.{UpdaterState}
use Rattle.sk_learn.specs.Closing.{TakesInAll, StopsEarly, counted}
use Rattle.sk_window.specs.Panes.{PanesState, HasTaken, StopsAtDrain}
use Rattle.sk_window.proofs.Closed.{both_ok, on_err, stops, takes_all}
use Rattle.sk_window.proofs.panes.Panes.take_in.Goals as goal

pub returns-clause-takes : goal.returns-clause-takes
returns-clause-takes g c =
    let i = c.self.inside in
    let us = c.args.updaters.now.items in
    let p : PanesState = record { frame = i.frame; shape = i.shape; running = i.running; heart = i.heart; learnt = i.reader; taken = i.taken; closed = i.closed.items } in
    let q : PanesState = record { frame = i.frame; shape = i.shape; running = i.running; heart = c.take_in_all.new.heart; learnt = c.take_in_all.new.reader; taken = c.take_in_all.new.taken; closed = i.closed.items } in
    subst (λ (z : PanesState). (before : List UpdaterState) → HasTaken z before → OnOk c.take_in_all.result (HasTaken q (before ++ us))) c.self.view_is
    (λ before has. both_ok c.take_in_all.result (TakesInAll p.heart us p.learnt q.heart q.learnt) (q.taken ≡ counted p.taken us) (HasTaken q (before ++ us))
    (takes_all p before has us q) c.take_in_all.ensures.all c.take_in_all.ensures.count)

pub returns-clause-early : goal.returns-clause-early
returns-clause-early g c =
    let i = c.self.inside in
    let us = c.args.updaters.now.items in
    let us' = c.take_in_all.new.updaters.items in
    let p : PanesState = record { frame = i.frame; shape = i.shape; running = i.running; heart = i.heart; learnt = i.reader; taken = i.taken; closed = i.closed.items } in
    let q : PanesState = record { frame = i.frame; shape = i.shape; running = i.running; heart = c.take_in_all.new.heart; learnt = c.take_in_all.new.reader; taken = c.take_in_all.new.taken; closed = i.closed.items } in
    subst (λ (z : PanesState). (before : List UpdaterState) → HasTaken z before → OnErr c.take_in_all.result (StopsAtDrain z before us us' q)) c.self.view_is
    (λ before has. on_err c.take_in_all.result (StopsEarly p.heart us p.learnt p.taken q.heart us' q.learnt q.taken) (StopsAtDrain p before us us' q)
    (stops p before has us us' q refl) c.take_in_all.ensures.early)
