use Rattle.std.proofs.Common.{◌≡◌, length, drop, sym, ap, subst, ◌∙◌, arith}
use Rattle.std.proofs.lemmas.List.{take_at}
use Rattle.sk_serve.specs.Waves.{visit_of, texts_by, AreReady, WereRun}
use Rattle.sk_serve.proofs.waves.run_wave.Goals as goal

pub returns-clause-run : goal.returns-clause-run
returns-clause-run g c = λ table from ready.
    let plan = c.args.plan.now in let visit = visit_of g.L.Link in let jobs = c.args.jobs.items in let jobs' = c.run_all.new.jobs in
    let len : length jobs' ≡ c.args.jobs.len = omega (arith, c.run_all.auto.jobs, c.as_mut_slice.ensures.len) in
    subst (WereRun plan c.args.most table from visit) (sym (take_at jobs' (drop (length jobs') jobs) c.args.jobs.len len))
    (c.run_all.ensures.run table from (subst (AreReady plan table from visit) (sym c.as_mut_slice.ensures.value) ready))

pub returns-clause-texts : goal.returns-clause-texts
returns-clause-texts g c =
    let texts = texts_by (visit_of g.L.Link) in let jobs = c.args.jobs.items in let jobs' = c.run_all.new.jobs in
    let len : length jobs' ≡ c.args.jobs.len = omega (arith, c.run_all.auto.jobs, c.as_mut_slice.ensures.len) in
    ap (λ l. texts l) (take_at jobs' (drop (length jobs') jobs) c.args.jobs.len len) ∙ c.run_all.ensures.texts ∙ ap (λ l. texts l) c.as_mut_slice.ensures.value
