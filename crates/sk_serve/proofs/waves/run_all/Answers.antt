use Rattle.std.proofs.Common.{◌≡◌, ◌+◌, length, get_or, arith}
use Rattle.sk_io.specs.Traffic.{text_of}
use Rattle.sk_serve.specs.Waves.{visit_of}
use Rattle.sk_serve.proofs.Each.{same_by_places}
use Rattle.sk_serve.proofs.Sessions.{ready_run, same_text}
use Rattle.sk_serve.proofs.waves.run_all.Goals as goal

pub returns-clause-run : goal.returns-clause-run
returns-clause-run g c = λ table from ready i d within.
    let visit = visit_of g.L.Link in
    let inside = c.serve_links.auto.jobs in
    let old = get_or c.args.jobs.now i d in let new = get_or c.serve_links.new.jobs i d in
    ready_run c.args.plan.now c.shape_of-shape.result c.args.most table (from + i) (visit old) (visit new)
    c.shape_of-shape.ensures (ready i d (omega (arith, within, inside))) (c.serve_links.ensures.served i d (omega (arith, within, inside)))

pub returns-clause-texts : goal.returns-clause-texts
returns-clause-texts g c =
    let link = g.L.Link in let visit = visit_of link in
    let len : length c.serve_links.new.jobs ≡ length c.args.jobs.now = omega (arith, c.serve_links.auto.jobs) in
    same_by_places (λ job. text_of (visit job).link.traffic) c.serve_links.new.jobs c.args.jobs.now len (λ i d within.
    let old = get_or c.args.jobs.now i d in let new = get_or c.serve_links.new.jobs i d in
    same_text c.shape_of-shape.result c.args.most old.pump.count new.pump.count (link.traffic old.link) (link.traffic new.link) old.updater new.updater (link.faults old.link) (link.faults new.link) (link.waiting new.link) new.end
    (c.serve_links.ensures.served i d (omega (arith, within, len))))
