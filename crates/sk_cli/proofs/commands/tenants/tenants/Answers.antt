use Rattle.std.proofs.Common.{◌≡◌, ℕ, List, refl, sym, subst, arith}
use Rattle.sk_desks.specs.Desks.{desk_rules}
use Rattle.sk_label.specs.Goes.{setting, WroteAll, EndsAt, ReadsLines}
use Rattle.sk_tenant.specs.Names.{bytes_of}
use Rattle.sk_cli.specs.Outside.{Streams, streams_of}
use Rattle.sk_cli.specs.Run.{Ends}
use Rattle.sk_cli.specs.commands.Tenants.{hosting}
use Rattle.sk_cli.specs.declared.fault.Fault.{Fault}
use Rattle.sk_cli.specs.declared.fault.Fault.TheVariants as fault
use Rattle.sk_cli.specs.declared.fault.Refusal.TheVariants.{Unknown}
use Rattle.sk_cli.proofs.Endings.{ends_by}
use Rattle.sk_cli.proofs.Labelled.{labelled_ended, labelled_finished, labelled_not_begun}
use Rattle.sk_cli.proofs.Moves.{label_causes}
use Rattle.sk_cli.proofs.commands.tenants.tenants.Goals as goal

pub returns-in-Ok-clause-done : goal.returns-in-Ok-clause-done
returns-in-Ok-clause-done g c = λ from to.
    let a : Streams = streams_of g.S.Source g.O.Sink c.args.source.now c.args.out.now in
    let b : Streams = streams_of g.S.Source g.O.Sink c.tenants.new.source c.tenants.new.out in
    let desks = c.args.plan.now.desks in
    let names : List (List ℕ) = c.args.plan.now.names in
    let same : bytes_of c.in_ok-names.names.items ≡ names = c.in_ok-names.ensures in
    labelled_finished (desk_rules desks names) Unknown c.args.most from to a b
    (subst (λ (l : List (List ℕ)). ReadsLines c.args.most (WroteAll (desk_rules desks l) a.written b.written) a.left b.left) same c.in-Ok.ensures.goes)

pub returns-in-Err-clause-done : goal.returns-in-Err-clause-done
returns-in-Err-clause-done g c = λ from to.
    let a : Streams = streams_of g.S.Source g.O.Sink c.args.source.now c.args.out.now in
    let b : Streams = streams_of g.S.Source g.O.Sink c.tenants.new.source c.tenants.new.out in
    let desks = c.args.plan.now.desks in
    let names : List (List ℕ) = c.args.plan.now.names in
    let same : bytes_of c.in_ok-names.names.items ≡ names = c.in_ok-names.ensures in
    subst (λ (fault : Fault). Ends (hosting c.args.plan.now) c.args.most from to a b fault) (sym c.of_labels.ensures)
    (labelled_ended (desk_rules desks names) Unknown c.args.most from to a b c.in-Err.fault
    (subst (λ (l : List (List ℕ)). EndsAt (desk_rules desks l) b.last c.args.most (setting a.left a.written) (setting b.left b.written) c.in-Err.fault) same c.in-Err.ensures.goes))

pub returns-in-Err-clause-causes : goal.returns-in-Err-clause-causes
returns-in-Err-clause-causes g c = label_causes _ _ Unknown c.tenants.result c.in-Err.fault c.of_labels.result c.in-Err.is c.of_labels.ensures c.tenants.ensures.reads c.tenants.ensures.writes

pub returns-in_err-names-clause-done : goal.returns-in_err-names-clause-done
returns-in_err-names-clause-done g c = λ from to.
    let a : Streams = streams_of g.S.Source g.O.Sink c.args.source.now c.args.out.now in
    ends_by _ c.args.most from to a a _ fault.OutOfMemory (grind arith) (labelled_not_begun (desk_rules c.args.plan.now.desks c.args.plan.now.names) Unknown c.args.most from to a)
