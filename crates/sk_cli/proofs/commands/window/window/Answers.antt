use Rattle.std.proofs.Common.{refl, sym, subst}
use Rattle.sk_panes.specs.Panes.{pane_rules}
use Rattle.sk_cli.specs.Outside.{Streams, streams_of}
use Rattle.sk_cli.specs.Run.{Ends}
use Rattle.sk_cli.specs.commands.Window.{paning}
use Rattle.sk_cli.specs.declared.fault.Fault.{Fault}
use Rattle.sk_cli.specs.declared.fault.Refusal.TheVariants.{Earlier}
use Rattle.sk_cli.proofs.Labelled.{labelled_ended, labelled_finished}
use Rattle.sk_cli.proofs.Moves.{label_causes}
use Rattle.sk_cli.proofs.commands.window.window.Goals as goal

pub returns-in-Ok-clause-done : goal.returns-in-Ok-clause-done
returns-in-Ok-clause-done g c = λ from to.
    let a : Streams = streams_of g.S.Source g.O.Sink c.args.source.now c.args.out.now in
    let b : Streams = streams_of g.S.Source g.O.Sink c.window.new.source c.window.new.out in
    labelled_finished (pane_rules c.args.plan.now) Earlier c.args.most from to a b c.in-Ok.ensures.goes

pub returns-in-Err-clause-done : goal.returns-in-Err-clause-done
returns-in-Err-clause-done g c = λ from to.
    let a : Streams = streams_of g.S.Source g.O.Sink c.args.source.now c.args.out.now in
    let b : Streams = streams_of g.S.Source g.O.Sink c.window.new.source c.window.new.out in
    subst (λ (fault : Fault). Ends (paning c.args.plan.now) c.args.most from to a b fault) (sym c.of_labels.ensures) (labelled_ended (pane_rules c.args.plan.now) Earlier c.args.most from to a b c.in-Err.fault c.in-Err.ensures.goes)

pub returns-in-Err-clause-causes : goal.returns-in-Err-clause-causes
returns-in-Err-clause-causes g c = label_causes _ _ Earlier c.window.result c.in-Err.fault c.of_labels.result c.in-Err.is c.of_labels.ensures c.window.ensures.reads c.window.ensures.writes
