use Rattle.std.proofs.Common.{refl, sym, subst}
use Rattle.sk_cli.specs.Beside.{Beside, beside_of}
use Rattle.sk_cli.specs.Command.{behaviour_of}
use Rattle.sk_cli.specs.Outside.{Streams, streams_of}
use Rattle.sk_cli.specs.Run.{ExecutesSo}
use Rattle.sk_cli.specs.declared.command.Command.{Command}
use Rattle.sk_cli.specs.declared.commands.about.TheConstants.{HELP, VERSION}
use Rattle.sk_cli.proofs.Executing.{streams_alone, remains_left, write_causes}
use Rattle.sk_cli.proofs.Telling.{about_told}
use Rattle.sk_cli.proofs.execute.execute.Goals as goal

pub returns-in-Count-clause-done : goal.returns-in-Count-clause-done
returns-in-Count-clause-done g c =
    let from : Beside = beside_of (g.B.Seen.places c.args.board.now) c.args.remains.now in
    let to : Beside = beside_of (g.B.Seen.places c.count.new.board) c.count.new.remains in
    let a : Streams = streams_of g.S.Source g.O.Sink c.args.source.now c.args.out.now in
    let b : Streams = streams_of g.S.Source g.O.Sink c.count.new.source c.count.new.out in
    let went = c.count.ensures in
    subst (λ (command : Command). ExecutesSo (behaviour_of command) c.args.most from to a b c.count.result) (sym c.in-Count.is)
    (record { done = went.done; causes = went.causes; beside = went.beside })

pub returns-in-Hash-clause-done : goal.returns-in-Hash-clause-done
returns-in-Hash-clause-done g c =
    let from : Beside = beside_of (g.B.Seen.places c.args.board.now) c.args.remains.now in
    let to : Beside = beside_of (g.B.Seen.places c.clear.new.board) c.args.remains.now in
    let a : Streams = streams_of g.S.Source g.O.Sink c.args.source.now c.args.out.now in
    let b : Streams = streams_of g.S.Source g.O.Sink c.hash.new.source c.hash.new.out in
    subst (λ (command : Command). ExecutesSo (behaviour_of command) c.args.most from to a b c.hash.result) (sym c.in-Hash.is)
    (streams_alone _ c.args.most from to a b c.hash.result (c.hash.ensures.done from to) c.hash.ensures.causes c.clear.ensures refl)

pub returns-in-Image-clause-done : goal.returns-in-Image-clause-done
returns-in-Image-clause-done g c =
    let from : Beside = beside_of (g.B.Seen.places c.args.board.now) c.args.remains.now in
    let to : Beside = beside_of (g.B.Seen.places c.clear-in-Image.new.board) c.args.remains.now in
    let a : Streams = streams_of g.S.Source g.O.Sink c.args.source.now c.args.out.now in
    let b : Streams = streams_of g.S.Source g.O.Sink c.image.new.source c.image.new.out in
    subst (λ (command : Command). ExecutesSo (behaviour_of command) c.args.most from to a b c.image.result) (sym c.in-Image.is)
    (streams_alone _ c.args.most from to a b c.image.result (c.image.ensures.done from to) c.image.ensures.causes c.clear-in-Image.ensures refl)

pub returns-in-Replay-clause-done : goal.returns-in-Replay-clause-done
returns-in-Replay-clause-done g c =
    let from : Beside = beside_of (g.B.Seen.places c.args.board.now) c.args.remains.now in
    let to : Beside = beside_of (g.B.Seen.places c.clear-in-Replay.new.board) c.args.remains.now in
    let a : Streams = streams_of g.S.Source g.O.Sink c.args.source.now c.args.out.now in
    let b : Streams = streams_of g.S.Source g.O.Sink c.replay.new.source c.replay.new.out in
    subst (λ (command : Command). ExecutesSo (behaviour_of command) c.args.most from to a b c.replay.result) (sym c.in-Replay.is)
    (streams_alone _ c.args.most from to a b c.replay.result (c.replay.ensures.done from to) c.replay.ensures.causes c.clear-in-Replay.ensures refl)

pub returns-in-Help-clause-done : goal.returns-in-Help-clause-done
returns-in-Help-clause-done g c =
    let from : Beside = beside_of (g.B.Seen.places c.args.board.now) c.args.remains.now in
    let to : Beside = beside_of (g.B.Seen.places c.clear-in-Help.new.board) c.args.remains.now in
    let a : Streams = streams_of g.S.Source g.O.Sink c.args.source.now c.args.out.now in
    let b : Streams = streams_of g.S.Source g.O.Sink c.args.source.now c.write_text.new.out in
    let told = c.write_text.ensures in
    subst (λ (command : Command). ExecutesSo (behaviour_of command) c.args.most from to a b c.write_text.result) (sym c.in-Help.is)
    (streams_alone _ c.args.most from to a b c.write_text.result (about_told HELP.now c.as_bytes.result.now c.args.most from to a b c.write_text.result c.as_bytes.ensures.value refl told.ok told.part told.err)
    (write_causes c.write_text.result a b refl told.err told.cause) c.clear-in-Help.ensures refl)

pub returns-in-Version-clause-done : goal.returns-in-Version-clause-done
returns-in-Version-clause-done g c =
    let from : Beside = beside_of (g.B.Seen.places c.args.board.now) c.args.remains.now in
    let to : Beside = beside_of (g.B.Seen.places c.clear-in-Version.new.board) c.args.remains.now in
    let a : Streams = streams_of g.S.Source g.O.Sink c.args.source.now c.args.out.now in
    let b : Streams = streams_of g.S.Source g.O.Sink c.args.source.now c.write_text-in-Version.new.out in
    let told = c.write_text-in-Version.ensures in
    subst (λ (command : Command). ExecutesSo (behaviour_of command) c.args.most from to a b c.write_text-in-Version.result) (sym c.in-Version.is)
    (streams_alone _ c.args.most from to a b c.write_text-in-Version.result (about_told VERSION.now c.as_bytes-in-Version.result.now c.args.most from to a b c.write_text-in-Version.result c.as_bytes-in-Version.ensures.value refl told.ok told.part told.err)
    (write_causes c.write_text-in-Version.result a b refl told.err told.cause) c.clear-in-Version.ensures refl)

pub returns-in-Make-clause-done : goal.returns-in-Make-clause-done
returns-in-Make-clause-done g c =
    let from : Beside = beside_of (g.B.Seen.places c.args.board.now) c.args.remains.now in
    let to : Beside = beside_of (g.B.Seen.places c.make.new.board) c.make.new.remains in
    let a : Streams = streams_of g.S.Source g.O.Sink c.args.source.now c.args.out.now in
    let b : Streams = streams_of g.S.Source g.O.Sink c.args.source.now c.make.new.out in
    let left = g.S.Source.left c.args.source.now in
    let faults = g.S.Source.faults c.args.source.now in
    let last = g.S.Source.last c.args.source.now in
    let went = c.make.ensures in
    subst (λ (command : Command). ExecutesSo (behaviour_of command) c.args.most from to a b c.make.result) (sym c.in-Make.is)
    (record { done = went.done c.args.most left faults last; causes = went.causes left faults last; beside = went.beside })

pub returns-in-Quantile-clause-done : goal.returns-in-Quantile-clause-done
returns-in-Quantile-clause-done g c =
    let before = g.B.Seen.places c.args.board.now in
    let after = g.B.Seen.places c.clear-in-Quantile.new.board in
    let from : Beside = beside_of before c.args.remains.now in
    let to : Beside = beside_of after c.quantile.new.remains in
    let a : Streams = streams_of g.S.Source g.O.Sink c.args.source.now c.args.out.now in
    let b : Streams = streams_of g.S.Source g.O.Sink c.quantile.new.source c.quantile.new.out in
    let went = c.quantile.ensures in
    subst (λ (command : Command). ExecutesSo (behaviour_of command) c.args.most from to a b c.quantile.result) (sym c.in-Quantile.is)
    (record { done = went.done before after; causes = went.causes; beside = record { board = λ _. c.clear-in-Quantile.ensures; remains = remains_left c.quantile.result _ _ went.remains; leaves = went.hub } })

pub returns-in-Tally-clause-done : goal.returns-in-Tally-clause-done
returns-in-Tally-clause-done g c =
    let from : Beside = beside_of (g.B.Seen.places c.args.board.now) c.args.remains.now in
    let to : Beside = beside_of (g.B.Seen.places c.clear-in-Tally.new.board) c.args.remains.now in
    let a : Streams = streams_of g.S.Source g.O.Sink c.args.source.now c.args.out.now in
    let b : Streams = streams_of g.S.Source g.O.Sink c.tally.new.source c.tally.new.out in
    subst (λ (command : Command). ExecutesSo (behaviour_of command) c.args.most from to a b c.tally.result) (sym c.in-Tally.is)
    (streams_alone _ c.args.most from to a b c.tally.result (c.tally.ensures.done from to) c.tally.ensures.causes c.clear-in-Tally.ensures refl)

pub returns-in-Tenants-clause-done : goal.returns-in-Tenants-clause-done
returns-in-Tenants-clause-done g c =
    let from : Beside = beside_of (g.B.Seen.places c.args.board.now) c.args.remains.now in
    let to : Beside = beside_of (g.B.Seen.places c.clear-in-Tenants.new.board) c.args.remains.now in
    let a : Streams = streams_of g.S.Source g.O.Sink c.args.source.now c.args.out.now in
    let b : Streams = streams_of g.S.Source g.O.Sink c.tenants.new.source c.tenants.new.out in
    subst (λ (command : Command). ExecutesSo (behaviour_of command) c.args.most from to a b c.tenants.result) (sym c.in-Tenants.is)
    (streams_alone _ c.args.most from to a b c.tenants.result (c.tenants.ensures.done from to) c.tenants.ensures.causes c.clear-in-Tenants.ensures refl)

pub returns-in-Window-clause-done : goal.returns-in-Window-clause-done
returns-in-Window-clause-done g c =
    let from : Beside = beside_of (g.B.Seen.places c.args.board.now) c.args.remains.now in
    let to : Beside = beside_of (g.B.Seen.places c.clear-in-Window.new.board) c.args.remains.now in
    let a : Streams = streams_of g.S.Source g.O.Sink c.args.source.now c.args.out.now in
    let b : Streams = streams_of g.S.Source g.O.Sink c.window.new.source c.window.new.out in
    subst (λ (command : Command). ExecutesSo (behaviour_of command) c.args.most from to a b c.window.result) (sym c.in-Window.is)
    (streams_alone _ c.args.most from to a b c.window.result (c.window.ensures.done from to) c.window.ensures.causes c.clear-in-Window.ensures refl)
