use Rattle.std.proofs.Common.{rules, ◌≡◌, Option, None, Some, Err, refl, sym, ap, subst}
use Rattle.std.specs.Option.{option_copied}
use Rattle.sk_cli.specs.Beside.{left_of}
use Rattle.sk_cli.specs.Command.{OfText, frame_of}
use Rattle.sk_cli.specs.Outside.{Streams, Outside, outside_with}
use Rattle.sk_cli.specs.Run.{Performs, exit_of}
use Rattle.sk_cli.specs.Touches.{handed, TouchesOnly}
use Rattle.sk_cli.specs.Values.{Word}
use Rattle.sk_cli.specs.declared.fault.Fault.TheVariants as fault
use Rattle.sk_cli.proofs.Asking.{input_performs, opened_performs, not_opened_performs}
use Rattle.sk_cli.proofs.Endings.{never_opens}
use Rattle.sk_cli.proofs.Touching.{touched_only, named_opens}
use Rattle.sk_cli.proofs.execute.perform_text.Goals as goal

pub returns-in-None-clause-done : goal.returns-in-None-clause-done
returns-in-None-clause-done g c = λ net.
    let old : Outside = outside_with g.S.Source g.O.Sink g.F.Shelf g.B.Seen c.args.input.now c.args.out.now c.args.shelf.now c.args.board.now (left_of c.args.remains.now) net in
    let new : Outside = outside_with g.S.Source g.O.Sink g.F.Shelf g.B.Seen c.execute.new.source c.execute.new.out c.args.shelf.now c.execute.new.board (left_of c.execute.new.remains) net in
    let file : option_copied c.args.file ≡ None = ap (λ o. option_copied o) c.in-None.is in
    subst (λ (name : Option Word). Performs (OfText (record { command = c.args.command.now; file = name })) c.args.most old new c.execute.result) (sym file)
    (input_performs c.args.most old new c.args.command.now c.execute.result c.execute.ensures.done refl refl refl refl c.execute.ensures.stays)

pub returns-in-None-clause-touches : goal.returns-in-None-clause-touches
returns-in-None-clause-touches g c =
    let file : option_copied c.args.file ≡ None = ap (λ o. option_copied o) c.in-None.is in
    subst (λ (name : Option Word). TouchesOnly (frame_of (OfText (record { command = c.args.command.now; file = name }))) (exit_of c.execute.result)
    (handed c.args.input.now c.args.out.now c.args.shelf.now tt c.args.board.now) (handed c.execute.new.source c.execute.new.out c.args.shelf.now tt c.execute.new.board)) (sym file)
    (touched_only _ c.execute.result _ _ c.execute.ensures.idle (λ _. refl) (λ _. refl) (λ is. absurd (never_opens _ _ _ _ _ _ c.execute.result c.execute.ensures.done.done is)) c.execute.ensures.last)

pub returns-in-Ok-clause-done : goal.returns-in-Ok-clause-done
returns-in-Ok-clause-done g c = λ net.
    let file = c.in-Ok.file in
    let read = c.execute-in-Ok.new.source in
    let out = c.execute-in-Ok.new.out in
    let name : Word = c.in-Some.name.now in
    let a : Streams = record { left = g.F.Shelf.left file.shelf.now file.file; last = g.F.Shelf.last_read file.shelf.now; read_faults = g.F.Shelf.read_faults file.shelf.now; written = g.O.Sink.written c.args.out.now; write_faults = g.O.Sink.faults c.args.out.now } in
    let b : Streams = record { left = g.F.Shelf.left read.shelf.now read.file; last = g.F.Shelf.last_read read.shelf.now; read_faults = g.F.Shelf.read_faults read.shelf.now; written = g.O.Sink.written out; write_faults = g.O.Sink.faults out } in
    opened_performs c.args.most _ _ c.args.command.now (option_copied c.args.file) name a b c.execute-in-Ok.result (ap (λ o. option_copied o) c.in-Some.is) c.in-Ok.ensures.content c.in-Ok.ensures.given c.in-Ok.ensures.reads refl refl
    (search rules) (search rules) (search rules) refl refl c.execute-in-Ok.ensures.done (search rules) (search rules) (search rules) (search rules) refl refl

pub returns-in-Ok-clause-touches : goal.returns-in-Ok-clause-touches
returns-in-Ok-clause-touches g c =
    let file : option_copied c.args.file ≡ Some c.in-Some.name.now = ap (λ o. option_copied o) c.in-Some.is in
    touched_only _ c.execute-in-Ok.result _ _ (λ _. refl) (named_opens _ _ file) (λ _. refl) (λ is. absurd (never_opens _ _ _ _ _ _ c.execute-in-Ok.result c.execute-in-Ok.ensures.done.done is)) c.execute-in-Ok.ensures.last

pub returns-in-Err-clause-done : goal.returns-in-Err-clause-done
returns-in-Err-clause-done g c = λ net.
    not_opened_performs c.args.most _ _ c.args.command.now (option_copied c.args.file) c.in-Some.name.now (ap (λ o. option_copied o) c.in-Some.is) refl (search rules) refl (search rules) (search rules) (search rules) c.set_alarms.ensures refl refl refl

pub returns-in-Err-clause-touches : goal.returns-in-Err-clause-touches
returns-in-Err-clause-touches g c =
    let file : option_copied c.args.file ≡ Some c.in-Some.name.now = ap (λ o. option_copied o) c.in-Some.is in
    touched_only _ (Err fault.OpenFault) _ _ (λ _. refl) (named_opens _ _ file) (λ _. refl) (λ _. refl) (λ _. λ _. refl)
