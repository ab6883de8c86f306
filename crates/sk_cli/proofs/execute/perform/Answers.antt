use Rattle.std.proofs.Common.{refl, sym, subst}
use Rattle.sk_cli.specs.Beside.{left_of}
use Rattle.sk_cli.specs.Command.{asked_of, frame_of}
use Rattle.sk_cli.specs.Outside.{Net, Outside, outside_with, net_of}
use Rattle.sk_cli.specs.Run.{Performs, exit_of}
use Rattle.sk_cli.specs.Touches.{handed, TouchesOnly}
use Rattle.sk_cli.specs.commands.Join.{images_of}
use Rattle.sk_cli.specs.declared.command.Request.{Request}
use Rattle.sk_cli.proofs.Asking.{join_performs, serve_performs}
use Rattle.sk_cli.proofs.Touching.{beside_door, touched_only, closed_too, not_both}
use Rattle.sk_cli.proofs.execute.perform.Goals as goal

pub returns-in-OverText-clause-done : goal.returns-in-OverText-clause-done
returns-in-OverText-clause-done g c =
    let net : Net = net_of g.D.Door c.args.door.now in
    let old : Outside = outside_with g.S.Source g.O.Sink g.F.Shelf g.B.Seen c.args.input.now c.args.out.now c.args.shelf.now c.args.board.now (left_of c.args.remains.now) net in
    let new : Outside = outside_with g.S.Source g.O.Sink g.F.Shelf g.B.Seen c.perform_text.new.input c.perform_text.new.out c.perform_text.new.shelf c.perform_text.new.board (left_of c.perform_text.new.remains) net in
    subst (λ (r : Request). Performs (asked_of r) c.args.most old new c.perform_text.result) (sym c.in-OverText.is) (c.perform_text.ensures.done net)

pub returns-in-OverText-clause-touches : goal.returns-in-OverText-clause-touches
returns-in-OverText-clause-touches g c =
    subst (λ (r : Request). TouchesOnly (frame_of (asked_of r)) (exit_of c.perform_text.result)
    (handed c.args.input.now c.args.out.now c.args.shelf.now c.args.door.now c.args.board.now) (handed c.perform_text.new.input c.perform_text.new.out c.perform_text.new.shelf c.args.door.now c.perform_text.new.board))
    (sym c.in-OverText.is) (beside_door _ _ _ _ c.args.door.now c.perform_text.ensures.touches)

pub returns-in-Join-clause-done : goal.returns-in-Join-clause-done
returns-in-Join-clause-done g c =
    let net : Net = net_of g.D.Door c.args.door.now in
    let old : Outside = outside_with g.S.Source g.O.Sink g.F.Shelf g.B.Seen c.args.input.now c.args.out.now c.args.shelf.now c.args.board.now (left_of c.args.remains.now) net in
    let new : Outside = outside_with g.S.Source g.O.Sink g.F.Shelf g.B.Seen c.args.input.now c.join.new.out c.join.new.shelf c.clear.new.board (left_of c.args.remains.now) net in
    subst (λ (r : Request). Performs (asked_of r) c.args.most old new c.join.result) (sym c.in-Join.is)
    (join_performs c.args.most old new (images_of c.in-Join.plan) c.join.result c.join.ensures.done c.join.ensures.missing.0 c.join.ensures.missing.1 c.join.ensures.opens c.join.ensures.reads c.join.ensures.writes c.join.ensures.files.0 c.join.ensures.files.1
    c.clear.ensures refl refl refl)

pub returns-in-Join-clause-touches : goal.returns-in-Join-clause-touches
returns-in-Join-clause-touches g c =
    subst (λ (r : Request). TouchesOnly (frame_of (asked_of r)) (exit_of c.join.result)
    (handed c.args.input.now c.args.out.now c.args.shelf.now c.args.door.now c.args.board.now) (handed c.args.input.now c.join.new.out c.join.new.shelf c.args.door.now c.clear.new.board))
    (sym c.in-Join.is) (touched_only _ c.join.result _ _ (λ _. refl) (λ none. not_both none) (λ _. refl) (closed_too c.join.result _ c.join.ensures.last) (λ _. c.join.ensures.last))

pub returns-in-Serve-clause-done : goal.returns-in-Serve-clause-done
returns-in-Serve-clause-done g c =
    let old : Outside = outside_with g.S.Source g.O.Sink g.F.Shelf g.B.Seen c.args.input.now c.args.out.now c.args.shelf.now c.args.board.now (left_of c.args.remains.now) (net_of g.D.Door c.args.door.now) in
    let new : Outside = outside_with g.S.Source g.O.Sink g.F.Shelf g.B.Seen c.args.input.now c.serve.new.out c.args.shelf.now c.serve.new.board (left_of c.serve.new.remains) (net_of g.D.Door c.serve.new.door) in
    subst (λ (r : Request). Performs (asked_of r) c.args.most old new c.serve.result) (sym c.in-Serve.is)
    (serve_performs c.args.most old new c.in-Serve.plan c.serve.result c.serve.ensures.done c.serve.ensures.causes.0 c.serve.ensures.causes.1 c.serve.ensures.links c.serve.ensures.beside.board c.serve.ensures.beside.remains c.serve.ensures.beside.leaves refl refl refl refl refl)

pub returns-in-Serve-clause-touches : goal.returns-in-Serve-clause-touches
returns-in-Serve-clause-touches g c =
    subst (λ (r : Request). TouchesOnly (frame_of (asked_of r)) (exit_of c.serve.result)
    (handed c.args.input.now c.args.out.now c.args.shelf.now c.args.door.now c.args.board.now) (handed c.args.input.now c.serve.new.out c.args.shelf.now c.serve.new.door c.serve.new.board))
    (sym c.in-Serve.is) (touched_only _ c.serve.result _ _ (λ _. refl) (λ _. refl) (λ none. not_both none) (closed_too c.serve.result _ c.serve.ensures.last) (λ _. c.serve.ensures.last))
