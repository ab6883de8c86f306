use Rattle.std.proofs.Common.{◌≡◌, refl, sym, ap, subst, ◌∙◌}
use Rattle.sk_report.specs.Texts.{armed_with}
use Rattle.sk_serve.specs.Around.{surroundings}
use Rattle.sk_serve.specs.Serves.{ServeEnds}
use Rattle.sk_serve.specs.Waves.{ServesAndAsks}
use Rattle.sk_serve.specs.declared.fault.ServeFault.TheVariants as fault
use Rattle.sk_serve.proofs.Closed.{closed_none}
use Rattle.sk_serve.proofs.Showing.{ends_by, ends_early, exactly, in_part}
use Rattle.sk_serve.proofs.Waving.{none_accepted}
use Rattle.sk_serve.proofs.serving.serve.Goals as goal

pub returns-in_err-heart-clause-serves : goal.returns-in_err-heart-clause-serves
returns-in_err-heart-clause-serves g c =
    let plan = c.args.plan.now in let w = g.O.Sink.written c.args.out.now in let doorway = g.D.Door.doorway c.args.door.now in let places = g.B.Seen.places in
    let armed : places c.arm.new.board ≡ armed_with plan.k plan.alarms (places c.args.board.now) = c.arm.ensures ∙ ap (λ m. armed_with plan.k m (places c.args.board.now)) c.as_slice.ensures.value in
    ends_by plan c.args.most (surroundings w (places c.args.board.now) doorway) (surroundings w (places c.arm.new.board) doorway) c.from_residual.result fault.OutOfMemory c.from_residual.ensures.1
    (none_accepted plan c.args.most fault.OutOfMemory doorway doorway c.requires.within refl refl, armed)

pub returns-in_err-ends-clause-serves : goal.returns-in_err-ends-clause-serves
returns-in_err-ends-clause-serves g c =
    let plan = c.args.plan.now in let w = g.O.Sink.written c.args.out.now in let doorway = g.D.Door.doorway in let places = g.B.Seen.places in let f = c.in_err-ends.field-0.0 in
    let armed : places c.arm.new.board ≡ armed_with plan.k plan.alarms (places c.args.board.now) = c.arm.ensures ∙ ap (λ m. armed_with plan.k m (places c.args.board.now)) c.as_slice.ensures.value in
    let old = surroundings w (places c.args.board.now) (doorway c.args.door.now) in let new = surroundings w (places c.arm.new.board) (doorway c.serve_all.new.door) in
    ends_by plan c.args.most old new c.from_residual-in_err-ends.result f c.from_residual-in_err-ends.ensures.1
    (ends_early plan c.args.most old new f c.in_err-ends.ensures.net.no_write c.in_err-ends.ensures.stops armed)

pub returns-in_err-write_last-clause-serves : goal.returns-in_err-write_last-clause-serves
returns-in_err-write_last-clause-serves g c =
    let ends = subst (λ l. ServesAndAsks c.args.plan.now c.args.most c.in_ok-heart.heart c.serve_all.new.heart (g.D.Door.doorway c.args.door.now) (g.D.Door.doorway c.serve_all.new.door) l c.in_ok-ends.word) (sym c.as_slice-2.ensures.value) c.in_ok-ends.ensures.serves in
    let plan = c.args.plan.now in let most = c.args.most in let w = g.O.Sink.written in let doorway = g.D.Door.doorway in let places = g.B.Seen.places in
    let armed : places c.arm.new.board ≡ armed_with plan.k plan.alarms (places c.args.board.now) = c.arm.ensures ∙ ap (λ m. armed_with plan.k m (places c.args.board.now)) c.as_slice.ensures.value in
    let old = surroundings (w c.args.out.now) (places c.args.board.now) (doorway c.args.door.now) in let new = surroundings (w c.write_last.new.out) (places c.show-gone.new.self) (doorway c.serve_all.new.door) in
    ends_by plan most old new c.from_residual-in_err-write_last.result c.in_err-write_last.field-0.0 c.from_residual-in_err-write_last.ensures.1
    (subst (ServeEnds plan most old new) (sym c.in_err-write_last.ensures.fault)
    (in_part plan most (w c.args.out.now) (w c.write_last.new.out) (places c.args.board.now) (places c.arm.new.board) (places c.show-gone.new.self) (doorway c.args.door.now) (doorway c.serve_all.new.door) c.as_slice-2.result.now c.in_ok-heart.heart c.serve_all.new.heart c.in_ok-ends.word c.unpack-reply.result c.show-gone.result c.fraction.result
    c.requires.within armed ends c.unpack-reply.ensures.value c.show-gone.ensures.mask c.show-gone.ensures.places c.fraction.ensures.value c.in_err-write_last.ensures.part))

pub returns-clause-serves : goal.returns-clause-serves
returns-clause-serves g c =
    let ends = subst (λ l. ServesAndAsks c.args.plan.now c.args.most c.in_ok-heart.heart c.serve_all.new.heart (g.D.Door.doorway c.args.door.now) (g.D.Door.doorway c.serve_all.new.door) l c.in_ok-ends.word) (sym c.as_slice-2.ensures.value) c.in_ok-ends.ensures.serves in
    let plan = c.args.plan.now in let w = g.O.Sink.written in let doorway = g.D.Door.doorway in let places = g.B.Seen.places in
    let armed : places c.arm.new.board ≡ armed_with plan.k plan.alarms (places c.args.board.now) = c.arm.ensures ∙ ap (λ m. armed_with plan.k m (places c.args.board.now)) c.as_slice.ensures.value in
    exactly plan c.args.most (w c.args.out.now) (w c.write_last.new.out) (places c.args.board.now) (places c.arm.new.board) (places c.show-gone.new.self) (doorway c.args.door.now) (doorway c.serve_all.new.door) c.as_slice-2.result.now c.in_ok-heart.heart c.serve_all.new.heart c.in_ok-ends.word c.unpack-reply.result c.show-gone.result c.fraction.result
    c.requires.within armed ends c.unpack-reply.ensures.value c.show-gone.ensures.mask c.show-gone.ensures.places c.fraction.ensures.value c.in_ok-heart.token c.in_ok-heart.ensures.table c.in_ok-write_last.ensures.ok

pub returns-in_err-heart-clause-closed : goal.returns-in_err-heart-clause-closed
returns-in_err-heart-clause-closed g c = closed_none _ _ _ _ refl refl
