use Rattle.std.proofs.Common.{◌∷◌, ◌++◌, [], ap, ◌∙◌, append_assoc}
use Rattle.sk_io.specs.Traffic.{text_of}
use Rattle.sk_io.proofs.Doors.{arrive_more, pass_from, pass_late}
use Rattle.sk_base_calls.proofs.tests.links.echo_two.Goals as goal

pub returns-clause-closed : goal.returns-clause-closed
returns-clause-closed g c =
    let show = g.D.Door.doorway in
    let one = c.echo_and_close.ensures.ended in let two = c.echo_and_close-2.ensures.ended in
    let came = arrive_more (show c.listen.new.self) (show c.accept.new.self) (show c.accept-2.new.self) _ _ c.in_ok-one.ensures.arrives c.in-Ok.ensures.arrives in (
      one.0,
      two.0,
      pass_from (show c.args.door.now) (show c.listen.new.self) (show c.echo_and_close-2.new.door) (one.0 ∷ two.0 ∷ []) (ap (λ d. d.coming) c.in_ok-listen.ensures.listens) (ap (λ d. d.closed) c.in_ok-listen.ensures.listens)
          (pass_late (show c.listen.new.self) (show c.accept-2.new.self) (show c.echo_and_close-2.new.door) _ (one.0 ∷ two.0 ∷ []) came
          (ap (λ d. d.coming) two.1 ∙ ap (λ d. d.coming) one.1)
          (ap (λ d. d.closed) two.1 ∙ ap (λ d. d.closed ++ two.0 ∷ []) one.1 ∙ append_assoc (show c.accept-2.new.self).closed (one.0 ∷ []) (two.0 ∷ []))
          (ap (λ o. o ∷ text_of two.0.traffic ∷ []) one.2 ∙ ap (λ o. text_of (g.D.Link.Link.traffic c.in_ok-one.one) ∷ o ∷ []) two.2)),
      one.4,
      two.4,
    )
