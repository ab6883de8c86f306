use Rattle.std.proofs.Common.{◌≡◌, ◌++◌, ap, sym, subst, arith, refl, ◌∙◌}
use Rattle.std.specs.Io.KnownBytes.{Appends}
use Rattle.std.proofs.KnownBytes.{Appends-nil, Appends-trans}
use Rattle.sk_model.specs.Causes.{AppendsPart}
use Rattle.sk_watch.specs.Masks.{most_places}
use Rattle.sk_report.specs.Texts.{alarm_at}
use Rattle.sk_report.proofs.Fronts.{part_longer, part_behind, on_err}
use Rattle.sk_report.proofs.MaskLines.{lines_before, lines_behind, before_more, all_split, all_lines}
use Rattle.sk_report.proofs.text.write_alarms.Goals as goal

pub returns-in_err-write_place-clause-part : goal.returns-in_err-write_place-clause-part
returns-in_err-write_place-clause-part g c = let mask = c.args.gone in let place = c.place.place in
    on_err _ _ (subst (AppendsPart (g.O.Sink.written c.args.out.now) (g.O.Sink.written c.write_place.new.out)) (sym (all_split mask place (omega (arith, c.place-test.true))))
    (part_behind _ _ _ (lines_before mask place) (alarm_at mask place ++ lines_behind mask place) c.place.invariant.0
    (part_longer _ _ (alarm_at mask place) (lines_behind mask place) c.in_err-write_place.ensures.part)))

pub place-preserved : goal.place-preserved
place-preserved g c = let mask = c.args.gone in let place = c.place.place in (
  subst (Appends (g.O.Sink.written c.args.out.now) (g.O.Sink.written c.write_place.new.out)) (sym (before_more mask place))
      (Appends-trans _ _ _ (lines_before mask place) (alarm_at mask place) c.place.invariant.0 c.in_ok-write_place.ensures.ok),
  c.in_ok-write_place.ensures.cause.steady ∙ c.place.invariant.1,
)

pub place-init : goal.place-init
place-init g c = (Appends-nil (g.O.Sink.written c.args.out.now), refl)

pub returns-clause-ok : goal.returns-clause-ok
returns-clause-ok g c =
    let last : c.place.place ≡ most_places = omega arith in
    subst (Appends (g.O.Sink.written c.args.out.now) (g.O.Sink.written c.place.out)) (ap (λ k. lines_before c.args.gone k) last ∙ sym (all_lines c.args.gone)) c.place.invariant.0
