use Rattle.std.proofs.Common.{◌≡◌, ◌<◌, length, get_or, sym, subst, refl, ◌∙◌, arith}
use Rattle.std.specs.Io.KnownBytes.{Appends}
use Rattle.std.proofs.KnownBytes.{Appends-nil, Appends-trans}
use Rattle.std.proofs.lemmas.List.{get_or_default}
use Rattle.sk_model.specs.Causes.{AppendsPart}
use Rattle.sk_line.specs.declared.sessions.End.TheVariants.{Quit}
use Rattle.sk_serve.specs.Texts.{session_line}
use Rattle.sk_report.proofs.Fronts.{part_longer, part_behind, on_err}
use Rattle.sk_serve.proofs.Lines.{lines_before, lines_behind, before_none, before_more, all_split, all_before}
use Rattle.sk_serve.proofs.text.write_sessions.Goals as goal

pub session-init : goal.session-init
session-init g c = (subst (Appends (g.O.Sink.written c.args.out.now) (g.O.Sink.written c.args.out.now)) (sym (before_none c.args.ends.now)) (Appends-nil (g.O.Sink.written c.args.out.now)), refl)

pub returns-in_err-write_session-clause-part : goal.returns-in_err-write_session-clause-part
returns-in_err-write_session-clause-part g c =
    let ends = c.args.ends.now in let i = c.session.i in let e = get_or ends i Quit in
    let within : i < length ends = omega (arith, c.session-test.true) in
    on_err _ _ (subst (AppendsPart (g.O.Sink.written c.args.out.now) (g.O.Sink.written c.write_session.new.out)) (sym (all_split ends i e within (get_or_default ends i Quit e within)))
    (part_behind _ _ _ (lines_before ends i) _ c.session.invariant.0
    (part_longer _ _ (session_line i e) (lines_behind ends i) c.in_err-write_session.ensures.part)))

pub session-preserved : goal.session-preserved
session-preserved g c =
    let ends = c.args.ends.now in let i = c.session.i in let e = get_or ends i Quit in
    let within : i < length ends = omega (arith, c.session-test.true) in (
      subst (Appends (g.O.Sink.written c.args.out.now) (g.O.Sink.written c.write_session.new.out)) (sym (before_more ends i e within (get_or_default ends i Quit e within)))
          (Appends-trans _ _ _ (lines_before ends i) (session_line i e) c.session.invariant.0 c.in_ok-write_session.ensures.ok),
      c.in_ok-write_session.ensures.cause.steady ∙ c.session.invariant.1,
    )

pub returns-clause-ok : goal.returns-clause-ok
returns-clause-ok g c =
    let last : c.session.i ≡ length c.args.ends.now = omega arith in
    subst (Appends (g.O.Sink.written c.args.out.now) (g.O.Sink.written c.session.out)) (all_before c.args.ends.now c.session.i last) c.session.invariant.0
