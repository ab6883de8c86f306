use Rattle.std.proofs.Common.{Result, refl, sym, ap, ◌∙◌, subst, arith}
use Rattle.sk_cli.specs.Command.{asked_of}
use Rattle.sk_cli.specs.Run.{Tells, exit_of}
use Rattle.sk_cli.specs.declared.fault.Fault.{Fault}
use Rattle.sk_cli.proofs.Asking.{not_usage}
use Rattle.sk_cli.proofs.Reporting.{runs_nothing, runs_so, some_request, nothing_asked}
use Rattle.sk_cli.proofs.Showing.{make_shown, count_shown, ranks_shown, tally_shown, tenants_shown, window_shown, serve_shown}
use Rattle.sk_cli.proofs.StatusLaws.{some_status}
use Rattle.sk_cli.proofs.Touching.{touches_nothing, touches_asked}
use Rattle.sk_cli.proofs.program.run.Goals as goal

pub returns-in_default-clause-runs : goal.returns-in_default-clause-runs
returns-in_default-clause-runs g c = runs_nothing _ _ _ _ _ c.in_default.ensures.value c.report.ensures.status c.report.ensures.told

pub returns-in_default-clause-touches : goal.returns-in_default-clause-touches
returns-in_default-clause-touches g c = touches_nothing _ _ _ c.in_default.ensures.value

pub returns-in-Ok-clause-runs : goal.returns-in-Ok-clause-runs
returns-in-Ok-clause-runs g c =
    let Told : Result (Unit {0}) Fault → Type 0 = Tells g.E.Sink c.args.err.now c.args.err.now in
    runs_so _ _ _ _ _ Told c.perform.result 0 c.in-Some.ensures.value c.in-Some.ensures.order (sym (ap exit_of c.in-Ok.is)) (subst Told (sym c.in-Ok.is) refl) c.perform.ensures.done

pub returns-in-Ok-clause-touches : goal.returns-in-Ok-clause-touches
returns-in-Ok-clause-touches g c =
    touches_asked _ _ c.perform.result 0 _ _ c.in-Some.ensures.value (λ is. absurd (omega (arith, is))) (sym (ap exit_of c.in-Ok.is)) c.perform.ensures.touches

pub returns-in-Err-clause-usage : goal.returns-in-Err-clause-usage
returns-in-Err-clause-usage g c = (
  λ two. absurd (not_usage _ _ _ (asked_of c.in-Some.request) c.in-Err.fault c.in-Err.ensures.done.done (sym c.report-in-Err.ensures.status ∙ two)),
  λ none. absurd (some_request _ _ c.in-Some.ensures.value none),
)

pub returns-in-Err-clause-runs : goal.returns-in-Err-clause-runs
returns-in-Err-clause-runs g c =
    let Told : Result (Unit {0}) Fault → Type 0 = Tells g.E.Sink c.args.err.now c.report-in-Err.new.err in
    runs_so _ _ _ _ _ Told c.perform.result _ c.in-Some.ensures.value c.in-Some.ensures.order (c.report-in-Err.ensures.status ∙ sym (ap exit_of c.in-Err.is)) (subst Told (sym c.in-Err.is) c.report-in-Err.ensures.told)
    c.perform.ensures.done

pub returns-in-Err-clause-touches : goal.returns-in-Err-clause-touches
returns-in-Err-clause-touches g c =
    touches_asked _ _ c.perform.result _ _ _ c.in-Some.ensures.value (λ two. not_usage _ _ _ (asked_of c.in-Some.request) c.in-Err.fault c.in-Err.ensures.done.done (sym c.report-in-Err.ensures.status ∙ two))
    (c.report-in-Err.ensures.status ∙ sym (ap exit_of c.in-Err.is)) c.perform.ensures.touches

pub returns-in-Ok-clause-make : goal.returns-in-Ok-clause-make
returns-in-Ok-clause-make g c =
    make_shown _ _ _ _ c.perform.result 0 c.in-Some.ensures.value (sym (ap exit_of c.in-Ok.is)) c.perform.ensures.done
    (λ last some other. ap (λ o. g.O.Sink.written o) (c.perform.ensures.touches.last last some other))

pub returns-in-Err-clause-make : goal.returns-in-Err-clause-make
returns-in-Err-clause-make g c =
    make_shown _ _ _ _ c.perform.result _ c.in-Some.ensures.value (c.report-in-Err.ensures.status ∙ sym (ap exit_of c.in-Err.is)) c.perform.ensures.done
    (λ last some other. ap (λ o. g.O.Sink.written o) (c.perform.ensures.touches.last last some other))

pub returns-in_default-clause-count : goal.returns-in_default-clause-count
returns-in_default-clause-count g c = λ plan file asks. nothing_asked _ _ c.in_default.ensures.value asks

pub returns-in-Ok-clause-count : goal.returns-in-Ok-clause-count
returns-in-Ok-clause-count g c = λ plan file asks well. count_shown _ _ _ _ c.in-Some.ensures.value c.in-Ok.ensures.done.done plan file asks

pub returns-in-Err-clause-count : goal.returns-in-Err-clause-count
returns-in-Err-clause-count g c = λ plan file asks well. absurd (some_status c.in-Err.fault (sym c.report-in-Err.ensures.status ∙ well))

pub returns-in_default-clause-quantile : goal.returns-in_default-clause-quantile
returns-in_default-clause-quantile g c = λ plan file asks. nothing_asked _ _ c.in_default.ensures.value asks

pub returns-in-Ok-clause-quantile : goal.returns-in-Ok-clause-quantile
returns-in-Ok-clause-quantile g c = λ plan file asks well. ranks_shown _ _ _ _ c.in-Some.ensures.value c.in-Ok.ensures.done.done plan file asks

pub returns-in-Err-clause-quantile : goal.returns-in-Err-clause-quantile
returns-in-Err-clause-quantile g c = λ plan file asks well. absurd (some_status c.in-Err.fault (sym c.report-in-Err.ensures.status ∙ well))

pub returns-in_default-clause-tally : goal.returns-in_default-clause-tally
returns-in_default-clause-tally g c = λ plan file asks. nothing_asked _ _ c.in_default.ensures.value asks

pub returns-in-Ok-clause-tally : goal.returns-in-Ok-clause-tally
returns-in-Ok-clause-tally g c = λ plan file asks well. tally_shown _ _ _ _ c.in-Some.ensures.value c.in-Ok.ensures.done.done plan file asks

pub returns-in-Err-clause-tally : goal.returns-in-Err-clause-tally
returns-in-Err-clause-tally g c = λ plan file asks well. absurd (some_status c.in-Err.fault (sym c.report-in-Err.ensures.status ∙ well))

pub returns-in_default-clause-tenants : goal.returns-in_default-clause-tenants
returns-in_default-clause-tenants g c = λ plan file asks. nothing_asked _ _ c.in_default.ensures.value asks

pub returns-in-Ok-clause-tenants : goal.returns-in-Ok-clause-tenants
returns-in-Ok-clause-tenants g c = λ plan file asks well. tenants_shown _ _ _ _ c.in-Some.ensures.value c.in-Ok.ensures.done.done plan file asks

pub returns-in-Err-clause-tenants : goal.returns-in-Err-clause-tenants
returns-in-Err-clause-tenants g c = λ plan file asks well. absurd (some_status c.in-Err.fault (sym c.report-in-Err.ensures.status ∙ well))

pub returns-in_default-clause-window : goal.returns-in_default-clause-window
returns-in_default-clause-window g c = λ plan file asks. nothing_asked _ _ c.in_default.ensures.value asks

pub returns-in-Ok-clause-window : goal.returns-in-Ok-clause-window
returns-in-Ok-clause-window g c = λ plan file asks well. window_shown _ _ _ _ c.in-Some.ensures.value c.in-Ok.ensures.done.done plan file asks

pub returns-in-Err-clause-window : goal.returns-in-Err-clause-window
returns-in-Err-clause-window g c = λ plan file asks well. absurd (some_status c.in-Err.fault (sym c.report-in-Err.ensures.status ∙ well))

pub returns-in_default-clause-serve : goal.returns-in_default-clause-serve
returns-in_default-clause-serve g c = λ plan asks. nothing_asked _ _ c.in_default.ensures.value asks

pub returns-in-Ok-clause-serve : goal.returns-in-Ok-clause-serve
returns-in-Ok-clause-serve g c = λ plan asks well. serve_shown _ _ _ _ c.in-Some.ensures.value c.in-Ok.ensures.done.done plan asks

pub returns-in-Err-clause-serve : goal.returns-in-Err-clause-serve
returns-in-Err-clause-serve g c = λ plan asks well. absurd (some_status c.in-Err.fault (sym c.report-in-Err.ensures.status ∙ well))

pub returns-in_default-clause-make : goal.returns-in_default-clause-make
returns-in_default-clause-make g c = λ plan asks. nothing_asked _ _ c.in_default.ensures.value asks
