use Rattle.std.proofs.Common.{ℕ, ◌+◌, List, [], ◌∷◌, ◌++◌, Bool, true, Ok, inr, sym, ap, ◌∙◌, subst, rules}
use Rattle.sk_io.specs.Traffic.{left_of}
use Rattle.sk_read.specs.Reading.{HasRead, Goes}
use Rattle.sk_read.specs.Reads.{IsInTime}
use Rattle.sk_read.specs.declared.units.Units.TheVariants.{Lines}
use Rattle.sk_line.specs.Sessions.{session_state, ComesTo}
use Rattle.sk_line.specs.Serving.{Answered, lines_in}
use Rattle.sk_line.proofs.Endings.{closes, faults, quits, cut_off, goes_on}
use Rattle.sk_line.proofs.sessions.serve_next.Given.{Over}
use Rattle.sk_line.proofs.sessions.serve_next.Goals.{After-line}
use Rattle.sk_line.proofs.sessions.serve_next.Goals as goal

pub returns-in-Ok-false-clause-goes : goal.returns-in-Ok-false-clause-goes
returns-in-Ok-false-clause-goes g c = λ a answered taken stands.
    let b = session_state (g.L.Link.traffic c.args.link.now) c.args.u.now (g.P.Pump.pumps c.args.pump.now) in
    let link = g.L.Link.traffic c.next_line.new.link in
    let next = c.next_line.ensures.comes.goes (lines_in answered) taken stands.read in
    let none = c.in-Ok-false.is ∙ ap (λ (b : Bool). Ok b) c.in-Ok-false.field-0-test in
    closes c.args.shape.now a b answered taken next.0 c.args.reader.now c.next_line.new.reader link c.pump.new.u (g.P.Pump.pumps c.pump.new.self) stands next.1 c.pump.ensures.updater c.pump.ensures.count
    (subst (Goes c.next_line.new.reader (left_of link) (lines_in answered) (taken ++ next.0)) none next.2)

pub returns-in-Err-clause-goes : goal.returns-in-Err-clause-goes
returns-in-Err-clause-goes g c = λ a answered taken stands.
    let b = session_state (g.L.Link.traffic c.args.link.now) c.args.u.now (g.P.Pump.pumps c.args.pump.now) in
    let link = g.L.Link.traffic c.next_line.new.link in
    let next = c.next_line.ensures.comes.goes (lines_in answered) taken stands.read in
    let now = session_state link c.pump.new.u (g.P.Pump.pumps c.pump.new.self) in
    subst (ComesTo c.args.shape.now c.next_line.new.reader.most a now) (sym c.end_by.ensures.value)
    (faults c.args.shape.now a b answered taken next.0 c.args.reader.now c.next_line.new.reader link c.pump.new.u (g.P.Pump.pumps c.pump.new.self) stands next.1 c.pump.ensures.updater c.pump.ensures.count c.in-Err.fault
    (subst (Goes c.next_line.new.reader (left_of link) (lines_in answered) (taken ++ next.0)) c.in-Err.is next.2))

-- what came of the line that was read, as its parts are told
line_read : (g : Over) (c : After-line g) (answered : List Answered) (taken more : List ℕ) → Goes c.next_line.new.reader (left_of (g.L.Link.traffic c.next_line.new.link)) (lines_in answered) (taken ++ more) c.next_line.result →
    HasRead c.next_line.new.reader (left_of (g.L.Link.traffic c.next_line.new.link)) (lines_in answered ++ c.line.result.now ∷ []) (taken ++ more) × IsInTime c.next_line.new.reader.last Lines (lines_in answered) (taken ++ more)
line_read g c answered taken more goes =
    let some = c.in-Ok-true.is ∙ ap (λ (b : Bool). Ok b) c.in-Ok-true.field-0-test in
    let left = left_of (g.L.Link.traffic c.next_line.new.link) in
    let at : Goes c.next_line.new.reader left (lines_in answered) (taken ++ more) (Ok true) = subst (Goes c.next_line.new.reader left (lines_in answered) (taken ++ more)) some goes in
    (subst (λ (l : List ℕ). HasRead c.next_line.new.reader left (lines_in answered ++ l ∷ []) (taken ++ more)) (sym c.line.ensures) at.0, at.1)

pub returns-in_default-clause-goes : goal.returns-in_default-clause-goes
returns-in_default-clause-goes g c = λ a answered taken stands.
    let b = session_state (g.L.Link.traffic c.args.link.now) c.args.u.now (g.P.Pump.pumps c.args.pump.now) in
    let link = g.L.Link.traffic c.next_line.new.link in
    let next = c.next_line.ensures.comes.goes (lines_in answered) taken stands.read in
    let read = line_read g (goal.at.returns-in_default-clause-goes g c).After-line answered taken next.0 next.2 in
    quits c.args.shape.now a b answered taken next.0 c.args.reader.now c.next_line.new.reader link c.pump.new.u (g.P.Pump.pumps c.pump.new.self) stands next.1 c.pump.ensures.updater c.pump.ensures.count
    c.line.result.now read.0 read.1 c.serve.new.u (g.P.Pump.pumps c.serve.new.pump) (search rules) (search rules) c.serve.ensures.pumps

pub returns-in-Ok-clause-goes : goal.returns-in-Ok-clause-goes
returns-in-Ok-clause-goes g c = λ a answered taken stands.
    let b = session_state (g.L.Link.traffic c.args.link.now) c.args.u.now (g.P.Pump.pumps c.args.pump.now) in
    let link = g.L.Link.traffic c.next_line.new.link in
    let next = c.next_line.ensures.comes.goes (lines_in answered) taken stands.read in
    let read = line_read g (goal.at.returns-in-Ok-clause-goes g c).After-line answered taken next.0 next.2 in (
      answered ++ record { line = c.line.result.now; answer = c.in-Some.answer; pumps = c.in-Some.ensures.helped.0 + 1 } ∷ [],
      taken ++ next.0,
      goes_on c.args.shape.now a b answered taken next.0 c.args.reader.now c.next_line.new.reader link c.pump.new.u (g.P.Pump.pumps c.pump.new.self) stands next.1 c.pump.ensures.updater c.pump.ensures.count
          c.line.result.now read.0 read.1 c.in-Some.answer c.serve.new.u c.in-Some.ensures.helped.0 (g.P.Pump.pumps c.serve.new.pump) (g.L.Link.traffic c.send_reply.new.link) c.in-Some.ensures.done c.in-Some.ensures.helped.1 c.in-Some.ensures.helped.2 c.in-Ok.ensures.ok,
    )

pub returns-in-Err-send_reply-clause-goes : goal.returns-in-Err-send_reply-clause-goes
returns-in-Err-send_reply-clause-goes g c = λ a answered taken stands.
    let b = session_state (g.L.Link.traffic c.args.link.now) c.args.u.now (g.P.Pump.pumps c.args.pump.now) in
    let link = g.L.Link.traffic c.next_line.new.link in
    let next = c.next_line.ensures.comes.goes (lines_in answered) taken stands.read in
    let read = line_read g (goal.at.returns-in-Err-send_reply-clause-goes g c).After-line answered taken next.0 next.2 in
    inr (cut_off c.args.shape.now a b answered taken next.0 c.args.reader.now c.next_line.new.reader link c.pump.new.u (g.P.Pump.pumps c.pump.new.self) stands next.1 c.pump.ensures.updater c.pump.ensures.count
    c.line.result.now read.0 read.1 c.in-Some.answer c.serve.new.u c.in-Some.ensures.helped.0 (g.P.Pump.pumps c.serve.new.pump) (g.L.Link.traffic c.send_reply.new.link) c.in-Some.ensures.done c.in-Some.ensures.helped.1 c.in-Some.ensures.helped.2 c.in-Err-send_reply.ensures.err)
