use Rattle.std.proofs.Common.{sym}
use Rattle.std.specs.Io.KnownBytes.{Appends}
use Rattle.sk_model.specs.Causes.{AppendsPart}
use Rattle.sk_panes.specs.Running.{due_text}
use Rattle.sk_panes.proofs.Feeding.{on_ok_then}
use Rattle.sk_panes.proofs.Taking.{takes_line, stops_line, if_write_failed}
use Rattle.sk_panes.proofs.taker.Taker.take_other.Goals as goal

pub returns-clause-takes : goal.returns-clause-takes
returns-clause-takes g c =
    let t = c.args.self.now.running.now in
    let a = c.come_to.new.self in
    let b = c.feed.new.self in
    let line = c.args.line.now in
    let parts = c.in-Some.field-0 in
    let w = g.O.Sink.written c.args.self.now.out.now in
    let w' = g.O.Sink.written c.write_ended.new.out in
    let some = c.requires.some in
    on_ok_then c.write_ended.result (Appends w w' (due_text b.plan.k c.in_ok-ended.ended)) _
    (λ wrote lines after. takes_line t.plan a.plan b.plan lines line parts.label.now parts.item_text.now c.in_ok-ended.ended a.panes b.panes a.updaters.items b.updaters.items a.candidates b.candidates a.label b.label
    c.in_ok-ended.ensures.plan c.feed.ensures.plan (sym c.in-Some.ensures.form) c.in-Some.ensures.label c.in-Some.ensures.item some (c.in_ok-ended.ensures.taken lines after)
    w w' c.feed.ensures.fed c.feed.ensures.k c.feed.ensures.updaters c.feed.ensures.panes c.feed.ensures.label wrote)
    c.write_ended.ensures.ok

pub returns-clause-stopped : goal.returns-clause-stopped
returns-clause-stopped g c =
    let t = c.args.self.now.running.now in
    let a = c.come_to.new.self in
    let b = c.feed.new.self in
    let line = c.args.line.now in
    let parts = c.in-Some.field-0 in
    let w = g.O.Sink.written c.args.self.now.out.now in
    let w' = g.O.Sink.written c.write_ended.new.out in
    let some = c.requires.some in
    if_write_failed c.write_ended.result (AppendsPart w w' (due_text b.plan.k c.in_ok-ended.ended)) _ c.write_ended.ensures.stop c.write_ended.ensures.part
    (λ part lines after. stops_line t.plan a.plan b.plan lines line parts.label.now parts.item_text.now c.in_ok-ended.ended a.panes b.panes a.updaters.items b.updaters.items a.candidates b.candidates a.label b.label
    c.in_ok-ended.ensures.plan c.feed.ensures.plan (sym c.in-Some.ensures.form) c.in-Some.ensures.label c.in-Some.ensures.item some (c.in_ok-ended.ensures.taken lines after)
    w w' part)
