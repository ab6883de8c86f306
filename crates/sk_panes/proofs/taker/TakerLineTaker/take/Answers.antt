use Rattle.std.proofs.Common.{◌≡◌, ◌<◌, length, None, refl, arith}
use Rattle.std.proofs.lemmas.Bool.Decides.{nat_tests}
use Rattle.std.proofs.KnownBytes.{Appends-nil}
use Rattle.sk_panes.specs.Running.{TakesLabel}
use Rattle.sk_panes.proofs.Labels.{form_is, label_is, item_is, label_again}
use Rattle.sk_panes.proofs.Taking.{empty_taken, takes_line}
use Rattle.sk_panes.proofs.taker.TakerLineTaker.take.Goals as goal

pub returns-then-is_empty-clause-takes : goal.returns-then-is_empty-clause-takes
returns-then-is_empty-clause-takes g c = λ start lines after.
    let t = c.args.self.now.running.now in
    let none : length c.args.line.now ≡ 0 = let is = c.is_empty.ensures in let yes = c.if-is_empty.true in grind (arith, nat_tests) in
    empty_taken t.plan lines c.args.line.now t.panes t.updaters.items t.candidates t.label (g.O.Sink.written c.args.self.now.out.now) none after

pub returns-in-Some-clause-takes : goal.returns-in-Some-clause-takes
returns-in-Some-clause-takes g c = λ start lines after.
    let t = c.args.self.now.running.now in
    let b = c.feed.new.self in
    let line = c.args.line.now in
    let rest = c.in-Some.item_text.now in
    let is = c.in-Some.ensures in
    let w = g.O.Sink.written c.args.self.now.out.now in
    let some : 0 < length line = let is = c.is_empty.ensures in let no = c.if-is_empty.false in grind (arith, nat_tests) in
    let takes : TakesLabel t.plan lines t.label None t.panes t.updaters.items t.candidates t.label = label_again t.plan lines t.panes t.updaters.items t.candidates t.label is.some.0 after in
    takes_line t.plan t.plan b.plan lines line t.label rest None t.panes b.panes t.updaters.items b.updaters.items t.candidates b.candidates t.label b.label
    refl c.feed.ensures.plan
    (form_is line t.label rest takes.moment takes.moment_is is.label is.space is.rest is.some.0 is.some.1)
    (label_is line t.label rest takes.moment takes.moment_is is.label is.space is.rest is.some.0 is.some.1)
    (item_is line t.label rest takes.moment takes.moment_is is.label is.space is.rest is.some.0 is.some.1)
    some takes w w c.feed.ensures.fed c.feed.ensures.k c.feed.ensures.updaters c.feed.ensures.panes c.feed.ensures.label (Appends-nil w)
