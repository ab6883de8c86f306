use Rattle.std.proofs.Common.{length, ap, ◌∙◌, arith, length-append}
use Rattle.sk_hub.proofs.Calls.{takes_few}
use Rattle.sk_feed.proofs.OnItsWay.{few_kept, takes_waiting, gathers_more}
use Rattle.sk_feed.proofs.block_items.BlockItems.feed.Goals as goal

pub returns-then-self-eq0-clause-room : goal.returns-then-self-eq0-clause-room
returns-then-self-eq0-clause-room g c =
    let k = g.C.Composable in let offered = c.offer_waiting in let taken = offered.ensures.taken in
    omega (arith, c.group.invariant.room, takes_few k.keeps_of k.hint_of c.group.u offered.new.u taken.0 taken.2, ap length taken.1, length-append taken.0 offered.new.self.waiting, ap length offered.ensures.rest)

pub returns-then-self-eq0-clause-way : goal.returns-then-self-eq0-clause-way
returns-then-self-eq0-clause-way g c = λ lines start way.
    let k = g.C.Composable in let offered = c.offer_waiting in let taken = offered.ensures.taken in
    takes_waiting k.keeps_of k.hint_of lines start c.group.u c.group.self (c.group.invariant.way lines start way) offered.new.u offered.new.self taken.0 taken.1 offered.ensures.kind offered.ensures.rest taken.2

pub group-preserved : goal.group-preserved
group-preserved g c =
    let k = g.C.Composable in let offered = c.offer_waiting in let taken = offered.ensures.taken in let next = c.gather_next in let more = next.ensures.gathered in
    record {
      room = omega (
        arith,
        c.group.invariant.room,
        takes_few k.keeps_of k.hint_of c.group.u offered.new.u taken.0 taken.2,
        ap length taken.1,
        length-append taken.0 offered.new.self.waiting,
        ap length offered.ensures.rest,
        ap length more.2,
        length-append more.0 next.new.self.rest,
        ap length more.3,
        few_kept (k.keeps_of c.hint.result) offered.new.self.kind more.0,
      );
      kind = next.ensures.kind ∙ offered.ensures.kind ∙ c.group.invariant.kind;
      way = λ lines start way.
          let on = takes_waiting k.keeps_of k.hint_of lines start c.group.u c.group.self (c.group.invariant.way lines start way) offered.new.u offered.new.self taken.0 taken.1 offered.ensures.kind offered.ensures.rest taken.2 in
          gathers_more k.keeps_of k.hint_of lines start offered.new.u offered.new.self on next.new.self c.hint.result more.0 (offered.ensures.all c.group-test.true) next.ensures.kind c.hint.ensures.hint more.2 more.3;
    }

pub returns-clause-room : goal.returns-clause-room
returns-clause-room g c =
    let k = g.C.Composable in let offered = c.offer_waiting in let taken = offered.ensures.taken in
    omega (arith, c.group.invariant.room, takes_few k.keeps_of k.hint_of c.group.u offered.new.u taken.0 taken.2, ap length taken.1, length-append taken.0 offered.new.self.waiting, ap length offered.ensures.rest)

pub returns-clause-way : goal.returns-clause-way
returns-clause-way g c = λ lines start way.
    let k = g.C.Composable in let offered = c.offer_waiting in let taken = offered.ensures.taken in
    takes_waiting k.keeps_of k.hint_of lines start c.group.u c.group.self (c.group.invariant.way lines start way) offered.new.u offered.new.self taken.0 taken.1 offered.ensures.kind offered.ensures.rest taken.2
