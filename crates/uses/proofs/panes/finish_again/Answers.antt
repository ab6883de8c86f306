use Rattle.std.proofs.Common.{[], refl}
use Rattle.sk_snap.specs.History.{entries_in}
use Rattle.uses.proofs.Again.{again_tables, again_apart, closes_again}
use Rattle.uses.proofs.panes.finish_again.Goals as goal

pub returns-in-Done : goal.returns-in-Done
returns-in-Done g c = record {
  reply = λ lists each.
      let closes = c.in-Done.ensures.done c.in-Done.reply refl [] lists c.requires.none c.requires.apart each in
      record { list = entries_in c.finish.new.self.learnt.known; exactly = closes.exactly; reply_is = closes.reply_is };
}

pub finish-requires-2-clause-tables : goal.finish-requires-2-clause-tables
finish-requires-2-clause-tables g c =
    again_tables c.args.panes.now c.finish.new.self c.args.updaters.items c.in-OutOfMemory.left.items (c.in-OutOfMemory.ensures.stopped c.in-OutOfMemory.left refl [] c.requires.none) c.requires.tables

pub finish-requires-2-clause-apart : goal.finish-requires-2-clause-apart
finish-requires-2-clause-apart g c =
    again_apart c.args.panes.now c.finish.new.self c.args.updaters.items c.in-OutOfMemory.left.items (c.in-OutOfMemory.ensures.stopped c.in-OutOfMemory.left refl [] c.requires.none) c.requires.apart

pub returns : goal.returns
returns g c = record {
  reply = λ lists each.
      closes_again c.args.panes.now c.finish.new.self c.args.updaters.items c.in-OutOfMemory.left.items c.finish-2.new.self lists c.in-Done-finish.reply
      (c.in-OutOfMemory.ensures.stopped c.in-OutOfMemory.left refl [] c.requires.none) c.requires.none c.requires.apart each
      (λ before has apart its. c.in-Done-finish.ensures.done c.in-Done-finish.reply refl before lists has apart its);
}
