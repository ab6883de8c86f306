use Rattle.std.proofs.Common.{arith, ◌≡◌, ◌++◌, ◌∷◌, [], Bool, true, false, refl, sym, ◌∙◌}
use Rattle.sk_read.specs.Reading.{HasGiven}
use Rattle.sk_read.proofs.Readings.{read_on, in_time_within, in_time_more, have_ended, goes_long}
use Rattle.sk_read.proofs.reader.LineReader.next_held.Goals as goal

pub returns-in-Line-clause-goes : goal.returns-in-Line-clause-goes
returns-in-Line-clause-goes c = λ left given taken read.
    read_on c.args.self.now c.cut.new.self left left given (given ++ c.cut.new.self.cutter.line ∷ []) taken taken read ((c.cut.ensures.line c.in-Line.is).0 given taken read.has)
    (λ ended. read.end (sym c.cut.ensures.ended ∙ ended)) c.cut.ensures.limit c.cut.ensures.most.0 c.cut.ensures.bound (in_time_more _ given _ taken (omega (arith, c.cut.ensures.piece)) read.in_time)

pub returns-in-More-clause-goes : goal.returns-in-More-clause-goes
returns-in-More-clause-goes c = λ left given taken read.
    let still : (b : Bool) → c.args.self.now.ended ≡ b → HasGiven c.cut.new.self given taken = λ b. elim b as (λ b. c.args.self.now.ended ≡ b → HasGiven c.cut.new.self given taken) [
      | true ↦ λ over. c.cut.ensures.after_end c.in-More.is over given taken read.has
      | false ↦ λ going. (c.cut.ensures.more c.in-More.is going given taken read.has).follows
    ] in (
      read_on c.args.self.now c.cut.new.self left left given given taken taken read (still c.args.self.now.ended refl)
          (λ ended. read.end (sym c.cut.ensures.ended ∙ ended)) c.cut.ensures.limit c.cut.ensures.most.0 c.cut.ensures.bound (in_time_within _ given taken (omega (arith, c.cut.ensures.piece)) read.in_time),
      λ going. have_ended c.cut.new.self given taken (c.cut.ensures.limit ∙ read.limit) (c.cut.ensures.more c.in-More.is (sym c.cut.ensures.ended ∙ going) given taken read.has),
    )

pub returns-in-Long-clause-goes : goal.returns-in-Long-clause-goes
returns-in-Long-clause-goes c = λ left given taken read.
    goes_long c.args.self.now c.cut.new.self left given taken c.in-Long.line read c.cut.ensures.most.0 c.cut.ensures.piece (c.cut.ensures.long c.in-Long.line c.in-Long.is)
