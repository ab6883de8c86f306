use Rattle.std.proofs.Common.{◌<◌, length, arith, subst, sym}
use Rattle.sk_model.specs.Entries.{items_of_entries}
use Rattle.sk_learn.specs.Learning.{ReaderGoesOn}
use Rattle.sk_learn.specs.Closing.{TakesIn}
use Rattle.sk_learn.proofs.LearningLaws.{goes_refl}
use Rattle.sk_learn.proofs.ClosingLaws.{has_place, was_drained, took_in, nothing_kept, all_told, told_stays}
use Rattle.sk_learn.proofs.closing.take_in.Goals as goal
use Rattle.sk_learn.proofs.closing.take_in.Goals.{in-Some, in_default}

pub returns-in-OutOfMemory-clause-back : goal.returns-in-OutOfMemory-clause-back
returns-in-OutOfMemory-clause-back g c =
    let back = c.in-OutOfMemory.back in let is = c.in-OutOfMemory.is in record { back = c.drain.ensures.back back is; vain = c.drain.ensures.refused back is; knows = c.drain.ensures.known back is; stays = c.drain.ensures.stays back is }

pub told-requires-clause-drained : goal.told-requires-clause-drained
told-requires-clause-drained g c = was_drained c.args.heart.now c.drain.new.self c.args.u c.number-number.result c.number-number.ensures.value (c.drain.ensures.drained c.in-Drained.is)

pub returns-clause-taken : goal.returns-clause-taken
returns-clause-taken g c =
    let h = c.args.heart.now in let b = c.drain.new.self in let u = c.args.u in let r = c.args.reader.now in
    let d = c.drain.ensures.drained c.in-Drained.is in
    elim c.match-told.branch [
      | in-Some w ↦
          let s = w.learn.new.self in
          let goes : ReaderGoesOn r s = record { grows = w.learn.ensures.mine; numbers = w.learn.ensures.numbers; book = w.learn.ensures.name } in
          subst (λ z. TakesIn h u r c.told.new.self z) (sym w.reader-is)
          (took_in h b c.told.new.self u r s d (told_stays c.told.new.self b _ c.told.ensures.stays) goes
          (all_told h b u s c.number-number.result w.in-Some.told c.number-number.ensures.value d (c.told.ensures.tells w.in-Some.told w.in-Some.is) w.learn.ensures.theirs))
      | in_default w ↦
          let place : u.number < h.updaters = has_place (λ numbers list. g.S.Sequential.hint_of numbers (items_of_entries list)) h u c.number-number.ensures.whole c.admitted-admitted.ensures.whole c.requires.table in
          let within : u.number < length h.news = omega (arith, place, c.admitted-admitted.ensures.whole.news) in
          subst (λ z. TakesIn h u r c.told.new.self z) (sym w.reader-is)
          (took_in h b c.told.new.self u r r d (told_stays c.told.new.self b _ c.told.ensures.stays) (goes_refl r)
          (nothing_kept h b u r c.number-number.result c.told.result c.number-number.ensures.value d within c.told.ensures.news w.in_default.is))
    ]
