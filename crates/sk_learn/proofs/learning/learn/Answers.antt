use Rattle.sk_learn.proofs.LearningLaws.{told_begins}
use Rattle.sk_hub.specs.Updaters.{UpdaterState, earlier_of}
use Rattle.sk_learn.proofs.learning.learn.Goals as goal

pub returns-in-Some-clause-learns : goal.returns-in-Some-clause-learns
returns-in-Some-clause-learns g c =
    let u : UpdaterState = c.args.u.now in let whole = c.number-number.ensures.whole in record {
      goes = record { grows = c.learn.ensures.mine; numbers = c.learn.ensures.numbers; book = c.learn.ensures.name };
      knows = record {
        told = λ is. told_begins u.view.name u.number (earlier_of u) c.in-Some.told c.learn.new.self (c.told.ensures.tells c.in-Some.told c.in-Some.is) c.learn.ensures.theirs;
        last = whole.last;
        fill = whole.fill;
      };
    }
