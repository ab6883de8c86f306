use Rattle.sk_learn.specs.Learning.{LearnsFirst, AreAsked}
use Rattle.sk_learn.proofs.learning.learn_all.Given as goal

abbrev pub invariant-updater : goal.invariant-updater
invariant-updater g l = LearnsFirst l.initial.reader l.initial.updaters l.place l.reader × AreAsked l.initial.updaters l.place l.updaters
