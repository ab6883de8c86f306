use Rattle.std.proofs.Common.{◌≡◌, length, arith, subst}
use Rattle.sk_learn.specs.Learning.{LearnsFirst, AreAsked}
use Rattle.sk_learn.proofs.LearningLaws.{none_learnt, none_asked, next_name, next_learnt, next_asked}
use Rattle.sk_learn.proofs.learning.learn_all.Goals as goal

pub updater-init : goal.updater-init
updater-init g c = (none_learnt _ _, none_asked _)

pub learn-requires : goal.learn-requires
learn-requires g c = record { name = next_name c.args.reader.now c.updater.reader c.args.updaters.now c.updater.updaters c.updater.place c.index-updaters-place.result c.requires.names c.updater-test.true c.updater.invariant.0 c.updater.invariant.1 }

pub updater-preserved : goal.updater-preserved
updater-preserved g c = (
  next_learnt c.args.reader.now c.updater.reader c.learn.new.reader c.args.updaters.now c.updater.updaters c.updater.place c.index-updaters-place.result c.updater-test.true c.updater.invariant.0 c.updater.invariant.1 c.learn.ensures.learns,
  next_asked c.args.updaters.now c.updater.updaters c.updater.place c.learn.new.u c.index-updaters-place.result c.updater-test.true c.updater.invariant.1 c.learn.ensures.asked,
)

pub returns : goal.returns
returns g c = let last : c.updater.place ≡ length c.args.updaters.now = omega arith in record {
  learns = subst (λ n. LearnsFirst c.args.reader.now c.args.updaters.now n c.updater.reader) last c.updater.invariant.0;
  asked = subst (λ n. AreAsked c.args.updaters.now n c.updater.updaters) last c.updater.invariant.1;
}
