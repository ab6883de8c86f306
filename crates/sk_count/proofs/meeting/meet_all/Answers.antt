use Rattle.std.proofs.Common.{◌≡◌, length, arith, subst}
use Rattle.sk_count.specs.Meets.{MeetsFirst, AreNoted}
use Rattle.sk_count.proofs.MeetingLaws.{none_met, none_noted, may_still, next_met, next_noted}
use Rattle.sk_count.proofs.meeting.meet_all.Goals as goal

pub updater-init : goal.updater-init
updater-init g c = (none_met _ _, none_noted _)

pub meet-requires : goal.meet-requires
meet-requires g c = record { may = may_still c.args.token.now c.updater.token c.args.updaters.now c.updater.updaters c.updater.place c.index-updaters-place.result c.requires.may c.updater-test.true c.updater.invariant.0 c.updater.invariant.1 }

pub updater-preserved : goal.updater-preserved
updater-preserved g c = (
  next_met c.args.token.now c.updater.token c.meet.new.token c.args.updaters.now c.updater.updaters c.updater.place c.index-updaters-place.result c.requires.may c.updater-test.true c.updater.invariant.0 c.updater.invariant.1 c.meet.ensures.met,
  next_noted c.args.updaters.now c.updater.updaters c.updater.place c.meet.new.u c.index-updaters-place.result c.updater-test.true c.updater.invariant.1 c.meet.ensures.noted,
)

pub returns : goal.returns
returns g c = let last : c.updater.place ≡ length c.args.updaters.now = omega arith in record {
  met = subst (λ n. MeetsFirst c.args.token.now c.args.updaters.now n c.updater.token) last c.updater.invariant.0;
  noted = subst (λ n. AreNoted c.args.updaters.now n c.updater.updaters) last c.updater.invariant.1;
}
