use Rattle.sk_count.specs.Meets.{MeetsFirst, AreNoted}
use Rattle.sk_count.proofs.meeting.meet_all.Given as goal

abbrev pub invariant-updater : goal.invariant-updater
invariant-updater g l = MeetsFirst l.initial.token l.initial.updaters l.place l.token × AreNoted l.initial.updaters l.place l.updaters
