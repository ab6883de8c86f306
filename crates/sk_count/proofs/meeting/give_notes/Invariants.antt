use Rattle.std.proofs.Common.{◌≡◌}
use Rattle.sk_count.specs.Meets.{split_off, FirstHear}
use Rattle.sk_count.proofs.meeting.give_notes.Given as goal

abbrev pub invariant-updater : goal.invariant-updater
invariant-updater g l = (l.token ≡ split_off l.place l.initial.token) × FirstHear l.initial.token.view.seen l.initial.updaters l.place l.updaters
