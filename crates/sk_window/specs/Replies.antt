-- What a reply between two closings lacks.
use Rattle.std.specs.Prelude.{◌≡◌, ◌*◌, true}
use Rattle.sk_model.specs.Entries.{entries_by}
use Rattle.sk_model.specs.Missing.{LacksAtMost}
use Rattle.sk_hub.specs.Updaters.{UpdaterState, kept_of}
use Rattle.sk_snap.specs.History.{entries_in}
use Rattle.sk_snap.specs.Versions.{Learnt}

-- if an updater held a told value, the reader's list has of it all that it had kept but at most what two buffers hold
abbrev pub LacksTwoBuffers : Learnt → UpdaterState → Type 0
LacksTwoBuffers r u = u.news ≡ true → LacksAtMost (kept_of u) (entries_by u.number (entries_in r.known)) (2 * u.size)
