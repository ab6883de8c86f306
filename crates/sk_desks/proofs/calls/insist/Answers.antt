use Rattle.std.proofs.Common.{◌≡◌, ◌+◌, ◌≤◌, length, get_or, slice_get, Some, arith}
use Rattle.std.proofs.lemmas.Option.{slice_get-get_or}
use Rattle.sk_hub.specs.Updaters.{UpdaterState, kept_of}
use Rattle.sk_desks.proofs.Taking.{insisted}
use Rattle.sk_desks.proofs.calls.insist.Goals as goal

pub returns : goal.returns
returns g c =
    let desk = c.args.desk.now in let done = c.insist-taken.ensures.done in
    let u : UpdaterState = done.before in
    let at : slice_get desk.updaters c.args.t ≡ Some (get_or desk.updaters c.args.t u) = slice_get-get_or desk.updaters c.args.t u c.requires.place in
    let room : length (kept_of (get_or desk.updaters c.args.t u)) + 1 ≤ desk.quota = c.requires.room c.args.t u c.requires.place in
    insisted desk c.insist-taken.new.self c.args.t c.args.item c.insist-taken.result done
    (λ over. let full = (c.insist-taken.ensures.over (get_or desk.updaters c.args.t u) at).0 over in omega (arith, full, room))
