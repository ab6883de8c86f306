use Rattle.std.proofs.Common.{◌≡◌, ◌+◌, ◌≤◌, ◌^◌, ap, length, arith, refl}
use Rattle.sk_snap.specs.History.{Beginning, entries_in}
use Rattle.sk_snap.specs.Versions.{items_in}
use Rattle.sk_snap.proofs.Versions.{as_many}
use Rattle.sk_snap.proofs.versioned.Versioned.merge_items.Goals as goal

pub merged-writer-requires-clause-room : goal.merged-writer-requires-clause-room
merged-writer-requires-clause-room g c =
    let inv = c.self.invariant in
    let at : c.unwrap-writer.result ≡ inv.0 = cc (c.unwrap-writer.ensures, c.take.ensures.value, inv.1) in
    let known_is : inv.0.desk.shown.value.known ≡ c.args.self.now.known = rw (← c.self.view_is, inv.1) refl in
    let few : length (items_in inv.0.desk.shown.value.known) + length c.args.items.now ≤ 2 ^ 46 =
    omega (arith, c.requires.room, as_many (entries_in inv.0.desk.shown.value.known), ap (λ (b : Beginning). length (entries_in b)) known_is) in
    rw at few
