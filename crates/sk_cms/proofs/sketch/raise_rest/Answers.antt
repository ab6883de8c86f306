use Rattle.std.proofs.Common.{◌≡◌, ◌+◌, ◌<◌, ◌≤◌, ◌^◌, ℕ, List, length, take, fold, get_or, ap, arith}
use Rattle.std.proofs.lemmas.List.{length-take}
use Rattle.std.proofs.lemmas.List.Elements.{All-get_or}
use Rattle.sk_cms.specs.Counts.{joined}
use Rattle.sk_cms.specs.Limits.{most_counted}
use Rattle.sk_cms.specs.Places.{raised_once}
use Rattle.sk_cms.proofs.Joined.{length-joined}
use Rattle.sk_cms.proofs.Placing.{length-raised_at, raised_at_small}
use Rattle.sk_cms.proofs.sketch.raise_rest.Goals as goal

pub raise_at-requires-clause-small : goal.raise_at-requires-clause-small
raise_at-requires-clause-small c =
    let places = c.args.places.now in
    let at = get_or places c.place.at-index 0 in
    let ats = take c.place.at-index places in
    let cells = joined c.args.low.now c.args.high.now in
    let is : get_or (joined c.place.low c.place.high) at 0 ≡ get_or (fold raised_once cells ats) at 0 = ap (λ (l : List ℕ). get_or l at 0) c.place.invariant in
    let within : at < length c.args.low.now = c.requires.within c.place.at-index 0 c.place-test.true in
    let inside : at < length (fold raised_once cells ats) = omega (arith, within, length-raised_at cells ats, length-joined c.args.low.now c.args.high.now c.requires.sizes) in
    omega (
      arith,
      is,
      All-get_or (λ cell. cell ≤ most_counted + 2 ^ 62 + length ats) (fold raised_once cells ats) at 0 inside (raised_at_small cells ats (most_counted + 2 ^ 62) c.requires.small),
      length-take c.place.at-index places,
      c.requires.few,
      c.place-test.true,
    )
