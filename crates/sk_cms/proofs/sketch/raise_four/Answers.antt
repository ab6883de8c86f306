use Rattle.std.proofs.Common.{rules, ◌≡◌, ◌+◌, ◌<◌, ◌≤◌, ◌^◌, ℕ, List, [], ◌∷◌, length, fold, get_or, sym, ap, ◌∙◌, arith}
use Rattle.std.proofs.lemmas.List.Elements.{All-get_or}
use Rattle.sk_cms.specs.Counts.{joined}
use Rattle.sk_cms.specs.Limits.{most_counted}
use Rattle.sk_cms.specs.Places.{raised_once}
use Rattle.sk_cms.proofs.Joined.{length-joined}
use Rattle.sk_cms.proofs.Placing.{list_of_four, raised_at_most}
use Rattle.sk_cms.proofs.sketch.raise_four.Goals as goal

pub raise_at-requires-4-clause-small : goal.raise_at-requires-4-clause-small
raise_at-requires-4-clause-small c =
    let places = c.args.places.now in
    let cells = joined c.args.low.now c.args.high.now in
    let at = get_or places 3 0 in
    let ats : List ℕ = get_or places 0 0 ∷ get_or places 1 0 ∷ get_or places 2 0 ∷ [] in
    let four : length places ≡ 4 = search rules in
    let within : at < length c.args.low.now = c.requires.within 3 0 (omega (arith, four)) in
    let is : joined c.raise_at-3.new.low c.raise_at-3.new.high ≡ fold raised_once cells ats =
    c.raise_at-3.ensures
    ∙ ap (λ (l : List ℕ). raised_once l (get_or places 2 0)) (c.raise_at-2.ensures ∙ ap (λ (l : List ℕ). raised_once l (get_or places 1 0)) c.raise_at.ensures) in
    let now : get_or (joined c.raise_at-3.new.low c.raise_at-3.new.high) at 0 ≡ get_or (fold raised_once cells ats) at 0 = ap (λ (l : List ℕ). get_or l at 0) is in
    omega (
      arith,
      now,
      raised_at_most cells ats at,
      All-get_or (λ cell. cell ≤ most_counted + 2 ^ 62) cells at 0 (omega (arith, within, length-joined c.args.low.now c.args.high.now c.requires.sizes)) c.requires.small,
    )

pub returns : goal.returns
returns c =
    let places = c.args.places.now in
    let cells = joined c.args.low.now c.args.high.now in
    let four : length places ≡ 4 = search rules in
    let two : joined c.raise_at-2.new.low c.raise_at-2.new.high ≡ fold raised_once cells (get_or places 0 0 ∷ get_or places 1 0 ∷ []) = c.raise_at-2.ensures ∙ ap (λ (l : List ℕ). raised_once l (get_or places 1 0)) c.raise_at.ensures in
    let three : joined c.raise_at-3.new.low c.raise_at-3.new.high ≡ fold raised_once cells (get_or places 0 0 ∷ get_or places 1 0 ∷ get_or places 2 0 ∷ []) = c.raise_at-3.ensures ∙ ap (λ (l : List ℕ). raised_once l (get_or places 2 0)) two in
    record {
      cells =
          c.raise_at-4.ensures
          ∙ ap (λ (l : List ℕ). raised_once l (get_or places 3 0)) three
          ∙ ap (λ (l : List ℕ). fold raised_once cells l) (sym (list_of_four places four));
    }
