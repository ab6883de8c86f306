use Rattle.std.proofs.Common.{◌≡◌, ◌+◌, ◌*◌, ◌/◌, ◌<◌, ◌≤◌, ◌^◌, ℕ, List, [], length, take, drop, fold, get_or, sym, ap, subst, ◌∙◌, arith, All}
use Rattle.std.proofs.lemmas.List.Elements.{All-take, All-drop}
use Rattle.sk_cms.specs.Counts.{joined}
use Rattle.sk_cms.specs.Limits.{most_counted}
use Rattle.sk_cms.specs.Places.{raised_once}
use Rattle.sk_cms.proofs.Placing.{four_at, four_more, rest_more, some_raised_small}
use Rattle.sk_cms.proofs.sketch.raise_each.Goals as goal

pub raise_four-requires-clause-within : goal.raise_four-requires-clause-within
raise_four-requires-clause-within c =
    let places = c.args.places.now in
    let i = c.four.four-index in
    let P : ℕ → Type 0 = λ at. at < length c.four.low in
    let within : All P places = λ k d below. omega (arith, c.requires.within k d below, c.four.auto.low) in
    let is : get_or c.as_chunks.result.0.now i [] ≡ take 4 (drop (4 * i) places) =
    ap (λ (l : List (List ℕ)). get_or l i []) c.as_chunks.ensures.front ∙ four_at (length places / 4) i places (omega (arith, c.four-test.true, c.as_chunks.ensures.front_len)) in
    subst (λ (l : List ℕ). All P l) (sym is) (All-take P 4 (drop (4 * i) places) (All-drop P (4 * i) places within))

pub raise_four-requires-clause-small : goal.raise_four-requires-clause-small
raise_four-requires-clause-small c =
    subst (λ (l : List ℕ). All (λ cell. cell ≤ most_counted + 2 ^ 62) l) (sym c.four.invariant)
    (some_raised_small (joined c.args.low.now c.args.high.now) c.args.places.now (4 * c.four.four-index) c.requires.small c.requires.few)

pub four-preserved : goal.four-preserved
four-preserved c =
    let places = c.args.places.now in
    let cells = joined c.args.low.now c.args.high.now in
    let i = c.four.four-index in
    let is : get_or c.as_chunks.result.0.now i [] ≡ take 4 (drop (4 * i) places) =
    ap (λ (l : List (List ℕ)). get_or l i []) c.as_chunks.ensures.front ∙ four_at (length places / 4) i places (omega (arith, c.four-test.true, c.as_chunks.ensures.front_len)) in
    c.raise_four.ensures.cells
    ∙ ap (λ (l : List ℕ). fold raised_once l (get_or c.as_chunks.result.0.now i [])) c.four.invariant
    ∙ ap (λ (l : List ℕ). fold raised_once (fold raised_once cells (take (4 * i) places)) l) is
    ∙ sym (four_more cells places i)

pub raise_rest-requires-clause-small : goal.raise_rest-requires-clause-small
raise_rest-requires-clause-small c =
    subst (λ (l : List ℕ). All (λ cell. cell ≤ most_counted + 2 ^ 62) l) (sym c.four.invariant)
    (some_raised_small (joined c.args.low.now c.args.high.now) c.args.places.now (4 * c.four.four-index) c.requires.small c.requires.few)

pub returns : goal.returns
returns c =
    let places = c.args.places.now in
    let cells = joined c.args.low.now c.args.high.now in
    let i = c.four.four-index in
    let end : 4 * i ≡ length places / 4 * 4 = omega (arith, c.four-test.false, c.four.auto.four-index-end, c.as_chunks.ensures.front_len) in
    record {
      cells =
          c.raise_rest.ensures.cells
          ∙ ap (λ (l : List ℕ). fold raised_once l c.as_chunks.result.1.now) c.four.invariant
          ∙ ap (λ (l : List ℕ). fold raised_once (fold raised_once cells (take (4 * i) places)) l) c.as_chunks.ensures.back
          ∙ ap (λ (n : ℕ). fold raised_once (fold raised_once cells (take n places)) (drop (length places / 4 * 4) places)) end
          ∙ rest_more cells places (length places / 4 * 4);
    }
