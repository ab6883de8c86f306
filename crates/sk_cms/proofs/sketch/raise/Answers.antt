use Rattle.std.proofs.Common.{◌≡◌, ◌+◌, ◌<◌, ◌^◌, List, ℕ, get_or, refl, ap, sym, ◌∙◌, arith, add-one}
use Rattle.std.specs.Prelude.{slice_set}
use Rattle.std.proofs.lemmas.List.Elements.{All-get_or}
use Rattle.sk_cms.specs.Cells.{place, place_within, raised_past, raised-suc}
use Rattle.sk_cms.specs.Counts.{joined, raised}
use Rattle.sk_cms.proofs.Joined.{length-joined}
use Rattle.sk_cms.proofs.sketch.raise.Goals as goal

pub row-init : goal.row-init
unfolding raised
row-init c = refl

pub raise_at-requires-clause-within : goal.raise_at-requires-clause-within
raise_at-requires-clause-within c =
    omega (arith, c.place-at.ensures, place_within c.args.rows c.args.width c.row.r c.args.x c.requires.shape.some_width (omega arith), c.requires.low)

pub raise_at-requires-clause-small : goal.raise_at-requires-clause-small
raise_at-requires-clause-small c =
    let at = c.place-at.result in
    let cells = joined c.args.low.now c.args.high.now in
    let within = place_within c.args.rows c.args.width c.row.r c.args.x c.requires.shape.some_width (omega arith) in
    let before : get_or (joined c.row.low c.row.high) at 0 ≡ get_or cells at 0 =
    ap (λ (l : List ℕ). get_or l at 0) c.row.invariant
    ∙ raised_past c.row.r c.args.width c.args.x cells at c.requires.shape.some_width (omega (arith, c.place-at.ensures)) in
    omega (
      arith,
      before,
      All-get_or (λ cell. cell < 2 ^ 47) cells at 0
          (omega (arith, c.place-at.ensures, within, c.requires.low, length-joined c.args.low.now c.args.high.now (omega (arith, c.requires.low, c.requires.high)))) c.requires.small,
    )

pub row-preserved : goal.row-preserved
row-preserved c =
    let width = c.args.width in
    let cells = joined c.args.low.now c.args.high.now in
    let step : List ℕ → ℕ → List ℕ = λ l at. slice_set l at (get_or l at 0 + 1) in
    let more : raised (c.row.r + 1) width c.args.x cells ≡ step (raised c.row.r width c.args.x cells) (place width c.row.r c.args.x) = rw add-one (raised-suc c.row.r width c.args.x cells) in
    c.raise_at.ensures
    ∙ ap (λ (l : List ℕ). step l c.place-at.result) c.row.invariant
    ∙ ap (λ (at : ℕ). step (raised c.row.r width c.args.x cells) at) c.place-at.ensures
    ∙ sym more
