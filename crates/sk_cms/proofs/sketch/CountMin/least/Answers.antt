use Rattle.std.proofs.Common.{◌≡◌, ◌<◌, ◌≤◌, ℕ, List, length, get_or, arith, sym, ap, ◌∙◌, add-one}
use Rattle.sk_cms.specs.Cells.{place, place_within}
use Rattle.sk_cms.specs.Counts.{Counts, joined, IsCountOf}
use Rattle.sk_cms.specs.Estimate.{least_of}
use Rattle.sk_cms.proofs.Estimates.{least-zero, times_least}
use Rattle.sk_cms.proofs.Joined.{length-joined}
use Rattle.sk_cms.proofs.Updates.{one_row_read}
use Rattle.sk_cms.proofs.sketch.CountMin.least.Goals as goal

pub row-init : goal.row-init
row-init c =
    λ items is. ap (λ (s : Counts). s.count) c.self.view_is ∙ is.count ∙ sym (least-zero c.args.self.now.width c.args.x items)

pub count_at-count-requires-clause-within : goal.count_at-count-requires-clause-within
count_at-count-requires-clause-within c =
    let inside = c.self.inside in
    let whole = c.self.invariant.whole in
    let at_is : c.place-at.result ≡ place inside.width c.row.r c.args.x = c.place-at.ensures ∙ ap (λ (w : ℕ). place w c.row.r c.args.x) c.from-width.ensures in
    omega (
      arith,
      at_is,
      place_within inside.rows inside.width c.row.r c.args.x whole.shape.some_width c.row-test.true,
      whole.size,
      length-joined inside.low.items inside.high.items c.self.invariant.sizes,
      ap length c.deref.ensures.value,
    )

pub row-preserved : goal.row-preserved
row-preserved c =
    let inside = c.self.inside in
    let whole = c.self.invariant.whole in
    let at = c.place-at.result in
    let r = c.row.r in
    let at_is : at ≡ place inside.width r c.args.x = c.place-at.ensures ∙ ap (λ (w : ℕ). place w r c.args.x) c.from-width.ensures in
    let cells : joined c.deref.result.now c.deref-in-row.result.now ≡ c.args.self.now.cells =
    ap (λ (l : List ℕ). joined l c.deref-in-row.result.now) c.deref.ensures.value
    ∙ ap (λ (h : List ℕ). joined inside.low.items h) c.deref-in-row.ensures.value
    ∙ ap (λ (s : Counts). s.cells) c.self.view_is in
    let read : c.count_at-count.result ≡ get_or c.args.self.now.cells (place c.args.self.now.width r c.args.x) 0 =
    c.count_at-count.ensures
    ∙ ap (λ (l : List ℕ). get_or l at 0) cells
    ∙ ap (λ (i : ℕ). get_or c.args.self.now.cells i 0) at_is
    ∙ ap (λ (s : Counts). get_or c.args.self.now.cells (place s.width r c.args.x) 0) c.self.view_is in
    let some : 1 ≤ c.args.self.now.width = omega (arith, whole.shape.some_width, ap (λ (s : Counts). s.width) c.self.view_is) in
    let below : r < c.args.self.now.rows = omega (arith, c.row-test.true, ap (λ (s : Counts). s.rows) c.self.view_is) in
    λ items is. omega (arith, rw (← add-one) at (one_row_read c.args.self.now r c.args.x c.row.least c.count_at-count.result items is some below (c.row.invariant items is) read))

-- all rows were read
whole_read : (c : goal.After-row) (items : List ℕ) → IsCountOf c.args.self.now items → c.row.least ≡ least_of c.args.self.now.rows c.args.self.now.width c.args.x items
whole_read c items is =
    let all : c.row.r ≡ c.args.self.now.rows = omega (arith, c.row.auto.r-end, c.row-test.false, ap (λ (s : Counts). s.rows) c.self.view_is) in
    c.row.invariant items is ∙ ap (λ (n : ℕ). least_of n c.args.self.now.width c.args.x items) all

pub returns-clause-value : goal.returns-clause-value
returns-clause-value c = λ items is. whole_read c items is

pub returns-clause-over : goal.returns-clause-over
returns-clause-over c =
    λ items is. omega (arith, whole_read c items is, times_least c.args.self.now.rows c.args.self.now.width c.args.x items)
