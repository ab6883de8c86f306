use Rattle.std.proofs.Common.{◌≡◌, ◌+◌, ◌<◌, ◌≤◌, ◌++◌, ◌∷◌, [], ℕ, List, length, take, drop, slice_index_or, All, sym, ap, ◌∙◌, subst, arith, drop-drop, get_or-drop, length-take}
use Rattle.std.proofs.lemmas.List.{take_all, take_more, drop-append-le}
use Rattle.std.proofs.lemmas.List.Elements.{All-push}
use Rattle.sk_read.specs.Items.{IsGood}
use Rattle.sk_fill.proofs.held.first_bad.Goals as goal

-- the lines from a place on, and one more
lines_on : (lines : List (List ℕ)) (first place : ℕ) → first ≤ place → place < length lines → drop first (take (place + 1) lines) ≡ drop first (take place lines) ++ slice_index_or lines place [] ∷ []
lines_on lines first place after inside =
    ap (drop first) (take_more lines place [] inside) ∙ drop-append-le first (take place lines) (slice_index_or lines place [] ∷ []) (omega (arith, length-take place lines, after, inside))

pub line-preserved : goal.line-preserved
line-preserved c =
    let lines = c.args.window.now.lines in
    let place = c.line.place in
    let inside : place < length lines = omega (arith, c.line-test.true, c.len-place-end.ensures.value, c.line.auto.place-end) in
    let same : place + 0 ≡ place = omega arith in
    let line : c.next_line.result.now ≡ slice_index_or lines place [] = c.next_line.ensures.line ∙ ap (λ ls. slice_index_or ls 0 []) c.line.invariant.rest ∙ get_or-drop place lines 0 [] ∙ ap (λ (n : ℕ). slice_index_or lines n []) same in
    record {
      rest = c.next_line.ensures.rest ∙ ap (drop 1) c.line.invariant.rest ∙ drop-drop 1 place lines;
      good = subst (All (IsGood c.args.kind)) (sym (lines_on lines c.args.first place c.line.auto.place inside))
          (All-push (IsGood c.args.kind) (drop c.args.first (take place lines)) (slice_index_or lines place []) c.line.invariant.good (subst (IsGood c.args.kind) line (c.is_good.ensures.good c.if-not-is_good.false)));
    }

pub returns-clause-none : goal.returns-clause-none
returns-clause-none c =
    let lines = c.args.window.now.lines in
    subst (λ ls. All (IsGood c.args.kind) (drop c.args.first ls)) (take_all c.line.place lines (omega (arith, c.line-test.false, c.len-place-end.ensures.value, c.line.auto.place-end))) c.line.invariant.good
