use Rattle.std.proofs.Common.{◌≡◌, ◌≢◌, ℕ, ◌+◌, ◌≤◌, ◌++◌, ◌∷◌, [], length, vec_len, vec_capacity, false, sym, ap, ◌∙◌, subst, arith}
use Rattle.std.specs.List.{concat}
use Rattle.std.proofs.lemmas.Bool.{eqb-false}
use Rattle.sk_lines.specs.Spans.{lines_at}
use Rattle.sk_fill.specs.Windows.{is_full, IsWindow}
use Rattle.sk_fill.proofs.Pages.{lines_more, window_more}
use Rattle.sk_fill.proofs.window.Window.push.Goals as goal
use Rattle.sk_fill.proofs.window.Window.push.Goals.{then-is_empty, else-is_empty}

-- on both ways only the count of the page's bytes may have changed
module _ (c : goal.After-push_reserved) (page_bytes : ℕ) (is : c.if-is_empty.self-inside ≡ record { page = c.self.inside.page; page_bytes = page_bytes; text = c.self.inside.text; spans = c.self.inside.spans; most = c.self.inside.most }) where
  text_is : c.extend_from_slice.new.self.items ≡ c.self.inside.text.items ++ c.args.line.now
  text_is = c.in_ok-extend_from_slice.ensures.items ∙ ap (λ i. i.text.items ++ c.args.line.now) is

  from_is : c.len-from.result ≡ length c.self.inside.text.items
  from_is = omega (arith, c.len-from.ensures, ap (λ i. vec_len i.text) is, c.self.inside.text.ok.0)

  to_is : c.len.result ≡ length c.self.inside.text.items + length c.args.line.now
  to_is = omega (arith, c.len.ensures, c.in_ok-extend_from_slice.ensures.len, ap (λ i. vec_len i.text) is, c.self.inside.text.ok.0)

  spans_are : c.push_reserved.new.self.items ≡ c.self.inside.spans.items ++ record { from = length c.self.inside.text.items; to = length c.self.inside.text.items + length c.args.line.now } ∷ []
  spans_are =
      c.push_reserved.ensures.items ∙ ap (λ i. i.spans.items ++ record { from = c.len-from.result; to = c.len.result } ∷ []) is
      ∙ ap (λ n. c.self.inside.spans.items ++ record { from = n; to = c.len.result } ∷ []) from_is
      ∙ ap (λ n. c.self.inside.spans.items ++ record { from = length c.self.inside.text.items; to = n } ∷ []) to_is

  lines_are : c.if-is_empty.self-inside.page.lines ++ lines_at c.push_reserved.new.self.items c.extend_from_slice.new.self.items ≡ c.args.self.now.lines ++ c.args.line.now ∷ []
  lines_are =
      ap (λ i. i.page.lines ++ lines_at c.push_reserved.new.self.items c.extend_from_slice.new.self.items) is
      ∙ ap (λ t. c.self.inside.page.lines ++ lines_at c.push_reserved.new.self.items t) text_is
      ∙ lines_more c.self.inside.page c.self.inside.page_bytes c.self.inside.most c.self.inside.spans.items c.push_reserved.new.self.items c.self.inside.text.items c.args.line.now c.self.invariant.0 spans_are
      ∙ ap (λ w. w.lines ++ c.args.line.now ∷ []) c.self.view_is

  window : page_bytes ≡ length (concat c.self.inside.page.lines) → IsWindow c.self.inside.page page_bytes c.push_reserved.new.self.items c.self.inside.most c.extend_from_slice.new.self.items
  window counted =
      let room = subst (λ w. is_full w ≡ false) (sym c.self.view_is) c.requires.room in
      subst (IsWindow c.self.inside.page page_bytes c.push_reserved.new.self.items c.self.inside.most) (sym text_is)
      (window_more c.self.inside.page c.self.inside.page_bytes c.self.inside.most c.self.inside.spans.items c.push_reserved.new.self.items c.self.inside.text.items c.args.line.now c.self.invariant.0 spans_are page_bytes room counted)

  holds : page_bytes ≡ length (concat c.self.inside.page.lines)
      → IsWindow c.if-is_empty.self-inside.page c.if-is_empty.self-inside.page_bytes c.push_reserved.new.self.items c.if-is_empty.self-inside.most c.extend_from_slice.new.self.items × (c.if-is_empty.self-inside.most ≤ vec_capacity c.push_reserved.new.self)
  holds counted = (
    subst (λ i. IsWindow i.page i.page_bytes c.push_reserved.new.self.items i.most c.extend_from_slice.new.self.items) (sym is) (window counted),
    omega (arith, c.push_reserved.ensures.capacity, ap (λ i. vec_capacity i.spans) is, ap (λ i. i.most) is, c.self.invariant.1),
  )

pub invariant_of-self-2 : goal.invariant_of-self-2
invariant_of-self-2 c = elim c.if-is_empty.branch [
  | then-is_empty w ↦ holds c w.bytes_of-self-inside.result w.self-inside-is w.bytes_of-self-inside.ensures
  | else-is_empty w ↦
      let some : vec_len c.self.inside.spans ≢ 0 = eqb-false (vec_len c.self.inside.spans) 0 (sym c.is_empty.ensures ∙ w.if-is_empty.false) in
      holds c c.self.inside.page_bytes w.self-inside-is (c.self.invariant.0.bytes (omega (arith, some, c.self.inside.spans.ok.0)))
]

pub returns-clause-lines : goal.returns-clause-lines
returns-clause-lines c = elim c.if-is_empty.branch [
  | then-is_empty w ↦ lines_are c w.bytes_of-self-inside.result w.self-inside-is
  | else-is_empty w ↦ lines_are c c.self.inside.page_bytes w.self-inside-is
]
