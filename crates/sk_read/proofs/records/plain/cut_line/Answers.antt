use Rattle.std.proofs.Common.{◌≡◌, ◌≢◌, ◌<◌, ◌++◌, ℕ, [], ◌∷◌, length, get_or, ◌∙◌, subst, ap, inl, inr, arith, length-append}
use Rattle.std.specs.Prelude.{slice_range}
use Rattle.std.proofs.lemmas.Bool.{cases_lt}
use Rattle.sk_read.specs.Scan.{IsEnd}
use Rattle.sk_read.proofs.PlainLaws.{joined_comma, joined_end, end_here}
use Rattle.sk_read.proofs.records.plain.cut_line.Goals.{then-comma-test+else-text-place-eq44, else-comma-test}
use Rattle.sk_read.proofs.records.plain.cut_line.Goals as goal

comma_is_no_end : IsEnd 44 → ⊥
comma_is_no_end (inl lf) = cc
comma_is_no_end (inr cr) = cc

pub comma-preserved : goal.comma-preserved
comma-preserved c =
    let inv = c.comma.invariant in
    let text = c.args.text.now in
    let place = c.comma.place in
    let piece = slice_range text c.comma.at place in
    let is : get_or text place 0 ≡ 44 = c.if-text-place-eq44.true in
    let fields = c.and-fields.ensures text inv.row inv.next.within inv.fields in
    record {
      row = inv.row ++ piece ∷ [];
      fields = fields;
      read = inv.read ∙ joined_comma text c.requires.plain c.comma.at place inv.row inv.next c.comma-test.true is;
      next = c.next_delimiter.ensures.next;
      known = c.next_delimiter.ensures.known;
      from = omega (arith, inv.from, inv.next.from);
      few = omega (arith, fields.width, inv.fields.width, length-append inv.row (piece ∷ []), inv.few, inv.next.from);
      none = λ i from below end. elim (cases_lt i c.comma.at) [
        | inl early ↦ inv.none i from early end
        | inr late ↦ elim (cases_lt i place) [
          | inl before ↦ inv.next.none i late before (inl end)
          | inr behind ↦
              let here : i ≡ place = omega (arith, below, behind) in
              comma_is_no_end (subst IsEnd (ap (λ (n : ℕ). get_or text n 0) here ∙ is) end)
        ]
      ];
    }

pub returns-clause-line : goal.returns-clause-line
returns-clause-line c =
    let inv = c.comma.invariant in
    let text = c.args.text.now in
    let place = c.comma.place in
    let no_comma : place < length text → get_or text place 0 ≢ 44 = elim c.comma-test.branch [
      | then-comma-test+else-text-place-eq44 w ↦ λ inside. w.if-text-place-eq44.false
      | else-comma-test w ↦ λ inside. absurd (omega (arith, inside, w.comma-test.false))
    ] in
    let end = joined_end text c.requires.plain c.comma.at place inv.row inv.next no_comma in
    record {
      row = inv.row ++ slice_range text c.comma.at place ∷ [];
      state = end.0;
      between = end.1;
      read = inv.read ∙ end.2;
      fields = c.and.ensures text inv.row inv.next.within inv.fields;
      from = omega (arith, inv.from, inv.next.from);
      within = inv.next.within;
      none = λ i from before is. elim (cases_lt i c.comma.at) [
        | inl early ↦ inv.none i from early is
        | inr late ↦ inv.next.none i late before (inl is)
      ];
      here = λ inside. end_here (get_or text place 0) (inv.next.here inside) (no_comma inside);
    }
