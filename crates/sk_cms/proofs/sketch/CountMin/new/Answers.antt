use Rattle.std.proofs.Common.{◌≡◌, ◌*◌, [], rules, refl, ℕ, List, replicate, length, sym, ap, subst, ◌∙◌}
use Rattle.sk_cms.specs.Counting.{no_items_is_of, whole_nothing}
use Rattle.sk_cms.specs.Counts.{Counts, joined, no_counts, shown_by, IsCountOf, IsWholeCounts}
use Rattle.sk_cms.proofs.Joined.{joined_none}
use Rattle.sk_cms.proofs.sketch.CountMin.new.Goals as goal

-- two vectors of zeros show no counts
shows_none : (rows width size : ℕ) (low high : List ℕ) → size ≡ rows * width → low ≡ replicate size 0 → high ≡ replicate size 0 → shown_by rows width 0 low high ≡ no_counts rows width
shows_none rows width size low high is none_low none_high =
    let shows : List ℕ → Counts = λ cells. record { rows = rows; width = width; count = 0; cells = cells } in
    ap (λ (l : List ℕ). shows (joined l high)) none_low
    ∙ ap (λ (h : List ℕ). shows (joined (replicate size 0) h)) none_high
    ∙ ap shows (joined_none size)
    ∙ ap (λ (n : ℕ). shows (replicate n 0)) is

pub invariant_of-result : goal.invariant_of-result
invariant_of-result c =
    let rows = c.args.rows in let width = c.args.width in
    let low : c.in_ok-vec.field-0.items ≡ replicate (rows * width) 0 = search rules in
    let high : c.in_ok-vec-2.field-0.items ≡ replicate (rows * width) 0 = search rules in
    record {
      masks = c.mask_of.ensures;
      whole = subst (λ (s : Counts). IsWholeCounts s) (sym (shows_none rows width (rows * width) c.in_ok-vec.field-0.items c.in_ok-vec-2.field-0.items refl low high)) (whole_nothing rows width c.requires);
      sizes = ap length high ∙ sym (ap length low);
    }

pub returns-clause-value : goal.returns-clause-value
returns-clause-value c =
    let rows = c.args.rows in let width = c.args.width in
    let low : c.in_ok-vec.field-0.items ≡ replicate (rows * width) 0 = search rules in
    let high : c.in_ok-vec-2.field-0.items ≡ replicate (rows * width) 0 = search rules in
    shows_none rows width (rows * width) c.in_ok-vec.field-0.items c.in_ok-vec-2.field-0.items refl low high

pub returns-clause-empty : goal.returns-clause-empty
returns-clause-empty c =
    let rows = c.args.rows in let width = c.args.width in
    let low : c.in_ok-vec.field-0.items ≡ replicate (rows * width) 0 = search rules in
    let high : c.in_ok-vec-2.field-0.items ≡ replicate (rows * width) 0 = search rules in
    subst (λ (s : Counts). IsCountOf s []) (sym (shows_none rows width (rows * width) c.in_ok-vec.field-0.items c.in_ok-vec-2.field-0.items refl low high)) (no_items_is_of rows width)
