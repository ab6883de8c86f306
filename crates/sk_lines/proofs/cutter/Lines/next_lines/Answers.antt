use Rattle.std.proofs.Common.{◌≡◌, ◌≢◌, ℕ, List, ◌+◌, ◌-◌, ◌<◌, ◌≤◌, inl, inr, ⊎_elim, slice_index, false, true≢false, length, take, ap, arith, sym, subst, ◌∙◌, refl, le_refl, length-take}
use Rattle.sk_lines.specs.Cutter.{is_long, counted}
use Rattle.sk_lines.specs.Inside.{cutter_of}
use Rattle.sk_lines.specs.Spans.{GivesLines, AreLines, IsLongLine, HasNoShortLine}
use Rattle.sk_lines.proofs.Places.{known_none}
use Rattle.sk_lines.proofs.Ends.{none_made}
use Rattle.sk_lines.proofs.Steps.{not_long, no_lf_in_rest, long_in_rest}
use Rattle.sk_lines.proofs.Groups.{lines_given, reader_at, sound_going}
use Rattle.sk_lines.proofs.cutter.Lines.next_lines.Goals.{After-cut_group-count, in-Long, in_default}
use Rattle.sk_lines.proofs.cutter.Lines.next_lines.Goals as goal

-- the reader after the lines
given : (c : After-cut_group-count) → (c.cut_group-count.result.1 + 64 ≤ length c.self.inside.buffer.items) × (c.self.inside.at ≤ c.cut_group-count.result.1)
    × GivesLines (cutter_of c.self.inside) (reader_at (cutter_of c.self.inside) c.self.inside.buffer.items (length c.self.inside.buffer.items) c.cut_group-count.result.1 (counted (c.self.inside.number + length (take c.cut_group-count.result.0 c.cut_group-count.new.spans)))) (take c.cut_group-count.result.0 c.cut_group-count.new.spans)
given c =
    let a = c.self.inside in
    lines_given (cutter_of a) a.buffer.items (length a.buffer.items) refl c.self.invariant.zeros (take c.cut_group-count.result.0 c.cut_group-count.new.spans) a.at c.cut_group-count.result.1 a.number c.self.invariant.at (omega (arith, c.self.ranges.1))
    (subst (λ bytes. AreLines bytes a.limit a.at (take c.cut_group-count.result.0 c.cut_group-count.new.spans) c.cut_group-count.result.1) c.bytes.ensures c.cut_group-count.ensures.lines)

short : (c : After-cut_group-count) → is_long c.self.inside.last ≡ false
short c = elim c.match-matches.branch [
  | in-Long w ↦ absurd (true≢false (sym w.matches-is ∙ c.if-matches.false))
  | in_default w ↦ not_long c.self.inside.last w.in_default.not-Long
]

pub invariant_of-self : goal.invariant_of-self
invariant_of-self c =
    let a = c.self.inside in
    let kept = c.self.invariant in
    let g = given (goal.at.invariant_of-self c).After-cut_group-count in
    record {
      low = kept.low;
      high = kept.high;
      room = kept.room;
      at = g.0;
      zeros = kept.zeros;
      line_start = kept.line_start;
      line_end = kept.line_end;
      scanned = omega (arith, g.0);
      block = λ some. absurd (some refl);
      marks = known_none a.buffer.items c.cut_group-count.result.1 c.cut_group-count.result.1 (le_refl c.cut_group-count.result.1) (λ i from before. absurd (omega arith));
      sound = sound_going _ c.if-self-2.false c.if-self.false (short (goal.at.invariant_of-self c).After-cut_group-count);
    }

pub returns-clause-lines : goal.returns-clause-lines
returns-clause-lines c =
    let a = c.self.inside in
    let count = c.cut_group-count.result.0 in
    let all = (given (goal.at.returns-clause-lines c).After-cut_group-count).2 in
    let size : length (take count c.cut_group-count.new.spans) ≡ count = omega (arith, length-take count c.cut_group-count.new.spans, c.cut_group-count.array_long, c.cut_group-count.ensures.few) in
    let number : counted (a.number + length (take count c.cut_group-count.new.spans)) ≡ c.saturating_add-self-inside.result = omega (arith, size, c.saturating_add-self-inside.ensures) in
    subst (λ m. GivesLines c.args.self.now (reader_at (cutter_of a) a.buffer.items (length a.buffer.items) c.cut_group-count.result.1 m) (take count c.cut_group-count.new.spans)) number
    (subst (λ old. GivesLines old (reader_at (cutter_of a) a.buffer.items (length a.buffer.items) c.cut_group-count.result.1 (counted (a.number + length (take count c.cut_group-count.new.spans)))) (take count c.cut_group-count.new.spans)) c.self.view_is all)

-- where no line is cut, no line is complete or the next is too long
pub returns-clause-none : goal.returns-clause-none
returns-clause-none c = λ none short.
    let a = c.self.inside in
    let have = length a.buffer.items - 64 in
    let ordered : a.at ≤ have = omega (arith, c.self.invariant.at) in
    let inside : have ≤ length a.buffer.items = omega (arith) in
    let zeros : (i : ℕ) → have ≤ i → slice_index a.buffer.items i ≡ 0 = λ i past. c.self.invariant.zeros i (omega (arith, past)) in
    subst HasNoShortLine c.self.view_is (⊎_elim
    (λ (over : IsLongLine c.bytes.result.now a.limit c.cut_group-count.result.1).
    let here : a.at ≡ c.cut_group-count.result.1 = none_made c.bytes.result.now a.limit a.at c.cut_group-count.result.1 (take c.cut_group-count.result.0 c.cut_group-count.new.spans) (ap (λ (n : ℕ). take n c.cut_group-count.new.spans) none) c.cut_group-count.ensures.lines in
    let long = subst (λ (bytes : List ℕ). IsLongLine bytes a.limit c.cut_group-count.result.1) c.bytes.ensures over in
    inr (long_in_rest a.buffer.items a.at have ordered inside a.limit (subst (λ (k : ℕ). IsLongLine a.buffer.items a.limit k) (sym here) long) zeros))
    (λ (no : (i : ℕ) → a.at ≤ i → i + 64 < length c.bytes.result.now → slice_index c.bytes.result.now i ≢ 10).
    inl (no_lf_in_rest a.buffer.items a.at have ordered inside
    (λ i from below. subst (λ (bytes : List ℕ). slice_index bytes i ≢ 10) c.bytes.ensures (no i from (omega (arith, below, ap length c.bytes.ensures))))))
    (c.cut_group-count.ensures.none none (omega arith)))
