use Rattle.std.proofs.Common.{get_or, ◌<◌, ◌∙◌, ◌+◌, ℕ, ap, arith, drop, length, map, subst, sym, take, refl}
use Rattle.std.proofs.lemmas.List.{take_more_set, length-set}
use Rattle.sk_lines.specs.Marks.{IsFirstLf}
use Rattle.sk_lines.specs.Spans.{AreEnds, AreLines}
use Rattle.sk_lines.specs.declared.spans.Span.{Span}
use Rattle.sk_lines.proofs.Ends.{no_lines, lf_within, next_end, later_ends, first_end, lines_more}
use Rattle.sk_lines.proofs.spans.cut_lines.Goals.{In-line}
use Rattle.sk_lines.proofs.spans.cut_lines.Goals as goal

-- the next end is the first LF, and so on after it
next : (c : In-line) → IsFirstLf c.args.bytes.now c.line.at (get_or c.line.spans c.line.i (record { from = 0; to = 0 })).to
    × AreEnds c.args.bytes.now ((get_or c.line.spans c.line.i (record { from = 0; to = 0 })).to + 1) (map (λ (s : Span). s.to) (drop (c.line.i + 1) (take c.args.count c.line.spans)))
next c = first_end c.args.bytes.now c.line.at _ _ _ (next_end c.line.spans c.line.i c.args.count (record { from = 0; to = 0 }) c.line-test.true (omega (arith, c.line.invariant.size, c.requires.few))) c.line.invariant.ends

pub line-init : goal.line-init
line-init c = record { size = c.told-spans; within = c.requires.within; lines = no_lines c.args.bytes.now c.args.limit c.args.from; ends = c.requires.ends }

pub line_len-len-requires : goal.line_len-len-requires
line_len-len-requires c =
    let first = (next c).0 in
    record { from = first.from; within = omega (arith, lf_within c.args.bytes.now c.line.at _ first) }

pub overflow_add-at : goal.overflow_add-at
overflow_add-at c = record { fits = omega (arith, lf_within c.args.bytes.now c.line.at _ (next (goal.at.overflow_add-at c).In-line).0) }

pub line-preserved : goal.line-preserved
line-preserved c =
    let n = next (goal.at.line-preserved c).In-line in
    let span : Span = record { from = c.line.at; to = c.line.at + c.line_len-len.result } in
    let end : ℕ = (get_or c.line.spans c.line.i (record { from = 0; to = 0 })).to in
    let inside : c.line.i < length c.line.spans = omega (arith, c.line.invariant.size, c.requires.few, c.line-test.true) in
    record {
      size = length-set c.line.spans c.line.i span ∙ c.line.invariant.size;
      within = omega (arith, lf_within c.args.bytes.now c.line.at _ n.0);
      lines = subst (λ ss. AreLines c.args.bytes.now c.args.limit c.args.from ss (end + 1)) (sym (take_more_set c.line.spans c.line.i span inside))
          (lines_more c.args.bytes.now c.args.limit c.args.from c.line.at end (take c.line.i c.line.spans) span c.line.invariant.lines
          (record { lf = n.0; start = refl; size = ap (λ k. c.line.at + k) c.line_len-len.ensures; short = omega (arith, c.if-len-limit.false) }));
      ends = subst (AreEnds c.args.bytes.now (end + 1)) (sym (later_ends c.line.spans c.line.i c.args.count span c.line-test.true)) n.1;
    }

pub returns-then-len-limit-clause-long : goal.returns-then-len-limit-clause-long
returns-then-len-limit-clause-long c =
    let n = next (goal.at.returns-then-len-limit-clause-long c).In-line in
    λ _. (_, n.0, omega (arith, c.if-len-limit.true, c.line_len-len.ensures))
