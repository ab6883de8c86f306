use Rattle.std.proofs.Common.{◌≡◌, ℕ, ◌+◌, ◌-◌, ◌≤◌, ◌++◌, false, true≢false, List, length, take, drop, refl, sym, ap, ◌∙◌, subst, arith, take-take, length-take}
use Rattle.std.specs.Str.Lines.{strip_carriage_return}
use Rattle.sk_model.specs.Lines.{open_lines_of}
use Rattle.sk_model.proofs.Lines.{length-strip}
use Rattle.sk_lines.specs.Cutter.{Cutter, IsSound, Follows, HasLfAt, IsLongAfter, is_long}
use Rattle.sk_lines.specs.Marks.{KnowsLfs}
use Rattle.sk_lines.proofs.Places as places
use Rattle.sk_lines.proofs.Steps as steps
use Rattle.sk_lines.proofs.Steps.{EndsBy, by_cr_lf, by_lf}
use Rattle.sk_lines.proofs.cutter.Lines.next.Goals as goal
use Rattle.sk_lines.proofs.cutter.Lines.next.Goals.{then-len-end, else-len-end}

pub returns-in-Long-clause-long : goal.returns-in-Long-clause-long
returns-in-Long-clause-long c =
    let old = c.args.self.now in
    let sound = subst IsSound c.self.view_is c.self.invariant.sound in
    λ n is going.
    let last = sym (ap (λ (x : Cutter). x.last) c.self.view_is) ∙ is in
    steps.is_long_open old n (sound.number n last) (sound.open_long n last going)

pub invariant_of-self : goal.invariant_of-self
invariant_of-self c =
    let a = c.self.inside in
    let kept = c.self.invariant in
    let known = places.sought _ a.buffer.items a.at a.scanned a.marks _ _ c.bytes.ensures kept.marks c.seek-scanned.ensures.known in
    record {
      low = kept.low;
      high = kept.high;
      room = kept.room;
      at = kept.at;
      zeros = kept.zeros;
      line_start = kept.line_start;
      line_end = kept.line_end;
      scanned = omega (arith, c.seek-scanned.ensures.bound, ap length c.bytes.ensures);
      block = λ some. absurd (some refl);
      marks = subst (KnowsLfs a.buffer.items a.at c.seek-scanned.result.0) c.if-marks-eq0.true known;
      sound = kept.sound;
    }

pub rest_is_open-requires : goal.rest_is_open-requires
rest_is_open-requires c =
    let a = c.self.inside in
    let kept = c.self.invariant in
    let known = subst (KnowsLfs a.buffer.items a.at c.seek-scanned.result.0) c.if-marks-eq0.true
    (places.sought _ a.buffer.items a.at a.scanned a.marks _ _ c.bytes.ensures kept.marks c.seek-scanned.ensures.known) in
    let whole = c.seek-scanned.ensures.none c.if-marks-eq0.true in
    record {
      piece = steps.no_lf_in_rest a.buffer.items a.at (length a.buffer.items - 64) (omega (arith, kept.at)) (omega arith)
          (λ i from below. places.no_lf_known a.buffer.items a.at c.seek-scanned.result.0 i known from (omega (arith, whole, ap length c.bytes.ensures)));
      not_long = steps.not_long a.last c.in_default.not-Long;
    }

pub returns-then-marks-eq0-clause-more : goal.returns-then-marks-eq0-clause-more
returns-then-marks-eq0-clause-more c = λ more given text follows.
    c.rest_is_open.ensures.more more given text (subst (λ (x : Cutter). Follows x given text) (sym c.self.view_is) follows)

pub returns-then-marks-eq0-clause-long : goal.returns-then-marks-eq0-clause-long
returns-then-marks-eq0-clause-long c = λ n is going given text follows.
    subst (λ (x : Cutter). IsLongAfter x.limit n given (open_lines_of text)) c.self.view_is
    (c.rest_is_open.ensures.long n is given text (subst (λ (x : Cutter). Follows x given text) (sym c.self.view_is) follows))

pub line_len-len-requires : goal.line_len-len-requires
line_len-len-requires c =
    let a = c.self.inside in
    let kept = c.self.invariant in
    let known = places.sought _ a.buffer.items a.at a.scanned a.marks _ _ c.bytes.ensures kept.marks c.seek-scanned.ensures.known in
    let end : ℕ = c.take_lf-end.result.0 in
    let f = steps.found_line a.buffer.items a.at (length a.buffer.items) end c.seek-scanned.result.0 c.take_lf-end.result.1 kept.at (omega arith) kept.zeros
    (c.take_lf-end.ensures a.buffer.items a.at known) in
    record { from = f.from; within = omega (arith, f.text, ap length c.bytes-2.ensures) }

pub stop-requires : goal.stop-requires
stop-requires c =
    let a = c.self.inside in
    let kept = c.self.invariant in
    let known = places.sought _ a.buffer.items a.at a.scanned a.marks _ _ c.bytes.ensures kept.marks c.seek-scanned.ensures.known in
    let end : ℕ = c.take_lf-end.result.0 in
    let f = steps.found_line a.buffer.items a.at (length a.buffer.items) end c.seek-scanned.result.0 c.take_lf-end.result.1 kept.at (omega arith) kept.zeros
    (c.take_lf-end.ensures a.buffer.items a.at known) in
    let old = c.args.self.now in
    let is = c.self.view_is in
    let sound = subst IsSound is kept.sound in
    let going : is_long old.last ≡ false = ap (λ (x : Cutter). is_long x.last) (sym is) ∙ steps.not_long a.last c.in_default.not-Long in
    let lf : HasLfAt old.rest (end - a.at) = subst (λ (x : Cutter). HasLfAt x.rest (end - a.at)) is f.lf in
    let line : length (strip_carriage_return (take (end - a.at) old.rest)) ≡ c.line_len-len.result =
    sym (c.line_len-len.ensures ∙ ap (λ (l : List ℕ). length (strip_carriage_return (take (end - a.at) (drop a.at l)))) c.bytes-2.ensures
    ∙ ap (λ (l : List ℕ). length (strip_carriage_return l)) (sym f.piece) ∙ ap (λ (x : Cutter). length (strip_carriage_return (take (end - a.at) x.rest))) is) in
    record {
      going_on = steps.goes_on old sound going (omega (arith, lf.within));
      long = steps.long_before_lf old.limit (end - a.at) old.rest lf (omega (arith, line, c.if-len-self.true, ap (λ (x : Cutter). x.limit) is));
    }

pub returns-then-len-self-clause-long : goal.returns-then-len-self-clause-long
returns-then-len-self-clause-long c = λ n is going. c.stop.ensures.long n is

pub returns-then-len-self-clause-after_end : goal.returns-then-len-self-clause-after_end
returns-then-len-self-clause-after_end c = λ over going. absurd (true≢false (sym over ∙ c.stop.ensures.before_end))

pub overflow_sub-end : goal.overflow_sub-end
overflow_sub-end c =
    let a = c.self.inside in
    let kept = c.self.invariant in
    let known = places.sought _ a.buffer.items a.at a.scanned a.marks _ _ c.bytes.ensures kept.marks c.seek-scanned.ensures.known in
    let end : ℕ = c.take_lf-end.result.0 in
    let f = steps.found_line a.buffer.items a.at (length a.buffer.items) end c.seek-scanned.result.0 c.take_lf-end.result.1 kept.at (omega arith) kept.zeros
    (c.take_lf-end.ensures a.buffer.items a.at known) in
    f.from

pub overflow_add-self-2 : goal.overflow_add-self-2
overflow_add-self-2 c =
    let a = c.self.inside in
    let kept = c.self.invariant in
    let known = places.sought _ a.buffer.items a.at a.scanned a.marks _ _ c.bytes.ensures kept.marks c.seek-scanned.ensures.known in
    let end : ℕ = c.take_lf-end.result.0 in
    let f = steps.found_line a.buffer.items a.at (length a.buffer.items) end c.seek-scanned.result.0 c.take_lf-end.result.1 kept.at (omega arith) kept.zeros
    (c.take_lf-end.ensures a.buffer.items a.at known) in
    record { fits = omega (arith, f.text, ap length c.bytes-2.ensures, c.bytes-2.type_inv.0) }

pub invariant_of-self-2 : goal.invariant_of-self-2
invariant_of-self-2 c =
    let a = c.self.inside in
    let kept = c.self.invariant in
    let known = places.sought _ a.buffer.items a.at a.scanned a.marks _ _ c.bytes.ensures kept.marks c.seek-scanned.ensures.known in
    let end : ℕ = c.take_lf-end.result.0 in
    let f = steps.found_line a.buffer.items a.at (length a.buffer.items) end c.seek-scanned.result.0 c.take_lf-end.result.1 kept.at (omega arith) kept.zeros
    (c.take_lf-end.ensures a.buffer.items a.at known) in
    let old = c.args.self.now in
    let is = c.self.view_is in
    let sound = subst IsSound is kept.sound in
    let going : is_long old.last ≡ false = ap (λ (x : Cutter). is_long x.last) (sym is) ∙ steps.not_long a.last c.in_default.not-Long in
    let lf : HasLfAt old.rest (end - a.at) = subst (λ (x : Cutter). HasLfAt x.rest (end - a.at)) is f.lf in
    let line : length (strip_carriage_return (take (end - a.at) old.rest)) ≡ c.line_len-len.result =
    sym (c.line_len-len.ensures ∙ ap (λ (l : List ℕ). length (strip_carriage_return (take (end - a.at) (drop a.at l)))) c.bytes-2.ensures
    ∙ ap (λ (l : List ℕ). length (strip_carriage_return l)) (sym f.piece) ∙ ap (λ (x : Cutter). length (strip_carriage_return (take (end - a.at) x.rest))) is) in
    let short : c.line_len-len.result ≤ end - a.at =
    omega (arith, line, length-strip (take (end - a.at) old.rest), length-take (end - a.at) old.rest) in
    record {
      low = kept.low;
      high = kept.high;
      room = kept.room;
      at = omega (arith, f.text);
      zeros = kept.zeros;
      line_start = omega arith;
      line_end = omega (arith, f.text, f.from);
      scanned = omega (arith, c.seek-scanned.ensures.bound, ap length c.bytes.ensures);
      block = λ _. c.seek-scanned.ensures.block c.if-marks-eq0.false;
      marks = f.known;
      sound = steps.sound_line old _ (end - a.at) sound lf going (ap (λ (x : Cutter). x.hungry) is) (ap (λ (x : Cutter). x.ended) is) refl;
    }

pub returns-clause-line : goal.returns-clause-line
returns-clause-line c =
    let a = c.self.inside in
    let kept = c.self.invariant in
    let known = places.sought _ a.buffer.items a.at a.scanned a.marks _ _ c.bytes.ensures kept.marks c.seek-scanned.ensures.known in
    let end : ℕ = c.take_lf-end.result.0 in
    let f = steps.found_line a.buffer.items a.at (length a.buffer.items) end c.seek-scanned.result.0 c.take_lf-end.result.1 kept.at (omega arith) kept.zeros
    (c.take_lf-end.ensures a.buffer.items a.at known) in
    let old = c.args.self.now in
    let is = c.self.view_is in
    let sound = subst IsSound is kept.sound in
    let going : is_long old.last ≡ false = ap (λ (x : Cutter). is_long x.last) (sym is) ∙ steps.not_long a.last c.in_default.not-Long in
    let lf : HasLfAt old.rest (end - a.at) = subst (λ (x : Cutter). HasLfAt x.rest (end - a.at)) is f.lf in
    let line : length (strip_carriage_return (take (end - a.at) old.rest)) ≡ c.line_len-len.result =
    sym (c.line_len-len.ensures ∙ ap (λ (l : List ℕ). length (strip_carriage_return (take (end - a.at) (drop a.at l)))) c.bytes-2.ensures
    ∙ ap (λ (l : List ℕ). length (strip_carriage_return l)) (sym f.piece) ∙ ap (λ (x : Cutter). length (strip_carriage_return (take (end - a.at) x.rest))) is) in
    let piece : List ℕ = take (end - a.at) old.rest in
    let len : a.at + c.line_len-len.result - a.at ≡ c.line_len-len.result = omega arith in
    let short : c.line_len-len.result ≤ length a.buffer.items - 64 - a.at =
    omega (arith, line, length-strip piece, length-take (end - a.at) old.rest, f.text, f.from) in
    let given : take (a.at + c.line_len-len.result - a.at) (drop a.at a.buffer.items) ≡ strip_carriage_return piece =
    ap (λ (n : ℕ). take n (drop a.at a.buffer.items)) len ∙ sym (take-take c.line_len-len.result (length a.buffer.items - 64 - a.at) (drop a.at a.buffer.items) short)
    ∙ ap (λ (x : Cutter). take c.line_len-len.result x.rest) is ∙ ap (λ (n : ℕ). take n old.rest) (sym line) ∙ steps.taken_line old.rest (strip_carriage_return piece) (end - a.at) refl in
    let long : length (take (a.at + c.line_len-len.result - a.at) (drop a.at a.buffer.items)) ≡ c.line_len-len.result = ap length given ∙ line in
    λ _. steps.gives_line old _ (end - a.at) lf (ap (λ (x : Cutter). x.limit) is)
    (f.behind ∙ ap (λ (x : Cutter). drop (end - a.at + 1) x.rest) is)
    (omega (arith, c.saturating_add-self-inside.ensures, ap (λ (x : Cutter). x.number) is))
    given
    (omega (arith, long, c.if-len-self.false, ap (λ (x : Cutter). x.limit) is))
    (subst (λ (n : ℕ). EndsBy n (end - a.at) c.if-len-end.self) (sym long)
    (elim c.if-len-end.branch [
      | then-len-end w ↦ by_cr_lf w.if-len-end.true w.self-is
      | else-len-end w ↦ by_lf w.if-len-end.false w.self-is
    ]))
    (steps.front_more a.buffer.items a.at (length a.buffer.items - 64) end f.from (omega (arith, f.text))
    ∙ ap (λ (x : Cutter). x.front ++ take (end - a.at + 1) x.rest) is)

pub returns-clause-after_end : goal.returns-clause-after_end
returns-clause-after_end c =
    let a = c.self.inside in
    let kept = c.self.invariant in
    let known = places.sought _ a.buffer.items a.at a.scanned a.marks _ _ c.bytes.ensures kept.marks c.seek-scanned.ensures.known in
    let end : ℕ = c.take_lf-end.result.0 in
    let f = steps.found_line a.buffer.items a.at (length a.buffer.items) end c.seek-scanned.result.0 c.take_lf-end.result.1 kept.at (omega arith) kept.zeros
    (c.take_lf-end.ensures a.buffer.items a.at known) in
    let old = c.args.self.now in
    let is = c.self.view_is in
    let sound = subst IsSound is kept.sound in
    let going : is_long old.last ≡ false = ap (λ (x : Cutter). is_long x.last) (sym is) ∙ steps.not_long a.last c.in_default.not-Long in
    let lf : HasLfAt old.rest (end - a.at) = subst (λ (x : Cutter). HasLfAt x.rest (end - a.at)) is f.lf in
    λ over _. absurd (true≢false (sym over ∙ steps.goes_on old sound going (omega (arith, lf.within))))
