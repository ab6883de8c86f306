use Rattle.std.proofs.Common.{◌≡◌, ℕ, ◌-◌, ◌<◌, ◌≤◌, length, take, drop, refl, sym, ap, ◌∙◌, subst, arith}
use Rattle.std.proofs.lemmas.List.{nil_from_length}
use Rattle.sk_lines.proofs.Places as places
use Rattle.sk_lines.specs.Inside.{cutter_of}
use Rattle.sk_lines.specs.Cutter.{HasNoLf, Cutter, IsSound}
use Rattle.sk_lines.proofs.Steps as steps
use Rattle.sk_lines.proofs.cutter.Lines.end.Goals as goal

pub invariant_of-self : goal.invariant_of-self
invariant_of-self c =
    let kept = c.self.invariant in
    record {
      low = kept.low;
      high = kept.high;
      room = kept.room;
      at = kept.at;
      zeros = kept.zeros;
      line_start = kept.line_start;
      line_end = kept.line_end;
      scanned = kept.scanned;
      block = kept.block;
      marks = kept.marks;
      sound = steps.sound_ended (cutter_of c.self.inside) c.in-Long.field-0 kept.sound c.in-Long.is;
    }

pub returns-in-Long-clause-more : goal.returns-in-Long-clause-more
returns-in-Long-clause-more c =
    let a = cutter_of c.self.inside in
    let long = steps.long_now a c.in-Long.field-0 c.self.invariant.sound c.in-Long.is in
    let rest = ap (λ (x : Cutter). x.rest) c.self.view_is in
    (λ more. absurd (let is = c.in-Long.is in cc), λ none. absurd (steps.long_is_some a.limit a.rest long (rest ∙ none)))

pub returns-in-Long-clause-long : goal.returns-in-Long-clause-long
returns-in-Long-clause-long c =
    let old = c.args.self.now in
    let sound = subst IsSound c.self.view_is c.self.invariant.sound in
    λ n is. let last = sym (ap (λ (x : Cutter). x.last) c.self.view_is) ∙ is in
    steps.is_long_ended old n (sound.number n last) (steps.long_now old n sound last)

pub invariant_of-self-then-len-self : goal.invariant_of-self-then-len-self
invariant_of-self-then-len-self c =
    let a = c.self.inside in
    let kept = c.self.invariant in
    let hungry = ap (λ (x : Cutter). x.hungry) c.self.view_is ∙ c.requires in
    record {
      low = kept.low;
      high = kept.high;
      room = kept.room;
      at = kept.at;
      zeros = kept.zeros;
      line_start = kept.line_start;
      line_end = kept.line_end;
      scanned = kept.scanned;
      block = kept.block;
      marks = kept.marks;
      sound = steps.sound_end_long (cutter_of a) c.saturating_add.result (omega (arith, c.saturating_add.ensures)) kept.sound hungry
          (omega (arith, c.if-len-self.true, c.len-text_end.ensures, steps.length_rest a.buffer.items a.at (length a.buffer.items - 64) (omega (arith, c.self.invariant.at)) (omega arith)));
    }

pub returns-then-len-self-clause-more : goal.returns-then-len-self-clause-more
returns-then-len-self-clause-more c =
    let a = c.self.inside in
    let rest = ap (λ (x : Cutter). x.rest) c.self.view_is in
    (λ more. absurd (cc), λ none. absurd (omega (arith, ap length (rest ∙ none), c.if-len-self.true, c.len-text_end.ensures, steps.length_rest a.buffer.items a.at (length a.buffer.items - 64) (omega (arith, c.self.invariant.at)) (omega arith))))

pub returns-then-len-self-clause-long : goal.returns-then-len-self-clause-long
returns-then-len-self-clause-long c =
    let a = c.self.inside in
    let old = c.args.self.now in
    let is = c.self.view_is in
    let sound = subst IsSound is c.self.invariant.sound in
    let over : old.limit < length old.rest =
    omega (arith, ap (λ (x : Cutter). length x.rest) is, ap (λ (x : Cutter). x.limit) is, c.if-len-self.true, c.len-text_end.ensures, steps.length_rest a.buffer.items a.at (length a.buffer.items - 64) (omega (arith, c.self.invariant.at)) (omega arith)) in
    λ n same. let value : c.saturating_add.result ≡ n = cc in
    steps.is_long_ended old n (omega (arith, value, c.saturating_add.ensures, ap (λ (x : Cutter). x.number) is))
    (steps.long_at_end old.limit old.rest (sound.piece c.requires) over)

pub invariant_of-self-then-len-eq0 : goal.invariant_of-self-then-len-eq0
invariant_of-self-then-len-eq0 c =
    let a = c.self.inside in
    let kept = c.self.invariant in
    let size = steps.length_rest a.buffer.items a.at (length a.buffer.items - 64) (omega (arith, kept.at)) (omega arith) in
    record {
      low = kept.low;
      high = kept.high;
      room = kept.room;
      at = kept.at;
      zeros = kept.zeros;
      line_start = kept.line_start;
      line_end = kept.line_end;
      scanned = kept.scanned;
      block = kept.block;
      marks = kept.marks;
      sound = steps.sound_over _ (nil_from_length _ (omega (arith, size, c.if-len-eq0.true, c.len-text_end.ensures))) refl;
    }

pub invariant_of-self-2 : goal.invariant_of-self-2
invariant_of-self-2 c =
    let a = c.self.inside in
    let kept = c.self.invariant in
    let end : ℕ = c.len-text_end.result - 64 in
    let size = steps.length_rest a.buffer.items end (length a.buffer.items - 64) (omega (arith, c.len-text_end.ensures)) (omega arith) in
    record {
      low = kept.low;
      high = kept.high;
      room = kept.room;
      at = omega (arith, kept.at, c.len-text_end.ensures);
      zeros = kept.zeros;
      line_start = omega (arith, kept.at, c.len-text_end.ensures);
      line_end = omega (arith, c.len-text_end.ensures);
      scanned = omega (arith, c.len-text_end.ensures);
      block = λ some. absurd (some refl);
      marks = places.known_none a.buffer.items end end (omega arith) (λ i from before. absurd (omega arith));
      sound = steps.sound_over _ (nil_from_length _ (omega (arith, size, c.len-text_end.ensures))) refl;
    }

pub returns-clause-line : goal.returns-clause-line
returns-clause-line c =
    let a = c.self.inside in
    let old = c.args.self.now in
    let is = c.self.view_is in
    let sound = subst IsSound is c.self.invariant.sound in
    let end = c.len-text_end.ensures in
    let rest = ap (λ (x : Cutter). x.rest) is in
    let size = steps.length_rest a.buffer.items a.at (length a.buffer.items - 64) (omega (arith, c.self.invariant.at)) (omega arith) in
    let long : length old.rest ≡ c.len-text_end.result - 64 - a.at = omega (arith, ap length rest, size, end) in
    let some : 0 < length old.rest = omega (arith, c.if-len-eq0.false) in
    let fits : length old.rest ≤ old.limit = omega (arith, c.if-len-self.false, ap (λ (x : Cutter). x.limit) is) in
    let line : take (c.len-text_end.result - 64 - a.at) (drop a.at a.buffer.items) ≡ old.rest =
    ap (λ (n : ℕ). take (n - 64 - a.at) (drop a.at a.buffer.items)) end ∙ rest in
    λ _. record {
      lines = steps.last_line old _ (sound.piece c.requires) some line;
      within = steps.last_within old (sound.piece c.requires) some fits;
      number = omega (arith, c.saturating_add-self-inside.ensures, ap (λ (x : Cutter). x.number) is);
      bytes = sym line;
      plain = subst HasNoLf (sym line) (sound.piece c.requires);
      ending = refl;
    }

pub returns-clause-more : goal.returns-clause-more
returns-clause-more c =
    let a = c.self.inside in
    let rest = ap (λ (x : Cutter). x.rest) c.self.view_is in
    let size = steps.length_rest a.buffer.items a.at (length a.buffer.items - 64) (omega (arith, c.self.invariant.at)) (omega arith) in
    (λ more. absurd (cc), λ none. absurd (omega (arith, ap length (rest ∙ none), c.if-len-eq0.false, c.len-text_end.ensures, size)))
