use Rattle.std.proofs.Common.{◌≡◌, ap, ◌-◌, ◌∙◌, refl, arith, take, length, zero, ℕ}
use Rattle.std.proofs.lemmas.List.{length-replicate}
use Rattle.sk_lines.proofs.Places as places
use Rattle.sk_lines.proofs.Steps as steps
use Rattle.sk_lines.proofs.cutter.Lines.new.Goals as goal

pub invariant_of-result : goal.invariant_of-result
invariant_of-result c =
    let buffer = c.in_ok-new.ensures in
    let size : length c.in_ok-new.field-0.items ≡ 64 = ap length buffer.items ∙ length-replicate 64 zero in
    record {
      low = c.requires.some;
      high = c.requires.most;
      room = omega (arith, buffer.room);
      at = omega (arith, size);
      zeros = λ i _. places.padding_byte _ 64 i buffer.items;
      line_start = omega arith;
      line_end = omega arith;
      scanned = omega arith;
      block = λ some. absurd (some refl);
      marks = places.known_none _ 0 0 (omega arith) (λ i from before. absurd (omega arith));
      sound = steps.sound_over _ (ap (λ (n : ℕ). take (n - 64 - 0) c.in_ok-new.field-0.items) size) refl;
    }
