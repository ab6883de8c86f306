use Rattle.std.proofs.Common.{◌≡◌, ℕ, ◌+◌, ◌-◌, ◌≤◌, length, take, drop, ap, ◌∙◌, arith, length-drop}
use Rattle.std.specs.List.{copy_within}
use Rattle.std.proofs.lemmas.List.Edits.{take-paste}
use Rattle.std.proofs.lemmas.Slice.{between_is}
use Rattle.sk_lines.specs.Padded.{PaddedState}
use Rattle.sk_lines.proofs.Feeding.{same_state}
use Rattle.sk_lines.proofs.padded.Padded.drop_front.Goals as goal

pub returns : goal.returns
returns c =
    let a = c.self.inside in
    let at = c.args.at in
    let bytes = a.bytes.items in
    let n = a.end - at in
    let size : n ≡ 0 + n = omega arith in
    let fits : n ≤ length (drop at bytes) = omega (arith, length-drop at bytes, a.bytes.ok.0, c.self.invariant.0) in
    let moved = ap (λ (k : ℕ). take k (copy_within bytes at a.end 0)) size ∙ take-paste bytes 0 (drop at bytes) n (omega arith) fits in
    let items = ap (take n) c.copy_within.ensures.items ∙ moved ∙ between_is bytes at a.end ∙ ap (λ (p : PaddedState). drop at p.items) c.self.view_is in
    same_state _ _ items (ap (λ (p : PaddedState). p.room) c.self.view_is)
