use Rattle.std.proofs.Common.{◌≡◌, ◌-◌, ℕ, List, take, drop, length, ap, ◌∙◌, arith}
use Rattle.sk_lines.specs.Cutter.{Cutter}
use Rattle.sk_lines.specs.Padded.{PaddedState, padded}
use Rattle.sk_lines.proofs.Feeding.{moved_kept}
use Rattle.sk_lines.proofs.cutter.Lines.swap.Goals as goal

pub invariant_of-self : goal.invariant_of-self
invariant_of-self c =
    let a = c.self.inside in
    let rest : c.swap.new.x ≡ record c.args.other.now { items = padded (take (length a.buffer.items - 64 - a.at) (drop a.at a.buffer.items)) } =
    c.swap.ensures.x_after ∙ c.set.ensures
    ∙ ap (λ (l : List ℕ). record c.args.other.now { items = padded (take (c.len-end.result - 64 - a.at) (drop a.at l)) }) c.bytes.ensures
    ∙ ap (λ (n : ℕ). record c.args.other.now { items = padded (take (n - 64 - a.at) (drop a.at a.buffer.items)) }) c.len-end.ensures in
    moved_kept a c.swap.new.x c.self.invariant
    (omega (arith, ap (λ (p : PaddedState). p.room) rest, c.requires.room, ap (λ (x : Cutter). x.limit) c.self.view_is))
    (ap (λ (p : PaddedState). p.items) rest)
