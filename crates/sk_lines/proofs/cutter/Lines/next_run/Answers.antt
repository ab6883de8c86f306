use Rattle.std.proofs.Common.{◌≡◌, ◌-◌, ℕ, List, inl, length, drop, ◌≢◌, slice_index, slice_range, refl, ap, subst, arith, length-take, length-drop}
use Rattle.sk_lines.specs.Cutter.{Cutter}
use Rattle.sk_lines.specs.Inside.{cutter_of}
use Rattle.sk_lines.specs.Runs.{GivesRun, GivesNone, IsRun}
use Rattle.sk_lines.proofs.Steps.{length_rest, no_lf_in_rest}
use Rattle.sk_lines.proofs.GivenRuns.{none_given, nothing_in_none, run_given}
use Rattle.sk_lines.proofs.cutter.Lines.next_run.Goals.{After-skip_lfs-count}
use Rattle.sk_lines.proofs.cutter.Lines.next_run.Goals as goal

pub returns-then-self-clause-run : goal.returns-then-self-clause-run
returns-then-self-clause-run c = none_given c.args.self.now (omega (arith, c.self.ranges.1, ap (λ (x : Cutter). x.number) c.self.view_is))

pub returns-then-held-self-clause-run : goal.returns-then-held-self-clause-run
returns-then-held-self-clause-run c = none_given c.args.self.now (omega (arith, c.self.ranges.1, ap (λ (x : Cutter). x.number) c.self.view_is))

-- what was passed over, in the buffer
passed : (c : After-skip_lfs-count) → IsRun c.skip_lfs-count.result.0 (slice_range c.self.inside.buffer.items c.self.inside.at c.skip_lfs-count.result.1)
passed c = subst (λ (bytes : List ℕ). IsRun c.skip_lfs-count.result.0 (slice_range bytes c.self.inside.at c.skip_lfs-count.result.1)) c.bytes.ensures c.skip_lfs-count.ensures.run

pub returns-clause-run : goal.returns-clause-run
returns-clause-run c =
    let a = c.self.inside in
    let at = (goal.at.returns-clause-run c).After-skip_lfs-count in
    let size = length_rest a.buffer.items a.at (length a.buffer.items - 64) (omega (arith, c.self.invariant.at)) (omega arith) in
    let old = cutter_of a in
    let new : Cutter = cutter_of (record a { at = c.skip_lfs-count.result.1; scanned = c.skip_lfs-count.result.1; marks = 0; number = c.saturating_add-self-inside.result }) in
    subst (λ (x : Cutter). GivesRun x new c.skip_lfs-count.result.0) c.self.view_is
    (run_given old new a.buffer.items c.skip_lfs-count.result.0 a.at c.skip_lfs-count.result.1 (length a.buffer.items - 64) (passed at) c.skip_lfs-count.ensures.place.0 (omega (arith, c.skip_lfs-count.ensures.place.1, ap length c.bytes.ensures)) (omega arith)
    refl refl refl refl (omega (arith, size, c.if-held-self.false, c.len.ensures)) (omega (arith, c.saturating_add-self-inside.ensures)) refl)

pub returns-clause-none : goal.returns-clause-none
returns-clause-none c =
    let a = c.self.inside in
    let at = (goal.at.returns-clause-none c).After-skip_lfs-count in
    λ none some short.
    let run = slice_range a.buffer.items a.at c.skip_lfs-count.result.1 in
    let nothing = ap length (nothing_in_none run (subst (λ (n : ℕ). IsRun n run) none (passed at))) in
    let here : c.skip_lfs-count.result.1 ≡ a.at = omega (arith, nothing, length-take (c.skip_lfs-count.result.1 - a.at) (drop a.at a.buffer.items), length-drop a.at a.buffer.items, c.skip_lfs-count.ensures.place, ap length c.bytes.ensures) in
    subst GivesNone c.self.view_is (inl (no_lf_in_rest a.buffer.items a.at (length a.buffer.items - 64) (omega (arith, c.self.invariant.at)) (omega arith)
    (λ i from below. subst (λ (bytes : List ℕ). slice_index bytes i ≢ 10) c.bytes.ensures (c.skip_lfs-count.ensures.all (omega (arith, none, some)) i (omega (arith, here, from)) (omega (arith, below, ap length c.bytes.ensures))))))
