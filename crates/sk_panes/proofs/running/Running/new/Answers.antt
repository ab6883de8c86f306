use Rattle.std.proofs.Common.{◌≡◌, ◌-◌, [], ℕ, replicate, inl, sym, ap, subst, ◌∙◌}
use Rattle.sk_theta.specs.Sizes.{Sizes}
use Rattle.sk_window.specs.Intervals.{StandForEach}
use Rattle.sk_window.specs.declared.frame.Frame.{Frame}
use Rattle.sk_panes.proofs.Feeding.{fresh_feeds}
use Rattle.sk_panes.proofs.Lists.{none_at_start}
use Rattle.sk_panes.proofs.running.Running.new.Goals as goal

pub returns-clause-stands : goal.returns-clause-stands
returns-clause-stands g c =
    let plan = c.args.plan.now in
    let made = c.in_ok-panes.field-0 in
    let shape : made.panes.shape ≡ c.in-Ok.shape = c.in_ok-panes.ensures.shape in
    let k : c.in-Ok.shape.k ≡ plan.k = ap (λ (s : Sizes). s.k) c.in-Ok.ensures.ok in
    let one : c.in-Ok.shape.n ≡ 1 = ap (λ (s : Sizes). s.n) c.in-Ok.ensures.ok in
    record {
      stands = record {
        within = c.requires.within;
        frame = c.in_ok-panes.ensures.frame ∙ c.frame_of.ensures.value;
        k = ap (λ (s : Sizes). s.k) shape ∙ k;
        one = ap (λ (s : Sizes). s.n) shape ∙ one;
        running = c.in_ok-panes.ensures.running;
        closed = subst (StandForEach plan.k made.panes.closed) (ap (λ (f : Frame). replicate (f.last - 1) []) c.frame_of.ensures.value ∙ sym (none_at_start plan))
            (subst (λ (n : ℕ). StandForEach n made.panes.closed (replicate (c.frame_of.result.last - 1) [])) k c.in_ok-panes.ensures.closed);
        none = c.in_ok-panes.ensures.taken;
        feeds = fresh_feeds plan c.in-Ok.shape made.panes.heart made.updaters.items made.panes.learnt c.in_ok-panes.ensures.fresh one k;
        held_k = c.in_ok-candidates.ensures.k;
        held_is = c.in_ok-candidates.ensures.none;
      };
      label_is = inl c.new-4.ensures;
    }
