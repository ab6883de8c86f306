-- How the command ends.
use Rattle.std.proofs.Common.{◌≡◌, ⊎_elim, ℕ, List, Option, Result, Ok, Err, OnOk, OnErr, IfErr, IsErrAnd, inl, inr, sym, ap, subst, ◌∙◌}
use Rattle.std.specs.Io.KnownBytes.{Appends}
use Rattle.sk_model.specs.Causes.{AppendsPart}
use Rattle.sk_read.proofs.LineEnds.{nothing_came}
use Rattle.sk_label.specs.Rules.{Rules}
use Rattle.sk_label.specs.Goes.{setting, WroteSoFar, WroteAll, WrotePartLast, ReadsLines, EndsBefore, EndsAt, Goes}
use Rattle.sk_label.specs.declared.fault.LabelFault.{LabelFault}
use Rattle.sk_label.specs.declared.fault.LabelFault.TheVariants as fault
use Rattle.sk_label.proofs.RuleLaws.{wrote_nothing, wrote_last, wrote_part_last}
use Rattle.sk_panes.specs.Panes.{pane_rules}
use Rattle.sk_panes.specs.Running.{IsLast, reply_text, numbers_of}
use Rattle.sk_panes.specs.declared.plan.Plan.{Plan}
use Rattle.sk_panes.specs.declared.running.Pane.{Pane}
use Rattle.sk_panes.proofs.Taking.{reply_is_line}

-- plans with the same numbers
pub plan_same : (p q : Plan) → numbers_of p ≡ numbers_of q → p ≡ q
plan_same p q same =
    let k : p.k ≡ q.k = cc in
    let size : p.size ≡ q.size = cc in
    let seed : p.seed ≡ q.seed = cc in
    let span : p.span ≡ q.span = cc in
    let last : p.last ≡ q.last = cc in
    ap (λ (n : ℕ). record p { k = n }) k
    ∙ ap (λ (n : ℕ). record p { k = q.k; size = n }) size
    ∙ ap (λ (n : ℕ). record p { k = q.k; size = q.size; seed = n }) seed
    ∙ ap (λ (n : ℕ). record p { k = q.k; size = q.size; seed = q.seed; span = n }) span
    ∙ ap (λ (n : ℕ). record q { last = n }) last

-- ---- before the first line

nothing_read : (last : ℕ) (rules : Rules) (most : ℕ) (left w : Option (List ℕ)) → EndsBefore rules last most (setting left w) (setting left w) fault.OutOfMemory
nothing_read last rules most left w = ⊎_elim (λ off. off) (λ stops. absurd stops.1.known)
    (nothing_came (WroteSoFar rules w w) (λ why given unit. ⊥) most last left (wrote_nothing rules w))

pub ends_at_start : {T : Type 0} (last : ℕ) (rules : Rules) (most : ℕ) (left w : Option (List ℕ)) (r : Result T LabelFault) → IsErrAnd r (λ e. e ≡ fault.OutOfMemory) → Goes rules last most (setting left w) (setting left w) r
ends_at_start {T} last rules most left w (Ok x) is = absurd is
ends_at_start {T} last rules most left w (Err e) is = subst (EndsAt rules last most (setting left w) (setting left w)) (sym is) (inl (nothing_read last rules most left w))

-- ---- after the last line

reads_so : (most : ℕ) (G G' : List (List ℕ) → Type 0) (old new : Option (List ℕ)) → ((lines : List (List ℕ)) → G lines → G' lines) → ReadsLines most G old new → ReadsLines most G' old new
reads_so most G G' old new so (n, r) = (n, record { taken = r.taken; consumed = r.consumed; end = r.end; size = r.size; sound = r.sound; number = r.number; gave = so _ r.gave })

module _ (plan : Plan) (most : ℕ) (left left' w w' w'' : Option (List ℕ)) (Went : List (List ℕ) → Type 0) (pane : Pane) (last : (lines : List (List ℕ)) → Went lines → IsLast plan lines pane)
    (read : ReadsLines most (λ lines. WroteSoFar (pane_rules plan) w w' lines × Went lines) left left') where
  text_is : (lines : List (List ℕ)) → Went lines → reply_text plan.k pane ≡ (pane_rules plan).due_last lines
  text_is lines went = reply_is_line plan lines pane (last lines went)

  pub goes_at_end : {T : Type 0} (at : ℕ) (r : Result T LabelFault) → OnOk r (Appends w' w'' (reply_text plan.k pane)) → OnErr r (AppendsPart w' w'' (reply_text plan.k pane)) → IfErr r (λ f. f ≡ fault.WriteFault)
      → Goes (pane_rules plan) at most (setting left w) (setting left' w'') r
  goes_at_end {T} at (Ok x) wrote part only = reads_so most (λ lines. WroteSoFar (pane_rules plan) w w' lines × Went lines) (WroteAll (pane_rules plan) w w'') left left'
      (λ lines so. wrote_last (pane_rules plan) w w' w'' lines so.0 (subst (Appends w' w'') (text_is lines so.1) wrote)) read
  goes_at_end {T} at (Err e) wrote part only = subst (EndsAt (pane_rules plan) at most (setting left w) (setting left' w'')) (sym only)
      (inr (reads_so most (λ lines. WroteSoFar (pane_rules plan) w w' lines × Went lines) (WrotePartLast (pane_rules plan) w w'') left left'
      (λ lines so. wrote_part_last (pane_rules plan) w w' w'' lines so.0 (subst (AppendsPart w' w'') (text_is lines so.1) part)) read))
