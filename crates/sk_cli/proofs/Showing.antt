-- What a run with one of the commands shows that have a headline.
use Rattle.std.proofs.Common.{◌≡◌, ◌≢◌, ℕ, true, List, ◌++◌, flat_map, Option, Some, None, Result, Ok, refl, sym, ap, ◌∙◌, subst}
use Rattle.sk_model.specs.Limits.{source_limit}
use Rattle.sk_cli.specs.Command.{Asked, OfLinks, behaviour_of, over_text, frame_of}
use Rattle.sk_cli.specs.Outside.{Outside, beside_in}
use Rattle.sk_cli.specs.Run.{SucceedsText, Succeeds, Performs, RunsMake, exit_of, TakesWhole, CountsText, RanksText, TalliesText, EstimatesTenants, WritesPanes, ServesLinks}
use Rattle.sk_cli.specs.Values.{Word}
use Rattle.sk_cli.specs.declared.command.Command.{Command}
use Rattle.sk_cli.specs.declared.command.Command.TheVariants.{Count, Make, Quantile, Tally, Tenants, Window}
use Rattle.sk_cli.specs.declared.commands.make.MakePlan.{MakePlan}
use Rattle.sk_cli.specs.declared.commands.tenants.TenantsPlan.{TenantsPlan}
use Rattle.sk_cli.specs.declared.fault.Fault.{Fault}
use Rattle.sk_count.specs.declared.plan.Plan.{Plan as CountPlan}
use Rattle.sk_rank.specs.declared.plan.Plan.{Plan as RankPlan}
use Rattle.sk_desks.specs.Desks.{desk_rules, tenant_line}
use Rattle.sk_label.proofs.QuietLaws.{nothing_due}
use Rattle.sk_model.specs.Lines.{lines_of}
use Rattle.sk_panes.proofs.Wholes.{text_of_lines}
use Rattle.sk_panes.specs.declared.plan.Plan.{Plan as PanePlan}
use Rattle.sk_serve.specs.declared.plan.ServePlan.{ServePlan}
use Rattle.sk_tally.specs.declared.plan.Plan.{Plan as TallyPlan}
use Rattle.sk_cli.proofs.Completing.{on}
use Rattle.sk_cli.proofs.MadeRuns.{made_so}
use Rattle.sk_cli.proofs.Reporting.{asked_is}

-- a command that reads took its text whole, of which nothing is refused, and wrote what is due for it
took_whole : (command : Command) (file : Option Word) (most : ℕ) (old new : Outside) → (behaviour_of command).reads ≡ true → SucceedsText (record { command = command; file = file }) most old new →
    TakesWhole file old new (λ text due. (behaviour_of command).IsFine text × (behaviour_of command).IsDue (beside_in old) (beside_in new) text due × (behaviour_of command).Leaves (beside_in old) text due (beside_in new))
took_whole command None most old new reads done =
    record { text = done.text; due = done.due; taken = (done.consumed, on (behaviour_of command) reads done.end); written = done.written; wrote = (done.fine, done.is_due, done.leaves) }
took_whole command (Some name) most old new reads done =
    record { text = done.text; due = done.due; taken = (done.consumed, on (behaviour_of command) reads done.end); written = done.written; wrote = (done.fine, done.is_due, done.leaves) }

whole_so : (file : Option Word) (old new : Outside) (P Q : List ℕ → List ℕ → Type 0) → ((text due : List ℕ) → P text due → Q text due) → TakesWhole file old new P → TakesWhole file old new Q
whole_so file old new P Q so whole = record { text = whole.text; due = whole.due; taken = whole.taken; written = whole.written; wrote = so whole.text whole.due whole.wrote }

-- what it left of it
left_whole : (command : Command) (file : Option Word) (most : ℕ) (old new : Outside) → (behaviour_of command).reads ≡ true → SucceedsText (record { command = command; file = file }) most old new →
    TakesWhole file old new (λ text due. (behaviour_of command).Leaves (beside_in old) text due (beside_in new))
left_whole command file most old new reads done = whole_so file old new _ _ (λ text due is. is.2) (took_whole command file most old new reads done)

-- ---- what commands wrote that were done whole

pub tally_wrote : (plan : TallyPlan) (file : Option Word) (most : ℕ) (old new : Outside) → Succeeds (over_text (Tally plan) file) most old new → TalliesText plan file old new
tally_wrote plan file most old new done = left_whole (Tally plan) file most old new refl done

pub tenants_wrote : (plan : TenantsPlan) (file : Option Word) (most : ℕ) (old new : Outside) → Succeeds (over_text (Tenants plan) file) most old new → EstimatesTenants plan file old new
tenants_wrote plan file most old new done =
    let Lines : List ℕ → List ℕ = λ (text : List ℕ). flat_map (tenant_line plan.desks (lines_of text)) plan.names in
    whole_so file old new _ _
    (λ text due is. (is.0.1, is.1 ∙ ap (λ (l : List ℕ). l ++ Lines text) (nothing_due (desk_rules plan.desks plan.names) (λ before line. refl) (lines_of text))))
    (took_whole (Tenants plan) file most old new refl done)

pub window_wrote : (plan : PanePlan) (file : Option Word) (most : ℕ) (old new : Outside) → Succeeds (over_text (Window plan) file) most old new → WritesPanes plan file old new
window_wrote plan file most old new done = whole_so file old new _ _ (λ text due is. (is.0.1, is.1 ∙ text_of_lines plan (lines_of text) is.0.1)) (took_whole (Window plan) file most old new refl done)

-- ---- a run that was asked for

module _ (request : Option Asked) (old new : Outside) where
  -- a run with `make`
  pub make_shown : (a : Asked) (r : Result (Unit {0}) Fault) (status : ℕ) → Some a ≡ request → status ≡ exit_of r → Performs a source_limit old new r → ((frame_of a).writes_last ≡ true → exit_of r ≢ 0 → exit_of r ≢ 4 → new.written ≡ old.written) →
      (plan : MakePlan) → request ≡ Some (over_text (Make plan) None) → RunsMake plan old new status
  make_shown a r status is end went quiet plan asks =
      let same : a ≡ over_text (Make plan) None = asked_is request a (over_text (Make plan) None) is asks in
      subst (RunsMake plan old new) (sym end)
      (made_so plan old new source_limit r (subst (λ (x : Asked). Performs x source_limit old new r) same went).done (quiet (ap (λ (x : Asked). (frame_of x).writes_last) same)))

  module _ (a : Asked) (is : Some a ≡ request) (done : Succeeds a source_limit old new) where
    asked_for : (b : Asked) → request ≡ Some b → Succeeds b source_limit old new
    asked_for b asks = subst (λ (x : Asked). Succeeds x source_limit old new) (asked_is request a b is asks) done

    pub count_shown : (plan : CountPlan) (file : Option Word) → request ≡ Some (over_text (Count plan) file) → CountsText plan file old new
    count_shown plan file asks = left_whole (Count plan) file source_limit old new refl (asked_for (over_text (Count plan) file) asks)

    pub ranks_shown : (plan : RankPlan) (file : Option Word) → request ≡ Some (over_text (Quantile plan) file) → RanksText plan file old new
    ranks_shown plan file asks = left_whole (Quantile plan) file source_limit old new refl (asked_for (over_text (Quantile plan) file) asks)

    pub tally_shown : (plan : TallyPlan) (file : Option Word) → request ≡ Some (over_text (Tally plan) file) → TalliesText plan file old new
    tally_shown plan file asks = tally_wrote plan file source_limit old new (asked_for (over_text (Tally plan) file) asks)

    pub tenants_shown : (plan : TenantsPlan) (file : Option Word) → request ≡ Some (over_text (Tenants plan) file) → EstimatesTenants plan file old new
    tenants_shown plan file asks = tenants_wrote plan file source_limit old new (asked_for (over_text (Tenants plan) file) asks)

    pub window_shown : (plan : PanePlan) (file : Option Word) → request ≡ Some (over_text (Window plan) file) → WritesPanes plan file old new
    window_shown plan file asks = window_wrote plan file source_limit old new (asked_for (over_text (Window plan) file) asks)

    pub serve_shown : (plan : ServePlan) → request ≡ Some (OfLinks plan) → ServesLinks plan old new
    serve_shown plan asks = asked_for (OfLinks plan) asks
