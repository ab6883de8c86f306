-- A line that is taken: the panes after it, and what is due at it.
use Rattle.std.proofs.Common.{◌≡◌, ℕ, ◌/◌, ◌<◌, ◌≤◌, max, nat_lt, if◌then◌else◌, Bool, true, false, List, [], ◌∷◌, ◌++◌, length, Option, Some, None, unwrap_or, is_some, Result, Ok, Err, IfErr, OnErr, refl, sym, ap, subst, ◌∙◌, arith}
use Rattle.std.specs.Io.KnownBytes.{Appends}
use Rattle.std.proofs.KnownBytes.{Appends-nil}
use Rattle.std.proofs.Math.Nat.{zero-div}
use Rattle.std.proofs.lemmas.Bool.Decides.{nat_tests}
use Rattle.sk_model.specs.Causes.{AppendsPart}
use Rattle.sk_model.specs.Murmur.{hash_of}
use Rattle.sk_model.specs.Numbers.{number_of}
use Rattle.sk_model.specs.Sketch.{count_of, fraction_of}
use Rattle.sk_model.specs.Width.{AreItems}
use Rattle.sk_label.specs.Labels.{label_of, item_text_of, is_labelled}
use Rattle.sk_label.specs.Rules.{IsFine}
use Rattle.sk_label.specs.Stops.{Takes, StopsBy}
use Rattle.sk_label.specs.declared.fault.LineStop.{LineStop}
use Rattle.sk_label.specs.declared.fault.LineStop.TheVariants.{WriteFault}
use Rattle.sk_hub.specs.Updaters.{UpdaterState}
use Rattle.sk_window.specs.Intervals.{StandForEach}
use Rattle.sk_window.specs.Panes.{PanesState}
use Rattle.sk_panes.specs.Candidates.{CandidatesState, HaveSmallest}
use Rattle.sk_panes.specs.Panes.{moment_end, interval_of, item_of, running_after, pane_items, pane_text, pane_line, pane_ended, pane_rules}
use Rattle.sk_panes.specs.Running.{items_of_interval, Stands, StandsAfter, IsLabelIn, IsLast, IsDue, TakesLabel, reply_text, due_text}
use Rattle.sk_panes.specs.declared.plan.Plan.{Plan}
use Rattle.sk_panes.specs.declared.running.Pane.{Pane}
use Rattle.sk_panes.proofs.Lines.{running_more, interval_more, interval_stays, other_interval, both_true}
use Rattle.sk_panes.proofs.Lists.{lists_same}
use Rattle.sk_panes.proofs.Closing.{items_are_items}

-- ---- the panes after a line

-- lines by which all intervals before c have the same items
same_stands : (plan : Plan) (lines lines' : List (List ℕ)) (c : ℕ) (p : PanesState) (us : List UpdaterState) (held held' : CandidatesState) → Stands plan lines c p us held → ((j : ℕ) → j < c → items_of_interval plan lines' j ≡ items_of_interval plan lines j)
    → held'.k ≡ plan.k → HaveSmallest (items_of_interval plan lines' c) held' → Stands plan lines' c p us held'
same_stands plan lines lines' c p us held held' stands same k have = record {
  within = stands.within;
  frame = stands.frame;
  k = stands.k;
  one = stands.one;
  running = stands.running;
  closed = subst (λ (l : List (List ℕ)). StandForEach plan.k p.closed l) (sym (lists_same plan lines lines' c same)) stands.closed;
  none = stands.none;
  feeds = stands.feeds;
  held_k = k;
  held_is = have;
}

empty_moment : number_of moment_end (label_of []) ≡ None
unfolding number_of
empty_moment = refl

pub empty_interval : (plan : Plan) → interval_of plan [] ≡ 0
empty_interval plan = ap (λ (o : Option ℕ). unwrap_or o 0 / plan.span) empty_moment ∙ zero-div plan.span

-- a line that lies in the running interval or an earlier one ends none; a later one ends the running one
pub not_ended : (plan : Plan) (lines : List (List ℕ)) (line : List ℕ) → interval_of plan line ≤ running_after plan lines → pane_ended plan lines line ≡ []
not_ended plan lines line less =
    let no : nat_lt (running_after plan lines) (interval_of plan line) ≡ false = grind (arith, nat_tests) in
    ap (λ (b : Bool). if b then pane_line plan (running_after plan lines) lines else []) no

pub ended : (plan : Plan) (lines : List (List ℕ)) (line : List ℕ) → running_after plan lines < interval_of plan line → pane_ended plan lines line ≡ pane_line plan (running_after plan lines) lines
ended plan lines line less =
    let yes : nat_lt (running_after plan lines) (interval_of plan line) ≡ true = grind (arith, nat_tests) in
    ap (λ (b : Bool). if b then pane_line plan (running_after plan lines) lines else []) yes

-- an empty line changes nothing
pub empty_taken : (plan : Plan) (lines : List (List ℕ)) (line : List ℕ) (p : PanesState) (us : List UpdaterState) (held : CandidatesState) (label : List ℕ) (w : Option (List ℕ)) → length line ≡ 0 → StandsAfter plan lines p us held label
    → Takes (pane_rules plan) (λ ls. StandsAfter plan ls p us held label) w w lines line
empty_taken plan lines (x ∷ line) p us held label w none after = absurd (omega arith)
empty_taken plan lines [] p us held label w none after =
    let r = running_after plan lines in
    let runs : running_after plan (lines ++ [] ∷ []) ≡ r = running_more plan lines [] ∙ ap (max r) (empty_interval plan) ∙ omega arith in
    let same : (j : ℕ) → items_of_interval plan (lines ++ [] ∷ []) j ≡ items_of_interval plan lines j = λ j. interval_stays plan lines [] j refl in
    let have = subst (λ (l : List ℕ). HaveSmallest l held) (sym (same r)) after.stands.held_is in
    let stands : Stands plan (lines ++ [] ∷ []) r p us held = same_stands plan lines (lines ++ [] ∷ []) r p us held held after.stands (λ j less. same j) after.stands.held_k have in
    let nothing : pane_ended plan lines [] ≡ [] = not_ended plan lines [] (omega (arith, empty_interval plan)) in
    record {
      fine = λ some. absurd (omega arith);
      went = record {
        stands = subst (λ (n : ℕ). Stands plan (lines ++ [] ∷ []) n p us held) (sym runs) stands;
        label_is = subst (λ (n : ℕ). IsLabelIn plan n label) (sym runs) after.label_is;
      };
      written = subst (Appends w w) (sym nothing) (Appends-nil w);
    }

-- an item went to interval c, in which its line lies
fed_stands : (plan : Plan) (lines : List (List ℕ)) (line : List ℕ) (c : ℕ) (p : PanesState) (us : List UpdaterState) (held held' : CandidatesState) (label : List ℕ) → interval_of plan line ≡ c → 0 < length line → running_after plan lines ≤ c
    → Stands plan lines c p us held → held'.k ≡ held.k → HaveSmallest (items_of_interval plan lines c ++ item_of plan line ∷ []) held' → IsLabelIn plan c label → StandsAfter plan (lines ++ line ∷ []) p us held' label
fed_stands plan lines line c p us held held' label its some later stands k have is =
    let more = lines ++ line ∷ [] in
    let runs : running_after plan more ≡ c = running_more plan lines line ∙ ap (max (running_after plan lines)) its ∙ omega arith in
    let items : items_of_interval plan more c ≡ items_of_interval plan lines c ++ item_of plan line ∷ [] =
    subst (λ (j : ℕ). items_of_interval plan more j ≡ items_of_interval plan lines j ++ item_of plan line ∷ []) its (interval_more plan lines line some) in
    let now : Stands plan more c p us held' = same_stands plan lines more c p us held held' stands
    (λ j less. interval_stays plan lines line j (other_interval plan j line (λ same. omega (arith, same, its, less))))
    (k ∙ stands.held_k) (subst (λ (l : List ℕ). HaveSmallest l held') (sym items) have) in
    record {
      stands = subst (λ (n : ℕ). Stands plan more n p us held') (sym runs) now;
      label_is = subst (λ (n : ℕ). IsLabelIn plan n label) (sym runs) is;
    }

-- ---- what is due

-- the text of the pane of the latest interval
pub reply_is_line : (plan : Plan) (lines : List (List ℕ)) (pane : Pane) → IsLast plan lines pane → reply_text plan.k pane ≡ pane_line plan (running_after plan lines) lines
reply_is_line plan lines pane last =
    let k = plan.k in
    let r = running_after plan lines in
    let reply = pane.reply in
    ap (λ (i : ℕ). pane_text i (fraction_of k reply.count reply.theta)) last.interval_is
    ∙ ap (λ (n : ℕ). pane_text r (fraction_of k n reply.theta)) last.reply_is.count_is
    ∙ ap (λ (t : ℕ). pane_text r (fraction_of k (count_of k (pane_items plan r lines)) t)) last.reply_is.theta_is

due_is : (plan : Plan) (lines : List (List ℕ)) (line : List ℕ) (c : ℕ) (pane : Option Pane) → interval_of plan line ≡ c → IsDue plan lines c pane → due_text plan.k pane ≡ pane_ended plan lines line
due_is plan lines line c None its due = sym (not_ended plan lines line (omega (arith, its, due)))
due_is plan lines line c (Some pane) its due = reply_is_line plan lines pane due.1 ∙ sym (ended plan lines line (omega (arith, its, due.0)))

-- ---- a line

module _ (plan plan1 plan2 : Plan) (lines : List (List ℕ)) (line label item_text : List ℕ) (pane : Option Pane) (p1 p2 : PanesState) (us1 us2 : List UpdaterState) (held1 held2 : CandidatesState) (label1 label2 : List ℕ)
    (same1 : plan1 ≡ plan) (same2 : plan2 ≡ plan1) (form : is_labelled line ≡ true) (label_is : label ≡ label_of line) (item_is : item_text ≡ item_text_of line) (some : 0 < length line)
    (takes : TakesLabel plan lines label pane p1 us1 held1 label1) where
  moment_is : number_of moment_end (label_of line) ≡ Some takes.moment
  moment_is = subst (λ (l : List ℕ). number_of moment_end l ≡ Some takes.moment) label_is takes.moment_is

  its : interval_of plan line ≡ takes.moment / plan.span
  its = ap (λ (o : Option ℕ). unwrap_or o 0 / plan.span) moment_is

  fine : IsFine (pane_rules plan) lines line
  fine more =
      let spells : is_some (number_of moment_end (label_of line)) ≡ true = ap is_some moment_is in
      let late : running_after plan lines ≤ interval_of plan line = omega (arith, takes.comes.later, its) in
      let not : nat_lt (interval_of plan line) (running_after plan lines) ≡ false = grind (arith, nat_tests) in
      (both_true (is_labelled line) (is_some (number_of moment_end (label_of line))) form spells, not)

  pub takes_line : (w w' : Option (List ℕ)) → ((items : List ℕ) → AreItems items → HaveSmallest items held1 → HaveSmallest (items ++ hash_of plan1.seed item_text ∷ []) held2)
      → held2.k ≡ held1.k → us2 ≡ us1 → p2 ≡ p1 → label2 ≡ label1 → Appends w w' (due_text plan2.k pane) → Takes (pane_rules plan) (λ ls. StandsAfter plan2 ls p2 us2 held2 label2) w w' lines line
  takes_line w w' fed same_k same_us same_p same_label wrote =
      let c = takes.moment / plan.span in
      let items = items_of_interval plan lines c in
      let have : HaveSmallest (items ++ hash_of plan1.seed item_text ∷ []) held2 = fed items (items_are_items plan lines c) takes.comes.stands.held_is in
      let its_own : HaveSmallest (items ++ item_of plan line ∷ []) held2 =
      subst (λ (t : List ℕ). HaveSmallest (items ++ hash_of plan.seed t ∷ []) held2) item_is
      (subst (λ (q : Plan). HaveSmallest (items ++ hash_of q.seed item_text ∷ []) held2) same1 have) in
      let after : StandsAfter plan (lines ++ line ∷ []) p1 us1 held2 label1 = fed_stands plan lines line c p1 us1 held1 held2 label1 its some takes.comes.later takes.comes.stands same_k its_own takes.label_is in
      let k : plan2.k ≡ plan.k = ap (λ (q : Plan). q.k) (same2 ∙ same1) in
      record {
        fine = fine;
        went = subst (λ (q : Plan). StandsAfter q (lines ++ line ∷ []) p2 us2 held2 label2) (sym (same2 ∙ same1))
            (subst (λ (x : PanesState). StandsAfter plan (lines ++ line ∷ []) x us2 held2 label2) (sym same_p)
            (subst (λ (us : List UpdaterState). StandsAfter plan (lines ++ line ∷ []) p1 us held2 label2) (sym same_us)
            (subst (λ (l : List ℕ). StandsAfter plan (lines ++ line ∷ []) p1 us1 held2 l) (sym same_label) after)));
        written = subst (Appends w w') (ap (λ (n : ℕ). due_text n pane) k ∙ due_is plan lines line c pane its takes.comes.due) wrote;
      }

  pub stops_line : (w w' : Option (List ℕ)) → AppendsPart w w' (due_text plan2.k pane) → StopsBy (pane_rules plan) w w' lines line WriteFault
  stops_line w w' part =
      let k : plan2.k ≡ plan.k = ap (λ (q : Plan). q.k) (same2 ∙ same1) in
      (fine, subst (AppendsPart w w') (ap (λ (n : ℕ). due_text n pane) k ∙ due_is plan lines line (takes.moment / plan.span) pane its takes.comes.due) part)

-- what follows if the only error is a failed write
pub if_write_failed : {T : Type 0} (o : Result T LineStop) (P : Type 0) (Q : LineStop → Type 0) → IfErr o (λ why. why ≡ WriteFault) → OnErr o P → (P → Q WriteFault) → IfErr o Q
if_write_failed (Ok x) P Q only part follows = tt
if_write_failed (Err why) P Q only part follows = subst Q (sym only) (follows part)
