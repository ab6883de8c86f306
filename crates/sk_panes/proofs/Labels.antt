-- The label of a line that is a moment.
use Rattle.std.proofs.Common.{◌≡◌, ⊎_elim, ◌+◌, ◌-◌, ◌/◌, ◌<◌, ◌≤◌, ◌&&◌, ℕ, nat_lt, nat_le, if◌then◌else◌, Bool, true, false, List, [], length, take, drop, get_or, slice_index, decimal, Some, None, refl, sym, ap, subst, ◌∙◌, arith, lit<, eq-eqb}
use Rattle.std.specs.List.{list_all, position_or_len}
use Rattle.std.specs.Char.{is_ascii_digit}
use Rattle.std.proofs.lemmas.Bool.Decides.{nat_tests}
use Rattle.std.proofs.lemmas.Fmt.{length-decimal-le}
use Rattle.std.proofs.lemmas.List.{get_or-take, length-drop}
use Rattle.std.proofs.lemmas.List.Sums.{AllPass-from_list_all, position_or_len_is}
use Rattle.sk_model.specs.Numbers.{number_of, value_of}
use Rattle.sk_hub.specs.Updaters.{UpdaterState}
use Rattle.sk_label.specs.Labels.{is_space, label_of, item_text_of, is_labelled}
use Rattle.sk_window.specs.Panes.{PanesState}
use Rattle.sk_panes.specs.Candidates.{CandidatesState}
use Rattle.sk_panes.specs.Panes.{moment_end, running_after}
use Rattle.sk_panes.specs.Running.{Stands, StandsAfter, IsLabelIn, TakesLabel}
use Rattle.sk_panes.specs.declared.plan.Plan.{Plan}
use Rattle.sk_panes.proofs.Lines.{both_are, both_true}

passes : (b : Bool) (m v : ℕ) → Some m ≡ (if b then Some v else None) → b ≡ true
passes true m v is = refl
passes false m v is = let no : ⊥ = cc in absurd no

-- a moment has at most 15 digits
pub label_len : (label : List ℕ) (moment : ℕ) → Some moment ≡ number_of moment_end label → length label ≤ 15
unfolding number_of
label_len label moment is =
    let digits = list_all is_ascii_digit label in
    let some = nat_lt 0 (length label) in
    let few = nat_le (length label) (length (decimal (moment_end - 1))) in
    let below = nat_lt (value_of label) moment_end in
    let all : (digits && some && few && below) ≡ true = passes (digits && some && few && below) moment (value_of label) is in
    let test : few ≡ true = (both_are (digits && some) few (both_are (digits && some && few) below all).0).1 in
    let most : length (decimal (moment_end - 1)) ≤ 15 = length-decimal-le 15 (moment_end - 1) (lit< tt) (lit< tt) (lit< tt) in
    let within : length label ≤ length (decimal (moment_end - 1)) = grind (arith, nat_tests) in
    omega (arith, within, most)

-- ---- the label of the last line

digits_of : (label : List ℕ) (moment : ℕ) → Some moment ≡ number_of moment_end label → list_all is_ascii_digit label ≡ true
unfolding number_of
digits_of label moment is =
    let digits = list_all is_ascii_digit label in
    let some = nat_lt 0 (length label) in
    let few = nat_le (length label) (length (decimal (moment_end - 1))) in
    let below = nat_lt (value_of label) moment_end in
    let all : (digits && some && few && below) ≡ true = passes (digits && some && few && below) moment (value_of label) is in
    (both_are digits some (both_are (digits && some) few (both_are (digits && some && few) below all).0).0).0

no_space : (c : ℕ) → is_ascii_digit c ≡ true → is_space c ≡ false
no_space c digit =
    let low : nat_le 48 c ≡ true = (both_are (nat_le 48 c) (nat_le c 57) digit).0 in
    let more : 48 ≤ c = grind (arith, nat_tests) in
    grind (arith, nat_tests)

some_true : (n : ℕ) → 0 < n → nat_lt 0 n ≡ true
some_true n some = grind (arith, nat_tests)

-- a line that begins with it and a space is of these parts
module _ (line label rest : List ℕ) (moment : ℕ) (spells : number_of moment_end label ≡ Some moment) (same : take (length label) line ≡ label) (space : slice_index line (length label) ≡ 32)
    (rest_is : rest ≡ drop (length label + 1) line) (some : 0 < length label) (more : 0 < length rest) where
  no_space_before : (k : ℕ) → k < length label → is_space (get_or line k 0) ≡ false
  no_space_before k less =
      let digit : is_ascii_digit (get_or label k 0) ≡ true = AllPass-from_list_all is_ascii_digit label (digits_of label moment (sym spells)) k 0 less in
      let at : get_or label k 0 ≡ get_or line k 0 = ap (λ (l : List ℕ). get_or l k 0) (sym same) ∙ get_or-take (length label) line k 0 less in
      subst (λ (c : ℕ). is_space c ≡ false) at (no_space (get_or label k 0) digit)

  at : position_or_len is_space line ≡ length label
  at =
      let long : length label ≤ length line = omega (arith, ap (λ (l : List ℕ). length l) rest_is, length-drop (length label + 1) line, more) in
      position_or_len_is is_space line (length label) 0 long no_space_before (λ less. eq-eqb _ 32 space)

  pub label_is : label ≡ label_of line
  label_is = sym same ∙ ap (λ (n : ℕ). take n line) (sym at)

  pub item_is : rest ≡ item_text_of line
  item_is = rest_is ∙ ap (λ (n : ℕ). drop (n + 1) line) (sym at)

  pub form_is : is_labelled line ≡ true
  form_is = both_true (nat_lt 0 (length (label_of line))) (nat_lt 0 (length (item_text_of line)))
      (subst (λ (l : List ℕ). nat_lt 0 (length l) ≡ true) label_is (some_true (length label) some))
      (subst (λ (l : List ℕ). nat_lt 0 (length l) ≡ true) item_is (some_true (length rest) more))

-- it lies in the running interval
pub label_again : (plan : Plan) (lines : List (List ℕ)) (p : PanesState) (us : List UpdaterState) (held : CandidatesState) (label : List ℕ) → 0 < length label → StandsAfter plan lines p us held label → TakesLabel plan lines label None p us held label
label_again plan lines p us held label some after = ⊎_elim
    (λ (none : label ≡ []). absurd (omega (arith, some, ap (λ (l : List ℕ). length l) none)))
    (λ (spelt : (moment : ℕ) × (number_of moment_end label ≡ Some moment) × (moment / plan.span ≡ running_after plan lines)).
    let same : running_after plan lines ≡ spelt.0 / plan.span = sym spelt.2 in
    record {
      moment = spelt.0;
      moment_is = spelt.1;
      comes = record { later = omega (arith, same); stands = subst (λ (n : ℕ). Stands plan lines n p us held) same after.stands; due = same };
      label_is = subst (λ (n : ℕ). IsLabelIn plan n label) same after.label_is;
    })
    after.label_is
