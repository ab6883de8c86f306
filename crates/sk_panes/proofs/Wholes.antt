-- The whole text of lines: a pane for each interval that one of them lies in.
use Rattle.std.proofs.Common.{◌≡◌, inl, ⊎_elim, ℕ, ◌+◌, ◌<◌, ◌≤◌, ◌&&◌, nat_lt, nat_le, Bool, false, List, [], ◌∷◌, ◌++◌, length, map, flat_map, get_or, All, refl, sym, ap, subst, ◌∙◌, arith, append-nil, append_assoc, length-append}
use Rattle.std.proofs.Math.Seq.{take-append_seam, get_or-append_seam}
use Rattle.std.proofs.lemmas.Bool.{cases_lt}
use Rattle.std.proofs.lemmas.Bool.Decides.{nat_tests}
use Rattle.std.proofs.lemmas.Grind.{flat_map-append}
use Rattle.std.proofs.lemmas.List.{map-append}
use Rattle.std.proofs.lemmas.List.Elements.{All-nil, All-head, All-tail, All-push, All-weaker}
use Rattle.sk_model.specs.Sketch.{placed, rising, estimate_of}
use Rattle.sk_model.proofs.Rising.{Has, Has-from_Contains, Contains-from_Has, Has-append_left, increasing_from_RisesFrom, placed-nil, placed_by}
use Rattle.sk_model.proofs.Sketch.{RisesFrom-rising, Has-rising, rising-has, rising-append, rising_is}
use Rattle.sk_compose.proofs.Smallest.{has_right, has_cases}
use Rattle.sk_label.specs.Rules.{IsFine, AreFine, due_so_far, whole_text}
use Rattle.sk_label.proofs.RuleLaws.{fine_front, due_so_far-more}
use Rattle.sk_panes.specs.Panes.{interval_of, item_of, running_after, is_in_pane, pane_text, pane_line, pane_rules, panes_text}
use Rattle.sk_panes.specs.declared.plan.Plan.{Plan}
use Rattle.sk_panes.proofs.Lines.{running_more, one_left, second_fails}
use Rattle.sk_panes.proofs.Taking.{empty_interval, not_ended, ended}

-- ---- rising lists

first_rising : rising (0 ∷ []) ≡ 0 ∷ []
unfolding rising placed
first_rising = refl

-- a number that was there already
rising_again : (hs : List ℕ) (h : ℕ) → Has hs h → rising (hs ++ h ∷ []) ≡ rising hs
rising_again hs h there = rising_is (rising hs) (hs ++ h ∷ []) (increasing_from_RisesFrom 0 (rising hs) (RisesFrom-rising hs))
    (λ x has. Contains-from_Has (hs ++ h ∷ []) x (Has-append_left hs (h ∷ []) x (Has-rising hs x (Has-from_Contains (rising hs) x has))))
    (λ x has. Contains-from_Has (rising hs) x (rising-has hs x (⊎_elim
    (λ old. old)
    (⊎_elim (λ same. subst (Has hs) same there) (λ no. absurd no))
    (has_cases hs (h ∷ []) x (Has-from_Contains (hs ++ h ∷ []) x has)))))

-- a number above all of them comes last
placed_last : (h : ℕ) (xs : List ℕ) → All (λ y. y < h) xs → placed h xs ≡ xs ++ h ∷ []
placed_last h [] all = placed-nil h
placed_last h (x ∷ xs) all =
    let less : x < h = All-head (λ (y : ℕ). y < h) x xs all in
    placed_by (λ (l : List ℕ). l ≡ (x ∷ xs) ++ h ∷ []) h x xs (λ before. absurd (omega arith)) (λ same. absurd (omega arith))
    (λ after. ap (λ (l : List ℕ). x ∷ l) (placed_last h xs (All-tail (λ (y : ℕ). y < h) x xs all)))

rising_last : (hs : List ℕ) (h : ℕ) → All (λ y. y < h) (rising hs) → rising (hs ++ h ∷ []) ≡ rising hs ++ h ∷ []
rising_last hs h all = rising-append hs (h ∷ []) ∙ placed_last h (rising hs) all

-- ---- panes of earlier intervals

module _ (plan : Plan) where
  intervals : List (List ℕ) → List ℕ
  intervals lines = 0 ∷ map (interval_of plan) lines

  intervals_more : (lines : List (List ℕ)) (line : List ℕ) → 0 ∷ map (interval_of plan) (lines ++ line ∷ []) ≡ (0 ∷ map (interval_of plan) lines) ++ interval_of plan line ∷ []
  intervals_more lines line = ap (λ (l : List ℕ). 0 ∷ l) (map-append (interval_of plan) lines (line ∷ []))

  later_out : (c : ℕ) (line : List ℕ) → c < interval_of plan line → is_in_pane plan c line ≡ false
  later_out c line later =
      let no : nat_le (interval_of plan line) c ≡ false = grind (arith, nat_tests) in
      ap (λ (b : Bool). b && nat_lt c (interval_of plan line + plan.last)) (second_fails (nat_lt 0 (length line)) (nat_le (interval_of plan line) c) no)

  empty_out : (c : ℕ) → is_in_pane plan c [] ≡ false
  empty_out c = refl

  -- a line that is not in pane c changes nothing of it
  same_pane : (c : ℕ) (lines : List (List ℕ)) (line : List ℕ) → is_in_pane plan c line ≡ false → pane_line plan c (lines ++ line ∷ []) ≡ pane_line plan c lines
  same_pane c lines line out = ap (λ (l : List ℕ). pane_text c (estimate_of plan.k l)) (one_left (item_of plan) (is_in_pane plan c) lines line out)

  same_panes : (cs : List ℕ) (lines : List (List ℕ)) (line : List ℕ) → All (λ c. is_in_pane plan c line ≡ false) cs → flat_map (λ c. pane_line plan c (lines ++ line ∷ [])) cs ≡ flat_map (λ c. pane_line plan c lines) cs
  same_panes [] lines line out = refl
  same_panes (c ∷ cs) lines line out =
      ap (λ (l : List ℕ). l ++ flat_map (λ (d : ℕ). pane_line plan d (lines ++ line ∷ [])) cs) (same_pane c lines line (All-head (λ (d : ℕ). is_in_pane plan d line ≡ false) c cs out))
      ∙ ap (λ (l : List ℕ). pane_line plan c lines ++ l) (same_panes cs lines line (All-tail (λ (d : ℕ). is_in_pane plan d line ≡ false) c cs out))

  -- the panes of earlier intervals were written, and the running one is the latest
  record Written (lines : List (List ℕ)) : Type 0 where
    earlier : List ℕ
    all : rising (0 ∷ map (interval_of plan) lines) ≡ earlier ++ running_after plan lines ∷ []
    less : All (λ c. c < running_after plan lines) earlier
    text : due_so_far (pane_rules plan) lines ≡ flat_map (λ c. pane_line plan c lines) earlier

  at_start : Written []
  at_start = record { earlier = []; all = first_rising; less = All-nil (λ (c : ℕ). c < 0); text = refl }

  whole : (lines : List (List ℕ)) → Written lines → whole_text (pane_rules plan) lines ≡ panes_text plan lines
  whole lines so =
      let f = λ (c : ℕ). pane_line plan c lines in
      let r = running_after plan lines in
      ap (λ (l : List ℕ). l ++ f r) so.text
      ∙ ap (λ (l : List ℕ). flat_map f so.earlier ++ l) (sym (append-nil (f r)))
      ∙ sym (flat_map-append f so.earlier (r ∷ []))
      ∙ ap (flat_map f) (sym so.all)

  -- a line that ends no interval
  stays : (lines : List (List ℕ)) (line : List ℕ) → Written lines → interval_of plan line ≤ running_after plan lines → Has (0 ∷ map (interval_of plan) lines) (interval_of plan line)
      → ((c : ℕ) → c < running_after plan lines → is_in_pane plan c line ≡ false) → Written (lines ++ line ∷ [])
  stays lines line so low there out =
      let rules = pane_rules plan in
      let hs = 0 ∷ map (interval_of plan) lines in
      let runs : running_after plan (lines ++ line ∷ []) ≡ running_after plan lines = running_more plan lines line ∙ omega (arith, low) in
      record {
        earlier = so.earlier;
        all = ap rising (intervals_more lines line) ∙ rising_again hs (interval_of plan line) there ∙ so.all ∙ ap (λ (n : ℕ). so.earlier ++ n ∷ []) (sym runs);
        less = subst (λ (n : ℕ). All (λ c. c < n) so.earlier) (sym runs) so.less;
        text = due_so_far-more rules lines line
            ∙ ap (λ (l : List ℕ). due_so_far rules lines ++ l) (not_ended plan lines line low)
            ∙ append-nil (due_so_far rules lines)
            ∙ so.text
            ∙ sym (same_panes so.earlier lines line (λ i d within. out (get_or so.earlier i d) (so.less i d within)));
      }

  -- a line that ends the running one
  moves : (lines : List (List ℕ)) (line : List ℕ) → Written lines → running_after plan lines < interval_of plan line → Written (lines ++ line ∷ [])
  moves lines line so high =
      let rules = pane_rules plan in
      let f = λ (c : ℕ). pane_line plan c lines in
      let hs = 0 ∷ map (interval_of plan) lines in
      let r = running_after plan lines in
      let runs : running_after plan (lines ++ line ∷ []) ≡ interval_of plan line = running_more plan lines line ∙ omega (arith, high) in
      let below : All (λ c. c < interval_of plan line) (so.earlier ++ r ∷ []) =
      All-push (λ (c : ℕ). c < interval_of plan line) so.earlier r (All-weaker (λ (c : ℕ). c < r) (λ (c : ℕ). c < interval_of plan line) (λ c less. omega (arith, less, high)) so.earlier so.less) high in
      record {
        earlier = so.earlier ++ r ∷ [];
        all = ap rising (intervals_more lines line)
            ∙ rising_last hs (interval_of plan line) (subst (All (λ (c : ℕ). c < interval_of plan line)) (sym so.all) below)
            ∙ ap (λ (l : List ℕ). l ++ interval_of plan line ∷ []) so.all
            ∙ ap (λ (n : ℕ). (so.earlier ++ r ∷ []) ++ n ∷ []) (sym runs);
        less = subst (λ (n : ℕ). All (λ c. c < n) (so.earlier ++ r ∷ [])) (sym runs) below;
        text = due_so_far-more rules lines line
            ∙ ap (λ (l : List ℕ). due_so_far rules lines ++ l) (ended plan lines line high)
            ∙ ap (λ (l : List ℕ). l ++ f r) so.text
            ∙ ap (λ (l : List ℕ). flat_map f so.earlier ++ l) (sym (append-nil (f r)))
            ∙ sym (flat_map-append f so.earlier (r ∷ []))
            ∙ sym (same_panes (so.earlier ++ r ∷ []) lines line (λ i d within. later_out (get_or (so.earlier ++ r ∷ []) i d) line (below i d within)));
      }

  one_more : (lines : List (List ℕ)) (line : List ℕ) → Written lines → IsFine (pane_rules plan) lines line → Written (lines ++ line ∷ [])
  one_more lines [] so fine = stays lines [] so (omega (arith, empty_interval plan)) (inl (sym (empty_interval plan))) (λ c less. empty_out c)
  one_more lines (b ∷ bs) so fine =
      let line = b ∷ bs in
      let r = running_after plan lines in
      let hs = 0 ∷ map (interval_of plan) lines in
      let not : nat_lt (interval_of plan line) r ≡ false = (fine (omega arith)).1 in
      let late : r ≤ interval_of plan line = grind (arith, nat_tests) in
      let there : Has hs r = Has-rising hs r (subst (λ (l : List ℕ). Has l r) (sym so.all) (has_right so.earlier (r ∷ []) r (inl refl))) in
      ⊎_elim
      (λ (high : r < interval_of plan line). moves lines line so high)
      (λ (low : interval_of plan line ≤ r).
      let same : r ≡ interval_of plan line = omega arith in
      stays lines line so low (subst (Has hs) same there) (λ c less. later_out c line (omega (arith, less, late))))
      (cases_lt r (interval_of plan line))

  fine_last : (lines : List (List ℕ)) (line : List ℕ) → AreFine (pane_rules plan) (lines ++ line ∷ []) → IsFine (pane_rules plan) lines line
  fine_last lines line fine =
      let rules = pane_rules plan in
      let all = lines ++ line ∷ [] in
      let n = length lines in
      subst (IsFine rules lines) (get_or-append_seam lines line [] [])
      (subst (λ (before : List (List ℕ)). IsFine rules before (get_or all n [])) (take-append_seam lines (line ∷ []))
      (fine n (omega (arith, length-append lines (line ∷ [])))))

  all_written : (before rest : List (List ℕ)) → AreFine (pane_rules plan) (before ++ rest) → Written before → Written (before ++ rest)
  all_written before [] fine so = subst Written (sym (append-nil before)) so
  all_written before (line ∷ rest) fine so =
      let rules = pane_rules plan in
      let together : (before ++ line ∷ []) ++ rest ≡ before ++ line ∷ rest = append_assoc before (line ∷ []) rest in
      let parted : AreFine rules ((before ++ line ∷ []) ++ rest) = subst (AreFine rules) (sym together) fine in
      let one : IsFine rules before line = fine_last before line (fine_front rules (before ++ line ∷ []) rest parted) in
      subst Written together (all_written (before ++ line ∷ []) rest parted (one_more before line so one))

pub text_of_lines : (plan : Plan) (lines : List (List ℕ)) → AreFine (pane_rules plan) lines → whole_text (pane_rules plan) lines ≡ panes_text plan lines
text_of_lines plan lines fine = whole plan lines (all_written plan [] lines fine (at_start plan))
