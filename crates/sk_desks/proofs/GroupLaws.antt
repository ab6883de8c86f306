-- Lines that a reader gave at once, on their way to a window.
use Rattle.std.proofs.Common.{◌≡◌, ℕ, ◌+◌, ◌≤◌, Bool, true, false, Option, Result, Ok, IsErrAnd, List, [], ◌++◌, All, length, refl, sym, ap, subst, ◌∙◌, append-nil}
use Rattle.std.proofs.lemmas.List.{nil_from_length}
use Rattle.sk_read.specs.Reading.{Reading, HasRead, remaining_of}
use Rattle.sk_label.specs.declared.fault.LabelFault.{LabelFault}
use Rattle.sk_desks.specs.Gathers.{IsOfTenant, GoOnFine, StopsWithin, TakesHeld}
use Rattle.sk_desks.proofs.GatherLaws.{group_given, group_stops, lines_fine, held_all, held_not}

-- a reader gave these lines after those before
pub record GivesGroup (r s : Reading) (group : List (List ℕ)) : Type 0 where
  pub goes : (left : Option (List ℕ)) (given : List (List ℕ)) (taken : List ℕ) → HasRead r left given taken → HasRead s left (given ++ group) taken
  pub most : s.most ≡ r.most
  pub piece : s.last ≡ r.last
  pub fewer : remaining_of s ≤ remaining_of r

module _ (names lines group : List (List ℕ)) (r s : Reading) (gives : GivesGroup r s group) where
  same : (left : Option (List ℕ)) (given : List (List ℕ)) (taken : List ℕ) → HasRead r left (given ++ lines) taken → HasRead r left (given ++ lines) taken
  same left given taken has = has

  -- there are none
  pub none_held : length group ≡ 0 → TakesHeld names lines lines r s (Ok false)
  none_held empty =
      let none : group ≡ [] = nil_from_length group empty in
      let added : lines ≡ lines ++ group = sym (append-nil lines) ∙ ap (λ (ls : List (List ℕ)). lines ++ ls) (sym none) in
      held_all names lines lines r s false (group_given names lines lines group r r s same gives.goes lines added) (λ fine. fine) gives.most gives.piece gives.fewer

  -- they are the window's
  pub group_held : (lines' : List (List ℕ)) → lines' ≡ lines ++ group → All (IsOfTenant names) group → TakesHeld names lines lines' r s (Ok true)
  group_held lines' added are =
      held_all names lines lines' r s true (group_given names lines lines group r r s same gives.goes lines' added) (λ fine. subst (GoOnFine names) (sym added) (lines_fine names lines group fine are)) gives.most gives.piece gives.fewer

  -- one of them is refused, or there is no memory
  pub group_not_held : (lines' : List (List ℕ)) (result : Result Bool LabelFault) (f : LabelFault) → IsErrAnd result (λ x. x ≡ f) → StopsWithin names group (r.cutter.number + 1) f → TakesHeld names lines lines' r s result
  group_not_held lines' result f is stops =
      let first : ℕ = r.cutter.number + 1 in
      held_not names lines lines' group r s first result f is stops (group_stops names lines lines group r r s same gives.goes first refl gives.most gives.piece (λ fine. fine) f stops) gives.most gives.piece gives.fewer
