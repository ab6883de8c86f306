-- What a piece of a batch makes of a sketch.
use Rattle.std.proofs.Common.{◌≡◌, ℕ, ◌≤◌, nat_lt, inl, inr, ⊎_elim, List, [], ◌∷◌, ◌++◌, Contains, cond, refl, sym, ap, ◌∙◌, arith, append_assoc, append-nil}
use Rattle.std.specs.List.{filter}
use Rattle.std.proofs.lemmas.Bool.{cases_Bool}
use Rattle.std.proofs.lemmas.Bool.Decides.{nat_tests}
use Rattle.std.proofs.lemmas.List.Elements.{All-head, All-tail, All-append, All-filter, All-contains, All-contains_itself, All-weaker, Contains-append_left, Contains-append_right, Contains-append_cases}
use Rattle.sk_model.specs.Sketch.{rising, k_smallest, theta_of}
use Rattle.sk_model.specs.Width.{IsItem, AreItems}
use Rattle.sk_model.proofs.Sketch.{a_batch_more, idle_changes_nothing, k_smallest_of_members, k_smallest_rises, k_smallest_are_items, count_within}
use Rattle.sk_theta.specs.Kept.{IsWhole, theta_kept}
use Rattle.sk_sorted.proofs.Members.{rising_member, member_rising}

-- items that are not below theta may be left out
without_idle : (k : ℕ) (hashes more batch : List ℕ) → AreItems batch
    → k_smallest k ((hashes ++ more) ++ batch) ≡ k_smallest k ((hashes ++ more) ++ filter (λ h. nat_lt h (theta_of k hashes)) batch)
without_idle k hashes more [] items = refl
without_idle k hashes more (x ∷ xs) items = elim (cases_Bool (nat_lt x (theta_of k hashes))) [
  | inl below ↦
      ap (λ l. k_smallest k l) (sym (onto xs))
      ∙ without_idle k hashes (more ++ x ∷ []) xs rest
      ∙ ap (λ l. k_smallest k l) (onto (filter (λ h. nat_lt h (theta_of k hashes)) xs))
      ∙ ap (λ b. k_smallest k ((hashes ++ more) ++ cond b (x ∷ filter (λ h. nat_lt h (theta_of k hashes)) xs) (filter (λ h. nat_lt h (theta_of k hashes)) xs))) (sym below)
  | inr idle ↦
      let past : theta_of k hashes ≤ x = grind (arith, nat_tests) in
      idle_changes_nothing k x hashes more xs (All-head IsItem x xs items) past
      ∙ without_idle k hashes more xs rest
      ∙ ap (λ b. k_smallest k ((hashes ++ more) ++ cond b (x ∷ filter (λ h. nat_lt h (theta_of k hashes)) xs) (filter (λ h. nat_lt h (theta_of k hashes)) xs))) (sym idle)
]
  where
    rest : AreItems xs
    rest = All-tail IsItem x xs items

    onto : (ys : List ℕ) → (hashes ++ (more ++ x ∷ [])) ++ ys ≡ (hashes ++ more) ++ x ∷ ys
    onto ys = ap (λ l. l ++ ys) (sym (append_assoc hashes more (x ∷ []))) ∙ append_assoc (hashes ++ more) (x ∷ []) ys

-- each of a list once, rising, does for the list
each_once : (k : ℕ) (kept more : List ℕ) → k_smallest k (kept ++ more) ≡ k_smallest k (kept ++ rising more)
each_once k kept more = k_smallest_of_members k (kept ++ more) (kept ++ rising more) (joined more (rising more) (member_rising more)) (joined (rising more) more (rising_member more))
  where
    joined : (xs ys : List ℕ) → ((z : ℕ) → Contains xs z → Contains ys z) → (z : ℕ) → Contains (kept ++ xs) z → Contains (kept ++ ys) z
    joined xs ys to z c = ⊎_elim (λ here. Contains-append_left kept ys z here) (λ there. Contains-append_right kept ys z (to z there)) (Contains-append_cases kept xs z c)

-- the distinct ones of a batch that are below theta
abbrev pub piece_of : ℕ → List ℕ → List ℕ
piece_of theta batch = rising (filter (λ h. nat_lt h theta) batch)

pub piece_stands : (k : ℕ) (kept hashes batch : List ℕ) → AreItems batch → kept ≡ k_smallest k hashes
    → k_smallest k (kept ++ piece_of (theta_kept k kept) batch) ≡ k_smallest k (hashes ++ batch)
piece_stands k kept hashes batch items stands =
    let below = filter (λ h. nat_lt h (theta_of k hashes)) batch in
    ap (λ l. k_smallest k (l ++ piece_of (theta_kept k l) batch)) stands
    ∙ sym (each_once k (k_smallest k hashes) below)
    ∙ sym (a_batch_more k hashes below)
    ∙ ap (λ l. k_smallest k (l ++ below)) (sym (append-nil hashes))
    ∙ sym (without_idle k hashes [] batch items)
    ∙ ap (λ l. k_smallest k (l ++ batch)) (append-nil hashes)

pub piece_items : (theta : ℕ) (batch : List ℕ) → AreItems batch → AreItems (piece_of theta batch)
piece_items theta batch items =
    let below = filter (λ h. nat_lt h theta) batch in
    All-weaker (λ z. Contains below z) IsItem (λ z c. All-contains IsItem below z (All-filter (λ h. nat_lt h theta) IsItem batch items) c) (rising below)
    (λ i d inside. rising_member below _ (All-contains_itself (rising below) i d inside))

pub whole_again : (k theta : ℕ) (kept batch : List ℕ) → IsWhole (record { k = k; kept = kept }) → AreItems batch
    → IsWhole (record { k = k; kept = k_smallest k (kept ++ piece_of theta batch) })
whole_again k theta kept batch whole items = record {
  least = whole.least;
  most = whole.most;
  rises = k_smallest_rises k (kept ++ piece_of theta batch);
  within = count_within k (kept ++ piece_of theta batch);
  items = k_smallest_are_items k (kept ++ piece_of theta batch) (All-append IsItem kept (piece_of theta batch) whole.items (piece_items theta batch items));
}
