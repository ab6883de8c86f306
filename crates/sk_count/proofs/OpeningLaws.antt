-- A hub as it is opened.
use Rattle.std.proofs.Common.{◌≡◌, inl, Bool, ℕ, ◌-◌, ◌<◌, ◌≤◌, min, List, [], ◌∷◌, ◌++◌, length, get_or, All, slice_index, sym, ap, subst, ◌∙◌, arith}
use Rattle.std.proofs.lemmas.List.Elements.{All-get_or, All-from_get_or}
use Rattle.std.proofs.lemmas.Option.{slice_get-get_or}
use Rattle.sk_model.specs.Entries.{Entry}
use Rattle.sk_model.specs.Limits.{most_size, IsFrom}
use Rattle.sk_gate.specs.Hands.{TokenState}
use Rattle.sk_hub.specs.Hearts.{HeartState}
use Rattle.sk_hub.specs.Starts.{IsNewHeart, IsNewToken, AreNew}
use Rattle.sk_hub.specs.Drains.{IsNew}
use Rattle.sk_hub.specs.Updaters.{UpdaterState, handed_of, kept_of}
use Rattle.sk_count.specs.declared.plan.Plan.{Plan}
use Rattle.sk_report.specs.Sizes.{size_at}
use Rattle.sk_count.specs.Plans.{IsWithin}
use Rattle.sk_count.specs.Opened.{AreSizes, IsOpened}

-- ---- sizes

place_in : (xs : List ℕ) (i : ℕ) → 1 ≤ length xs → min i (length xs - 1) < length xs
place_in xs i some = omega arith

pub size_within : (plan : Plan) (i : ℕ) → IsWithin plan → IsFrom 1 most_size (size_at plan.sizes i)
size_within plan i within = All-get_or (IsFrom 1 most_size) plan.sizes (min i (length plan.sizes - 1)) 0 (place_in plan.sizes i within.some) within.sizes

pub sizes_least : (plan : Plan) (sizes : List ℕ) → IsWithin plan → AreSizes plan sizes → All (λ b. 1 ≤ b) sizes
sizes_least plan sizes within are = All-from_get_or (λ b. 1 ≤ b) sizes 0 (λ i inside. subst (λ b. 1 ≤ b) (sym (are.each i inside)) (size_within plan i within).0)

pub sizes_most : (plan : Plan) (sizes : List ℕ) → IsWithin plan → AreSizes plan sizes → All (λ b. b ≤ most_size) sizes
sizes_most plan sizes within are = All-from_get_or (λ b. b ≤ most_size) sizes 0 (λ i inside. subst (λ b. b ≤ most_size) (sym (are.each i inside)) (size_within plan i within).1)

-- ---- a new hub

module _ (hint_of : List ℕ → List Entry → ℕ) (plan : Plan) (sizes numbers name : List ℕ) (n : ℕ) (eager : Bool) (h : HeartState) (us : List UpdaterState) (t : TokenState) where
  pub is_opened : n ≡ plan.updaters → eager ≡ plan.eager → numbers ≡ plan.k ∷ [] → AreSizes plan sizes → IsNewHeart n numbers name eager h → length us ≡ length sizes → AreNew hint_of sizes h us → IsNewToken h t → IsOpened plan (record { heart = h; updaters = us; token = t })
  is_opened count eager_is numbers_are are heart as_many new token = record {
    count = as_many ∙ are.count;
    kept = λ i d within. (new_at i d within).kept;
    size = λ i d within. (new_at i d within).size_is ∙ are.each i (omega (arith, as_many));
    numbers = heart.numbers_are ∙ numbers_are;
    drained = heart.drained;
    seen = token.seen;
    eager = heart.eager_is ∙ eager_is;
    whole = record {
      count = as_many ∙ are.count ∙ sym count ∙ sym heart.updaters;
      updaters = λ i d within. let u = new_at i d within in record {
        number = u.number_is;
        table = u.table;
        numbers = u.numbers;
        name = u.name;
        known = (handed_of (get_or us i d), ap (λ l. l ++ handed_of (get_or us i d)) (sym (token.known i)));
        size = inl (token.sizes i);
      };
      table = token.table;
      sized = token.sized;
      numbers = token.numbers_are;
      name = token.name_is;
    };
  }
    where
      new_at : (i : ℕ) (d : UpdaterState) → i < length us → IsNew hint_of i (slice_index sizes i) h (get_or us i d)
      new_at i d within = new i (get_or us i d) (slice_get-get_or us i d within)

pub are_fresh : (hint_of : List ℕ → List Entry → ℕ) (sizes : List ℕ) (h : HeartState) (us : List UpdaterState) → AreNew hint_of sizes h us → All (λ u. (u.view.numbers ≡ h.view.numbers) × (kept_of u ≡ [])) us
are_fresh hint_of sizes h us new i d within = let u : IsNew hint_of i (slice_index sizes i) h (get_or us i d) = new i (get_or us i d) (slice_get-get_or us i d within) in (u.numbers, u.kept)
