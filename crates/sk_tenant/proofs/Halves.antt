-- Hearts and the lists that they drain, cut at one place.
use Rattle.std.proofs.Common.{◌≡◌, ⊎_elim, ℕ, ◌+◌, ◌-◌, ◌<◌, ◌≤◌, List, ◌++◌, length, length-append, length-take, length-drop, take, drop, get_or, map, sym, ap, subst, ◌∙◌, arith}
use Rattle.std.proofs.lemmas.Bool.{cases_lt}
use Rattle.std.proofs.lemmas.List.{get_or-take, get_or-drop, get_or_append_left, get_or-append-add, take-map, drop-map}
use Rattle.sk_hub.specs.Hearts.{HeartState}
use Rattle.sk_hub.specs.Updaters.{UpdaterState}
use Rattle.sk_feed.specs.Drained.{DrainsAll}
use Rattle.sk_tenant.specs.Drainings.{AreAllOf, AreListsOf, DrainLists}

-- ---- before

module _ (hearts : List HeartState) (lists : List (List UpdaterState)) (half : ℕ) (within : half ≤ length hearts) (are : AreListsOf hearts lists) where
  first_part : AreListsOf (take half hearts) (take half lists)
  first_part = record {
    count = omega (arith, are.count, length-take half hearts, length-take half lists, within);
    each = λ t h l inside.
        let low : t < half = omega (arith, inside, length-take half hearts, within) in
        subst (λ (x : HeartState). AreAllOf x (get_or (take half lists) t l)) (sym (get_or-take half hearts t h low))
        (subst (AreAllOf (get_or hearts t h)) (sym (get_or-take half lists t l low)) (are.each t h l (omega (arith, low, within))));
  }

  last_part : AreListsOf (drop half hearts) (drop half lists)
  last_part = record {
    count = omega (arith, are.count, length-drop half hearts, length-drop half lists);
    each = λ t h l inside.
        subst (λ (x : HeartState). AreAllOf x (get_or (drop half lists) t l)) (sym (get_or-drop half hearts t h))
        (subst (AreAllOf (get_or hearts (half + t) h)) (sym (get_or-drop half lists t l)) (are.each (half + t) h l (omega (arith, inside, length-drop half hearts))));
  }

-- ---- after

module _ (hearts : List HeartState) (lists : List (List UpdaterState)) (half : ℕ) (within : half ≤ length hearts)
    (first last : List HeartState) (a : DrainLists (take half hearts) (take half lists) first) (b : DrainLists (drop half hearts) (drop half lists) last)
  where
    size : length first ≡ half
    size = omega (arith, a.count, length-take half hearts, within)

    low_drained : (t : ℕ) (h : HeartState) (l : List UpdaterState) → t < half → DrainsAll (get_or hearts t h) (get_or lists t l) (get_or (first ++ last) t h)
    low_drained t h l low =
        subst (λ (x : HeartState). DrainsAll x (get_or lists t l) (get_or (first ++ last) t h)) (get_or-take half hearts t h low)
        (subst (λ (x : List UpdaterState). DrainsAll (get_or (take half hearts) t h) x (get_or (first ++ last) t h)) (get_or-take half lists t l low)
        (subst (DrainsAll (get_or (take half hearts) t h) (get_or (take half lists) t l)) (sym (get_or_append_left first last h t (omega (arith, low, size))))
        (a.drains t h l (omega (arith, low, a.count, size)))))

    high_drained : (t : ℕ) (h : HeartState) (l : List UpdaterState) → half + t < length hearts → DrainsAll (get_or hearts (half + t) h) (get_or lists (half + t) l) (get_or (first ++ last) (half + t) h)
    high_drained t h l inside =
        let there : get_or (first ++ last) (half + t) h ≡ get_or last t h = ap (λ (n : ℕ). get_or (first ++ last) (n + t) h) (sym size) ∙ get_or-append-add first last t h in
        subst (λ (x : HeartState). DrainsAll x (get_or lists (half + t) l) (get_or (first ++ last) (half + t) h)) (get_or-drop half hearts t h)
        (subst (λ (x : List UpdaterState). DrainsAll (get_or (drop half hearts) t h) x (get_or (first ++ last) (half + t) h)) (get_or-drop half lists t l)
        (subst (DrainsAll (get_or (drop half hearts) t h) (get_or (drop half lists) t l)) (sym there)
        (b.drains t h l (omega (arith, inside, length-drop half hearts)))))

    all_drained : DrainLists hearts lists (first ++ last)
    all_drained = record {
      count = omega (arith, length-append first last, size, b.count, length-drop half hearts, within);
      drains = λ t h l less. ⊎_elim
          (low_drained t h l)
          (λ (high : half ≤ t).
          let at : half + (t - half) ≡ t = omega (arith, high) in
          subst (λ (i : ℕ). DrainsAll (get_or hearts i h) (get_or lists i l) (get_or (first ++ last) i h)) at (high_drained (t - half) h l (omega (arith, high, less))))
          (cases_lt t half);
    }

-- ---- both halves, as they were cut

module _ {V : Type 0} (items : V → List UpdaterState) (hearts : List HeartState) (lists : List V) (half : ℕ) (within : half ≤ length hearts) (first last : List HeartState) (earlier later : List V)
    (front : first ≡ take half hearts) (back : last ≡ drop half hearts) (low : earlier ≡ take half lists) (high : later ≡ drop half lists)
  where
    lower : map items earlier ≡ take half (map items lists)
    lower = ap (map items) low ∙ sym (take-map items half lists)

    upper : map items later ≡ drop half (map items lists)
    upper = ap (map items) high ∙ sym (drop-map items half lists)

    pub first_lists : AreListsOf hearts (map items lists) → AreListsOf first (map items earlier)
    first_lists are = subst (λ (x : List HeartState). AreListsOf x (map items earlier)) (sym front) (subst (AreListsOf (take half hearts)) (sym lower) (first_part hearts (map items lists) half within are))

    pub last_lists : AreListsOf hearts (map items lists) → AreListsOf last (map items later)
    last_lists are = subst (λ (x : List HeartState). AreListsOf x (map items later)) (sym back) (subst (AreListsOf (drop half hearts)) (sym upper) (last_part hearts (map items lists) half within are))

    pub both_drained : (first' last' : List HeartState) → DrainLists first (map items earlier) first' → DrainLists last (map items later) last' → DrainLists hearts (map items lists) (first' ++ last')
    both_drained first' last' a b =
        all_drained hearts (map items lists) half within first' last'
        (subst (λ (x : List HeartState). DrainLists x (take half (map items lists)) first') front (subst (λ (x : List (List UpdaterState)). DrainLists first x first') lower a))
        (subst (λ (x : List HeartState). DrainLists x (drop half (map items lists)) last') back (subst (λ (x : List (List UpdaterState)). DrainLists last x last') upper b))
