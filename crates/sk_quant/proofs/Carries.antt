-- Lemmas on the loop that takes items up, from level to level.
use Rattle.std.proofs.Common.{◌≡◌, ℕ, suc, ◌+◌, ◌<◌, ◌≤◌, List, Vec, Global, All, vec_capacity, [], ◌∷◌, ◌++◌, length, get_or, take, drop, set, refl, sym, ap, subst, ◌∙◌, append_assoc, append-nil, arith, drop-drop, take_all, get_or-drop, length-drop, drop-set-lt}
use Rattle.std.specs.List.Sorted.{IsNonDecreasing}
use Rattle.std.proofs.lemmas.List.{take_more_set, drop_more, drop_all, set_split, get_or-map, length-map, map-set}
use Rattle.sk_quant.specs.Held.{halved, carried}
use Rattle.sk_quant.specs.Order.{in_order}
use Rattle.sk_quant.specs.Stored.{lists_of}

-- the half that goes up, in order with what lies in the level
abbrev pub joined : (ℕ → ℕ) → ℕ → List ℕ → List ℕ → List ℕ
joined coins place items level = in_order (level ++ halved (coins place) items)

-- some levels are put before others
abbrev behind : List (List ℕ) → List (List ℕ) × ℕ → List (List ℕ) × ℕ
behind front up = (front ++ up.0, up.1)

-- ---- one level

pub carried_past : (coins : ℕ → ℕ) (place : ℕ) (items : List ℕ) → carried coins place items [] ≡ ([], place)
unfolding carried
carried_past coins place items = refl

pub carried_into : (coins : ℕ → ℕ) (place : ℕ) (items : List ℕ) (levels : List (List ℕ)) → carried coins place items ([] ∷ levels) ≡ (halved (coins place) items ∷ levels, place + 1)
unfolding carried
carried_into coins place items levels = refl

pub carried_through : (coins : ℕ → ℕ) (place : ℕ) (items level : List ℕ) (levels : List (List ℕ)) → 0 < length level → carried coins place items (level ∷ levels) ≡ behind ([] ∷ []) (carried coins (place + 1) (joined coins place items level) levels)
unfolding carried
carried_through coins place items [] levels some = absurd (omega arith)
carried_through coins place items (x ∷ level) levels some = refl

-- ---- the loop

-- the first `done` levels are done: what is to come is what these items leave of the others
pub record IsCarrying (coins : ℕ → ℕ) (first place : ℕ) (start items : List ℕ) (levels now : List (List ℕ)) (done : ℕ) : Type 0 where
  pub rest : drop done now ≡ drop done levels
  pub same : carried coins first start levels ≡ behind (take done now) (carried coins place items (drop done levels))

pub carrying_begins : (coins : ℕ → ℕ) (place : ℕ) (items : List ℕ) (levels : List (List ℕ)) → IsCarrying coins place place items items levels levels 0
carrying_begins coins place items levels = record { rest = refl; same = refl }

-- a level that is not done is as it was
pub level_waits : (now levels : List (List ℕ)) (done : ℕ) → drop done now ≡ drop done levels → get_or now done [] ≡ get_or levels done []
level_waits now levels done rest =
    let same : done + 0 ≡ done = omega arith in
    ap (λ (n : ℕ). get_or now n []) (sym same) ∙ sym (get_or-drop done now 0 []) ∙ ap (λ (l : List (List ℕ)). get_or l 0 []) rest ∙ get_or-drop done levels 0 [] ∙ ap (λ (n : ℕ). get_or levels n []) same

as_long : (now levels : List (List ℕ)) (done : ℕ) → drop done now ≡ drop done levels → done < length levels → done < length now
as_long now levels done rest inside = omega (arith, length-drop done now, length-drop done levels, ap (λ (l : List (List ℕ)). length l) rest)

pub carrying_goes_on : (coins : ℕ → ℕ) (first place done : ℕ) (start items level : List ℕ) (levels now : List (List ℕ)) → done < length levels → level ≡ get_or levels done [] → 0 < length level
    → IsCarrying coins first place start items levels now done → IsCarrying coins first (place + 1) start (joined coins place items level) levels (set now done []) (done + 1)
carrying_goes_on coins first place done start items level levels now inside is some so_far = record {
  rest = drop-set-lt (done + 1) now done [] (omega arith) ∙ sym (drop-drop 1 done now) ∙ ap (λ (l : List (List ℕ)). drop 1 l) so_far.rest ∙ drop-drop 1 done levels;
  same = so_far.same ∙ ap (λ (up : List (List ℕ) × ℕ). behind (take done now) up) through
      ∙ ap (λ (l : List (List ℕ)). (l, above.1)) (sym (append_assoc (take done now) ([] ∷ []) above.0) ∙ ap (λ (l : List (List ℕ)). l ++ above.0) (sym (take_more_set now done [] (as_long now levels done so_far.rest inside))));
}
  where
    above : List (List ℕ) × ℕ
    above = carried coins (place + 1) (joined coins place items level) (drop (done + 1) levels)

    through : carried coins place items (drop done levels) ≡ behind ([] ∷ []) above
    through =
        ap (λ (l : List (List ℕ)). carried coins place items l) (drop_more levels done [] inside ∙ ap (λ (l : List ℕ). l ∷ drop (done + 1) levels) (sym is))
        ∙ carried_through coins place items level (drop (done + 1) levels) some

-- an empty level takes the half
pub carrying_stops : (coins : ℕ → ℕ) (first place done : ℕ) (start items : List ℕ) (levels now : List (List ℕ)) → done < length levels → get_or levels done [] ≡ []
    → IsCarrying coins first place start items levels now done → carried coins first start levels ≡ (set now done (halved (coins place) items), place + 1)
carrying_stops coins first place done start items levels now inside is so_far =
    so_far.same ∙ ap (λ (up : List (List ℕ) × ℕ). behind (take done now) up) into ∙ ap (λ (l : List (List ℕ)). (l, place + 1)) placed
  where
    into : carried coins place items (drop done levels) ≡ (halved (coins place) items ∷ drop (done + 1) levels, place + 1)
    into =
        ap (λ (l : List (List ℕ)). carried coins place items l) (drop_more levels done [] inside ∙ ap (λ (l : List ℕ). l ∷ drop (done + 1) levels) is)
        ∙ carried_into coins place items (drop (done + 1) levels)

    others : drop (suc done) now ≡ drop (done + 1) levels
    others =
        let next : suc done ≡ done + 1 = omega arith in
        ap (λ (n : ℕ). drop n now) next ∙ sym (drop-drop 1 done now) ∙ ap (λ (l : List (List ℕ)). drop 1 l) so_far.rest ∙ drop-drop 1 done levels

    placed : take done now ++ halved (coins place) items ∷ drop (done + 1) levels ≡ set now done (halved (coins place) items)
    placed =
        ap (λ (l : List (List ℕ)). take done now ++ halved (coins place) items ∷ l) (sym others)
        ∙ sym (set_split now done (halved (coins place) items) (as_long now levels done so_far.rest inside))

-- nothing is above the last level
pub carrying_ends : (coins : ℕ → ℕ) (first place : ℕ) (start items : List ℕ) (levels now : List (List ℕ)) → length now ≡ length levels
    → IsCarrying coins first place start items levels now (length levels) → carried coins first start levels ≡ (now, place)
carrying_ends coins first place start items levels now long so_far =
    so_far.same
    ∙ ap (λ (l : List (List ℕ)). behind (take (length levels) now) (carried coins place items l)) (drop_all (length levels) levels (omega arith))
    ∙ ap (λ (up : List (List ℕ) × ℕ). behind (take (length levels) now) up) (carried_past coins place items)
    ∙ ap (λ (l : List (List ℕ)). (l, place)) (append-nil (take (length levels) now) ∙ take_all (length levels) now (omega arith))

-- ---- the same of levels as the code has them

-- what is known of a level at its turn
pub record IsThere (k : ℕ) (levels : List (Vec ℕ Global)) (at : ℕ) (level : Vec ℕ Global) : Type 0 where
  pub items : get_or (lists_of levels) at [] ≡ level.items
  pub short : length level.items ≤ k
  pub rises : IsNonDecreasing level.items
  pub room : k ≤ vec_capacity level

pub there : {coins : ℕ → ℕ} {first place : ℕ} {start items : List ℕ} (k at : ℕ) (levels now : List (Vec ℕ Global)) (d : Vec ℕ Global) → at < length now → length now ≡ length levels
    → All (λ l. (length l ≤ k) × IsNonDecreasing l) (lists_of levels) → All (λ l. k ≤ vec_capacity l) now → IsCarrying coins first place start items (lists_of levels) (lists_of now) at → IsThere k levels at (get_or now at d)
there k at levels now d inside long short rooms so_far = record { items = same; short = known.0; rises = known.1; room = rooms at d inside }
  where
    same : get_or (lists_of levels) at [] ≡ (get_or now at d).items
    same = sym (level_waits (lists_of now) (lists_of levels) at so_far.rest) ∙ get_or-map (λ (v : Vec ℕ Global). v.items) now at d [] inside

    known : (length (get_or now at d).items ≤ k) × IsNonDecreasing (get_or now at d).items
    known =
        subst (λ (l : List ℕ). (length l ≤ k) × IsNonDecreasing l) same
        (short at [] (omega (arith, length-map levels (λ (v : Vec ℕ Global). v.items))))

lists_of-set : (now : List (Vec ℕ Global)) (at : ℕ) (level : Vec ℕ Global) (items : List ℕ) → level.items ≡ items → lists_of (set now at level) ≡ set (lists_of now) at items
lists_of-set now at level items is = map-set (λ (v : Vec ℕ Global). v.items) now at level ∙ ap (λ (l : List ℕ). set (lists_of now) at l) is

pub goes_through : {coins : ℕ → ℕ} {first place k : ℕ} {start items : List ℕ} (next at : ℕ) (more : List ℕ) (levels now : List (Vec ℕ Global)) (level empty : Vec ℕ Global) → at < length levels → IsThere k levels at level → 0 < length level.items
    → IsCarrying coins first place start items (lists_of levels) (lists_of now) at → next ≡ place + 1 → more ≡ in_order (level.items ++ halved (coins place) items) → empty.items ≡ []
    → IsCarrying coins first next start more (lists_of levels) (lists_of (set now at empty)) (at + 1)
goes_through {coins} {first} {place} {k} {start} {items} next at more levels now level empty inside it some so_far is_next is_more is_empty =
    subst (λ (n : ℕ). IsCarrying coins first n start more (lists_of levels) (lists_of (set now at empty)) (at + 1)) (sym is_next)
    (subst (λ (l : List ℕ). IsCarrying coins first (place + 1) start l (lists_of levels) (lists_of (set now at empty)) (at + 1)) (sym is_more)
    (subst (λ (ls : List (List ℕ)). IsCarrying coins first (place + 1) start (joined coins place items level.items) (lists_of levels) ls (at + 1)) (sym (lists_of-set now at empty [] is_empty))
    (carrying_goes_on coins first place at start items level.items (lists_of levels) (lists_of now) (omega (arith, length-map levels (λ (v : Vec ℕ Global). v.items))) (sym it.items) some so_far)))

pub stops : {coins : ℕ → ℕ} {first place k : ℕ} {start items : List ℕ} (next at : ℕ) (levels now : List (Vec ℕ Global)) (level filled : Vec ℕ Global) → at < length levels → IsThere k levels at level → level.items ≡ []
    → IsCarrying coins first place start items (lists_of levels) (lists_of now) at → next ≡ place + 1 → filled.items ≡ halved (coins place) items
    → (lists_of (set now at filled), next) ≡ carried coins first start (lists_of levels)
stops {coins} {first} {place} {k} {start} {items} next at levels now level filled inside it none so_far is_next is_filled =
    ap (λ (ls : List (List ℕ)). (ls, next)) (lists_of-set now at filled (halved (coins place) items) is_filled)
    ∙ ap (λ (n : ℕ). (set (lists_of now) at (halved (coins place) items), n)) is_next
    ∙ sym (carrying_stops coins first place at start items (lists_of levels) (lists_of now) (omega (arith, length-map levels (λ (v : Vec ℕ Global). v.items))) (it.items ∙ none) so_far)

pub ends : {coins : ℕ → ℕ} {first place : ℕ} {start items : List ℕ} (at : ℕ) (levels now : List (Vec ℕ Global)) → length now ≡ length levels → at ≡ length levels
    → IsCarrying coins first place start items (lists_of levels) (lists_of now) at → (lists_of now, place) ≡ carried coins first start (lists_of levels)
ends {coins} {first} {place} {start} {items} at levels now long is so_far =
    sym (carrying_ends coins first place start items (lists_of levels) (lists_of now) (length-map now (λ (v : Vec ℕ Global). v.items) ∙ long ∙ same)
    (subst (λ (n : ℕ). IsCarrying coins first place start items (lists_of levels) (lists_of now) n) (is ∙ same) so_far))
  where
    same : length levels ≡ length (lists_of levels)
    same = sym (length-map levels (λ (v : Vec ℕ Global). v.items))
