-- Which files a run opened.
use Rattle.std.proofs.Common.{◌≡◌, ℕ, List, [], ◌++◌, Option, Some, None, sym, ap, subst, ◌∙◌, append-nil, append_assoc}
use Rattle.sk_io.specs.Files.{Opens}

abbrev pub Names : Type 0
Names = Option (List (List ℕ))

pub opens_none : (a b : Names) → b ≡ a → Opens a b []
opens_none a b same = subst (λ (o : Names). Opens a o []) (sym same) (none a)
  where
    none : (a : Names) → Opens a a []
    none None = tt
    none (Some names) = sym (append-nil names)

pub opens_more : (a b c : Names) (first then : List (List ℕ)) → Opens a b first → Opens b c then → Opens a c (first ++ then)
opens_more None None None first then p q = tt
opens_more None None (Some zs) first then p q = absurd q
opens_more None (Some ys) c first then p q = absurd p
opens_more (Some xs) None None first then p q = tt
opens_more (Some xs) None (Some zs) first then p q = absurd q
opens_more (Some xs) (Some ys) None first then p q = tt
opens_more (Some xs) (Some ys) (Some zs) first then p q = q ∙ ap (λ l. l ++ then) p ∙ append_assoc xs first then
