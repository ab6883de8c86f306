-- Links that come to a door, and are closed there.
use Rattle.std.proofs.Common.{◌≡◌, ℕ, List, [], ◌++◌, map, Option, Some, None, refl, sym, ap, ◌∙◌, subst, append_assoc, append-nil}
use Rattle.std.proofs.lemmas.List.{map-append}
use Rattle.sk_io.specs.Traffic.{Doorway, Ended, Come, Arrive, Pass, text_of}

abbrev Coming : Type 0
Coming = Option (List (Option (List ℕ)))

-- what the links were over
abbrev texts : List Ended → List (Option (List ℕ))
texts links = map (λ (e : Ended). text_of e.traffic) links

come_none : (a : Coming) → Come a a []
come_none None = tt
come_none (Some xs) = refl

come_trans : (a b c : Coming) (first then : List (Option (List ℕ))) → Come a b first → Come b c then → Come a c (first ++ then)
come_trans None None None first then p q = tt
come_trans None None (Some zs) first then p q = absurd q
come_trans None (Some ys) c first then p q = absurd p
come_trans (Some xs) None c first then p q = absurd p
come_trans (Some xs) (Some ys) None first then p q = absurd q
come_trans (Some xs) (Some ys) (Some zs) first then p q = p ∙ ap (λ l. first ++ l) q ∙ sym (append_assoc first then zs)

-- ---- links that came

pub arrive_none : (a : Doorway) → Arrive a a []
arrive_none a = record { came = come_none a.coming; port = refl; closed = refl }

pub arrive_more : (a b c : Doorway) (first then : List (Option (List ℕ))) → Arrive a b first → Arrive b c then → Arrive a c (first ++ then)
arrive_more a b c first then p q = record {
  came = come_trans a.coming b.coming c.coming first then p.came q.came;
  port = q.port ∙ p.port;
  closed = q.closed ∙ p.closed;
}

-- ---- links that came and were closed

pub pass_none : (a b : Doorway) → b.coming ≡ a.coming → b.closed ≡ a.closed → Pass a b []
pass_none a b coming closed = record { came = subst (λ c. Come a.coming c []) (sym coming) (come_none a.coming); closed = closed ∙ sym (append-nil a.closed) }

pub pass_more : (a b c : Doorway) (first then : List Ended) → Pass a b first → Pass b c then → Pass a c (first ++ then)
pass_more a b c first then p q = record {
  came = subst (Come a.coming c.coming) (sym (map-append (λ (e : Ended). text_of e.traffic) first then)) (come_trans a.coming b.coming c.coming (texts first) (texts then) p.came q.came);
  closed = q.closed ∙ ap (λ l. l ++ then) p.closed ∙ append_assoc a.closed first then;
}

-- links that came, and then were closed in this order
pub pass_late : (a b c : Doorway) (came : List (Option (List ℕ))) (links : List Ended) → Arrive a b came → c.coming ≡ b.coming → c.closed ≡ b.closed ++ links → texts links ≡ came → Pass a c links
pass_late a b c came links p coming closed are = record {
  came = subst (λ (o : Coming). Come a.coming o (texts links)) (sym coming) (subst (Come a.coming b.coming) (sym are) p.came);
  closed = closed ∙ ap (λ l. l ++ links) p.closed;
}

-- a door that shows the same links, maybe at another port
pub pass_from : (a a' b : Doorway) (links : List Ended) → a'.coming ≡ a.coming → a'.closed ≡ a.closed → Pass a' b links → Pass a b links
pass_from a a' b links coming closed p = record {
  came = subst (λ (o : Coming). Come o b.coming (texts links)) coming p.came;
  closed = p.closed ∙ ap (λ l. l ++ links) closed;
}
