-- Links that come to a door, and are closed there.
use Rattle.std.proofs.Common.{◌≡◌, ℕ, ◌+◌, List, [], ◌∷◌, ◌++◌, length, Option, Result, Ok, Err, OnErr, refl, sym, ap, ◌∙◌, arith, append-nil, append_assoc, length-append}
use Rattle.std.proofs.lemmas.List.{map-append, length-map}
use Rattle.sk_model.specs.Causes.{Rose}
use Rattle.sk_io.specs.Traffic.{Doorway, Ended, Arrive, text_of}
use Rattle.sk_io.proofs.Doors.{arrive_none, arrive_more, pass_none, pass_more, pass_late}
use Rattle.sk_serve.specs.Doors.{DoorView, LetsIn, LetsOut, LetsThrough}
use Rattle.sk_serve.specs.Served.{AreClosed}

-- ---- links that were accepted

pub accepts_none : (a : DoorView) → LetsIn [] a a
accepts_none a = record { arrive = arrive_none a.doorway; accepted = omega arith; room = refl }

-- one more was
pub accepts_more : (texts : List (Option (List ℕ))) (text : Option (List ℕ)) (a b c : DoorView) → LetsIn texts a b → LetsIn (text ∷ []) b c → LetsIn (texts ++ text ∷ []) a c
accepts_more texts text a b c first then = record {
  arrive = arrive_more a.doorway b.doorway c.doorway texts (text ∷ []) first.arrive then.arrive;
  accepted = omega (arith, first.accepted, then.accepted, length-append texts (text ∷ []));
  room = then.room ∙ first.room;
}

pub accepts_one : (text : Option (List ℕ)) (a b : DoorView) → Arrive a.doorway b.doorway (text ∷ []) → Rose a.accepted b.accepted → b.room ≡ a.room → LetsIn (text ∷ []) a b
accepts_one text a b came rose room = record { arrive = came; accepted = omega (arith, rose); room = room }

-- ---- links that were closed

pub closes_none : (a : DoorView) → LetsOut [] [] a a
closes_none a = record {
  are = refl;
  doorway = ap (λ l. record a.doorway { closed = l }) (sym (append-nil a.doorway.closed));
  accepted = refl;
  room = omega arith;
  faults = refl;
}

-- one more was
pub closes_more : (texts : List (Option (List ℕ))) (links : List Ended) (a b c : DoorView) (e : Ended) → LetsOut texts links a b
    → c.doorway ≡ record b.doorway { closed = b.doorway.closed ++ e ∷ [] } → c.accepted ≡ b.accepted → c.room + 1 ≡ b.room → c.faults ≡ b.faults → LetsOut (texts ++ text_of e.traffic ∷ []) (links ++ e ∷ []) a c
closes_more texts links a b c e first doorway accepted room faults = record {
  are = map-append (λ (z : Ended). text_of z.traffic) links (e ∷ []) ∙ ap (λ l. l ++ text_of e.traffic ∷ []) first.are;
  doorway = doorway ∙ ap (λ (d : Doorway). record d { closed = d.closed ++ e ∷ [] }) first.doorway ∙ ap (λ l. record a.doorway { closed = l }) (append_assoc a.doorway.closed links (e ∷ []));
  accepted = accepted ∙ first.accepted;
  room = omega (arith, room, first.room, length-append links (e ∷ []));
  faults = faults ∙ first.faults;
}

-- ---- links that came and were closed

-- between, only the count of faults may have moved
pub through_late : (texts : List (Option (List ℕ))) (links : List Ended) (a b b' c : DoorView) → LetsIn texts a b → b' ≡ record b { faults = b'.faults } → LetsOut texts links b' c → LetsThrough links a c
through_late texts links a b b' c came same closed =
    let doorway : b'.doorway ≡ b.doorway = ap (λ d. d.doorway) same in
    let accepted : b'.accepted ≡ b.accepted = ap (λ d. d.accepted) same in
    let room : b'.room ≡ b.room = ap (λ d. d.room) same in
    let count : length links ≡ length texts = sym (length-map links (λ (z : Ended). text_of z.traffic)) ∙ ap length closed.are in
    record {
      passes = pass_late a.doorway b.doorway c.doorway texts links came.arrive (ap (λ d. d.coming) closed.doorway ∙ ap (λ d. d.coming) doorway)
          (ap (λ d. d.closed) closed.doorway ∙ ap (λ d. d.closed ++ links) doorway) closed.are;
      port = ap (λ d. d.port) closed.doorway ∙ ap (λ d. d.port) doorway ∙ came.arrive.port;
      accepted = omega (arith, came.accepted, closed.accepted, accepted, count);
      room = omega (arith, closed.room, room, came.room);
    }

pub through_none : (a : DoorView) → LetsThrough [] a a
through_none a = record { passes = pass_none a.doorway a.doorway refl refl; port = refl; accepted = omega arith; room = omega arith }

pub through_more : (first then : List Ended) (a b c : DoorView) → LetsThrough first a b → LetsThrough then b c → LetsThrough (first ++ then) a c
through_more first then a b c p q = record {
  passes = pass_more a.doorway b.doorway c.doorway first then p.passes q.passes;
  port = q.port ∙ p.port;
  accepted = omega (arith, p.accepted, q.accepted, length-append first then);
  room = omega (arith, p.room, q.room, length-append first then);
}

-- each link that was accepted was closed
pub through_closed : (links : List Ended) (a b : DoorView) → LetsThrough links a b → AreClosed a.accepted b.accepted a.doorway b.doorway
through_closed links a b p = record { closed = links; records = p.passes.closed; as_many = p.accepted }

-- none was accepted, and none closed
pub closed_none : (a a' : ℕ) (before now : Doorway) → a' ≡ a → now.closed ≡ before.closed → AreClosed a a' before now
closed_none a a' before now same none = record { closed = []; records = none ∙ sym (append-nil before.closed); as_many = omega (arith, same) }

pub closed_from : (a a' b : ℕ) (before before' now : Doorway) → a' ≡ a → before'.closed ≡ before.closed → AreClosed a' b before' now → AreClosed a b before now
closed_from a a' b before before' now same is c = record { closed = c.closed; records = c.records ∙ ap (λ l. l ++ c.closed) is; as_many = omega (arith, c.as_many, same) }

pub where_err : {T E : Type 0} (r : Result T E) (P : Type 0) → P → OnErr r P
where_err (Ok x) P p = tt
where_err (Err e) P p = p
