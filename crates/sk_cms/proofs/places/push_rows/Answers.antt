use Rattle.std.proofs.Common.{refl, ◌++◌, ◌∷◌, [], ℕ, List, sym, ap, ◌∙◌, arith, append_assoc, add-one}
use Rattle.std.proofs.lemmas.List.{append-nil}
use Rattle.sk_cms.specs.Places.{places_of}
use Rattle.sk_cms.proofs.Placing.{places-zero, places-suc}
use Rattle.sk_cms.proofs.places.push_rows.Goals as goal

pub row-init : goal.row-init
row-init c = record {
  places = sym (ap (λ (l : List ℕ). c.args.places.now.items ++ l) (places-zero c.args.width c.args.x) ∙ append-nil c.args.places.now.items);
  len = omega arith;
  capacity = refl;
}

pub row-preserved : goal.row-preserved
row-preserved c =
    let before = c.args.places.now.items in
    let found = places_of c.row.r c.args.width c.args.x in
    let at = c.place-at.result in
    record {
      places =
          c.push_reserved.ensures.items
          ∙ ap (λ (l : List ℕ). l ++ at ∷ []) c.row.invariant.places
          ∙ append_assoc before found (at ∷ [])
          ∙ ap (λ (at : ℕ). before ++ (found ++ at ∷ [])) c.place-at.ensures
          ∙ ap (λ (l : List ℕ). before ++ l) (sym (rw add-one (places-suc c.row.r c.args.width c.args.x)));
      len = omega (arith, c.push_reserved.ensures.len, c.row.invariant.len);
      capacity = c.push_reserved.ensures.capacity ∙ c.row.invariant.capacity;
    }
