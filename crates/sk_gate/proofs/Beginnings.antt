-- What a seat knows of the machine's lists and of sizes, where these or what it has seen change.
use Rattle.std.proofs.Common.{◌≡◌, ◌≢◌, ℕ, ◌<◌, List, length, set, sym, ap, ◌∙◌, length-set, get_or-set_other, get_or-set_same}
use mathlib.Core.Logic.{dite}
use native.Mathlib.Decide.{ℕ_discrete}
use Rattle.std.specs.Prelude.{slice_index}
use Rattle.sk_model.specs.Entries.{Entry}
use Rattle.sk_model.specs.Missing.{Begins}
use Rattle.sk_model.proofs.Missing.{begins_refl, begins_trans}
use Rattle.sk_machine.specs.Numbered.{put}
use Rattle.sk_machine.specs.Coarse.{CoarseUpdater}
use Rattle.sk_machine.proofs.Numbered.{each_put}
use Rattle.sk_gate.specs.Rule.{KnowsSizes, KnowsLists}

module _ {n : ℕ} {heard : List (List Entry)} {known : List (List ℕ)} {given : List (List Entry)} where
  -- the machine's lists grow
  pub lists_grow : {h h' : List Entry} {ups ups' : ℕ → CoarseUpdater} {seen : List Entry} → Begins h h' → ((i : ℕ) → Begins (ups i).mine.handed (ups' i).mine.handed) → ((i : ℕ) → Begins (ups i).given (ups' i).given)
      → KnowsLists n h ups seen heard known given → KnowsLists n h' ups' seen heard known given
  lists_grow published handed recorded o = record {
    known_sized = o.known_sized;
    given_sized = o.given_sized;
    seen_is = begins_trans _ _ _ o.seen_is published;
    heard_is = λ x d. begins_trans _ _ _ (o.heard_is x d) published;
    known_is = λ i. begins_trans _ _ _ (o.known_is i) (handed i);
    given_is = λ i. begins_trans _ _ _ (o.given_is i) (recorded i);
  }

  -- those of one updater do
  pub lists_put : {h : List Entry} {ups : ℕ → CoarseUpdater} {seen : List Entry} (i : ℕ) (u : CoarseUpdater) → Begins (ups i).mine.handed u.mine.handed → Begins (ups i).given u.given
      → KnowsLists n h ups seen heard known given → KnowsLists n h (put ups i u) seen heard known given
  lists_put {h = h} {ups = ups} i u handed recorded o = lists_grow (begins_refl h)
      (λ j. each_put (λ a (x : CoarseUpdater). Begins (ups a).mine.handed x.mine.handed) ups i u j handed (λ _. begins_refl (ups j).mine.handed))
      (λ j. each_put (λ a (x : CoarseUpdater). Begins (ups a).given x.given) ups i u j recorded (λ _. begins_refl (ups j).given)) o

  -- another list was seen
  pub lists_see : {h : List Entry} {ups : ℕ → CoarseUpdater} {seen seen' : List Entry} → Begins seen' h → KnowsLists n h ups seen heard known given → KnowsLists n h ups seen' heard known given
  lists_see sees o = record { known_sized = o.known_sized; given_sized = o.given_sized; seen_is = sees; heard_is = o.heard_is; known_is = o.known_is; given_is = o.given_is }

-- updater i has buffers of b items from now on, or is now known to have
pub sizes_put : {n : ℕ} {real real' : ℕ → ℕ} {sizes : List ℕ} {known : List (List ℕ)} (i b : ℕ) → i < length sizes → b ≢ 0 → real' i ≡ b → ((j : ℕ) → j ≢ i → real' j ≡ real j)
    → KnowsSizes n real sizes known → KnowsSizes n real' (set sizes i b) known
sizes_put {real' = real'} {sizes = sizes} i b inside some is others o = record {
  sized = length-set sizes i b ∙ o.sized;
  sizes_are = λ j there. dite (ℕ_discrete j i)
      (λ e. ap (slice_index (set sizes i b)) e ∙ here ∙ sym is ∙ ap real' (sym e))
      (λ ne. else j ne ∙ o.sizes_are j (λ z. there (else j ne ∙ z)) ∙ sym (others j ne));
  known_with_size = λ j items z. dite (ℕ_discrete j i)
      (λ e. some (sym here ∙ ap (slice_index (set sizes i b)) (sym e) ∙ z))
      (λ ne. o.known_with_size j items (sym (else j ne) ∙ z));
}
  where
    here : slice_index (set sizes i b) i ≡ b
    here = get_or-set_same sizes i b 0 inside

    else : (j : ℕ) → j ≢ i → slice_index (set sizes i b) j ≡ slice_index sizes j
    else j ne = get_or-set_other sizes i j b 0 ne
