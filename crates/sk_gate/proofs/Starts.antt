-- The seats of a new table.
use Rattle.std.proofs.Common.{◌≡◌, ℕ, zero, suc, ◌+◌, Bool, false, [], ◌∷◌, ◌++◌, length, replicate, add-one, sym, refl, ap, ◌∙◌}
use Rattle.sk_machine.specs.Coarse.{blank_mine}
use Rattle.sk_machine.specs.declared.views.Move.TheVariants.{Split}
use Rattle.sk_machine.specs.declared.views.Post.{Post}
use Rattle.sk_machine.specs.declared.views.Post.TheVariants.{Guest, Root, Updater}
use Rattle.sk_machine.specs.declared.views.View.{View}
use Rattle.sk_gate.specs.Slots.{Sketching, Telling}
use Rattle.sk_gate.specs.Views.{mine_in, after_making, new_updater, after_split, copy_of}
use Rattle.sk_gate.specs.Plays.{Sat}
use Rattle.sk_gate.specs.Hands.{IsPost, Holds}
use Rattle.sk_gate.specs.Starts.{blank_of, IsBlank}

one_more : {A : Type 0} (n : ℕ) (x : A) → replicate n x ++ x ∷ [] ≡ replicate (suc n) x
one_more zero x = refl
one_more (suc n) x = ap (λ l. x ∷ l) (one_more n x)

steps_more : (n : ℕ) → replicate n Split ++ Split ∷ [] ≡ replicate (n + 1) Split
steps_more n = one_more n Split ∙ ap (λ k. replicate k Split) (sym (add-one n))

module _ (v : View) (n : ℕ) (is : v ≡ blank_of v (Root n) n) where
  pub made_blank : after_making v ≡ blank_of v (Root (n + 1)) (n + 1)
  made_blank = ap after_making is ∙ λ a. record (blank_of v (Root n) n) { post = Root (sym (add-one n) a); steps = steps_more n a }

  pub new_blank : new_updater v ≡ blank_of v (Updater n blank_mine) (n + 1)
  new_blank = ap new_updater is ∙ λ a. record (blank_of v (Updater n blank_mine) n) { steps = steps_more n a }

  pub split_blank : after_split v ≡ blank_of v (Root n) (n + 1)
  split_blank = ap after_split is ∙ λ a. record (blank_of v (Root n) n) { steps = steps_more n a }

  pub copy_blank : copy_of v ≡ blank_of v Guest (n + 1)
  copy_blank = ap copy_of is ∙ λ a. record (blank_of v Guest n) { steps = steps_more n a }

module _ {C T : Type 0} where
  -- of a view of the same sketch
  pub blank_again : (v : View) (post : Post) (n : ℕ) (m : Sat C T) → IsBlank v post n m → IsBlank m.0 post n m
  blank_again v post n m is = is ∙ λ a. (blank_of (sym is a).0 post n, [])

  pub blank_by : (v w : View) (post post' : Post) (n n' : ℕ) (m m' : Sat C T) → IsBlank v post n m → IsBlank m.0 post' n' m' → IsBlank v post' n' m'
  blank_by v w post post' n n' m m' is is' = is' ∙ λ a. (blank_of (is a).0 post' n', [])

  pub blank_holds : (g : Sketching C) (k : Telling T) (heart : Bool) (n number splits : ℕ) (v : View) (post : Post) → length v.sizes ≡ n → IsPost (blank_of v post splits) heart n number → (mine_in post).ready ≡ false → Holds g k heart n number 0 false (blank_of v post splits, [])
  blank_holds g k heart n number splits v post size at off = record {
    live = refl;
    sized = size;
    post = at;
    first = [];
    second = [];
    third = [];
    hand = refl;
    counted = refl;
    leading = (refl, refl);
    own_is = sym off;
    owned = refl;
  }
