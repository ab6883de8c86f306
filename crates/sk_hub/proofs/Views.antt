-- The view of an updater stays one.
use Rattle.std.proofs.Common.{◌≡◌, ℕ, List, [], ◌∷◌, ◌++◌, length, All, subst, sym, ap, refl, ◌∙◌}
use Rattle.std.proofs.lemmas.List.Elements.{All-append}
use Rattle.sk_model.specs.Entries.{Entry, entries_by, items_of_entries}
use Rattle.sk_model.specs.Missing.{Begins}
use Rattle.sk_model.specs.Width.{IsItem, AreItems}
use Rattle.sk_model.proofs.Missing.{begins_trans, begins_refl}
use Rattle.sk_machine.specs.Coarse.{IsEntry}
use Rattle.sk_machine.specs.declared.views.Mine.{Mine}
use Rattle.sk_machine.specs.declared.views.Move.TheVariants.{Hand}
use Rattle.sk_machine.specs.declared.views.Post.TheVariants.{Updater}
use Rattle.sk_machine.specs.declared.views.View.{View}
use Rattle.sk_gate.specs.Views.{mine_of}
use Rattle.sk_gate.specs.Moves.{IsSeen, SeesOwn, RenewsAt, HandsAt, looked_mine, handed_mine}
use Rattle.sk_hub.specs.Updaters.{IsViewOf}
use Rattle.sk_hub.specs.Rounds.{KnowsAsMuch}

-- what a view sees, as one with the same post and as many sizes sees it
pub seen_again : (v w : View) (list : List Entry) → w.post ≡ v.post → length w.sizes ≡ length v.sizes → IsSeen v list → IsSeen w list
seen_again v w list post sized s = record {
  entries = subst (λ n. All (IsEntry n) list) (sym sized) s.entries;
  own = subst (SeesOwn list) (sym post) s.own;
}

-- an empty list has nothing of anybody
pub none_by : (i : ℕ) → entries_by i [] ≡ []
unfolding entries_by items_of_entries
none_by i = refl

pub sees_own : (i : ℕ) (v : View) → IsViewOf i v → IsSeen v v.seen
sees_own i v o = record { entries = o.entries; own = subst (SeesOwn v.seen) (sym o.post) o.own }

-- after steps by which it knows no more
pub view_knows : (i : ℕ) (v w : View) → KnowsAsMuch v w → IsViewOf i v → IsViewOf i w
view_knows i v w k o =
    let s : IsSeen w w.seen = k.sees (sees_own i v o) in
    let post : w.post ≡ Updater i (mine_of v) = ap (λ x. x.post) k.view ∙ o.post in
    let x : View = record v { seen = w.seen; steps = w.steps; given = w.given; sizes = w.sizes } in
    let is : IsViewOf i x = record {
      post = o.post;
      entries = s.entries;
      own = subst (SeesOwn w.seen) post s.own;
      based = begins_trans _ _ _ o.based k.grows;
      settled = o.settled;
      items = o.items;
    } in
    subst (IsViewOf i) (sym k.view) is

-- after a look that renewed its base
pub view_renewed : (hint : List ℕ → List Entry → ℕ) (i : ℕ) (v w : View) (word : ℕ) → RenewsAt hint v word w i → IsViewOf i v → IsViewOf i w
view_renewed hint i v w word r o =
    let mine : mine_of w ≡ looked_mine (mine_of v) (mine_of w).base = ap mine_of r.view in
    let handed : (mine_of w).handed ≡ (mine_of v).handed = ap (λ m. m.handed) mine in
    let sized : length w.sizes ≡ length v.sizes = ap (λ x. length x.sizes) r.view in
    record {
      post = ap (λ x. x.post) r.view ∙ ap (λ (m : Mine). Updater i m) (sym mine);
      entries = subst (λ n. All (IsEntry n) w.seen) (sym sized) r.is_seen.entries;
      own = subst (Begins (entries_by i w.seen)) (r.sees_all ∙ sym handed) (begins_refl (entries_by i w.seen));
      based = r.based;
      settled = λ _. r.all ∙ sym handed;
      items = subst AreItems (sym handed) o.items;
    }

-- after a hand
pub view_handed : (i : ℕ) (v w : View) (batch : List ℕ) → HandsAt v w i batch → AreItems batch → IsViewOf i v → IsViewOf i w
view_handed i v w batch h items o =
    let x : View = record v { steps = v.steps ++ Hand i ∷ []; post = Updater i (handed_mine (mine_of v) batch) } in
    let is : IsViewOf i x = record {
      post = refl;
      entries = o.entries;
      own = begins_trans _ _ _ o.own (batch, refl);
      based = o.based;
      settled = λ no. absurd (cc);
      items = All-append IsItem (mine_of v).handed batch o.items items;
    } in
    subst (IsViewOf i) (sym h) is
