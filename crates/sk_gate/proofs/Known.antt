-- What a seat knows, where its own step leaves an updater's knowledge of itself as it was.
use Rattle.std.proofs.Common.{◌≡◌, ◌≢◌, ℕ, zero, suc, ◌<◌, Bool, cond, true, List, [], ◌∷◌, length, set, Option, Some, None, sym, refl, ap, ◌∙◌, get_or-set_other, get_or-set_same, ne_eqb}
use Rattle.std.specs.Prelude.{slice_index}
use mathlib.Core.Option.{some, some-ne-none}
use mathlib.Core.Logic.{dite}
use native.Mathlib.Decide.{ℕ_discrete}
use lib.ListN.{get_elem?}
use Rattle.sk_model.specs.Entries.{Entry}
use Rattle.sk_model.specs.Missing.{Begins}
use Rattle.sk_model.proofs.Missing.{begins_trans}
use Rattle.sk_machine.specs.Coarse.{Coarse}
use Rattle.sk_machine.specs.declared.views.Mine.{Mine}
use Rattle.sk_machine.specs.declared.views.Move.{Move}
use Rattle.sk_machine.specs.declared.views.Post.{Post}
use Rattle.sk_machine.specs.declared.views.Post.TheVariants.{Guest, Root, Updater}
use Rattle.sk_machine.specs.declared.views.View.{View}
use Rattle.sk_gate.specs.Slots.{room}
use Rattle.sk_gate.specs.Rule.{KnowsPost, KnowsOpen, KnowsTakenIn, Knows, Has}
use Rattle.sk_gate.proofs.Common.{SameUpdater, Stays}

pub some_none : {A : Type 0} {a : A} → Some a ≡ None → ⊥
some_none e = cc

abbrev some_or : {A : Type 0} → A → Option A → A
some_or a None = a
some_or a (Some b) = b

pub some_same : {A : Type 0} {a b : A} → Some a ≡ Some b → a ≡ b
some_same {a = a} e = ap (some_or a) e

pub set_own : {A : Type 0} (l : List A) (i : ℕ) (a b : A) → get_elem? l i ≡ some a → get_elem? (set l i b) i ≡ some b
set_own [] i a b e = absurd (some-ne-none a (sym e))
set_own (x ∷ xs) zero a b e = refl
set_own (x ∷ xs) (suc i) a b e = set_own xs i a b e

-- the view that a seat has after its step
pub has_own : (Q : View → Type 0) (vs : List View) (id : ℕ) (v w : View) → get_elem? vs id ≡ some v → Q w → Has (set vs id w) id Q
has_own Q vs id v w at q = (w, set_own vs id v w at, q)

pub room_some : (b : ℕ) → b ≢ 0 → room b ≡ b
room_some b there = ap (λ (c : Bool). cond c 1 b) (ne_eqb b 0 there)

-- a list of sizes that is set at one place to the size there
pub size_set : (l : List ℕ) (i b : ℕ) (sizes : ℕ → ℕ) → i < length l → b ≡ sizes i → (j : ℕ) → slice_index l j ≡ sizes j → slice_index (set l i b) j ≡ sizes j
size_set l i b sizes inside is j are = dite (ℕ_discrete j i)
    (λ e. ap (slice_index (set l i b)) e ∙ get_or-set_same l i b 0 inside ∙ is ∙ ap sizes (sym e))
    (λ ne. get_or-set_other l i j b 0 ne ∙ are)

pub post_same : (n : ℕ) (m m' : Coarse) (owner : ℕ → ℕ) (j : ℕ) (seen seen' : List Entry) (sizes sizes' drained : List ℕ) (p : Post) → ((i : ℕ) → (m.updaters i).mine ≡ (m'.updaters i).mine)
    → ((i : ℕ) → slice_index sizes i ≡ m.sizes i → slice_index sizes' i ≡ m'.sizes i) → Begins seen seen' → KnowsPost n m owner j seen sizes drained p → KnowsPost n m' owner j seen' sizes' drained p
post_same n m m' owner j seen seen' sizes sizes' drained Guest same are more t = tt
post_same n m m' owner j seen seen' sizes sizes' drained (Root made) same are more t = λ i a l. let y = t i a l in (y.0, y.1 ∙ same i, are i y.2)
post_same n m m' owner j seen seen' sizes sizes' drained (Updater i mine) same are more t = (t.0, t.1, t.2 ∙ same i, begins_trans _ _ _ t.3 more, are i t.4, t.5)

pub drained_same : (n : ℕ) (m m' : Coarse) (owner : ℕ → ℕ) (j : ℕ) (known picked : List ℕ) (i : ℕ) → SameUpdater (m.updaters i) (m'.updaters i) → KnowsTakenIn n m owner j known picked i → KnowsTakenIn n m' owner j known picked i
drained_same n m m' owner j known picked i same o = record {
  within = o.within;
  own = o.own;
  all = o.all ∙ ap (λ (y : Mine). y.handed) same.mine;
  given = same.word o.given;
  was_picked = λ e. o.was_picked (ap (λ (y : Mine). y.picked) same.mine ∙ e);
}

-- a step of which only its record speaks
pub stepped_knows : (n : ℕ) (numbers name : List ℕ) (m : Coarse) (left : Bool) (owner : ℕ → ℕ) (leader j : ℕ) (v : View) (steps' : List Move) → KnowsOpen m steps' v.post → Knows n numbers name m left owner leader j v
    → Knows n numbers name m left owner leader j (record v { steps = steps' })
stepped_knows n numbers name m left owner leader j v steps' opened o = record {
  sketch = o.sketch;
  sizes = o.sizes;
  lists = o.lists;
  post_is = o.post_is;
  duty_is = o.duty_is;
  open_is = opened;
  drained_is = o.drained_is;
}

pub stepped_stays : (n : ℕ) (m : Coarse) (v : View) (steps' : List Move) → v.live ≡ true → Stays n m m v (record v { steps = steps' })
stepped_stays n m v steps' live = record { live = live; seen = λ e. e; given = λ i l e. e; leads = λ e. e; speaks = λ i e. e }
