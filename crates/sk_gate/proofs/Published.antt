-- What a seat sees of the published list.
use Rattle.std.proofs.Common.{◌≡◌, ℕ, zero, suc, ◌<◌, List, [], ◌∷◌, ◌++◌, length, get_or, All, sym, refl, subst, arith, length-append}
use Rattle.sk_model.specs.Entries.{Entry, entries_by}
use Rattle.sk_model.specs.Missing.{Begins}
use Rattle.sk_model.proofs.Missing.{begins_refl, begins_trans}
use Rattle.sk_machine.specs.Coarse.{Coarse, IsEntry, Meets}
use Rattle.sk_machine.specs.declared.views.Mine.{Mine}
use Rattle.sk_machine.specs.declared.views.Post.{Post}
use Rattle.sk_machine.specs.declared.views.Post.TheVariants.{Guest, Root, Updater}
use Rattle.sk_machine.specs.declared.views.View.{View}
use Rattle.sk_machine.proofs.Coarse as event
use Rattle.sk_gate.specs.Rule.{KnowsPost}
use Rattle.sk_gate.specs.Moves.{SeesOwn, IsSeen}
use Rattle.sk_gate.proofs.Merged.{begins_same}

front_at : {A : Type 0} (xs ys : List A) (k : ℕ) (d : A) → k < length xs → get_or (xs ++ ys) k d ≡ get_or xs k d
front_at [] ys k d l = absurd (omega arith)
front_at (x ∷ xs) ys zero d l = refl
front_at (x ∷ xs) ys (suc k) d l = front_at xs ys k d (omega arith)

all_front : {A : Type 0} (P : A → Type 0) (xs ys : List A) → All P (xs ++ ys) → All P xs
all_front P xs ys all k d l = subst P (front_at xs ys k d l) (all k d (omega (arith, length-append xs ys)))

-- the entries of a beginning of it
entries_of : (hint : List Entry → ℕ) (n : ℕ) (m : Coarse) (v : View) (list : List Entry) → length v.sizes ≡ n → Meets hint n m → Begins list m.published → All (IsEntry (length v.sizes)) list
entries_of hint n m v list size ok b = all_front (IsEntry (length v.sizes)) list b.0 (subst (All (IsEntry (length v.sizes))) b.1 (subst (λ z. All (IsEntry z) m.published) (sym size) ok.entries))

-- a beginning of it is seen
pub begun_seen : (hint : List Entry → ℕ) (n : ℕ) (m : Coarse) (owner : ℕ → ℕ) (j : ℕ) (v : View) (list : List Entry) → length v.sizes ≡ n → Meets hint n m → Begins list m.published → KnowsPost n m owner j v.seen v.sizes v.drained v.post → IsSeen v list
begun_seen hint n m owner j v list size ok b t = record { entries = entries_of hint n m v list size ok b; own = own v.post t }
  where
    own : (p : Post) → KnowsPost n m owner j v.seen v.sizes v.drained p → SeesOwn list p
    own Guest t = tt
    own (Root made) t = tt
    own (Updater i mine) t = subst (λ (y : Mine). Begins (entries_by i list) y.handed) (sym t.2)
        (begins_trans _ _ _ (event.entries_by_begins i list m.published b) (event.of_published_begins hint (m.sizes i) m.published m.stage i (m.updaters i) (ok.each i t.0)))

pub published_seen : (hint : List Entry → ℕ) (n : ℕ) (m : Coarse) (owner : ℕ → ℕ) (j : ℕ) (v : View) → length v.sizes ≡ n → Meets hint n m → KnowsPost n m owner j v.seen v.sizes v.drained v.post → IsSeen v m.published
published_seen hint n m owner j v size ok t = begun_seen hint n m owner j v m.published size ok (begins_refl m.published) t

-- what lies between two lists, by which one updater added the same, is by it the same
pub seen_between : (i : ℕ) (base list whole : List Entry) (handed : List ℕ) → Begins base list → Begins list whole → entries_by i base ≡ handed → entries_by i whole ≡ handed → entries_by i list ≡ handed
seen_between i base list whole handed a b first last =
    begins_same (entries_by i list) handed (subst (Begins (entries_by i list)) last (event.entries_by_begins i list whole b)) (subst (λ xs. Begins xs (entries_by i list)) first (event.entries_by_begins i base list a))
