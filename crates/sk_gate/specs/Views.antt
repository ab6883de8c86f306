-- What a view says, and the views that a split and a join give.
use Rattle.std.specs.Prelude.{◌≡◌, ◌⊎◌, ℕ, zero, suc, ◌≤◌, ◌==◌, if◌then◌else◌, List, [], ◌∷◌, ◌++◌, length, map, replicate, Bool, true, false, not, fold, Contains, slice_index, slice_index_or, slice_set}
use Rattle.sk_model.specs.Entries.{Entry}
use Rattle.sk_compose.specs.declared.buffer.Parcel.{Parcel}
use Rattle.sk_machine.specs.Coarse.{blank_mine}
use Rattle.sk_machine.specs.declared.views.Mine.{Mine}
use Rattle.sk_machine.specs.declared.views.Stage.{Stage}
use Rattle.sk_machine.specs.declared.views.Stage.TheVariants.{Idle, Busy, Published}
use Rattle.sk_machine.specs.declared.views.Move.{Move}
use Rattle.sk_machine.specs.declared.views.Move.TheVariants.{Look, Hand, Find, Publish, GiveBack, Ask, Split, Join, Turn, Yield}
use Rattle.sk_machine.specs.declared.views.Post.{Post}
use Rattle.sk_machine.specs.declared.views.Post.TheVariants.{Guest, Root, Updater}
use Rattle.sk_machine.specs.declared.views.Duty.{Duty}
use Rattle.sk_machine.specs.declared.views.Duty.TheVariants.{Free, Leads}
use Rattle.sk_machine.specs.declared.views.View.{View}
use Rattle.sk_model.specs.Missing.{longer}

-- ---- parts of a view

-- what it knows that updater i handed over
abbrev pub known_of : View → ℕ → List ℕ
known_of v i = slice_index_or v.known i []

-- the list that it recorded at its last give_back at updater i
abbrev pub given_of : View → ℕ → List Entry
given_of v i = slice_index_or v.given i []

-- the size of updater i's buffers, or 0 where it is not known
abbrev pub size_of : View → ℕ → ℕ
size_of v i = slice_index v.sizes i

abbrev pub mine_in : Post → Mine
mine_in Guest = blank_mine
mine_in (Root made) = blank_mine
mine_in (Updater i mine) = mine

-- what the seat of an updater knows of itself
abbrev pub mine_of : View → Mine
mine_of v = mine_in v.post

-- the number of a seat, of n updaters: the heart's is n, and no other has one
abbrev pub seat_in : ℕ → Post → ℕ
seat_in n Guest = suc n
seat_in n (Root made) = n
seat_in n (Updater i mine) = i

abbrev pub made_in : Post → ℕ
made_in Guest = 0
made_in (Root made) = made
made_in (Updater i mine) = 0

abbrev pub leads : Duty → Bool
leads Free = false
leads (Leads stage left) = true

abbrev pub stage_in : Duty → Stage
stage_in Free = Idle
stage_in (Leads stage left) = stage

abbrev pub left_in : Duty → Bool
left_in Free = false
left_in (Leads stage left) = left

abbrev pub batch_in : Stage → List ℕ
batch_in Idle = []
batch_in (Busy i batch) = batch
batch_in (Published i) = []

-- the batch that the propagator holds
abbrev pub batch_of : View → List ℕ
batch_of v = batch_in (stage_in v.duty)

abbrev pub is_busy : Stage → Bool
is_busy Idle = false
is_busy (Busy i batch) = true
is_busy (Published i) = false

-- the turn may be yielded: nothing is found, or the batch lies in the trunk, and its slot was left
abbrev pub IsAtRest : Duty → Type 0
IsAtRest Free = ⊥
IsAtRest (Leads Idle left) = Unit {0}
IsAtRest (Leads (Busy i batch) left) = left ≡ true
IsAtRest (Leads (Published i) left) = ⊥

-- ---- lists of views

-- place by place
unfoldable pub merged : {A : Type 0} → List (List A) → List (List A) → List (List A)
merged [] ys = ys
merged (x ∷ xs) [] = x ∷ xs
merged (x ∷ xs) (y ∷ ys) = longer x y ∷ merged xs ys

-- the sizes that either knows
unfoldable pub sizes_merged : List ℕ → List ℕ → List ℕ
sizes_merged [] ys = ys
sizes_merged (x ∷ xs) [] = x ∷ xs
sizes_merged (x ∷ xs) (y ∷ ys) = (if x == 0 then y else x) ∷ sizes_merged xs ys

-- the room of the parcels of those that are admitted, and 0 for the others
abbrev pub admitted_sizes : {T : Type 0} → ℕ → List (Parcel T) → List ℕ
admitted_sizes admitted [] = []
admitted_sizes zero (p ∷ ps) = 0 ∷ admitted_sizes zero ps
admitted_sizes (suc admitted) (p ∷ ps) = p.buffer.capacity ∷ admitted_sizes admitted ps

-- ---- steps

-- whether, by its own last steps, updater i knows that its word is not 0: a look, a find or a give_back there showed
-- it so, and it has handed nothing over since
abbrev pub told_open : ℕ → Bool → Move → Bool
told_open i before (Look k word) = if k == i then not (word == 0) else before
told_open i before (Hand k) = if k == i then false else before
told_open i before (Find k word) = if k == i then not (word == 0) else before
told_open i before (Publish word count) = before
told_open i before (GiveBack k word) = if k == i then not (word == 0) else before
told_open i before (Ask word) = before
told_open i before Split = before
told_open i before Join = before
told_open i before (Turn word) = before
told_open i before Yield = before

abbrev pub is_open : ℕ → List Move → Bool
is_open i steps = fold (told_open i) false steps

-- ---- views

abbrev pub blanks : {A : Type 0} → ℕ → List (List A)
blanks {A} n = replicate n (let none : List A = [] in none)

-- the view of the first seat, which gives out the others and then is the heart's
abbrev pub first_view : List ℕ → List ℕ → List ℕ → View
first_view sizes numbers name = record {
  live = true;
  seen = [];
  heard = [];
  known = blanks (length sizes);
  steps = [];
  post = Root 0;
  duty = Free;
  given = blanks (length sizes);
  names = [];
  drained = [];
  picked = [];
  sizes = sizes;
  numbers = numbers;
  name = name;
}

-- the first seat, after it has given out the next updater's
abbrev pub after_making : View → View
after_making v = record v { post = Root (suc (made_in v.post)); steps = v.steps ++ Split ∷ [] }

abbrev pub new_updater : View → View
new_updater v = record v {
  known = blanks (length v.sizes);
  steps = v.steps ++ Split ∷ [];
  post = Updater (made_in v.post) blank_mine;
  duty = Free;
  given = blanks (length v.sizes);
  drained = [];
  picked = [];
}

-- what a copy of a view knows: of an updater its own list, else what the seat knows
abbrev pub told_on : ℕ → List (List ℕ) → Post → List (List ℕ)
told_on n known Guest = known
told_on n known (Root made) = known
told_on n known (Updater i mine) = slice_set (blanks n) i mine.handed

-- the number at one place, and 0 at all others
abbrev pub only_at : ℕ → List ℕ → List ℕ
only_at i [] = []
only_at zero (x ∷ xs) = x ∷ map (λ _. 0) xs
only_at (suc i) (x ∷ xs) = 0 ∷ only_at i xs

-- and the sizes: of an updater its own, else those that the seat knows
abbrev pub sizes_on : List ℕ → Post → List ℕ
sizes_on sizes Guest = sizes
sizes_on sizes (Root made) = sizes
sizes_on sizes (Updater i mine) = only_at i sizes

abbrev pub after_split : View → View
after_split v = record v { steps = v.steps ++ Split ∷ [] }

-- the view of a token or a note that was split off
abbrev pub copy_of : View → View
copy_of v = record v {
  known = told_on (length v.sizes) v.known v.post;
  steps = v.steps ++ Split ∷ [];
  post = Guest;
  duty = Free;
  given = blanks (length v.sizes);
  drained = [];
  picked = [];
  sizes = sizes_on v.sizes v.post;
}

abbrev pub known_with : List (List ℕ) → List (List ℕ) → Post → List (List ℕ)
known_with known others Guest = merged known others
known_with known others (Root made) = merged known others
known_with known others (Updater i mine) = slice_set known i mine.handed

abbrev pub drained_with : List ℕ → Post → List ℕ
drained_with drained Guest = drained
drained_with drained (Root made) = drained
drained_with drained (Updater i mine) = drained ++ i ∷ []

-- of those that were taken in, the ones that had picked a told value
abbrev pub picked_with : List ℕ → Post → List ℕ
picked_with picked Guest = picked
picked_with picked (Root made) = picked
picked_with picked (Updater i mine) = if mine.picked then picked ++ i ∷ [] else picked

-- whoever leads has seen all
abbrev pub seen_with : List Entry → List Entry → Duty → List Entry
seen_with seen others Free = longer seen others
seen_with seen others (Leads stage left) = seen

-- a seat that has taken in another, which is an updater's or a note's
abbrev pub after_join : View → View → View
after_join v w = record v {
  seen = seen_with v.seen w.seen v.duty;
  heard = v.heard ++ v.seen ∷ w.seen ∷ w.heard;
  known = known_with v.known w.known w.post;
  steps = v.steps ++ Join ∷ [];
  given = merged v.given w.given;
  names = v.names ++ w.name ∷ [];
  drained = drained_with v.drained w.post;
  picked = picked_with v.picked w.post;
  sizes = sizes_merged v.sizes w.sizes;
}

-- the view of a seat that was taken in
abbrev pub spent : View
spent = record { live = false; seen = []; heard = []; known = []; steps = []; post = Guest; duty = Free; given = []; names = []; drained = []; picked = []; sizes = []; numbers = []; name = [] }

-- the seat speaks for updater i: it is its own, has yet to give it out, or has taken it in
abbrev pub SpeaksBy : ℕ → List ℕ → Post → Type 0
SpeaksBy i drained Guest = ⊥
SpeaksBy i drained (Root made) = (made ≤ i) ⊎ Contains drained i
SpeaksBy i drained (Updater k mine) = k ≡ i

abbrev pub SpeaksFor : ℕ → View → Type 0
SpeaksFor i v = (v.live ≡ true) × SpeaksBy i v.drained v.post
