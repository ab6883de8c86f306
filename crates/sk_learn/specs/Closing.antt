-- How the heart takes in updaters, in any order, and a reader learns all that they kept.
use Rattle.std.specs.Prelude.{◌≡◌, ◌≢◌, ℕ, ◌+◌, ◌-◌, ◌^◌, min, List, ◌∷◌, ◌++◌, length, map, All, Contains}
use Rattle.std.specs.List.{AllPairs, sum_by}
use Rattle.sk_model.specs.Entries.{Entry, entries_by}
use Rattle.sk_model.specs.Missing.{Begins}
use Rattle.sk_hub.specs.Drains.{IsDrained, HasTakenIn, ComesBack, TriesInVain}
use Rattle.sk_hub.specs.Hearts.{HeartState}
use Rattle.sk_hub.specs.Rounds.{KnowsAsMuch}
use Rattle.sk_hub.specs.Updaters.{UpdaterState, kept_of}
use Rattle.sk_snap.specs.History.{entries_in}
use Rattle.sk_snap.specs.Versions.{Learnt}
use Rattle.sk_learn.specs.Learning.{ReaderGoesOn}

-- no two of them have one number
abbrev pub AreApart : List UpdaterState → Type 0
AreApart us = AllPairs (λ u v. u.number ≢ v.number) us

abbrev pub numbers_of : List UpdaterState → List ℕ
numbers_of us = map (λ u. u.number) us

-- how many items they kept in all
abbrev pub items_kept : List UpdaterState → ℕ
items_kept us = sum_by (λ u. length (kept_of u)) us

-- that many items more than before, as far as a word can count
abbrev pub counted : ℕ → List UpdaterState → ℕ
counted before us = min (before + items_kept us) (2 ^ 64 - 1)

-- ---- one updater

-- the heart drained an updater, and the reader learnt all that it had kept
pub record TakesIn (h : HeartState) (u : UpdaterState) (r : Learnt) (h' : HeartState) (s : Learnt) : Type 0 where
  pub between : HeartState
  pub drains : IsDrained h u between
  pub told : h' ≡ record between { news = h'.news }
  pub goes : ReaderGoesOn r s
  pub learnt : Begins (kept_of u) (entries_by u.number (entries_in s.known))

-- it ran out of memory at a batch, which is held, and gave the updater back
pub record GivesBack (h : HeartState) (u : UpdaterState) (h' : HeartState) (u' : UpdaterState) : Type 0 where
  pub back : ComesBack u u'
  pub vain : TriesInVain u.number h.view h'.view
  pub knows : KnowsAsMuch h.view h'.view
  pub stays : h' ≡ record h { view = h'.view }

-- it is the first of these, which kept this many items; the others are left
pub record TakesFirst (h : HeartState) (us : List UpdaterState) (r : Learnt) (kept : ℕ) (h' : HeartState) (us' : List UpdaterState) (s : Learnt) : Type 0 where
  pub first : UpdaterState
  pub all : us ≡ first ∷ us'
  pub takes : TakesIn h first r h' s
  pub count : kept ≡ length (kept_of first)

-- it is the first of these, and is so again
pub record GivesFirstBack (h : HeartState) (us : List UpdaterState) (h' : HeartState) (us' : List UpdaterState) : Type 0 where
  pub first : UpdaterState
  pub back : UpdaterState
  pub rest : List UpdaterState
  pub all : us ≡ first ∷ rest
  pub left : us' ≡ back ∷ rest
  pub gives : GivesBack h first h' back

-- ---- updaters, one after another

-- the heart took in these updaters, in order, and the reader learnt all that they had kept
pub record TakesInAll (h : HeartState) (us : List UpdaterState) (r : Learnt) (h' : HeartState) (s : Learnt) : Type 0 where
  pub table : h'.table ≡ h.table
  pub name : h'.view.name ≡ h.view.name
  pub drained : h'.view.drained ≡ h.view.drained ++ numbers_of us
  pub taken_in : All (HasTakenIn h') us
  pub goes : ReaderGoesOn r s
  pub learnt : All (λ u. Begins (kept_of u) (entries_by u.number (entries_in s.known))) us

-- it ran out of memory: the first of them were taken in, and counted; then a batch was refused, which is held, and the
-- next one came back, and is left with the rest
pub record StopsEarly (h : HeartState) (us : List UpdaterState) (r : Learnt) (before : ℕ) (h' : HeartState) (us' : List UpdaterState) (s : Learnt) (now : ℕ) : Type 0 where
  pub taken : List UpdaterState
  pub next : UpdaterState
  pub back : UpdaterState
  pub rest : List UpdaterState
  pub all : us ≡ taken ++ next ∷ rest
  pub left : us' ≡ back ∷ rest
  pub comes : ComesBack next back
  pub takes : TakesInAll h taken r h' s
  pub count : now ≡ counted before taken
  -- before that batch
  pub between : HeartState
  pub took : TakesInAll h taken r between s
  pub vain : TriesInVain next.number between.view h'.view

-- ---- the end

-- the list has of each of them exactly what it kept, and nothing else
pub record HasExactly (list : List Entry) (us : List UpdaterState) : Type 0 where
  pub each : All (λ u. entries_by u.number list ≡ kept_of u) us
  pub only : All (λ entry. Contains (numbers_of us) entry.0) list

-- the heart took them in, and the reader knows exactly what they kept
pub record Closes (h : HeartState) (us : List UpdaterState) (r : Learnt) (h' : HeartState) (s : Learnt) : Type 0 where
  pub takes : TakesInAll h us r h' s
  pub exactly : HasExactly (entries_in s.known) us
